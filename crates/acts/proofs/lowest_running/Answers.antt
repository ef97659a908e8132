use Rattle.std.proofs.Common.{rules}
use Rattle.std.proofs.lemmas.Iterator.Search.{find_from_yields_List}
use Rattle.tables.proofs.Rows.{one_to}
use Rattle.acts.proofs.Acts.{runs, found_running}
use Rattle.acts.proofs.lowest_running.Goals as goal

pub returns : goal.returns
returns c =
    let made = one_to _ _ c.new.ensures.start c.new.ensures.end c.new.ensures.exhausted in
    found_running _ _ (find_from_yields_List (runs c.args.t.now) _ _ c.find.result c.find.ensures.ran made (λ x b q k. search rules))
