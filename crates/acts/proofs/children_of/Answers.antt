use Rattle.std.proofs.Common.{◌∙◌, rules}
use Rattle.std.proofs.lemmas.Iterator.Consumers.{count_from_yields_List, YieldsList-from_filter}
use Rattle.rules.specs.Fields.{tasks_made}
use Rattle.tables.proofs.Rows.{one_to}
use Rattle.acts.specs.Acts.{spawner}
use Rattle.acts.proofs.Acts.{spawned, children_counted}
use Rattle.acts.proofs.children_of.Goals as goal

pub returns : goal.returns
returns c =
    let t = c.args.t.now in
    let made = rw (← c.filter.ensures.source) at (one_to _ (tasks_made t) c.new.ensures.start c.new.ensures.end c.new.ensures.exhausted) in
    count_from_yields_List _ _ c.count.ensures.ran (YieldsList-from_filter _ (spawned (spawner t) c.args.k) made c.filter.ensures.closure (λ x b q k. search rules))
    ∙ children_counted _ _ _
