use Rattle.std.proofs.Common.{rules, ◌*◌, arith}
use Rattle.tables.specs.Layout.{book_row}
use Rattle.rules.specs.Fields.{places, dead_mask}
use Rattle.rules.specs.Quiet.{calm_book}
use Rattle.tables.proofs.Rows.{one_to, all_rows}
use Rattle.quiet.proofs.Calm.{calm_looks}
use Rattle.quiet.proofs.books_calm.Goals as goal

pub returns : goal.returns
returns c =
    all_rows (calm_book (places c.args.t.now) (dead_mask c.args.t.now)) 144 144 (λ f. 8 * book_row f) c.args.t.now (calm_looks _ _) 32 1 _ _ _ c.all.ensures.ran
    (one_to _ _ c.new.ensures.start c.new.ensures.end c.new.ensures.exhausted)
    (λ x b q k. search rules)
    (λ x h. omega arith)
