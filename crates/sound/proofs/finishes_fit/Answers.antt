use Rattle.std.proofs.Common.{arith, refl, rules, ◌*◌, ◌+◌}
use Rattle.std.proofs.lemmas.Iterator.{YieldsList-from_range}
use Rattle.tables.specs.Layout.{finish_row}
use Rattle.rules.specs.Sound.{finish_sound, finishes_sound}
use Rattle.tables.proofs.Rows.{all_rows}
use Rattle.sound.proofs.Looks.{finish_looks}
use Rattle.sound.proofs.finishes_fit.Goals as goal

pub returns : goal.returns
unfolding finishes_sound
returns c =
    all_rows (finish_sound c.args.head.places c.args.head.tasks) 8 8 (λ f. 8 * finish_row f) c.args.t.now (finish_looks _ _) c.args.head.finishes 1 _ _ _ c.all.ensures.ran
    (YieldsList-from_range 1 _ c.args.head.finishes refl (omega (arith, c.from.ensures)))
    (λ x b q k. search rules)
    (λ x h. omega arith)
