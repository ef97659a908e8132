use Rattle.std.proofs.Common.{rules, ◌+◌, ◌*◌, arith, refl}
use Rattle.std.proofs.lemmas.Iterator.{YieldsList-from_range}
use Rattle.rules.specs.Sound.{task_sound, tasks_sound}
use Rattle.tables.proofs.Rows.{all_rows}
use Rattle.sound.proofs.Looks.{task_looks}
use Rattle.sound.proofs.tasks_fit.Goals as goal

pub returns : goal.returns
unfolding tasks_sound
returns c =
    all_rows (task_sound c.args.head.places c.args.head.finishes) 8 8 (λ k. 8 * k) c.args.t.now (task_looks _ _) c.args.head.tasks 1 _ _ _ c.all.ensures.ran
    (YieldsList-from_range 1 _ c.args.head.tasks refl (omega (arith, c.from.ensures)))
    (λ x b q k. search rules)
    (λ x h. omega arith)
