use Rattle.std.proofs.Common.{rules, ◌*◌, arith, refl}
use Rattle.std.proofs.lemmas.Iterator.{YieldsList-from_range}
use Rattle.tables.specs.Layout.{slot_row}
use Rattle.rules.specs.Sound.{slot_sound, slots_sound}
use Rattle.tables.proofs.Rows.{all_rows}
use Rattle.sound.proofs.Looks.{slot_looks}
use Rattle.sound.proofs.slots_fit.Goals as goal

pub returns : goal.returns
unfolding slots_sound
returns c =
    all_rows (slot_sound c.args.head.places c.args.head.tasks c.args.head.finishes) 16 16 (λ s. 8 * slot_row s) c.args.t.now (slot_looks _ _ _) 128 0 _ _ _ c.all.ensures.ran
    (YieldsList-from_range 0 128 128 refl refl)
    (λ x b q k. search rules)
    (λ x h. omega arith)
