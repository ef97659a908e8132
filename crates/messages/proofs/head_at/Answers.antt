use native.Mathlib.Nat.{add-zero}
use Rattle.messages.proofs.Slots.{part_from_slot}
use Rattle.messages.proofs.head_at.Goals as goal

pub returns-clause-row : goal.returns-clause-row
returns-clause-row c = simp (part_from_slot, c.part.ensures, c.slot.ensures.0, add-zero)
