use native.Mathlib.Nat.{add-zero}
use Rattle.messages.proofs.Slots.{part_from_slot}
use Rattle.messages.proofs.counts_at.Goals as goal

pub returns : goal.returns
returns c = simp (part_from_slot, c.part.ensures, c.slot.ensures.0, add-zero)
