use native.Mathlib.Nat.{add-zero}
use Rattle.rules.specs.Messages.{is_empty}
use Rattle.messages.proofs.Slots.{byte_from_slot}
use Rattle.messages.proofs.is_empty.Goals as goal

pub returns : goal.returns
unfolding is_empty
returns c = simp (byte_from_slot, c.slot.ensures.0, add-zero)
