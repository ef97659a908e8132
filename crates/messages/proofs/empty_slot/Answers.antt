use native.Mathlib.Nat.{add-zero}
use Rattle.rules.specs.Messages.{send, bytes_of, message, no_counts}
use Rattle.messages.proofs.empty_slot.Goals as goal

pub returns : goal.returns
unfolding send bytes_of message no_counts
returns c = rw (c.clear_part.ensures, c.slot.ensures.0, add-zero _)
