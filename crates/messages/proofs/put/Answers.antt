use native.Mathlib.Nat.{add-zero}
use Rattle.rules.specs.Messages.{message, no_counts}
use Rattle.messages.proofs.put.Goals as goal

pub returns : goal.returns
unfolding message no_counts
returns c = rw (c.put_part.ensures, c.slot.ensures.0, add-zero _, c.into.ensures)
