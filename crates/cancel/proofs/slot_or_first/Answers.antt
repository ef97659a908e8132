use Rattle.messages.proofs.Slots.{found_or}
use Rattle.cancel.proofs.slot_or_first.Goals as goal

pub returns : goal.returns
returns c = rw (c.unwrap_or.ensures, c.new.ensures) (found_or _ _ c.lowest_empty.ensures 0)
