use Rattle.messages.proofs.Slots.{found_full}
use Rattle.messages.proofs.slots_full.Goals as goal

pub returns : goal.returns
returns c = found_full _ _ c.lowest_empty.ensures _ c.is_none.ensures
