use mathlib.Core.Path.{ap, ◌∙◌}
use mathlib.Core.Bool.{not}
use Rattle.messages.proofs.Slots.{found_slot, found_room}
use Rattle.messages.proofs.free_slot.Goals as goal

pub unwrap-requires : goal.unwrap-requires
unwrap-requires c = found_room _ _ c.lowest_empty.ensures ∙ ap not c.requires

pub returns : goal.returns
returns c = found_slot _ _ c.lowest_empty.ensures _ c.unwrap.ensures
