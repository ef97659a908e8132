use Rattle.books.proofs.Climb.{parents_fall}
use Rattle.tags.proofs.Room.{transit_room, task_room, count_dropped_room, dropped_room, publish_range, publish-home}
use Rattle.tags.proofs.deliver.Goals as goal

pub publish-requires-clause-parents_fall : goal.publish-requires-clause-parents_fall
publish-requires-clause-parents_fall c = parents_fall _ c.requires.ranges

pub publish-requires-clause-made : goal.publish-requires-clause-made
publish-requires-clause-made c = (publish_range _ c.told-t _ _ _ (rw c.in-Publish.is at c.requires.message) c.requires.ranges).1

pub publish-requires-clause-home : goal.publish-requires-clause-home
publish-requires-clause-home c = publish-home _ c.told-t _ _ _ (rw c.in-Publish.is at c.requires.message) c.requires.ranges

pub transit-requires : goal.transit-requires
transit-requires c = transit_room _ _ _ _ _ (rw c.in-Transit.is at c.requires.message_fits)

pub task-requires : goal.task-requires
task-requires c = record { fits_byte = task_room _ _ _ _ _ (rw c.in-Task.is at c.requires.message_fits) }

pub count_dropped-requires : goal.count_dropped-requires
count_dropped-requires c = record { covered = count_dropped_room _ _ _ _ _ _ (rw c.in-CountDropped.is at c.requires.message_fits) }

pub dropped-requires : goal.dropped-requires
dropped-requires c = dropped_room _ _ _ _ _ _ (rw c.in-Dropped.is at c.requires.message_fits)
