use Rattle.std.proofs.Common.{refl, sym}
use Rattle.answers.proofs.Joins.{refused_ne0}
use Rattle.rules.proofs.Joins.{unchanged, changed}
use Rattle.spawn.proofs.Laws.{spawn_room}
use Rattle.spawn.proofs.spawn_task.Goals as goal

pub returns-in_err-check_spawn-clause-tables : goal.returns-in_err-check_spawn-clause-tables
returns-in_err-check_spawn-clause-tables c = unchanged _ _ _ c.in_err-check_spawn.ensures (refused_ne0 _)

pub free_slot-s-requires : goal.free_slot-s-requires
free_slot-s-requires c = (spawn_room _ _ _ (sym c.in_ok-check_spawn.ensures)).1

pub send_task-requires-clause-room : goal.send_task-requires-clause-room
send_task-requires-clause-room c = (spawn_room _ _ _ (sym c.in_ok-check_spawn.ensures)).0

pub returns-clause-tables : goal.returns-clause-tables
returns-clause-tables c = changed _ _ _ c.in_ok-check_spawn.ensures _ refl c.send_task.ensures.tables
