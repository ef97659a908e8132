-- The columns of tasks' and finishes' rows and the numbers of their statuses, as the rules name them; and a number where a test holds.
use Rattle.std.specs.Prelude.{Bool, true, false, ℕ, Option, None, Some}
use Rattle.rules.specs.Fields.{waits_for_publish, waits_for_transit, on_the_wire, task_dropped, running, blocked, ended, task_lost, active, publishing, waits_for_release, released, finish_lost}
use Rattle.fields.specs.declared.TaskField.{TaskField}
use Rattle.fields.specs.declared.FinishField.{FinishField}
use Rattle.fields.specs.declared.TaskStatus.{TaskStatus}
use Rattle.fields.specs.declared.FinishStatus.{FinishStatus}

-- Row t, task t: from, at, finish, status, sent (0 for a main task), opener or spawner.
abbrev pub task_column : TaskField → ℕ
task_column TaskField.From = 0
task_column TaskField.At = 1
task_column TaskField.Finish = 2
task_column TaskField.Status = 3
task_column TaskField.Sent = 4
task_column TaskField.Maker = 5

-- Row 255 + f, finish f: home, opener, parent, status, published, main task.
abbrev pub finish_column : FinishField → ℕ
finish_column FinishField.Home = 0
finish_column FinishField.Opener = 1
finish_column FinishField.Parent = 2
finish_column FinishField.Status = 3
finish_column FinishField.Published = 4
finish_column FinishField.Main = 5

abbrev pub task_number : TaskStatus → ℕ
task_number TaskStatus.WaitsForPublish = waits_for_publish
task_number TaskStatus.WaitsForTransit = waits_for_transit
task_number TaskStatus.OnTheWire = on_the_wire
task_number TaskStatus.Dropped = task_dropped
task_number TaskStatus.Running = running
task_number TaskStatus.Blocked = blocked
task_number TaskStatus.Ended = ended
task_number TaskStatus.Lost = task_lost

abbrev pub finish_number : FinishStatus → ℕ
finish_number FinishStatus.Active = active
finish_number FinishStatus.Publishing = publishing
finish_number FinishStatus.WaitsForRelease = waits_for_release
finish_number FinishStatus.Released = released
finish_number FinishStatus.Lost = finish_lost

-- a number, where a test of it holds
abbrev pub given : Bool → ℕ → Option ℕ
given true n = Some n
given false n = None
