use Rattle.std.proofs.Common.{◌≡◌, ◌≤◌, drop}
use Rattle.tables.specs.Walks.{count_parts}
use Rattle.rules.specs.Quiet.{is_running}
use Rattle.messages.proofs.running_tasks.Given as goal

abbrev pub invariant-loop-made : goal.invariant-loop-made
invariant-loop-made l = record { most : l.running ≤ l.made; counted : l.running ≡ count_parts is_running 8 1 l.made (drop 8 l.t) }
