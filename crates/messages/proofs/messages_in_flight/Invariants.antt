use Rattle.std.proofs.Common.{◌≡◌, ◌≤◌, drop}
use Rattle.tables.specs.Walks.{count_parts}
use Rattle.rules.specs.Quiet.{is_full}
use Rattle.messages.proofs.messages_in_flight.Given as goal

abbrev pub invariant-loop-n : goal.invariant-loop-n
invariant-loop-n l = record { most : l.full ≤ l.n; counted : l.full ≡ count_parts is_full 16 0 l.n (drop 13056 l.t) }
