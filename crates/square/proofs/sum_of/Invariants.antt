use Rattle.std.proofs.Common.{◌≡◌, ◌*◌, ◌≤◌}
use Rattle.tables.specs.Walks.{sum_bytes}
use Rattle.square.proofs.sum_of.Given as goal

abbrev pub invariant-loop-x : goal.invariant-loop-x
invariant-loop-x g l = (l.sum ≤ 255 * l.x-index) × (l.sum ≡ sum_bytes l.bytes 0 1 l.x-index)
