use Rattle.std.proofs.Common.{◌≡◌, ◌+◌, ◌*◌, ◌≤◌}
use Rattle.tables.specs.Walks.{sum_bytes}
use Rattle.square.proofs.column_of.Given as goal

abbrev pub invariant-loop-row : goal.invariant-loop-row
invariant-loop-row l = (l.sum ≤ 255 * l.row-index) × (l.sum ≡ sum_bytes l.b (8 + l.v) 8 l.row-index)
