use Rattle.std.proofs.Common.{◌≡◌}
use Rattle.tables.specs.Walks.{change_parts}
use Rattle.rules.specs.Books.{clear_row}
use Rattle.square.proofs.clear_column.Given as goal

abbrev pub invariant-loop-i : goal.invariant-loop-i
invariant-loop-i l = l.b ≡ change_parts (clear_row l.v) 8 0 l.i 8 l.initial.b
