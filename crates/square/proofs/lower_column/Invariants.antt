use Rattle.std.proofs.Common.{◌≡◌}
use Rattle.tables.specs.Walks.{change_parts}
use Rattle.rules.specs.Books.{lower_row}
use Rattle.square.proofs.lower_column.Given as goal

abbrev pub invariant-loop-i : goal.invariant-loop-i
invariant-loop-i l = l.b ≡ change_parts (lower_row l.v l.counts) 8 0 l.i 8 l.initial.b
