use mathlib.Core.Path.{◌≡◌}
use Rattle.turns.specs.Numbered.{records_of}
use Rattle.turns.proofs.First.{NoneOf}
use Rattle.turns.proofs.lowest_taken.Given as goal

abbrev pub invariant-loop-i : goal.invariant-loop-i
invariant-loop-i l = (l.t ≡ l.initial.t) × NoneOf l.initial.t (records_of l.kind) l.i
