use Rattle.std.proofs.Common.{◌≡◌, ℕ, List}
use Rattle.tables.specs.Walks.{change_parts}
use Rattle.walk.specs.Changes.{KeepsLength, Leaves}
use Rattle.walk.proofs.lend_parts.Given as goal

abbrev pub invariant-loop-j : goal.invariant-loop-j
invariant-loop-j g l =
    (f : List ℕ → ℕ → List ℕ) (i : ℕ) → KeepsLength f l.w → Leaves l.w (goal.F-post g l.change) f l.at i l.n l.initial.t
    → l.t ≡ change_parts f l.w i l.j l.at l.initial.t
