use Prim.Native.Nat.{◌+◌, ◌*◌}
use mathlib.Core.Path.{◌≡◌}
use Rattle.rules.specs.Fields.{ghost_byte}
use Rattle.rules.specs.Books.{book_of}
use Rattle.rules.specs.Adopt.{orphan}
use Rattle.adopt.proofs.Marks.{so_far}
use Rattle.adopt.proofs.with_ghosts.Given as goal

abbrev pub invariant-loop-j : goal.invariant-loop-j
invariant-loop-j l = l.marks ≡ so_far (λ i. orphan l.t l.f (book_of l.t (8 * l.k + i + 1)) (8 * l.k + i + 1)) (ghost_byte l.t l.f l.k) l.j
