-- An orphan told by its book; what an adopt makes of a book, and the tables that it reads.
use mathlib.Core.Path.{◌≡◌, ap, ◌∙◌}
use mathlib.Core.Bool.{Bool}
use mathlib.Core.Logic.{inl}
use mathlib.Core.List.{List}
use Prim.Native.Nat.{ℕ, ◌+◌, ◌*◌, ◌≤◌}
use native.Mathlib.Omega.{arith}
use lib.ListN.{set, length-set}
use lib.Seq.{set-get_or}
use Rattle.tables.specs.Bytes.{byte, part, write}
use Rattle.tables.proofs.Writes.{byte-part, write-part-set}
use Rattle.tables.specs.Layout.{finish_row, book_row}
use Rattle.rules.specs.Books.{book_of}
use Rattle.rules.specs.Adopt.{orphan, adopt_book}
use Rattle.walk.specs.Changes.{KeepsLength, Due}

-- a test of the book where the code has it is the rules' test; g stands as x there
pub orphan_there : (t : List ℕ) (f g x at : ℕ) (v w : Bool) → v ≡ orphan t f (part t at 144) g → v ≡ w → at ≡ 8 * book_row g → g ≡ x → orphan t f (book_of t x) x ≡ w
unfolding book_of
orphan_there t f g x at v w e z place n =
    let same : at ≡ 8 * book_row x + 0 = omega arith in
    rw (← n) (rw (← z, e, same, n))

-- byte 3 of the book at place `at` written, and written as it is
pub adopted : (t : List ℕ) (at v : ℕ) → write t at (set (part t at 144) 3 v) ≡ set t (at + 3) v
adopted t at v = write-part-set t at 144 3 v (omega arith)

pub not_adopted : (t : List ℕ) (at : ℕ) → write t at (set (part t at 144) 3 (byte (part t at 144) 3)) ≡ t
not_adopted t at = adopted t at _ ∙ ap (set t (at + 3)) (byte-part t at 144 3 (omega arith)) ∙ set-get_or t (at + 3) 0

pub adopt_keeps : (t : List ℕ) (f : ℕ) → KeepsLength (adopt_book t f) 144
unfolding adopt_book
adopt_keeps t f m g h = length-set m 3 _ ∙ h

-- the dead mask and the home are read in the tables as they are by then, which have them as they were
pub adopt_due : (t u b : List ℕ) (f g j : ℕ) → g ≤ 32 → Due u t 2304 144 j → adopt_book u f b g ≡ adopt_book t f b g
unfolding adopt_book orphan
adopt_due t u b f g j h due = rw (due 1 (inl (omega arith)), due (8 * finish_row g + 0) (inl (omega arith)))
