-- The steps, adopt f: every present unadopted book with a dead home and parent f becomes adopted and a ghost of f; due is cleared.
use Rattle.std.specs.Prelude.{Bool, cond, List, [], ◌∷◌, ℕ, ◌+◌, ◌*◌, eqb, set}
use Rattle.tables.specs.Bytes.{byte, write}
use Rattle.tables.specs.Bits.{bit_at, mask}
use Rattle.tables.specs.Walks.{every, some_of, change_parts}
use Rattle.tables.specs.Layout.{place, book_row}
use Rattle.rules.specs.Fields.{dead, home, book_place, ghost_byte}
use Rattle.rules.specs.Books.{book_of}

-- a present unadopted book b, of finish g, with a dead home and parent f
unfoldable pub orphan : List ℕ → ℕ → List ℕ → ℕ → Bool
orphan t f b g = every (eqb (byte b 0) 1 ∷ eqb (byte b 3) 0 ∷ eqb (byte b 1) f ∷ dead t (home t g) ∷ [])

-- it becomes adopted
unfoldable pub adopt_book : List ℕ → ℕ → List ℕ → ℕ → List ℕ
adopt_book t f m g = set m 3 (cond (orphan t f m g) 1 (byte m 3))

-- and a ghost of f: finish g at bit g − 1, low byte first; byte k of the ghosts, which was old
unfoldable pub with_ghosts : List ℕ → ℕ → ℕ → ℕ → ℕ
with_ghosts t f k old = mask (λ j. some_of (bit_at old j ∷ orphan t f (book_of t (8 * k + j + 1)) (8 * k + j + 1) ∷ [])) 8

unfoldable pub adopt_step : List ℕ → ℕ → List ℕ
adopt_step t f =
    set
    (write (change_parts (adopt_book t f) 144 1 32 (book_place 1) t) (place (book_row f) 4)
    (with_ghosts t f 0 (ghost_byte t f 0)
    ∷ with_ghosts t f 1 (ghost_byte t f 1)
    ∷ with_ghosts t f 2 (ghost_byte t f 2)
    ∷ with_ghosts t f 3 (ghost_byte t f 3)
    ∷ []))
    (place (book_row f) 2)
    0
