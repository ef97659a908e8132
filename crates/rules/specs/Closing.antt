-- The steps, the closing test: total 0 and no ghosts.
use Rattle.std.specs.Prelude.{Bool, cond, not, List, [], ◌∷◌, ℕ, eqb, replicate}
use Rattle.tables.specs.Walks.{every, some_of}
use Rattle.rules.specs.Fields.{dead, home, is_adopted, book_parent}
use Rattle.rules.specs.Books.{book_of, total, ghosts, with_book}
use Rattle.rules.specs.Messages.{release, ghost_ended, send}

-- Total 0 and no ghosts.
unfoldable pub closes : List ℕ → Bool
closes b = every (eqb (total b) 0 ∷ eqb (ghosts b) 0 ∷ [])

-- The 18 rows become 0.
unfoldable pub without_book : List ℕ → ℕ → List ℕ
without_book t f = with_book t f (replicate 144 0)

-- Adopted: ghost-ended (9) goes to the book's parent. Otherwise release (8) if the home lives, nothing if it is dead.
unfoldable pub closed_book : List ℕ → ℕ → ℕ → List ℕ
closed_book t f s =
    cond (eqb (is_adopted t f) 1) (send (without_book t f) s (ghost_ended (book_parent t f) f))
    (cond (dead t (home t f)) (without_book t f) (send (without_book t f) s (release f)))

-- The closing test of the book of f; what it sends takes slot s.
unfoldable pub closing_test : List ℕ → ℕ → ℕ → List ℕ
closing_test t f s = cond (closes (book_of t f)) (closed_book t f s) t

-- the closing test sends a message
unfoldable pub closing_sends : List ℕ → ℕ → Bool
closing_sends t f = every (closes (book_of t f) ∷ some_of (eqb (is_adopted t f) 1 ∷ not (dead t (home t f)) ∷ []) ∷ [])
