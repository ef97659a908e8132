-- The live counts of a book taken by value: eight rows of eight bytes.
use Rattle.std.specs.Prelude.{List, [], ◌∷◌, ℕ}
use Rattle.tables.specs.Bytes.{part}

unfoldable pub live_of : List ℕ → List (List ℕ)
live_of b = part b 8 8 ∷ part b 16 8 ∷ part b 24 8 ∷ part b 32 8 ∷ part b 40 8 ∷ part b 48 8 ∷ part b 56 8 ∷ part b 64 8 ∷ []
