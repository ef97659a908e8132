-- The ghosts of f after an adopt, all four bytes.
use Rattle.std.specs.Prelude.{List, [], ◌∷◌, ℕ}
use Rattle.rules.specs.Fields.{ghost_byte}
use Rattle.rules.specs.Adopt.{with_ghosts}

unfoldable pub new_ghosts : List ℕ → ℕ → List ℕ
new_ghosts t f =
    with_ghosts t f 0 (ghost_byte t f 0)
    ∷ with_ghosts t f 1 (ghost_byte t f 1)
    ∷ with_ghosts t f 2 (ghost_byte t f 2)
    ∷ with_ghosts t f 3 (ghost_byte t f 3)
    ∷ []
