-- A sender that is not dead owes nothing.
use mathlib.Core.Path.{◌≡◌, refl}
use mathlib.Core.Bool.{false}
use mathlib.Core.List.{List}
use Prim.Native.Nat.{ℕ, zero, suc}
use Rattle.tables.specs.Bits.{marked}
use Rattle.tables.specs.Walks.{every, some_below}
use Rattle.rules.specs.Books.{owed_cell}

none_at : (ps d i : ℕ) (b : List ℕ) → marked d i ≡ false → (j : ℕ) → owed_cell ps d b i j ≡ false
unfolding owed_cell every
none_at ps d i b h j = rw h refl

pub none_owed : (ps d i : ℕ) (b : List ℕ) → marked d i ≡ false → (n : ℕ) → some_below (owed_cell ps d b i) n ≡ false
unfolding some_below
none_owed ps d i b h zero = refl
none_owed ps d i b h (suc n) = rw (none_at ps d i b h n) (none_owed ps d i b h n)
