-- Counts lowered one by one: each of them, and how many there are.
use mathlib.Core.Path.{◌≡◌, refl, ap}
use mathlib.Core.List.{List, [], ◌∷◌}
use Prim.Native.Nat.{ℕ, zero, suc, ◌-◌}
use native.Mathlib.Omega.{arith}
use lib.ListN.{length}
use Rattle.tables.specs.Bytes.{byte}
use Rattle.rules.specs.End.{less_each}

pub less_at : (xs ys : List ℕ) (i : ℕ) → byte (less_each xs ys) i ≡ byte xs i - byte ys i
unfolding less_each
less_at [] ys i = omega arith
less_at (x ∷ xs) [] zero = omega arith
less_at (x ∷ xs) [] (suc i) = less_at xs [] i
less_at (x ∷ xs) (y ∷ ys) zero = refl
less_at (x ∷ xs) (y ∷ ys) (suc i) = less_at xs ys i

pub less_length : (xs ys : List ℕ) → length (less_each xs ys) ≡ length xs
unfolding less_each
less_length [] ys = refl
less_length (x ∷ xs) [] = ap suc (less_length xs [])
less_length (x ∷ xs) (y ∷ ys) = ap suc (less_length xs ys)
