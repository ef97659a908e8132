-- Rows counted one by one, as the rules count the parts of which a test holds.
use mathlib.Core.Path.{◌≡◌, refl}
use mathlib.Core.Bool.{Bool}
use mathlib.Core.List.{List}
use Prim.Native.Nat.{ℕ, zero, suc, ◌+◌, ◌*◌}
use native.Mathlib.Nat.{add-zero, mul-suc, mul-zero}
use native.Mathlib.Numerals.{add-one}
use native.Mathlib.Omega.{arith}
use lib.ListN.{drop}
use lib.Seq.{drop-drop}
use Rattle.tables.specs.Bits.{digit}
use Rattle.tables.specs.Walks.{count_parts}

module _ (p : List ℕ → ℕ → Bool) (w : ℕ) where
  one_more : (n i : ℕ) (m : List ℕ) → count_parts p w i (suc n) m ≡ count_parts p w i n m + digit (p (drop (w * n) m) (i + n))
  unfolding count_parts
  one_more zero i m = rw (mul-zero w, add-zero i) (omega arith)
  one_more (suc n) i m =
      let z : w + w * n ≡ w * suc n = omega (arith, mul-suc w n) in
      let x : suc i + n ≡ i + suc n = omega arith in
      rw (one_more n (suc i) (drop w m), drop-drop (w * n) w m, z, x) (omega arith)

  -- c of the first n parts, the first of them number i at place k, and d for the next, number x at place `at`
  pub counted_more : (n i k at x c d : ℕ) (t : List ℕ) → c ≡ count_parts p w i n (drop k t) → d ≡ digit (p (drop at t) x) → k + w * n ≡ at → i + n ≡ x
      → c + d ≡ count_parts p w i (n + 1) (drop k t)
  counted_more n i k at x c d t e more place number = rw (add-one n, one_more n i (drop k t), drop-drop (w * n) k t, place, number, e, more) refl
