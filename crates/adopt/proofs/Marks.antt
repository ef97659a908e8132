-- A byte whose marks are added one after another, the lowest first.
use mathlib.Core.Path.{◌≡◌, refl, sym, ap, ◌∙◌}
use mathlib.Core.Bool.{Bool, true, false, ◌&&◌, ◌||◌}
use mathlib.Core.List.{[], ◌∷◌}
use Prim.Native.Nat.{ℕ, zero, suc, ◌+◌, ◌≤◌, ◌<◌}
use native.Mathlib.Omega.{arith}
use lib.Dec.{eqb, ltb}
use borrow.Author.Tests.{lt-ltb, le-ltb}
use Rattle.std.proofs.lemmas.Bool.Decides.{nat_tests}
use Rattle.tables.specs.Bits.{bit_at, mask, with_mark}
use Rattle.tables.specs.Walks.{some_of}
use Rattle.tables.proofs.Bits.{bit_mask, mask_bits}

mask_below : (n : ℕ) (p q : ℕ → Bool) → ((i : ℕ) → i < n → p i ≡ q i) → mask p n ≡ mask q n
unfolding mask
mask_below zero p q h = refl
mask_below (suc n) p q h =
    rw (h 0 (omega arith), mask_below n (λ i. p (suc i)) (λ i. q (suc i)) (λ i l. h (suc i) (omega arith))) refl

alone : (b : Bool) → some_of (b ∷ false ∷ []) ≡ b
unfolding some_of
alone true = refl
alone false = refl

sure : (a : Bool) → true ≡ some_of (a ∷ true ∷ [])
unfolding some_of
sure true = refl
sure false = refl

-- mark i, once those below j were added
abbrev pub added : (ℕ → Bool) → ℕ → ℕ → ℕ → Bool
added p old j i = some_of (bit_at old i ∷ (ltb i j && p i) ∷ [])

-- the byte by then
unfoldable pub so_far : (ℕ → Bool) → ℕ → ℕ → ℕ
so_far p old j = mask (added p old j) 8

module _ (p : ℕ → Bool) (old : ℕ) where
  pub marks_first : old < 256 → old ≡ so_far p old 0
  unfolding so_far
  marks_first h = sym (mask_below 8 (added p old 0) (bit_at old) (λ i l. rw (le-ltb i 0 (omega arith)) (alone (bit_at old i))) ∙ mask_bits 8 old h)

  pub marks_done : (j : ℕ) → 8 ≤ j → so_far p old j ≡ mask (λ i. some_of (bit_at old i ∷ p i ∷ [])) 8
  unfolding so_far
  marks_done j h = mask_below 8 (added p old j) (λ i. some_of (bit_at old i ∷ p i ∷ [])) (λ i l. rw (lt-ltb i j (omega arith)) refl)

  module _ (i j : ℕ) where
    added_none : p j ≡ false → added p old j i ≡ added p old (j + 1) i
    unfolding some_of
    added_none z = grind (arith, nat_tests)

    added_one : p j ≡ true → (eqb i j || added p old j i) ≡ added p old (j + 1) i
    unfolding some_of
    added_one z = grind (arith, nat_tests)

  module _ (j m : ℕ) (before : m ≡ so_far p old j) where
    pub marks_none : p j ≡ false → m ≡ so_far p old (j + 1)
    unfolding so_far
    marks_none z = before ∙ mask_below 8 (added p old j) (added p old (j + 1)) (λ i l. added_none i j z)

    pub marks_one : j < 8 → p j ≡ true → with_mark m j ≡ so_far p old (j + 1)
    unfolding so_far with_mark
    marks_one h z = mask_below 8 (λ i. eqb i j || bit_at m i) (added p old (j + 1)) (λ i l. ap (λ (b : Bool). eqb i j || b) (rw before (bit_mask 8 (added p old j) i l)) ∙ added_one i j z)
