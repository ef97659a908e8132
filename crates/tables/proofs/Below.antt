-- A test of all numbers below n, or of some of them, as a flag that the code holds tells it.
use mathlib.Core.Path.{◌≡◌, refl, ◌∙◌}
use mathlib.Core.Bool.{Bool, true, false, cond}
use mathlib.Core.Logic.{◌⊎◌, inl, inr}
use Prim.Native.Nat.{ℕ, zero, suc, ◌≤◌, ◌<◌}
use native.Mathlib.Omega.{arith}
use Rattle.std.proofs.lemmas.Bool.{cases_lt}
use Rattle.tables.specs.Walks.{some_below, every_below}

module _ (p : ℕ → Bool) where
  module _ (i : ℕ) where
    every_broken : p i ≡ false → (n : ℕ) → i < n → false ≡ every_below p n
    unfolding every_below
    every_broken z zero h = absurd (omega arith)
    every_broken z (suc n) h = go (cases_lt i n) (λ l. every_broken z n l)
      where
        either : (a b : Bool) → false ≡ b → false ≡ cond a b false
        either true b q = q
        either false b q = refl

        go : (i < n) ⊎ (n ≤ i) → (i < n → false ≡ every_below p n) → false ≡ cond (p n) (every_below p n) false
        go (inl l) rest = either (p n) (every_below p n) (rest l)
        go (inr l) rest = let same : n ≡ i = omega arith in rw (same, z) refl

    some_found : p i ≡ true → (n : ℕ) → i < n → true ≡ some_below p n
    unfolding some_below
    some_found z zero h = absurd (omega arith)
    some_found z (suc n) h = go (cases_lt i n) (λ l. some_found z n l)
      where
        either : (a b : Bool) → true ≡ b → true ≡ cond a true b
        either true b q = refl
        either false b q = q

        go : (i < n) ⊎ (n ≤ i) → (i < n → true ≡ some_below p n) → true ≡ cond (p n) true (some_below p n)
        go (inl l) rest = either (p n) (some_below p n) (rest l)
        go (inr l) rest = let same : n ≡ i = omega arith in rw (same, z) refl

  every_one : (n : ℕ) → ((k : ℕ) → k < n → p k ≡ true) → true ≡ every_below p n
  unfolding every_below
  every_one zero h = refl
  every_one (suc n) h = rw (h n (omega arith)) (every_one n (λ k l. h k (omega arith)))

  no_one : (n : ℕ) → ((k : ℕ) → k < n → p k ≡ false) → false ≡ some_below p n
  unfolding some_below
  no_one zero h = refl
  no_one (suc n) h = rw (h n (omega arith)) (no_one n (λ k l. h k (omega arith)))

  module _ (n : ℕ) (v : Bool) where
    pub every_told : (v ≡ true → (k : ℕ) → k < n → p k ≡ true) → (v ≡ false → (k : ℕ) × ((k < n) × (p k ≡ false))) → v ≡ every_below p n
    every_told each other = go v refl
      where
        go : (c : Bool) → v ≡ c → v ≡ every_below p n
        go true e = e ∙ every_one n (each e)
        go false e = let h = other e in e ∙ every_broken h.0 h.1.1 n h.1.0

    pub some_told : (v ≡ false → (k : ℕ) → k < n → p k ≡ false) → (v ≡ true → (k : ℕ) × ((k < n) × (p k ≡ true))) → v ≡ some_below p n
    some_told each other = go v refl
      where
        go : (c : Bool) → v ≡ c → v ≡ some_below p n
        go false e = e ∙ no_one n (each e)
        go true e = let h = other e in e ∙ some_found h.0 h.1.1 n h.1.0
