-- What a branch of the code tells of a test in the rules: a law for each test and each way. `v` is what the code holds, `a` what the rules call it.
use Prim.Native.Nat.{ℕ, ◌<◌, ◌≤◌}
use mathlib.Core.Path.{◌≡◌, ◌∙◌, sym, refl}
use mathlib.Core.Bool.{Bool, true, false, cond, not}
use native.Mathlib.Omega.{arith}
use borrow.Author.Tests.{eq-eqb, ne_eqb, lt-ltb, le-ltb, le-leb, lt-leb}
use lib.Dec.{eqb, ltb, leb}

module _ {A : Type 0} (a b : ℕ) (x y z : A) where
  pub if_eq : a ≡ b → z ≡ x → z ≡ cond (eqb a b) x y
  if_eq h q = rw (eq-eqb a b h) q

  pub if_ne : (a ≡ b → ⊥) → z ≡ y → z ≡ cond (eqb a b) x y
  if_ne h q = rw (ne_eqb a b h) q

  pub if_lt : a < b → z ≡ x → z ≡ cond (ltb a b) x y
  if_lt h q = rw (lt-ltb a b h) q

  pub if_ge : b ≤ a → z ≡ y → z ≡ cond (ltb a b) x y
  if_ge h q = rw (le-ltb a b h) q

  pub if_le : a ≤ b → z ≡ x → z ≡ cond (leb a b) x y
  if_le h q = rw (le-leb a b h) q

  pub if_gt : b < a → z ≡ y → z ≡ cond (leb a b) x y
  if_gt h q = rw (lt-leb a b h) q

  pub if_neq : (a ≡ b → ⊥) → z ≡ x → z ≡ cond (not (eqb a b)) x y
  if_neq h q = rw (ne_eqb a b h) q

  pub if_same : a ≡ b → z ≡ y → z ≡ cond (not (eqb a b)) x y
  if_same h q = rw (eq-eqb a b h) q

  -- the same where the code holds the number as v
  module _ (v : ℕ) (e : v ≡ a) where
    pub was_eq : v ≡ b → z ≡ x → z ≡ cond (eqb a b) x y
    was_eq h q = if_eq (sym e ∙ h) q

    pub was_ne : (v ≡ b → ⊥) → z ≡ y → z ≡ cond (eqb a b) x y
    was_ne h q = if_ne (λ i. h (e ∙ i)) q

    pub was_lt : v < b → z ≡ x → z ≡ cond (ltb a b) x y
    was_lt h q = if_lt (omega arith) q

    pub was_ge : b ≤ v → z ≡ y → z ≡ cond (ltb a b) x y
    was_ge h q = if_ge (omega arith) q

    pub was_neq : (v ≡ b → ⊥) → z ≡ x → z ≡ cond (not (eqb a b)) x y
    was_neq h q = if_neq (λ i. h (e ∙ i)) q

    pub was_same : v ≡ b → z ≡ y → z ≡ cond (not (eqb a b)) x y
    was_same h q = if_same (sym e ∙ h) q

    -- and the number stands right
    pub was_above : b < v → z ≡ x → z ≡ cond (ltb b a) x y
    was_above h q = rw (lt-ltb b a (omega arith)) q

    pub was_within : v ≤ b → z ≡ y → z ≡ cond (ltb b a) x y
    was_within h q = rw (le-ltb b a (omega arith)) q

-- a test that the code holds as a flag
module _ {A : Type 0} (v a : Bool) (x y z : A) (e : v ≡ a) where
  pub was_true : v ≡ true → z ≡ x → z ≡ cond a x y
  was_true h q = rw (sym e ∙ h) q

  pub was_false : v ≡ false → z ≡ y → z ≡ cond a x y
  was_false h q = rw (sym e ∙ h) q

  pub was_not : v ≡ true → z ≡ y → z ≡ cond (not a) x y
  was_not h q = rw (sym e ∙ h) q

  pub was_so : v ≡ false → z ≡ x → z ≡ cond (not a) x y
  was_so h q = rw (sym e ∙ h) q

-- the last test of a list, or the last word of a function
pub last : (v a : Bool) → v ≡ a → v ≡ cond a true false
last true true e = refl
last false false e = refl
last true false e = e
last false true e = e

pub same_eqb : (v a b : ℕ) → v ≡ a → eqb v b ≡ eqb a b
same_eqb v a b e = rw e

pub ruleset tests = (was_true, was_false, was_not, was_so, last, same_eqb, if_neq, if_same, was_neq, was_same, was_above, was_within, if_eq, if_ne, if_lt, if_ge, if_le, if_gt, was_eq, was_ne, was_lt, was_ge)

-- tests of plain parameters
pub ruleset plain = (if_neq, if_same, if_eq, if_ne, if_lt, if_ge, if_le, if_gt)
