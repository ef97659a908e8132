-- By cases on equations, Booleans and conditionals; induction from below.
use Rattle.std.specs.Prelude.{◌≡◌, refl, Bool, true, false, cond, ◌&&◌, ◌||◌, ℕ, zero, suc, ◌<◌, eqb}
use Rattle.std.proofs.Common.{arith, eqb-true}
use Rattle.std.proofs.lemmas.Bool.{eqb-false}

pub eq_cases : {P : Type 0} (a b : ℕ) → (a ≡ b → P) → ((a ≡ b → ⊥) → P) → P
eq_cases {P} a b y n = go (eqb a b) refl
  where
    go : (t : Bool) → eqb a b ≡ t → P
    go true e = y (eqb-true a b e)
    go false e = n (eqb-false a b e)

pub bool_cases : {P : Type 0} (b : Bool) → (b ≡ true → P) → (b ≡ false → P) → P
bool_cases true p q = p refl
bool_cases false p q = q refl

-- both values at once are absurd
pub both : {P : Type 0} {b : Bool} → b ≡ true → b ≡ false → P
both {b = b} p q = let z : ◌≡◌ {A = ℕ} 0 1 = cc in absurd (omega arith)

pub and_left : (a b : Bool) → (a && b) ≡ true → a ≡ true
and_left true b e = refl
and_left false b e = e

pub and_right : (a b : Bool) → (a && b) ≡ true → b ≡ true
and_right true b e = e
and_right false b e = cc

pub or_cases : {P : Type 0} (a b : Bool) → (a || b) ≡ true → (a ≡ true → P) → (b ≡ true → P) → P
or_cases true b e p q = p refl
or_cases false b e p q = q e

pub or_left : (a b : Bool) → a ≡ true → (a || b) ≡ true
or_left a b e = rw e

pub or_right : (a b : Bool) → b ≡ true → (a || b) ≡ true
or_right true b e = refl
or_right false b e = e

pub or_none : (a b : Bool) → b ≡ false → (a || b) ≡ a
or_none true b e = refl
or_none false b e = e

pub and_none : (a b : Bool) → b ≡ false → (a && b) ≡ false
and_none true b e = e
and_none false b e = refl

pub or-false : (a b : Bool) → a ≡ false → b ≡ false → (a || b) ≡ false
or-false a b p q = rw (p, q)

pub or_false_left : (a b : Bool) → (a || b) ≡ false → a ≡ false
or_false_left true b e = e
or_false_left false b e = refl

pub or_false_right : (a b : Bool) → (a || b) ≡ false → b ≡ false
or_false_right true b e = cc
or_false_right false b e = e

pub cond_cases : {A : Type 0} (P : A → Type 0) (b : Bool) (x y : A) → (b ≡ true → P x) → (b ≡ false → P y) → P (cond b x y)
cond_cases P true x y p q = p refl
cond_cases P false x y p q = q refl

-- P holds of each number if it does where it holds of all that are less
pub strong : (P : ℕ → Type 0) → ((g : ℕ) → ((h : ℕ) → h < g → P h) → P g) → (g : ℕ) → P g
strong P step g = go (suc g) g (omega arith)
  where
    go : (n h : ℕ) → h < n → P h
    go zero h l = absurd (omega arith)
    go (suc n) h l = step h (λ k m. go n k (omega arith))
