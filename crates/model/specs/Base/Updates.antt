-- An array with one place updated; a number that counts where a test holds; keys of two and three numbers.
use Rattle.std.specs.Prelude.{◌≡◌, Bool, cond, ◌&&◌, ◌||◌, ℕ, ◌+◌, ◌-◌, ◌≤◌, ◌<◌}
use Rattle.std.proofs.Math.Path.{refl}
use Rattle.std.proofs.Math.Bool.{true, false}
use Rattle.std.proofs.Common.{arith, eqb-true, eq-eqb, ne_eqb}
use Rattle.std.proofs.Math.Dec.{eqb}
use Rattle.std.proofs.lemmas.Bool.{eqb-false}
use Rattle.model.specs.Base.Cases.{eq_cases, both}

-- f, but v at k
unfoldable pub upd : {A : Type 0} → (ℕ → A) → ℕ → A → ℕ → A
upd f k v x = cond (eqb x k) v (f x)

module _ {A : Type 0} (f : ℕ → A) where
  pub upd_same : (k : ℕ) (v : A) → upd f k v k ≡ v
  unfolding upd
  upd_same k v = rw (eq-eqb k k refl) refl

  pub upd_other : (k : ℕ) (v : A) (x : ℕ) → (x ≡ k → ⊥) → upd f k v x ≡ f x
  unfolding upd
  upd_other k v x n = rw (ne_eqb x k n) refl

  -- an array written at its end is as it was below
  pub upd-below : (n : ℕ) (v : A) (x : ℕ) → x < n → upd f n v x ≡ f x
  upd-below n v x h = upd_other n v x (λ q. omega arith)

  -- what is to be shown of the value after an update
  pub upd-cases : (P : A → Type 0) (k : ℕ) (v : A) (x : ℕ) → (x ≡ k → P v) → ((x ≡ k → ⊥) → P (f x)) → P (upd f k v x)
  unfolding upd
  upd-cases P k v x y n = go (eqb x k) refl
    where
      go : (t : Bool) → eqb x k ≡ t → P (cond t v (f x))
      go true e = y (eqb-true x k e)
      go false e = n (eqb-false x k e)

-- a place that is alive after the death of p was alive, and is another
pub alive_after : (dead : ℕ → Bool) (p j : ℕ) → upd dead p true j ≡ false → (j ≡ p → ⊥) × (dead j ≡ false)
alive_after dead p j e = eq_cases j p
    (λ q. both (upd_same dead p true) (rw q at e))
    (λ ne. (ne, rw (upd_other dead p true j ne) at e))

-- n where the test holds, else 0
unfoldable pub on : Bool → ℕ → ℕ
on b n = cond b n 0

pub on_true : (b : Bool) (n : ℕ) → b ≡ true → on b n ≡ n
unfolding on
on_true b n e = rw e

pub on_false : (b : Bool) (n : ℕ) → b ≡ false → on b n ≡ 0
unfolding on
on_false b n e = rw e

pub on-le : (b : Bool) (n : ℕ) → on b n ≤ n
unfolding on
on-le true n = omega arith
on-le false n = omega arith

pub on_zero : (b : Bool) → on b 0 ≡ 0
unfolding on
on_zero true = refl
on_zero false = refl

-- what is counted passed its test
pub on-cases : {P : Type 0} (b : Bool) (n : ℕ) → 0 < on b n → (b ≡ true → 0 < n → P) → P
unfolding on
on-cases true n h p = p refl h
on-cases false n h p = absurd (omega arith)

pub on_or : (a b : Bool) → (b ≡ true → a ≡ false) → on (a || b) 1 ≡ on a 1 + on b 1
unfolding on
on_or true true h = both refl (h refl)
on_or true false h = refl
on_or false b h = omega arith

-- a value raised to r where the test holds
pub cond_raise : (b : Bool) (p r : ℕ) → p ≤ r → cond b r p ≡ p + on b (r - p)
unfolding on
cond_raise true p r h = omega arith
cond_raise false p r h = omega arith

-- the key a, b stands at x, y
unfoldable pub is₂ : ℕ → ℕ → ℕ → ℕ → Bool
is₂ a b x y = eqb a x && eqb b y

unfoldable pub is₃ : ℕ → ℕ → ℕ → ℕ → ℕ → ℕ → Bool
is₃ a b c x y z = eqb a x && eqb b y && eqb c z

pub is₂_same : (a b : ℕ) → is₂ a b a b ≡ true
unfolding is₂
is₂_same a b = rw (eq-eqb a a refl, eq-eqb b b refl)

pub is₃_same : (a b c : ℕ) → is₃ a b c a b c ≡ true
unfolding is₃
is₃_same a b c = rw (eq-eqb a a refl, eq-eqb b b refl, eq-eqb c c refl)

pub is₂-cases : {P : Type 0} (a b x y : ℕ) → (a ≡ x → b ≡ y → P) → (is₂ a b x y ≡ false → P) → P
unfolding is₂
is₂-cases {P} a b x y p n = go (eqb a x) refl (eqb b y) refl
  where
    go : (t : Bool) → eqb a x ≡ t → (u : Bool) → eqb b y ≡ u → P
    go true e true d = p (eqb-true a x e) (eqb-true b y d)
    go true e false d = n (rw (e, d))
    go false e u d = n (rw e)

pub is₃-cases : {P : Type 0} (a b c x y z : ℕ) → (a ≡ x → b ≡ y → c ≡ z → P) → (is₃ a b c x y z ≡ false → P) → P
unfolding is₃
is₃-cases {P} a b c x y z p n = go (eqb a x) refl (eqb b y) refl (eqb c z) refl
  where
    go : (t : Bool) → eqb a x ≡ t → (u : Bool) → eqb b y ≡ u → (v : Bool) → eqb c z ≡ v → P
    go true e true d true g = p (eqb-true a x e) (eqb-true b y d) (eqb-true c z g)
    go true e true d false g = n (rw (e, d, g))
    go true e false d v g = n (rw (e, d))
    go false e u d v g = n (rw e)

pub is₂_true : (a b x y : ℕ) → is₂ a b x y ≡ true → (a ≡ x) × (b ≡ y)
is₂_true a b x y e = is₂-cases a b x y (λ p q. (p, q)) (λ n. both e n)

pub is₃_true : (a b c x y z : ℕ) → is₃ a b c x y z ≡ true → (a ≡ x) × (b ≡ y) × (c ≡ z)
is₃_true a b c x y z e = is₃-cases a b c x y z (λ p q r. (p, q, r)) (λ n. both e n)

pub is₂_false : (a b x y : ℕ) → (a ≡ x → b ≡ y → ⊥) → is₂ a b x y ≡ false
is₂_false a b x y n = is₂-cases a b x y (λ p q. absurd (n p q)) (λ e. e)

pub is₃_false : (a b c x y z : ℕ) → (a ≡ x → b ≡ y → c ≡ z → ⊥) → is₃ a b c x y z ≡ false
is₃_false a b c x y z n = is₃-cases a b c x y z (λ p q r. absurd (n p q r)) (λ e. e)

-- what stands where a key is met may name either
pub on-is₂ : (g : ℕ → ℕ → ℕ) (a b x y : ℕ) → on (is₂ a b x y) (g a b) ≡ on (is₂ a b x y) (g x y)
on-is₂ g a b x y = is₂-cases a b x y (λ p q. rw (p, q)) (λ e. rw (on_false (is₂ a b x y) (g a b) e, on_false (is₂ a b x y) (g x y) e))
