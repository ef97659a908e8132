-- Finishes nested at any depth, and the climb to the nearest ancestor with a store book; both over arrays, so that a step
-- that leaves the arrays leaves them too.
use Rattle.std.specs.Prelude.{◌≡◌, refl, ◌⊎◌, ℕ, ◌≤◌, ◌<◌}
use Rattle.std.proofs.Common.{ap, ◌∙◌, subst, inl, inr, arith}

-- g is f, or is nested in f at some depth
pub data Under (parent : ℕ → ℕ) (f : ℕ) : ℕ → Type 0 where
  here : Under parent f f
  up : {g : ℕ} → Under parent f (parent g) → Under parent f g

-- q is f or its nearest ancestor with a store book, 0 if none
pub data Nearest (parent present : ℕ → ℕ) : ℕ → ℕ → Type 0 where
  none_above : Nearest parent present 0 0
  found : {f : ℕ} → 0 < f → present f ≡ 1 → Nearest parent present f f
  higher : {f q : ℕ} → 0 < f → present f ≡ 0 → Nearest parent present (parent f) q → Nearest parent present f q

-- what is found has a book, and is above
pub nearest-present : {parent present : ℕ → ℕ} {f q : ℕ} → Nearest parent present f q → 0 < q → present q ≡ 1
nearest-present none_above h = absurd (omega arith)
nearest-present (found z e) h = e
nearest-present (higher z e n) h = nearest-present n h

pub nearest_above : {parent present : ℕ → ℕ} {f q : ℕ} → Nearest parent present f q → Under parent q f
nearest_above none_above = here
nearest_above (found z e) = here
nearest_above (higher z e n) = up (nearest_above n)

-- what is above another is above its parent
pub strictly_above : {parent : ℕ → ℕ} {x f : ℕ} → Under parent x f → (x ≡ f → ⊥) → Under parent x (parent f)
strictly_above here n = absurd (n refl)
strictly_above (up u) n = u

-- those above one finish are in line
pub in_line : {parent : ℕ → ℕ} {f p g : ℕ} → Under parent f g → Under parent p g → Under parent f p ⊎ Under parent p f
in_line here v = inr v
in_line (up u) here = inl (up u)
in_line (up u) (up v) = in_line u v

-- above 0 is only 0
pub under_zero : {parent : ℕ → ℕ} {f g : ℕ} → parent 0 ≡ 0 → g ≡ 0 → Under parent f g → f ≡ 0
under_zero z e here = e
under_zero {parent} z e (up u) = under_zero z (ap parent e ∙ z) u

pub under_trans : {parent : ℕ → ℕ} {f g h : ℕ} → Under parent f g → Under parent g h → Under parent f h
under_trans u here = u
under_trans u (up v) = up (under_trans u v)

-- parent numbers fall
pub under_le : {parent : ℕ → ℕ} {f g : ℕ} → ((x : ℕ) → parent x ≤ x) → Under parent f g → f ≤ g
under_le h here = omega arith
under_le {g = g} h (up u) = omega (arith, h g, under_le h u)

under_agree : {q r : ℕ → ℕ} {f g : ℕ} (n k : ℕ) → ((x : ℕ) → x < n → q x ≡ r x) → ((x : ℕ) → x < n → r x < n) → Under q f g → g ≡ k → k < n → Under r f k
under_agree {r = r} {f = f} n k a h here e l = subst (Under r f) e here
under_agree {q = q} {r = r} n k a h (up u) e l = up (under_agree n (r k) a h u (ap q e ∙ a k l) (h k l))

-- the same over two arrays that agree below n
pub under_same : {q r : ℕ → ℕ} {f g : ℕ} (n : ℕ) → ((x : ℕ) → x < n → q x ≡ r x) → ((x : ℕ) → x < n → r x < n) → g < n → Under q f g → Under r f g
under_same {g = g} n a h l u = under_agree n g a h u refl l
