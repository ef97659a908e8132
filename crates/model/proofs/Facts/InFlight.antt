-- A message in flight counts among those of its tag, and what counts is a message in flight.
use Rattle.std.specs.Prelude.{◌≡◌, Bool, true, ℕ, ◌≤◌, ◌<◌, eqb}
use Rattle.std.proofs.Common.{arith, eqb-true}
use Rattle.model.specs.Base.{on, on_true, on-cases, sum_ge, sum_some}
use Rattle.model.specs.State.{State, Message}
use Rattle.model.specs.Messages.{tally, tally_is, tallied}

tally_some : (t : ℕ) (m : Message) (b : Bool) (n : ℕ) → 0 < tally t m b n → (m.tag ≡ t) × (b ≡ true) × (0 < n)
unfolding tally
tally_some t m b n h = on-cases (eqb m.tag t) (on b n) h (λ e h₁. on-cases b n h₁ (λ y l. (eqb-true m.tag t e, y, l)))

pub tallied_ge : (s : State) (k t : ℕ) (b : Message → Bool) (n : Message → ℕ) → k < s.slots → (s.slot k).tag ≡ t → b (s.slot k) ≡ true → n (s.slot k) ≤ tallied s t b n
tallied_ge s k t b n h e y = omega (
  arith,
  sum_ge s.slots (λ k. tally t (s.slot k) (b (s.slot k)) (n (s.slot k))) k h,
  tally_is t (s.slot k) (b (s.slot k)) (n (s.slot k)) e,
  on_true (b (s.slot k)) (n (s.slot k)) y,
)

pub tallied_some : (s : State) (t : ℕ) (b : Message → Bool) (n : Message → ℕ) → 0 < tallied s t b n
    → (k : ℕ) × (k < s.slots) × ((s.slot k).tag ≡ t) × (b (s.slot k) ≡ true)
tallied_some s t b n h =
    let r = sum_some s.slots (λ k. tally t (s.slot k) (b (s.slot k)) (n (s.slot k))) h in
    let w = tally_some t (s.slot r.0) (b (s.slot r.0)) (n (s.slot r.0)) r.2 in
    (r.0, r.1, w.0, w.1)
