-- Deliver, adopt, cancel and ask: while a session is not quiet one of them is taken, and they come to an end.
use Rattle.std.specs.Prelude.{◌≡◌, Bool, true, false, List, [], ◌∷◌, ℕ, ◌<◌}
use Rattle.rules.specs.Action.{Action, unknown, spawn, open_finish, end, deliver, kill, adopt, cancel, ask, begin}
use Rattle.rules.specs.Refusals.{answer}
use Rattle.rules.specs.Step.{after}
use Rattle.rules.specs.Quiet.{quiet}
use Rattle.promises.specs.Demand3.{Session, comes_to}

-- the four bytes of an action
unfoldable pub record_of : Action → List ℕ
record_of unknown = 0 ∷ 0 ∷ 0 ∷ 0 ∷ []
record_of (spawn k p) = 1 ∷ k ∷ p ∷ 0 ∷ []
record_of (open_finish k) = 2 ∷ k ∷ 0 ∷ 0 ∷ []
record_of (end k) = 3 ∷ k ∷ 0 ∷ 0 ∷ []
record_of (deliver s) = 4 ∷ s ∷ 0 ∷ 0 ∷ []
record_of (kill p) = 5 ∷ p ∷ 0 ∷ 0 ∷ []
record_of (adopt f) = 6 ∷ f ∷ 0 ∷ 0 ∷ []
record_of (cancel f v) = 7 ∷ f ∷ v ∷ 0 ∷ []
record_of (ask f v j) = 8 ∷ f ∷ v ∷ j ∷ []
record_of (begin n) = 9 ∷ n ∷ 0 ∷ 0 ∷ []

-- deliver, adopt, cancel and ask
unfoldable pub is_settling : Action → Bool
is_settling unknown = false
is_settling (spawn k p) = false
is_settling (open_finish k) = false
is_settling (end k) = false
is_settling (deliver s) = true
is_settling (kill p) = false
is_settling (adopt f) = true
is_settling (cancel f v) = true
is_settling (ask f v j) = true
is_settling (begin n) = false

-- A session that is not quiet has a deliver, adopt, cancel or ask that is taken.
abbrev pub Stirring : List ℕ → Type 0
Stirring t = (x : Action) × (is_settling x ≡ true) × (answer t (record_of x) ≡ 0)

abbrev pub Stirs : Type 0
Stirs = (t b : List ℕ) (rs : List (List ℕ)) → Session t b rs → quiet (comes_to t b rs) ≡ false → Stirring (comes_to t b rs)

-- A number falls at every taken deliver, adopt, cancel and ask.
abbrev pub Falls : Type 0
Falls = (number : List ℕ → ℕ) × ((t b : List ℕ) (rs : List (List ℕ)) → Session t b rs
    → (x : Action) → is_settling x ≡ true → answer (comes_to t b rs) (record_of x) ≡ 0
    → number (after (comes_to t b rs) (record_of x)) < number (comes_to t b rs))
