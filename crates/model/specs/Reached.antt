-- The states reached from a begin, and what comes after one.
use Rattle.std.specs.Prelude.{ℕ, ◌≤◌}
use Rattle.model.specs.State.{State}
use Rattle.model.specs.Effects.Begin.{begun}
use Rattle.model.specs.Step.{Move, Step}

-- a begin, with m slots, and what comes after it
pub data Reached : State → Type 0 where
  first : (n m : ℕ) → 2 ≤ n → Reached (begun n m)
  next : {s s' : State} → Reached s → Step s s' → Reached s'

-- then or later, with no other begin between
pub data Later (s : State) : State → Type 0 where
  now : Later s s
  after : {s₁ s₂ : State} → Later s s₁ → Move s₁ s₂ → Later s s₂
