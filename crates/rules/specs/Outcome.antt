-- What each entry is held to: demand 2 as a relation between tables, record, answer and next tables.
use Rattle.std.specs.Prelude.{◌≡◌, true, false, List, [], ◌∷◌, ◌≢◌, ℕ}
use Rattle.rules.specs.Action.{action_of}
use Rattle.rules.specs.Refusals.{Check, refuse, refusals}
use Rattle.rules.specs.Step.{step}

-- First that applies, in this order: n is the number of the first check whose test holds, 0 where none does.
pub data First : List Check → ℕ → Type 0 where
  none_applies : First [] 0
  applies : {n : ℕ} {l : List Check} → First (refuse true n ∷ l) n
  passes : {n m : ℕ} {l : List Check} → First l m → First (refuse false n ∷ l) m

-- Each step is taken exactly when the rules allow it, and the tables after it are those the rules give;
-- each refusal returns its number and changes nothing.
pub record Outcome (t r : List ℕ) (a : ℕ) (u : List ℕ) : Type 0 where
  pub answered : First (refusals t r) a
  pub done : a ≡ 0 → u ≡ step t (action_of r)
  pub refused : a ≢ 0 → u ≡ t

-- A core: what it answers and what it leaves of any tables at any record.
pub record Core : Type 0 where
  pub says : List ℕ → List ℕ → ℕ
  pub leaves : List ℕ → List ℕ → List ℕ

-- Demand 2 at one record.
abbrev pub Meets : Core → List ℕ → List ℕ → Type 0
Meets core t r = Outcome t r (core.says t r) (core.leaves t r)
