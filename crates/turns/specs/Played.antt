-- What a turn plays: a record and its answer; nothing where the turn has no step.
use Rattle.std.specs.Prelude.{◌≡◌, List, [], ◌∷◌, ℕ, Option, None, Some}
use Rattle.rules.specs.Refusals.{answer}
use Rattle.rules.specs.Step.{after}
use Rattle.turns.specs.declared.Played.{Played}

unfoldable pub played_on : List ℕ → List ℕ → Played
played_on t r = record { «record» = r; answer = answer t r }

unfoldable pub step_on : List ℕ → List ℕ → Option Played
step_on t [] = None
step_on t (kind ∷ r) = Some (played_on t (kind ∷ r))

-- On tables t the record r is played, if it is one; x is what was played, and u the tables after it.
pub record Plays (t r : List ℕ) (x : Option Played) (u : List ℕ) : Type 0 where
  pub step : x ≡ step_on t r
  pub tables : u ≡ after t r
