-- The run of a plan, step by step: the begin, then turn after turn, until a turn has no step. What the tables, the log and the tally
-- hold after so many steps.
use Rattle.std.specs.Prelude.{◌≡◌, true, List, [], ◌∷◌, ◌++◌, ℕ, zero, suc, ◌≤◌, ◌<◌, eqb}
use Rattle.tables.specs.Bytes.{byte, write}
use Rattle.rules.specs.Refusals.{answer}
use Rattle.rules.specs.Step.{after}
use Rattle.rules.specs.Sessions.{is_released}
use Rattle.plan.specs.declared.Plan.{Plan}
use Rattle.tally.specs.declared.Tally.{Tally}
use Rattle.tally.specs.Tally.{noted}
use Rattle.turns.specs.Turn.{turn_record}

-- the record of step n + 1, on the tables that n steps led to
unfoldable pub step_record : Plan → ℕ → List ℕ → List ℕ
step_record p zero t = 9 ∷ p.places ∷ 0 ∷ 0 ∷ []
step_record p (suc n) t = turn_record p (suc n) t

-- the tables after n steps, from tables t on; the record and the answer of the step after those
unfoldable pub tables_after : Plan → List ℕ → ℕ → List ℕ
tables_after p t zero = t
tables_after p t (suc n) = after (tables_after p t n) (step_record p n (tables_after p t n))

abbrev pub record_at : Plan → List ℕ → ℕ → List ℕ
record_at p t n = step_record p n (tables_after p t n)

abbrev pub answer_at : Plan → List ℕ → ℕ → ℕ
answer_at p t n = answer (tables_after p t n) (record_at p t n)

-- five bytes a step: the record's four numbers and the answer
unfoldable pub log_after : Plan → List ℕ → ℕ → List ℕ
log_after p t zero = []
log_after p t (suc n) = log_after p t n ++ (record_at p t n ++ (answer_at p t n ∷ []))

-- steps, kills and zero answers, begin counted
unfoldable pub tally_after : Plan → List ℕ → ℕ → Tally
tally_after p t zero = record { steps = 0; kills = 0; zeros = 0 }
tally_after p t (suc n) = noted (tally_after p t n) (eqb (byte (record_at p t n) 0) 5) (answer_at p t n)

-- What a run leaves of tables t and of a log: every step is taken, no turn has another, finish 1 is released; and a bound of its steps.
pub record Ran (p : Plan) (t u log out : List ℕ) (r : Tally) : Type 0 where
  pub tables : u ≡ tables_after p t r.steps
  pub written : out ≡ write log 0 (log_after p t r.steps)
  pub tallied : r ≡ tally_after p t r.steps
  pub taken : (m : ℕ) → m < r.steps → answer_at p t m ≡ 0
  pub ended : record_at p t r.steps ≡ []
  pub released : is_released u 1 ≡ true
  pub most : r.steps ≤ 2089
