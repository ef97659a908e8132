-- The printed run: what the replay program prints of a schedule, line by line, and the tables that it ends with.
use Rattle.std.specs.Prelude.{List, [], ◌∷◌, ℕ, ◌+◌}
use Rattle.rules.specs.Fields.{finish_status}
use Rattle.rules.specs.Begin.{zero_tables}
use Rattle.rules.specs.Refusals.{answer}
use Rattle.rules.specs.Step.{after}
use Rattle.rules.specs.Quiet.{running_tasks, messages_in_flight}

-- record number, kind, answer; or number and `short`; or `end`, running tasks, status of finish 1, messages in flight
pub data Line : Type 0 where
  took : (number kind answer : ℕ) → Line
  short : (number : ℕ) → Line
  ends : (running status messages : ℕ) → Line

-- Then `end`, running tasks, status of finish 1, messages in flight.
unfoldable pub last_line : List ℕ → Line
last_line t = ends (running_tasks t) (finish_status t 1) (messages_in_flight t)

-- the lines of a run, and the tables that it ends with
pub record Run : Type 0 where
  pub lines : List Line
  pub tables : List ℕ

-- a line before a run
unfoldable pub before : Line → Run → Run
before x r = record { lines = x ∷ r.lines; tables = r.tables }

unfoldable pub at_end : List ℕ → Run
at_end t = record { lines = last_line t ∷ []; tables = t }

-- For each record it prints record number from 1, kind, answer; a last incomplete record prints its number and `short`.
unfoldable pub run : ℕ → List ℕ → List ℕ → Run
run n t [] = at_end t
run n t (k ∷ []) = before (short n) (at_end t)
run n t (k ∷ a ∷ []) = before (short n) (at_end t)
run n t (k ∷ a ∷ b ∷ []) = before (short n) (at_end t)
run n t (k ∷ a ∷ b ∷ c ∷ s) = before (took n k (answer t (k ∷ a ∷ b ∷ c ∷ []))) (run (n + 1) (after t (k ∷ a ∷ b ∷ c ∷ [])) s)

-- The replay program starts with zero tables.
unfoldable pub replayed : List ℕ → Run
replayed s = run 1 zero_tables s
