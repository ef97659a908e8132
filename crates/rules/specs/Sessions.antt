-- Demand 3's words over the tables: which task is busy, which finish lies in which, what a session comes to. "From a begin to the
-- next, any steps in any order, node losses included."
use Rattle.std.specs.Prelude.{◌≡◌, Bool, true, false, cond, not, List, [], ◌∷◌, ℕ, eqb}
use Rattle.tables.specs.Walks.{every, some_of}
use Rattle.rules.specs.Fields.{dead, task_status, running, blocked, ended, home, parent, finish_status, released, main_task, present, task_made, finish_made, in_session}
use Rattle.rules.specs.Action.{Action, unknown, spawn, open_finish, end, deliver, kill, adopt, cancel, ask, begin, action_of}
use Rattle.rules.specs.Refusals.{answer}
use Rattle.rules.specs.Step.{after}

-- task k is running or blocked
unfoldable pub is_busy : List ℕ → ℕ → Bool
is_busy t k = every (task_made t k ∷ some_of (eqb (task_status t k) running ∷ eqb (task_status t k) blocked ∷ []) ∷ [])

-- finish f is released
unfoldable pub is_released : List ℕ → ℕ → Bool
is_released t f = every (finish_made t f ∷ eqb (finish_status t f) released ∷ [])

-- finish g is f, or is nested in f at any depth: its parent lies in f
pub data LiesIn (t : List ℕ) (f : ℕ) : ℕ → Type 0 where
  itself : LiesIn t f f
  nested : {g : ℕ} → finish_made t g ≡ true → LiesIn t f (parent t g) → LiesIn t f g

-- an open book; a surviving receiver
unfoldable pub is_open : List ℕ → ℕ → Bool
is_open t f = every (finish_made t f ∷ eqb (present t f) 1 ∷ [])

unfoldable pub survives : List ℕ → ℕ → Bool
survives t j = every (in_session t j ∷ not (dead t j) ∷ [])

-- "plus one in the home's own cell until the main task ended"
unfoldable pub main_left : List ℕ → ℕ → ℕ → ℕ → ℕ
main_left t f i j = cond (every (eqb i (home t f) ∷ eqb j (home t f) ∷ not (eqb (task_status t (main_task t f)) ended) ∷ [])) 1 0

-- the action is a begin
unfoldable pub is_begin : Action → Bool
is_begin unknown = false
is_begin (spawn k p) = false
is_begin (open_finish k) = false
is_begin (end k) = false
is_begin (deliver s) = false
is_begin (kill p) = false
is_begin (adopt f) = false
is_begin (cancel f v) = false
is_begin (ask f v j) = false
is_begin (begin n) = true

-- the record is a begin that is taken
unfoldable pub takes_begin : List ℕ → List ℕ → Bool
takes_begin t r = every (is_begin (action_of r) ∷ eqb (answer t r) 0 ∷ [])

-- none of the records, played one after the other, is a begin that is taken
unfoldable pub no_begin : List ℕ → List (List ℕ) → Bool
no_begin t [] = true
no_begin t (r ∷ rs) = cond (takes_begin t r) false (no_begin (after t r) rs)

-- the tables after the records
unfoldable pub played : List ℕ → List (List ℕ) → List ℕ
played t [] = t
played t (r ∷ rs) = played (after t r) rs
