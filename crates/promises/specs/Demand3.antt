-- Demand 3, over the rules and the bytes alone: any steps in any order, node losses included, from a begin to the next.
use Rattle.std.specs.Prelude.{◌≡◌, true, false, List, ◌++◌, ℕ, ◌+◌, ◌-◌, ◌<◌}
use Rattle.rules.specs.Fields.{task_finish, live, received, reported}
use Rattle.rules.specs.Refusals.{answer}
use Rattle.rules.specs.Step.{after}
use Rattle.rules.specs.Quiet.{quiet, running_tasks}
use Rattle.rules.specs.Sessions.{is_busy, is_released, LiesIn, is_open, survives, main_left, takes_begin, no_begin, played}

-- A session: on any tables t a begin b that is taken, then the records rs, none of them a begin that is taken.
pub record Session (t b : List ℕ) (rs : List (List ℕ)) : Type 0 where
  pub begun : takes_begin t b ≡ true
  pub alone : no_begin (after t b) rs ≡ true

-- the tables that it comes to
unfoldable pub comes_to : List ℕ → List ℕ → List (List ℕ) → List ℕ
comes_to t b rs = played (after t b) rs

-- Once a finish is released, no task of it or nested in it at any depth is running or blocked, then or later.
abbrev pub Release : Type 0
Release = (t b : List ℕ) (rs later : List (List ℕ)) → Session t b (rs ++ later)
    → (f k : ℕ) → is_released (comes_to t b rs) f ≡ true
    → LiesIn (comes_to t b (rs ++ later)) f (task_finish (comes_to t b (rs ++ later)) k)
    → is_busy (comes_to t b (rs ++ later)) k ≡ false

-- In a quiet session each open book's cell for a surviving receiver is received less reported, plus one in the home's own cell
-- until the main task ended.
abbrev pub QuietBooks : Type 0
QuietBooks = (t b : List ℕ) (rs : List (List ℕ)) → Session t b rs → quiet (comes_to t b rs) ≡ true
    → (f i j : ℕ) → is_open (comes_to t b rs) f ≡ true → survives (comes_to t b rs) j ≡ true → i < 8
    → live (comes_to t b rs) f i j
    ≡ received (comes_to t b rs) f j i - reported (comes_to t b rs) f j i + main_left (comes_to t b rs) f i j

-- A quiet session with no running task has finish 1 released.
abbrev pub Progress : Type 0
Progress = (t b : List ℕ) (rs : List (List ℕ)) → Session t b rs
    → quiet (comes_to t b rs) ≡ true → running_tasks (comes_to t b rs) ≡ 0 → is_released (comes_to t b rs) 1 ≡ true

-- On tables that started at a begin, 8 and 9 are never given.
abbrev pub NeverUnsound : Type 0
NeverUnsound = (t b : List ℕ) (rs : List (List ℕ)) → Session t b rs
    → (r : List ℕ) → (answer (comes_to t b rs) r ≡ 8 → ⊥) × (answer (comes_to t b rs) r ≡ 9 → ⊥)

pub record Demand3 : Type 0 where
  pub release : Release
  pub quiet_books : QuietBooks
  pub progress : Progress
  pub never_unsound : NeverUnsound
