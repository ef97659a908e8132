-- What each entry is held to, the three cores that do nothing: "shut out by demand 2 in case A, and none is caught by the release half
-- of demand 3 alone".
use Rattle.std.specs.Prelude.{◌≡◌, Bool, true, false, cond, List, [], ◌∷◌, ◌++◌, ℕ, eqb}
use Rattle.tables.specs.Walks.{every}
use Rattle.rules.specs.Fields.{task_finish}
use Rattle.rules.specs.Action.{action_of}
use Rattle.rules.specs.Begin.{zero_tables}
use Rattle.rules.specs.Outcome.{Core, Meets}
use Rattle.rules.specs.Sessions.{is_busy, is_released, LiesIn, is_begin}
use Rattle.witness.specs.Schedule.{first}

-- Demand 3's words, of any core: a begin that it takes; no such begin among the records; the tables after them.
unfoldable pub takes_begin_of : Core → List ℕ → List ℕ → Bool
takes_begin_of core t r = every (is_begin (action_of r) ∷ eqb (core.says t r) 0 ∷ [])

unfoldable pub no_begin_of : Core → List ℕ → List (List ℕ) → Bool
no_begin_of core t [] = true
no_begin_of core t (r ∷ rs) = cond (takes_begin_of core t r) false (no_begin_of core (core.leaves t r) rs)

unfoldable pub played_of : Core → List ℕ → List (List ℕ) → List ℕ
played_of core t [] = t
played_of core t (r ∷ rs) = played_of core (core.leaves t r) rs

-- A session of the core on tables t: a begin b that it takes, then the records rs, none of them a begin that it takes.
pub record SessionOf (core : Core) (t b : List ℕ) (rs : List (List ℕ)) : Type 0 where
  pub begun : takes_begin_of core t b ≡ true
  pub alone : no_begin_of core (core.leaves t b) rs ≡ true

-- Once a finish is released, no task of it or nested in it at any depth is running or blocked, then or later: in every session of the
-- core on tables t.
abbrev pub ReleaseOn : Core → List ℕ → Type 0
ReleaseOn core t =
    (b : List ℕ) (rs later : List (List ℕ)) → SessionOf core t b (rs ++ later) → (f k : ℕ)
    → is_released (played_of core (core.leaves t b) rs) f ≡ true
    → LiesIn (played_of core (core.leaves t b) (rs ++ later)) f (task_finish (played_of core (core.leaves t b) (rs ++ later)) k)
    → is_busy (played_of core (core.leaves t b) (rs ++ later)) k ≡ false

-- The release half alone does not catch the core, demand 2 does, at record 1 of case A. Its sessions start on zero tables, as the
-- printed run does: a begin that clears nothing leaves on other tables whatever stood there.
pub record OnlyDemand2 (core : Core) : Type 0 where
  pub not_caught : ReleaseOn core zero_tables
  pub shut_out : Meets core zero_tables first → ⊥
