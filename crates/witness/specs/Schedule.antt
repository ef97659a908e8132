-- Demand 3 is not empty: a session in which finish 1 is released after the loss of a place, an adopted ghost and a dropped task.
-- Three places; task 2 at place 1 opened finish 2, whose task 4 runs at place 2 when place 1 is lost.
use Rattle.std.specs.Prelude.{◌≡◌, Bool, true, false, cond, List, [], ◌∷◌, ◌++◌, ℕ, eqb}
use Rattle.tables.specs.Bytes.{byte}
use Rattle.tables.specs.Layout.{place, slot_row}
use Rattle.rules.specs.Fields.{dead, task_finish, is_adopted, ghost_byte, live}
use Rattle.rules.specs.Begin.{zero_tables}
use Rattle.rules.specs.Refusals.{answer}
use Rattle.rules.specs.Step.{after}
use Rattle.rules.specs.Quiet.{quiet, running_tasks}
use Rattle.rules.specs.Sessions.{is_busy, is_released, LiesIn, is_open, survives, takes_begin, no_begin, played}

-- An action is 4 bytes: kind, a, b, c.
abbrev act : ℕ → ℕ → ℕ → ℕ → List ℕ
act k a b c = k ∷ a ∷ b ∷ c ∷ []

-- every message stands in slot 0
abbrev hand : List ℕ
hand = act 4 0 0 0

-- 09030000: three places
abbrev pub first : List ℕ
first = act 9 3 0 0

-- 01010100, five times 04000000: task 2 of finish 1 runs at place 1. 02020000: it opens finish 2 there, with main task 3.
-- 01030200, five times 04000000: task 4 of finish 2 runs at place 2. 01030200 04000000: task 5 is counted and not yet granted.
-- 05010000: place 1 is lost.
abbrev pub lost : List (List ℕ)
lost =
    act 1 1 1 0 ∷ hand ∷ hand ∷ hand ∷ hand ∷ hand
    ∷ act 2 2 0 0
    ∷ act 1 3 2 0 ∷ hand ∷ hand ∷ hand ∷ hand ∷ hand
    ∷ act 1 3 2 0 ∷ hand
    ∷ act 5 1 0 0
    ∷ []

-- 06010000 06020000: the book of finish 2 becomes a ghost of finish 1. 07010100 07020100: column 1 is cancelled in both.
abbrev pub to_ghost : List (List ℕ)
to_ghost = act 6 1 0 0 ∷ act 6 2 0 0 ∷ act 7 1 1 0 ∷ act 7 2 1 0 ∷ []

-- 03010000 04000000: task 1 ends, and the book of finish 1 waits for its ghost alone. 08020102 04000000: place 2 is asked for
-- what place 1 sent it in finish 2, and replies.
abbrev pub to_reply : List (List ℕ)
to_reply = act 3 1 0 0 ∷ hand ∷ act 8 2 1 2 ∷ hand ∷ []

-- 04000000: the reply is counted, and only task 4 is left.
abbrev pub to_calm : List (List ℕ)
to_calm = hand ∷ []

-- 03040000: task 4 ends. Three times 04000000: its report, the ghost's end, the release of finish 1.
abbrev pub to_release : List (List ℕ)
to_release = act 3 4 0 0 ∷ hand ∷ hand ∷ hand ∷ []

-- the records after the begin, up to the end of each stretch
abbrev pub ghosted : List (List ℕ)
ghosted = lost ++ to_ghost

abbrev pub replied : List (List ℕ)
replied = ghosted ++ to_reply

abbrev pub calmed : List (List ℕ)
calmed = replied ++ to_calm

abbrev pub whole : List (List ℕ)
whole = calmed ++ to_release

-- the tables that the session comes to
unfoldable pub at : List (List ℕ) → List ℕ
at rs = played (after zero_tables first) rs

-- every record is answered 0
unfoldable pub all_taken : List ℕ → List (List ℕ) → Bool
all_taken t [] = true
all_taken t (r ∷ rs) = cond (eqb (answer t r) 0) (all_taken (after t r) rs) false

-- Every record is taken and none after the begin is a begin. Place 1 is dead; the book of finish 2 is adopted, a ghost of finish 1 (bit
-- 1); a reply (tag 11) says 1 dropped. Then the session is quiet with both books open, a live count at place 2, which survives, task 4
-- busy in a finish that lies in finish 1, and finish 1 not released. At the end finish 1 is released, nothing runs, and it is quiet.
pub record Witness : Type 0 where
  pub begun : takes_begin zero_tables first ≡ true
  pub alone : no_begin (after zero_tables first) whole ≡ true
  pub taken : all_taken (after zero_tables first) whole ≡ true
  pub place_lost : dead (at lost) 1 ≡ true
  pub adopted : is_adopted (at ghosted) 2 ≡ 1
  pub is_ghost : ghost_byte (at ghosted) 1 0 ≡ 2
  pub reply : byte (at replied) (place (slot_row 0) 0) ≡ 11
  pub reply_says : byte (at replied) (place (slot_row 0) 5) ≡ 1
  pub calm : quiet (at calmed) ≡ true
  pub open_1 : is_open (at calmed) 1 ≡ true
  pub open_2 : is_open (at calmed) 2 ≡ true
  pub survivor : survives (at calmed) 2 ≡ true
  pub still_live : live (at calmed) 2 1 2 ≡ 1
  pub busy : is_busy (at calmed) 4 ≡ true
  pub lies_in : LiesIn (at calmed) 1 (task_finish (at calmed) 4)
  pub unreleased : is_released (at calmed) 1 ≡ false
  pub released : is_released (at whole) 1 ≡ true
  pub none_runs : running_tasks (at whole) ≡ 0
  pub is_quiet : quiet (at whole) ≡ true
