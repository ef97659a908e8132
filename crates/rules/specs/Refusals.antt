-- Refusal numbers and their order: a named test for each number, in the order of the table.
use Rattle.std.specs.Prelude.{Bool, true, false, cond, not, List, [], ◌∷◌, ℕ, eqb, ltb, leb, length}
use Rattle.tables.specs.Bits.{marked}
use Rattle.tables.specs.Walks.{every, some_of}
use Rattle.rules.specs.Fields.{dead_mask, tasks_made, finishes_made, dead, task_at, task_status, running, adopt_due, live, asked_marks, task_made, finish_made, in_session}
use Rattle.rules.specs.Action.{Action, unknown, spawn, open_finish, end, deliver, kill, adopt, cancel, ask, begin, action_of}
use Rattle.rules.specs.Messages.{is_empty, from_slot, message_at, slots_full}
use Rattle.rules.specs.Sound.{sound}
use Rattle.rules.specs.Books.{book_of, column, under_repair}
use Rattle.rules.specs.Closing.{closing_sends}
use Rattle.rules.specs.Spawn.{spawn_wanted}
use Rattle.rules.specs.End.{end_sends, end_wanted}
use Rattle.rules.specs.Cancel.{cancelled}
use Rattle.rules.specs.Deliver.{book_absent, held, deliver_wanted}

-- 7: buffer is not 15,104 bytes, or record is not 4
unfoldable pub wrong_length : List ℕ → List ℕ → Bool
wrong_length t r = some_of (not (eqb (length t) 15104) ∷ not (eqb (length r) 4) ∷ [])

-- 1: kind not 1 to 9, or an operand that must be 0 is not
unfoldable pub no_action : Action → Bool
no_action unknown = true
no_action (spawn k p) = false
no_action (open_finish k) = false
no_action (end k) = false
no_action (deliver s) = false
no_action (kill p) = false
no_action (adopt f) = false
no_action (cancel f v) = false
no_action (ask f v j) = false
no_action (begin n) = false

-- 8: a field breaks its sound range (not tested for begin)
unfoldable pub unsound : List ℕ → Action → Bool
unsound t unknown = false
unsound t (spawn k p) = not (sound t)
unsound t (open_finish k) = not (sound t)
unsound t (end k) = not (sound t)
unsound t (deliver s) = not (sound t)
unsound t (kill p) = not (sound t)
unsound t (adopt f) = not (sound t)
unsound t (cancel f v) = not (sound t)
unsound t (ask f v j) = not (sound t)
unsound t (begin n) = false

-- 2: task or finish not made, place not in the session, slot above 127, begin outside 2 to 8
unfoldable pub not_there : List ℕ → Action → Bool
not_there t unknown = false
not_there t (spawn k p) = not (every (task_made t k ∷ in_session t p ∷ []))
not_there t (open_finish k) = not (task_made t k)
not_there t (end k) = not (task_made t k)
not_there t (deliver s) = ltb 127 s
not_there t (kill p) = not (in_session t p)
not_there t (adopt f) = not (finish_made t f)
not_there t (cancel f v) = not (every (finish_made t f ∷ in_session t v ∷ []))
not_there t (ask f v j) = not (every (finish_made t f ∷ in_session t v ∷ in_session t j ∷ []))
not_there t (begin n) = not (every (leb 2 n ∷ leb n 8 ∷ []))

-- 3: spawn to the task's own place; kill of place 0 or a dead place; cancel of a live place; ask from a live place or to a dead one
unfoldable pub wrong_place : List ℕ → Action → Bool
wrong_place t unknown = false
wrong_place t (spawn k p) = eqb (task_at t k) p
wrong_place t (open_finish k) = false
wrong_place t (end k) = false
wrong_place t (deliver s) = false
wrong_place t (kill p) = some_of (eqb p 0 ∷ dead t p ∷ [])
wrong_place t (adopt f) = false
wrong_place t (cancel f v) = not (dead t v)
wrong_place t (ask f v j) = some_of (not (dead t v) ∷ dead t j ∷ [])
wrong_place t (begin n) = false

-- 4: task not running; slot empty; book absent; adopt not due; cancel while adopt is due or with that column all 0;
-- ask with the cell 0 or already asked
unfoldable pub not_ready : List ℕ → Action → Bool
not_ready t unknown = false
not_ready t (spawn k p) = not (eqb (task_status t k) running)
not_ready t (open_finish k) = not (eqb (task_status t k) running)
not_ready t (end k) = not (eqb (task_status t k) running)
not_ready t (deliver s) = is_empty (from_slot t s) s
not_ready t (kill p) = false
not_ready t (adopt f) = some_of (book_absent t f ∷ eqb (adopt_due t f) 0 ∷ [])
not_ready t (cancel f v) = some_of (book_absent t f ∷ eqb (adopt_due t f) 1 ∷ eqb (column (book_of t f) v) 0 ∷ [])
not_ready t (ask f v j) = some_of (book_absent t f ∷ eqb (live t f v j) 0 ∷ marked (asked_marks t f v) j ∷ [])
not_ready t (begin n) = false

-- 5: deliver of a held message, or ask of a book under repair
unfoldable pub must_wait : List ℕ → Action → Bool
must_wait t unknown = false
must_wait t (spawn k p) = false
must_wait t (open_finish k) = false
must_wait t (end k) = false
must_wait t (deliver s) = held t (message_at t s)
must_wait t (kill p) = false
must_wait t (adopt f) = false
must_wait t (cancel f v) = false
must_wait t (ask f v j) = under_repair (dead_mask t) (book_of t f)
must_wait t (begin n) = false

-- 6: 255 tasks, 32 finishes or 128 messages already, and one more is needed
unfoldable pub no_room : List ℕ → Action → Bool
no_room t unknown = false
no_room t (spawn k p) = some_of (leb 255 (tasks_made t) ∷ slots_full t ∷ [])
no_room t (open_finish k) = some_of (leb 255 (tasks_made t) ∷ leb 32 (finishes_made t) ∷ [])
no_room t (end k) = every (end_sends t k ∷ slots_full t ∷ [])
no_room t (deliver s) = false
no_room t (kill p) = false
no_room t (adopt f) = false
no_room t (cancel f v) = every (closing_sends (cancelled t f v) f ∷ slots_full t ∷ [])
no_room t (ask f v j) = slots_full t
no_room t (begin n) = false

-- 9: a wanted status below is not found, or a count would leave 0 to 255
unfoldable pub unwanted : List ℕ → Action → Bool
unwanted t unknown = false
unwanted t (spawn k p) = not (spawn_wanted t k)
unwanted t (open_finish k) = false
unwanted t (end k) = not (end_wanted t k)
unwanted t (deliver s) = not (deliver_wanted t (message_at t s))
unwanted t (kill p) = false
unwanted t (adopt f) = false
unwanted t (cancel f v) = false
unwanted t (ask f v j) = false
unwanted t (begin n) = false

-- a test and the number that it gives
pub data Check : Type 0 where
  refuse : Bool → ℕ → Check

-- First that applies, in this order; 0 is done.
unfoldable pub first_of : List Check → ℕ
first_of [] = 0
first_of (refuse c n ∷ l) = cond c n (first_of l)

-- the refusals after 7, 1 and 8, in their order
unfoldable pub step_refusals : List ℕ → Action → List Check
step_refusals t x =
    refuse (not_there t x) 2
    ∷ refuse (wrong_place t x) 3
    ∷ refuse (not_ready t x) 4
    ∷ refuse (must_wait t x) 5
    ∷ refuse (no_room t x) 6
    ∷ refuse (unwanted t x) 9
    ∷ []

-- the answer where the lengths, the record and the ranges are right
unfoldable pub step_answer : List ℕ → Action → ℕ
step_answer t x = first_of (step_refusals t x)

unfoldable pub refusals : List ℕ → List ℕ → List Check
refusals t r =
    refuse (wrong_length t r) 7 ∷ refuse (no_action (action_of r)) 1 ∷ refuse (unsound t (action_of r)) 8 ∷ step_refusals t (action_of r)

-- Each returns its number; 0 is done.
unfoldable pub answer : List ℕ → List ℕ → ℕ
answer t r = first_of (refusals t r)
