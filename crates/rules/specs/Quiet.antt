-- What a host reads of the tables: running tasks, messages in flight, and whether the session is quiet.
use Rattle.std.specs.Prelude.{Bool, true, cond, not, List, [], ◌∷◌, ℕ, eqb, drop, take}
use Rattle.tables.specs.Bytes.{byte}
use Rattle.tables.specs.Walks.{every, every_part, count_parts}
use Rattle.tables.specs.Layout.{place, task_row}
use Rattle.rules.specs.Fields.{places, dead_mask, tasks_made, running, book_place}
use Rattle.rules.specs.Books.{under_repair, owes}
use Rattle.rules.specs.Messages.{is_empty, slot_place}

-- running tasks
unfoldable pub is_running : List ℕ → ℕ → Bool
is_running m k = eqb (byte m 3) running

unfoldable pub running_tasks : List ℕ → ℕ
running_tasks t = count_parts is_running 8 1 (tasks_made t) (drop (place (task_row 1) 0) t)

-- messages in flight
unfoldable pub is_full : List ℕ → ℕ → Bool
is_full m s = not (is_empty m s)

unfoldable pub messages_in_flight : List ℕ → ℕ
messages_in_flight t = count_parts is_full 16 0 128 (drop (slot_place 0) t)

-- a book that is not present, or not under repair and with no count owed
unfoldable pub calm_book : ℕ → ℕ → List ℕ → ℕ → Bool
calm_book ps d m f = cond (eqb (byte m 0) 0) true (every (not (under_repair d (take 144 m)) ∷ not (owes ps d (take 144 m)) ∷ []))

-- Demand 3's quiet session: no message in flight, no book under repair, no count owed.
unfoldable pub quiet : List ℕ → Bool
quiet t =
    every (eqb (messages_in_flight t) 0 ∷ every_part (calm_book (places t) (dead_mask t)) 144 1 32 (drop (book_place 1) t) ∷ [])
