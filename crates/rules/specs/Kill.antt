-- The steps, kill: what the loss of place p does to each row.
use Rattle.std.specs.Prelude.{Bool, cond, not, List, [], ◌∷◌, ℕ, ◌%◌, eqb, set, replicate}
use Rattle.tables.specs.Bytes.{byte}
use Rattle.tables.specs.Bits.{with_mark}
use Rattle.tables.specs.Walks.{every, some_of, change_parts}
use Rattle.tables.specs.Layout.{place, task_row, finish_row, local_row}
use Rattle.rules.specs.Fields.{dead_mask, tasks_made, finishes_made, book_place, waits_for_publish, waits_for_transit, running, blocked, task_lost, released, finish_lost}
use Rattle.rules.specs.Books.{column}
use Rattle.rules.specs.Messages.{message_in, goes_to, slot_place}

-- Tasks at the place running or blocked, and tasks from it waiting (1, 2), are lost.
unfoldable pub loses_task : ℕ → ℕ → ℕ → ℕ → Bool
loses_task p from at status =
    some_of
    (every (eqb at p ∷ some_of (eqb status running ∷ eqb status blocked ∷ []) ∷ [])
    ∷ every (eqb from p ∷ some_of (eqb status waits_for_publish ∷ eqb status waits_for_transit ∷ []) ∷ [])
    ∷ [])

unfoldable pub kill_task : ℕ → List ℕ → ℕ → List ℕ
kill_task p m k = set m 3 (cond (loses_task p (byte m 0) (byte m 1) (byte m 3)) task_lost (byte m 3))

-- Unreleased finishes homed there are lost.
unfoldable pub loses_finish : ℕ → ℕ → ℕ → Bool
loses_finish p home status = every (eqb home p ∷ not (eqb status released) ∷ [])

unfoldable pub kill_finish : ℕ → List ℕ → ℕ → List ℕ
kill_finish p m f = set m 3 (cond (loses_finish p (byte m 0) (byte m 3)) finish_lost (byte m 3))

-- Every present book with a live count in its column has adopt due.
unfoldable pub kill_book : ℕ → List ℕ → ℕ → List ℕ
kill_book p m f = set m 2 (cond (every (eqb (byte m 0) 1 ∷ not (eqb (column m p) 0) ∷ [])) 1 (byte m 2))

-- Its local books become 0, those of all 32 finishes; local book 8(f − 1) + p is that of f at p.
unfoldable pub kill_local : ℕ → List ℕ → ℕ → List ℕ
kill_local p m y = cond (eqb (y % 8) p) (replicate 24 0) m

-- Messages going to it vanish.
unfoldable pub kill_slot : List ℕ → ℕ → List ℕ → ℕ → List ℕ
kill_slot t p m s = cond (eqb (goes_to t (message_in m)) p) (replicate 16 0) m

-- The place is dead from now on (bit p); only made tasks and finishes change status.
unfoldable pub kill_step : List ℕ → ℕ → List ℕ
kill_step t p =
    change_parts (kill_task p) 8 1 (tasks_made t) (place (task_row 1) 0)
    (change_parts (kill_finish p) 8 1 (finishes_made t) (place (finish_row 1) 0)
    (change_parts (kill_book p) 144 1 32 (book_place 1)
    (change_parts (kill_local p) 24 0 256 (place (local_row 1 0) 0)
    (change_parts (kill_slot t p) 16 0 128 (slot_place 0)
    (set t 1 (with_mark (dead_mask t) p))))))
