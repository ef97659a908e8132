-- The steps, spawn: the task blocks; the new task is from its place to b.
use Rattle.std.specs.Prelude.{Bool, true, cond, List, [], ◌∷◌, ℕ, ◌+◌, eqb, set}
use Rattle.tables.specs.Bytes.{write}
use Rattle.tables.specs.Walks.{every}
use Rattle.tables.specs.Layout.{place, task_row}
use Rattle.rules.specs.Fields.{tasks_made, task_at, task_finish, is_published, finish_status, is_main, with_task_status, with_finish_status, blocked, waits_for_publish, waits_for_transit, active, publishing}
use Rattle.rules.specs.Messages.{publish, transit, send, lowest_empty}

-- the task blocks; task n, of finish f, is from its place v to p
unfoldable pub with_sent : List ℕ → ℕ → ℕ → ℕ → ℕ → ℕ → ℕ → List ℕ
with_sent t k n v p f status =
    write (set (with_task_status t k blocked) 2 n) (place (task_row n) 0) (v ∷ p ∷ f ∷ status ∷ 1 ∷ k ∷ 0 ∷ 0 ∷ [])

-- A main task whose finish is unpublished: finish publishing, new task status 1, publish (1) sent.
unfoldable pub first_spawn : List ℕ → ℕ → ℕ → ℕ → ℕ → ℕ → ℕ → List ℕ
first_spawn t k n v p f s = send (with_finish_status (with_sent t k n v p f waits_for_publish) f publishing) s (publish f n)

-- Otherwise status 2, transit (3).
unfoldable pub later_spawn : List ℕ → ℕ → ℕ → ℕ → ℕ → ℕ → ℕ → List ℕ
later_spawn t k n v p f s = send (with_sent t k n v p f waits_for_transit) s (transit f n v p)

unfoldable pub is_first : List ℕ → ℕ → Bool
is_first t k = every (is_main t k ∷ eqb (is_published t (task_finish t k)) 0 ∷ [])

unfoldable pub spawn_step : List ℕ → ℕ → ℕ → List ℕ
spawn_step t k p =
    cond (is_first t k) (first_spawn t k (tasks_made t + 1) (task_at t k) p (task_finish t k) (lowest_empty t))
    (later_spawn t k (tasks_made t + 1) (task_at t k) p (task_finish t k) (lowest_empty t))

-- Wanted: for a main task's spawn, its finish active.
unfoldable pub spawn_wanted : List ℕ → ℕ → Bool
spawn_wanted t k = cond (is_main t k) (eqb (finish_status t (task_finish t k)) active) true
