-- The steps, open: the task blocks; a new active finish is homed at its place, with a running main task, from and at that place.
use Rattle.std.specs.Prelude.{List, [], ◌∷◌, ℕ, ◌+◌, set}
use Rattle.tables.specs.Bytes.{write}
use Rattle.tables.specs.Layout.{place, task_row, finish_row}
use Rattle.rules.specs.Fields.{tasks_made, finishes_made, task_at, task_finish, with_task_status, blocked, running, active}

-- task k at p, of finish q, opens finish g with main task n
unfoldable pub opened : List ℕ → ℕ → ℕ → ℕ → ℕ → ℕ → List ℕ
opened t k p q n g =
    write
    (write (set (set (with_task_status t k blocked) 2 n) 3 g) (place (task_row n) 0) (p ∷ p ∷ g ∷ running ∷ 0 ∷ k ∷ 0 ∷ 0 ∷ []))
    (place (finish_row g) 0)
    (p ∷ k ∷ q ∷ active ∷ 0 ∷ n ∷ 0 ∷ 0 ∷ [])

-- Parent is the opener's finish.
unfoldable pub open_step : List ℕ → ℕ → List ℕ
open_step t k = opened t k (task_at t k) (task_finish t k) (tasks_made t + 1) (finishes_made t + 1)
