-- The steps, begin: clears all; task 1 runs at place 0 as main task of finish 1, active.
use Rattle.std.specs.Prelude.{List, [], ◌∷◌, ℕ, replicate}
use Rattle.tables.specs.Bytes.{write}
use Rattle.tables.specs.Layout.{place, task_row, finish_row}
use Rattle.rules.specs.Fields.{running, active}

-- 15,104 bytes, all 0
unfoldable pub zero_tables : List ℕ
zero_tables = replicate 15104 0

-- Row 0: n places, none dead, one task and one finish made; task 1; finish 1 with opener and parent 0.
unfoldable pub begin_step : ℕ → List ℕ
begin_step n =
    write
    (write (write zero_tables (place 0 0) (n ∷ 0 ∷ 1 ∷ 1 ∷ 0 ∷ 0 ∷ 0 ∷ 0 ∷ [])) (place (task_row 1) 0) (0 ∷ 0 ∷ 1 ∷ running ∷ 0 ∷ 0 ∷ 0 ∷ 0 ∷ []))
    (place (finish_row 1) 0)
    (0 ∷ 0 ∷ 0 ∷ active ∷ 0 ∷ 1 ∷ 0 ∷ 0 ∷ [])
