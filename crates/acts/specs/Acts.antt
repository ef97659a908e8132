-- What a running task does next. "Task 1 is at level 1. A task below the last level spawns width children, each to its place plus one
-- modulo the place count, then ends." All of it is read from the tables: who spawned whom stands in the rows of tasks.
use Rattle.std.specs.Prelude.{Bool, cond, List, [], ◌∷◌, ℕ, ◌+◌, ◌%◌, eqb, ltb, leb, Option}
use Rattle.tables.specs.Walks.{every}
use Rattle.rules.specs.Fields.{tasks_made, task_at, task_status, task_maker, running}
use Rattle.fields.specs.Numbers.{given}
use Rattle.plan.specs.declared.Plan.{Plan}
use Rattle.plan.specs.Tree.{level_of, children_of}
use Rattle.acts.specs.First.{first_from}

-- who spawned task k; 0 for task 1
abbrev pub spawner : List ℕ → ℕ → ℕ
spawner t k = task_maker t k

-- a task below the last level that has not spawned all its children
unfoldable pub spawns_more : Plan → List ℕ → ℕ → Bool
spawns_more p t k =
    every (ltb (level_of (spawner t) p.levels k) p.levels ∷ ltb (children_of (spawner t) (tasks_made t) k) p.width ∷ [])

-- task k's next act, as a record: a spawn, or its end
unfoldable pub next_act : Plan → List ℕ → ℕ → List ℕ
next_act p t k = cond (spawns_more p t k) (1 ∷ k ∷ (task_at t k + 1) % p.places ∷ 0 ∷ []) (3 ∷ k ∷ 0 ∷ 0 ∷ [])

-- the lowest running task, or the number after the last task
unfoldable pub lowest_running : List ℕ → ℕ
lowest_running t = first_from (λ k. eqb (task_status t k) running) 1 (tasks_made t)

-- the same, where a task runs
unfoldable pub running_task : List ℕ → Option ℕ
running_task t = given (leb (lowest_running t) (tasks_made t)) (lowest_running t)

-- "the lowest running task's next act"; no record where none runs
unfoldable pub act_of : Plan → List ℕ → List ℕ
act_of p t = cond (leb (lowest_running t) (tasks_made t)) (next_act p t (lowest_running t)) []
