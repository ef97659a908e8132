-- What sound tables say of a made task: its finish is one of the 32, its place one of the 8.
use Rattle.std.specs.Prelude.{◌≡◌, true, List, ℕ, ◌≤◌, ◌<◌}
use Rattle.rules.specs.Fields.{task_at, task_finish, task_made}

-- the finish of task k is from 1 to 32, and its place below 8
abbrev pub HasBook : List ℕ → ℕ → Type 0
HasBook t k = ((1 ≤ task_finish t k) × (task_finish t k ≤ 32)) × (task_at t k < 8)

abbrev pub EndsInside : List ℕ → ℕ → Type 0
EndsInside t k = task_made t k ≡ true → HasBook t k
