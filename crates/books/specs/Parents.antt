-- What a climb over parents rests on: a finish's parent is below its own number.
use Rattle.std.specs.Prelude.{List, ℕ, ◌≤◌, ◌<◌}
use Rattle.rules.specs.Fields.{finishes_made, parent}

-- At most 32 finishes are made, and each one's parent is below it.
unfoldable pub ParentsFall : List ℕ → Type 0
ParentsFall t = (finishes_made t ≤ 32) × ((g : ℕ) → 1 ≤ g → g ≤ finishes_made t → parent t g < g)
