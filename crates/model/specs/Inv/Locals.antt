-- Local books.
use Rattle.std.specs.Prelude.{◌≡◌, true, false, ℕ, ◌≤◌, ◌<◌}
use Rattle.model.specs.Base.{is₃}
use Rattle.model.specs.State.{State}
use Rattle.model.specs.Messages.{reports}
use Rattle.model.specs.Weights.{tasks_with}

-- L1: the live count of f at j is #{tasks with sent 1, finish f, at j, status 5 or 6}; so it is 0 at a dead place.
abbrev pub LocalLive : State → Type 0
LocalLive s = (f j : ℕ) → s.locals.live f j ≡ tasks_with s (λ t. is₃ (s.tasks.sent t) (s.tasks.finish t) (s.tasks.at t) 1 f j) 5 6

-- L2: P ≤ R for each sender.
abbrev pub ReportedMost : State → Type 0
ReportedMost s = (f j i : ℕ) → s.locals.reported f j i ≤ s.locals.received f j i

-- L2: live = 0 exactly when P = R for every sender.
abbrev pub Pending : State → Type 0
Pending s = (f j : ℕ) → 0 < s.locals.live f j → (i : ℕ) × (s.locals.reported f j i < s.locals.received f j i)

abbrev pub Unreported : State → Type 0
Unreported s = (f j i : ℕ) → s.locals.reported f j i < s.locals.received f j i → 0 < s.locals.live f j

-- What reports carry was reported: so that live ≤ sent, and no count leaves 0 to 255.
abbrev pub ReportsMost : State → Type 0
ReportsMost s = (f i j : ℕ) → s.dead j ≡ false → (i ≡ j → ⊥) → reports s f i j ≤ s.locals.reported f j i

-- L3: a denied sender is dead.
abbrev pub DeniedDead : State → Type 0
DeniedDead s = (f j i : ℕ) → s.locals.denied f j i ≡ true → s.dead i ≡ true

-- C: no book of f → its live count is 0 at every place.
abbrev pub LocalBook : State → Type 0
LocalBook s = (f j : ℕ) → 0 < s.locals.live f j → s.books.present f ≡ 1
