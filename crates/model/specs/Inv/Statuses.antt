-- Statuses of finishes and tasks, and why a task is blocked.
use Rattle.std.specs.Prelude.{◌≡◌, true, false, ℕ, ◌+◌, ◌≤◌, ◌<◌, eqb}
use Rattle.model.specs.Base.{is₂}
use Rattle.model.specs.State.{State}
use Rattle.model.specs.Weights.{weigh, tasks_with, finishes_with}

-- S1, active: home alive, main task 5 or 6.
abbrev pub Active : State → Type 0
Active s = (f : ℕ) → s.finishes.status f ≡ 1
    → (s.dead (s.finishes.home f) ≡ false) × (5 ≤ s.tasks.status (s.finishes.main f)) × (s.tasks.status (s.finishes.main f) ≤ 6)

-- S1, publishing: home alive, unpublished, main task 6.
abbrev pub Publishing : State → Type 0
Publishing s = (f : ℕ) → s.finishes.status f ≡ 2
    → (s.dead (s.finishes.home f) ≡ false) × (s.finishes.published f ≡ 0) × (s.tasks.status (s.finishes.main f) ≡ 6)

-- S1, waits for release: home alive, published, main task 7.
abbrev pub Waiting : State → Type 0
Waiting s = (f : ℕ) → s.finishes.status f ≡ 3
    → (s.dead (s.finishes.home f) ≡ false) × (s.finishes.published f ≡ 1) × (s.tasks.status (s.finishes.main f) ≡ 7)

-- S1, released: main task 7.
abbrev pub Released : State → Type 0
Released s = (f : ℕ) → s.finishes.status f ≡ 4 → s.tasks.status (s.finishes.main f) ≡ 7

-- S1, lost: home dead, main task 7 or 8.
abbrev pub Lost : State → Type 0
Lost s = (f : ℕ) → s.finishes.status f ≡ 5 → (s.dead (s.finishes.home f) ≡ true) × (7 ≤ s.tasks.status (s.finishes.main f))

-- S1: a dead home has 4 or 5.
abbrev pub DeadHome : State → Type 0
DeadHome s = (f : ℕ) → 0 < f → f ≤ s.finishes.made → s.dead (s.finishes.home f) ≡ true → 4 ≤ s.finishes.status f

-- S2: no task at a dead place has 5 or 6.
abbrev pub Busy : State → Type 0
Busy s = (t : ℕ) → 5 ≤ s.tasks.status t → s.tasks.status t ≤ 6 → s.dead (s.tasks.at t) ≡ false

-- S2: none from a dead place has 1 or 2.
abbrev pub Waiters : State → Type 0
Waiters s = (t : ℕ) → 1 ≤ s.tasks.status t → s.tasks.status t ≤ 2 → s.dead (s.tasks.from t) ≡ false

-- S2: a lost task has a dead from or at.
abbrev pub LostTasks : State → Type 0
LostTasks s = (t : ℕ) → s.tasks.status t ≡ 8 → s.dead (s.tasks.from t) ≡ false → s.dead (s.tasks.at t) ≡ true

-- S3: a sent task of an unpublished finish waits for publish while the finish is publishing, its spawner the main task;
abbrev pub FirstTask : State → Type 0
FirstTask s = (t : ℕ) → s.tasks.sent t ≡ 1 → s.finishes.published (s.tasks.finish t) ≡ 0 → (s.finishes.status (s.tasks.finish t) ≡ 5 → ⊥)
    → (s.finishes.status (s.tasks.finish t) ≡ 2) × (s.tasks.status t ≡ 1) × (s.tasks.maker t ≡ s.finishes.main (s.tasks.finish t))

-- or, when that finish is lost, is lost.
abbrev pub FirstLost : State → Type 0
FirstLost s = (t : ℕ) → s.tasks.sent t ≡ 1 → s.finishes.published (s.tasks.finish t) ≡ 0 → s.finishes.status (s.tasks.finish t) ≡ 5 → s.tasks.status t ≡ 8

-- B: a task is blocked by exactly one waiting task that it spawned, or one unreleased finish with a live home that it opened;
-- a task that is not blocked by none.
abbrev pub Blocked : State → Type 0
Blocked s = (b : ℕ) → 0 < b
    → weigh true 6 6 (s.tasks.status b)
    ≡ tasks_with s (λ t. is₂ (s.tasks.sent t) (s.tasks.maker t) 1 b) 1 2 + finishes_with s (λ f. eqb (s.finishes.opener f) b) 1 3
