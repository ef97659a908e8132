-- Rows: places, tasks and finishes. Letters are those of docs/INVARIANT.md.
use Rattle.std.specs.Prelude.{◌≡◌, true, ℕ, ◌≤◌, ◌<◌}
use Rattle.model.specs.State.{State}

-- Places 2 or more; only session places above 0 are dead.
abbrev pub Places : State → Type 0
Places s = 2 ≤ s.places

abbrev pub DeadPlaces : State → Type 0
DeadPlaces s = (p : ℕ) → s.dead p ≡ true → (0 < p) × (p < s.places)

-- T: a made task's from and at are places, its finish is made, its maker is below it, sent is a mark.
abbrev pub TaskRanges : State → Type 0
TaskRanges s = (t : ℕ) → 0 < t → t ≤ s.tasks.made
    → (s.tasks.from t < s.places) × (s.tasks.at t < s.places) × (0 < s.tasks.finish t) × (s.tasks.finish t ≤ s.finishes.made)
    × (s.tasks.sent t ≤ 1) × (s.tasks.maker t < t)

-- T, sent 0: from = at = home of its finish, it is its finish's main task, its opener is the finish's.
abbrev pub MainTasks : State → Type 0
MainTasks s = (t : ℕ) → 0 < t → t ≤ s.tasks.made → s.tasks.sent t ≡ 0
    → (s.tasks.from t ≡ s.tasks.at t) × (s.tasks.at t ≡ s.finishes.home (s.tasks.finish t))
    × (s.finishes.main (s.tasks.finish t) ≡ t) × (s.tasks.maker t ≡ s.finishes.opener (s.tasks.finish t))

-- T, sent 1: its spawner is not 0, from = at of the spawner, finish that of the spawner, from ≠ at.
abbrev pub SentTasks : State → Type 0
SentTasks s = (t : ℕ) → s.tasks.sent t ≡ 1
    → (0 < s.tasks.maker t) × (s.tasks.from t ≡ s.tasks.at (s.tasks.maker t)) × (s.tasks.finish t ≡ s.tasks.finish (s.tasks.maker t))
    × (s.tasks.from t ≡ s.tasks.at t → ⊥)

-- T: a made task's status is 1 to 8, a main task's 5 to 8.
abbrev pub TaskStatuses : State → Type 0
TaskStatuses s = (t : ℕ) → 0 < t → t ≤ s.tasks.made → (0 < s.tasks.status t) × (s.tasks.status t ≤ 8)

abbrev pub MainStatuses : State → Type 0
MainStatuses s = (t : ℕ) → 0 < t → t ≤ s.tasks.made → s.tasks.sent t ≡ 0 → 5 ≤ s.tasks.status t

-- 0: tasks not made have status and sent 0.
abbrev pub StatusMade : State → Type 0
StatusMade s = (t : ℕ) → 0 < s.tasks.status t → (0 < t) × (t ≤ s.tasks.made)

abbrev pub SentMade : State → Type 0
SentMade s = (t : ℕ) → 0 < s.tasks.sent t → (0 < t) × (t ≤ s.tasks.made)

-- F: a made finish's home is a place, its opener is below its main task, which is made, its parent is below it.
abbrev pub FinishRanges : State → Type 0
FinishRanges s = (f : ℕ) → 0 < f → f ≤ s.finishes.made
    → (s.finishes.home f < s.places) × (s.finishes.opener f < s.finishes.main f) × (s.finishes.parent f < f) × (s.finishes.main f ≤ s.tasks.made)

-- F, f = 1: home, opener, parent 0, main 1.
abbrev pub Root : State → Type 0
Root s = (1 ≤ s.finishes.made) × (s.finishes.home 1 ≡ 0) × (s.finishes.opener 1 ≡ 0) × (s.finishes.parent 1 ≡ 0) × (s.finishes.main 1 ≡ 1)

-- F, f ≥ 2: opener not 0, home = at of the opener, parent = finish of the opener.
abbrev pub Opened : State → Type 0
Opened s = (f : ℕ) → 1 < f → f ≤ s.finishes.made
    → (0 < s.finishes.opener f) × (s.finishes.home f ≡ s.tasks.at (s.finishes.opener f)) × (s.finishes.parent f ≡ s.tasks.finish (s.finishes.opener f))

-- F: the main task of f is of f and has sent 0.
abbrev pub Mains : State → Type 0
Mains s = (f : ℕ) → 0 < f → f ≤ s.finishes.made → (s.tasks.finish (s.finishes.main f) ≡ f) × (s.tasks.sent (s.finishes.main f) ≡ 0)

-- F: a made finish's status is 1 to 5; published is a mark.
abbrev pub FinishStatuses : State → Type 0
FinishStatuses s = (f : ℕ) → 0 < f → f ≤ s.finishes.made → (0 < s.finishes.status f) × (s.finishes.status f ≤ 5)

abbrev pub PublishedMark : State → Type 0
PublishedMark s = (f : ℕ) → s.finishes.published f ≤ 1

-- 0: finishes not made have status, published, home and parent 0.
abbrev pub FinishMade : State → Type 0
FinishMade s = (f : ℕ) → 0 < s.finishes.status f → (0 < f) × (f ≤ s.finishes.made)

abbrev pub PublishedMade : State → Type 0
PublishedMade s = (f : ℕ) → 0 < s.finishes.published f → (0 < f) × (f ≤ s.finishes.made)

abbrev pub BlankFinishes : State → Type 0
BlankFinishes s = (f : ℕ) → (0 < f → f ≤ s.finishes.made → ⊥) → (s.finishes.home f ≡ 0) × (s.finishes.parent f ≡ 0)
