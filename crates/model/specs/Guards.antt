-- What the guards of steps say.
use Rattle.std.specs.Prelude.{◌≡◌, ◌⊎◌, true, false, ℕ, ◌≤◌, ◌<◌}
use Rattle.model.specs.State.{State}
use Rattle.model.specs.Nesting.{Nearest}

-- Task t is made and running.
pub record Runs (s : State) (t : ℕ) : Type 0 where
  pub low : 0 < t
  pub high : t ≤ s.tasks.made
  pub running : s.tasks.status t ≡ 5

-- Finish f is made and has a book.
pub record HasBook (s : State) (f : ℕ) : Type 0 where
  pub low : 0 < f
  pub high : f ≤ s.finishes.made
  pub present : s.books.present f ≡ 1

-- Slot k is empty.
pub record Free (s : State) (k : ℕ) : Type 0 where
  pub range : k < s.slots
  pub tag : (s.slot k).tag ≡ 0

-- Slot k has a message of tag n.
pub record Full (s : State) (k n : ℕ) : Type 0 where
  pub range : k < s.slots
  pub tag : (s.slot k).tag ≡ n

-- Wanted: an opener or spawner about to run, blocked (0 is none).
abbrev pub MayRun : State → ℕ → Type 0
MayRun s o = 0 < o → s.tasks.status o ≡ 6

-- A book is under repair when adopt is due or a dead place's column is not all 0; this one is not.
pub record Repaired (s : State) (f : ℕ) : Type 0 where
  pub due : s.books.due f ≡ 0
  pub columns : (v i : ℕ) → s.dead v ≡ true → s.books.live f i v ≡ 0

-- Adopt is not due.
abbrev pub NotDue : State → ℕ → Type 0
NotDue s f = s.books.due f ≡ 0

-- The pair is not asked already.
abbrev pub Unasked : State → ℕ → ℕ → ℕ → Type 0
Unasked s f v j = s.books.asked f v j ≡ false

-- The parent recorded: the nearest ancestor with a book, or 0.
abbrev pub NearestBook : State → ℕ → ℕ → Type 0
NearestBook s f q = Nearest s.finishes.parent s.books.present (s.finishes.parent f) q

-- At the store, 3 and 7 from a dead place, 11 answered by a dead place, and 3, 7, 9, 11 with no book are discarded. 1, home dead: discard.
pub data Discarded (s : State) (k : ℕ) : Type 0 where
  publish_lost : (s.slot k).tag ≡ 1 → s.dead (s.finishes.home (s.slot k).finish) ≡ true → Discarded s k
  transit_lost : (s.slot k).tag ≡ 3 → (s.dead (s.slot k).from ≡ true) ⊎ (s.books.present (s.slot k).finish ≡ 0) → Discarded s k
  report_lost : (s.slot k).tag ≡ 7 → (s.dead (s.slot k).from ≡ true) ⊎ (s.books.present (s.slot k).finish ≡ 0) → Discarded s k
  ghost_lost : (s.slot k).tag ≡ 9 → s.books.present (s.slot k).finish ≡ 0 → Discarded s k
  answer_lost : (s.slot k).tag ≡ 11 → (s.dead (s.slot k).to ≡ true) ⊎ (s.books.present (s.slot k).finish ≡ 0) → Discarded s k
