-- The steps as a relation: one constructor for each rule, with the guards that a taken rule has passed. A new message takes any empty slot k.
use Rattle.std.specs.Prelude.{◌≡◌, true, false, ℕ, ◌≤◌, ◌<◌}
use Rattle.model.specs.State.{State}
use Rattle.model.specs.Guards.{Runs, HasBook, Free, Full, MayRun, Repaired, NotDue, Unasked, NearestBook, Discarded}
use Rattle.model.specs.Effects.Begin.{begun}
use Rattle.model.specs.Effects.Spawn.{spawn_first, spawn_later}
use Rattle.model.specs.Effects.Open.{open_finish}
use Rattle.model.specs.Effects.End.{end_unpublished, end_published, end_other, end_last}
use Rattle.model.specs.Effects.Kill.{kill}
use Rattle.model.specs.Effects.Repair.{adopt, cancel, ask}
use Rattle.model.specs.Effects.Closing.{Closing}
use Rattle.model.specs.Effects.Deliver.{empty, deliver_publish, deliver_published, deliver_transit, refuse_transit, deliver_granted, lose_granted, deliver_denied, deliver_task, deliver_report, deliver_release, deliver_ghost_ended, deliver_count_dropped, deliver_dropped}

-- spawn: to another place; a main task's finish active. First: a main task whose finish is unpublished
pub data Spawn (s : State) (t p : ℕ) : State → Type 0 where
  spawns_first : (k : ℕ) → Runs s t → p < s.places → (s.tasks.at t ≡ p → ⊥) → Free s k
      → s.tasks.sent t ≡ 0 → s.finishes.published (s.tasks.finish t) ≡ 0 → s.finishes.status (s.tasks.finish t) ≡ 1
      → Spawn s t p (spawn_first s t p k)
  spawns_later : (k : ℕ) → Runs s t → p < s.places → (s.tasks.at t ≡ p → ⊥) → Free s k
      → (s.tasks.sent t ≡ 0 → (s.finishes.published (s.tasks.finish t) ≡ 0 → ⊥) × (s.finishes.status (s.tasks.finish t) ≡ 1))
      → Spawn s t p (spawn_later s t p k)

pub data End (s : State) (t : ℕ) : State → Type 0 where
  -- end of a main task: its finish active; unpublished, an opener about to run is blocked
  ends_unpublished : Runs s t → s.tasks.sent t ≡ 0
      → s.finishes.published (s.tasks.finish t) ≡ 0 → s.finishes.status (s.tasks.finish t) ≡ 1 → MayRun s (s.finishes.opener (s.tasks.finish t))
      → End s t (end_unpublished s t)
  ends_published : (k : ℕ) → Runs s t → s.tasks.sent t ≡ 0
      → (s.finishes.published (s.tasks.finish t) ≡ 0 → ⊥) → s.finishes.status (s.tasks.finish t) ≡ 1 → Free s k
      → End s t (end_published s t k)
  -- end of another task
  ends_other : Runs s t → (s.tasks.sent t ≡ 0 → ⊥) → 1 < s.locals.live (s.tasks.finish t) (s.tasks.at t) → End s t (end_other s t)
  ends_last : (k : ℕ) → Runs s t → (s.tasks.sent t ≡ 0 → ⊥) → s.locals.live (s.tasks.finish t) (s.tasks.at t) ≡ 1 → Free s k
      → ((i : ℕ) → s.locals.reported (s.tasks.finish t) (s.tasks.at t) i ≤ s.locals.received (s.tasks.finish t) (s.tasks.at t) i)
      → End s t (end_last s t k)

-- kill of a live place above 0
pub data Kill (s : State) (p : ℕ) : State → Type 0 where
  kills : 0 < p → p < s.places → s.dead p ≡ false → Kill s p (kill s p)

-- what is done to messages and books alone: adopt, cancel, ask and deliver
pub data Settle (s : State) : State → Type 0 where
  -- adopt that is due
  adopts : (f : ℕ) → HasBook s f → s.books.due f ≡ 1 → Settle s (adopt s f)
  -- cancel of a dead place's column that is not all 0, adopt not due
  cancels : (f v k i : ℕ) {s' : State} → HasBook s f → v < s.places → s.dead v ≡ true → NotDue s f → 0 < s.books.live f i v
      → Closing (cancel s f v) f k s' → Settle s s'
  -- ask from a dead place to a live one, the cell not 0 and not asked, the book not under repair
  asks : (f v j k : ℕ) → HasBook s f → v < s.places → j < s.places → s.dead v ≡ true → s.dead j ≡ false
      → 0 < s.books.live f v j → Unasked s f v j → Repaired s f → Free s k
      → Settle s (ask s f v j k)
  -- deliver of a message that the store discards
  discards : (k : ℕ) → k < s.slots → Discarded s k → Settle s (empty s k)
  -- 1: home alive, finish publishing, book absent
  delivers_publish : (k q : ℕ) → Full s k 1 → s.dead (s.finishes.home (s.slot k).finish) ≡ false
      → s.finishes.status (s.slot k).finish ≡ 2 → s.books.present (s.slot k).finish ≡ 0
      → NearestBook s (s.slot k).finish q
      → Settle s (deliver_publish s k q)
  -- 2: home alive, finish publishing, task status 1
  delivers_published : (k : ℕ) → Full s k 2 → s.dead (s.finishes.home (s.slot k).finish) ≡ false
      → s.finishes.status (s.slot k).finish ≡ 2 → s.tasks.status (s.slot k).task ≡ 1
      → Settle s (deliver_published s k)
  -- 3: from alive, book present and not under repair; to alive, or dead
  delivers_transit : (k : ℕ) → Full s k 3 → s.dead (s.slot k).from ≡ false → s.books.present (s.slot k).finish ≡ 1 → Repaired s (s.slot k).finish
      → s.dead (s.slot k).to ≡ false → Settle s (deliver_transit s k)
  refuses_transit : (k : ℕ) → Full s k 3 → s.dead (s.slot k).from ≡ false → s.books.present (s.slot k).finish ≡ 1 → Repaired s (s.slot k).finish
      → s.dead (s.slot k).to ≡ true → Settle s (refuse_transit s k)
  -- 4: from alive, task status 2, its spawner blocked; to alive, or dead
  delivers_granted : (k : ℕ) → Full s k 4 → s.dead (s.slot k).from ≡ false
      → s.tasks.status (s.slot k).task ≡ 2 → MayRun s (s.tasks.maker (s.slot k).task)
      → s.dead (s.slot k).to ≡ false → Settle s (deliver_granted s k)
  loses_granted : (k : ℕ) → Full s k 4 → s.dead (s.slot k).from ≡ false
      → s.tasks.status (s.slot k).task ≡ 2 → MayRun s (s.tasks.maker (s.slot k).task)
      → s.dead (s.slot k).to ≡ true → Settle s (lose_granted s k)
  -- 5: from alive, task status 2, its spawner blocked
  delivers_denied : (k : ℕ) → Full s k 5 → s.dead (s.slot k).from ≡ false
      → s.tasks.status (s.slot k).task ≡ 2 → MayRun s (s.tasks.maker (s.slot k).task)
      → Settle s (deliver_denied s k)
  -- 6: to alive; not denied, task status 3; sender in deny mask: nothing
  delivers_task : (k : ℕ) → Full s k 6 → s.dead (s.slot k).to ≡ false → s.locals.denied (s.slot k).finish (s.slot k).to (s.slot k).from ≡ false
      → s.tasks.status (s.slot k).task ≡ 3 → Settle s (deliver_task s k)
  refuses_task : (k : ℕ) → Full s k 6 → s.dead (s.slot k).to ≡ false → s.locals.denied (s.slot k).finish (s.slot k).to (s.slot k).from ≡ true
      → Settle s (empty s k)
  -- 7: from alive, book present and not under repair, no count below 0
  delivers_report : (k : ℕ) {s' : State} → Full s k 7 → s.dead (s.slot k).from ≡ false → s.books.present (s.slot k).finish ≡ 1 → Repaired s (s.slot k).finish
      → ((i : ℕ) → (s.slot k).counts i ≤ s.books.live (s.slot k).finish i (s.slot k).from)
      → Closing (deliver_report s k) (s.slot k).finish k s' → Settle s s'
  -- 8: home alive, finish waits for release, an opener about to run is blocked
  delivers_release : (k : ℕ) → Full s k 8 → s.dead (s.finishes.home (s.slot k).finish) ≡ false
      → s.finishes.status (s.slot k).finish ≡ 3 → MayRun s (s.finishes.opener (s.slot k).finish)
      → Settle s (deliver_release s k)
  -- 9: book present and not under repair
  delivers_ghost_ended : (k : ℕ) {s' : State} → Full s k 9 → s.books.present (s.slot k).finish ≡ 1 → Repaired s (s.slot k).finish
      → Closing (deliver_ghost_ended s k) (s.slot k).finish k s' → Settle s s'
  -- 10: to alive, number not below received
  delivers_count_dropped : (k : ℕ) → Full s k 10 → s.dead (s.slot k).to ≡ false
      → s.locals.received (s.slot k).finish (s.slot k).to (s.slot k).from ≤ (s.slot k).number
      → Settle s (deliver_count_dropped s k)
  -- 11: to alive, book present, no count below 0
  delivers_dropped : (k : ℕ) {s' : State} → Full s k 11 → s.dead (s.slot k).to ≡ false → s.books.present (s.slot k).finish ≡ 1
      → (s.slot k).number ≤ s.books.live (s.slot k).finish (s.slot k).from (s.slot k).to
      → Closing (deliver_dropped s k) (s.slot k).finish k s' → Settle s s'

-- every rule but begin
pub data Move (s : State) : State → Type 0 where
  spawns : (t p : ℕ) {s' : State} → Spawn s t p s' → Move s s'
  -- open a finish
  opens : (t : ℕ) → Runs s t → Move s (open_finish s t)
  ends : (t : ℕ) {s' : State} → End s t s' → Move s s'
  loses : (p : ℕ) {s' : State} → Kill s p s' → Move s s'
  settles : {s' : State} → Settle s s' → Move s s'

-- Begin takes any state: 2 places or more.
pub data Step (s : State) : State → Type 0 where
  begins : (n : ℕ) → 2 ≤ n → Step s (begun n s.slots)
  moves : {s' : State} → Move s s' → Step s s'
