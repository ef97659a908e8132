-- Demand 3 over the states reached from a begin.
use Rattle.std.specs.Prelude.{◌≡◌, false, ℕ, ◌+◌, ◌≤◌}
use Rattle.model.specs.State.{State}
use Rattle.model.specs.Nesting.{Under}
use Rattle.model.specs.Weights.{mainly, ended}
use Rattle.model.specs.Step.{begins, moves}
use Rattle.model.specs.Inv.{Inv}
use Rattle.model.specs.Quiet.{Quiet}
use Rattle.model.specs.Reached.{Reached, first, next, Later, now, after}
use Rattle.model.proofs.Steps.Begin.{begin_holds}
use Rattle.model.proofs.Keeps.{move_keeps}
use Rattle.model.proofs.Promises.Release.{released_idle}
use Rattle.model.proofs.Promises.Stays.{released_stays}
use Rattle.model.proofs.Promises.Quiet.{quiet_cells}
use Rattle.model.proofs.Promises.Progress.{quiet-released}

pub reached_holds : {s : State} → Reached s → Inv s
reached_holds (first n m two) = begin_holds n m two
reached_holds (next {s} r (begins n two)) = begin_holds n s.slots two
reached_holds (next r (moves m)) = move_keeps (reached_holds r) m

pub later_reached : {s s' : State} → Reached s → Later s s' → Reached s'
later_reached r now = r
later_reached r (after l m) = next (later_reached r l) (moves m)

later_released : {s s' : State} (f : ℕ) → Reached s → Later s s' → s.finishes.status f ≡ 4 → s'.finishes.status f ≡ 4
later_released f r now e = e
later_released f r (after l m) e = released_stays f (reached_holds (later_reached r l)) m (later_released f r l e)

-- Release: once a finish is released, no task of it or of a finish nested in it, at any depth, is running or blocked, then or later.
pub release : {s s' : State} (f g t : ℕ) → Reached s → s.finishes.status f ≡ 4 → Later s s'
    → Under s'.finishes.parent f g → s'.tasks.finish t ≡ g → 5 ≤ s'.tasks.status t → s'.tasks.status t ≤ 6 → ⊥
release {s' = s'} f g t r e l = released_idle s' (reached_holds (later_reached r l)) f g t (later_released f r l e)

-- Quiet: each count at a live receiver is what it has received and not yet reported; in the home's own cell, the main task until it has ended.
pub quiet : {s : State} (f i j : ℕ) → Reached s → Quiet s → s.books.present f ≡ 1 → s.dead j ≡ false
    → s.books.live f i j + s.locals.reported f j i + ended s f i j ≡ s.locals.received f j i + mainly s f i j
quiet {s} f i j r q = quiet_cells s (reached_holds r) q f i j

-- Progress: in a quiet session with no running task finish 1 is released.
pub progress : {s : State} → Reached s → Quiet s → ((t : ℕ) → s.tasks.status t ≡ 5 → ⊥) → s.finishes.status 1 ≡ 4
progress {s} r = quiet-released s (reached_holds r)
