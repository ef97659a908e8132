-- What a taken step is to be, and the guards that several rules share.
use mathlib.Core.Path.{◌≡◌, sym, ◌∙◌}
use mathlib.Core.Bool.{true, false, not}
use mathlib.Core.List.{List}
use Prim.Native.Nat.{ℕ, ◌<◌}
use native.Mathlib.Omega.{arith}
use lib.Dec.{eqb}
use borrow.Author.Tests.{eqb-true, ne_eqb}
use Rattle.rules.specs.Fields.{task_status, task_made, finish_made, may_run}
use Rattle.rules.specs.Deliver.{book_absent}
use Rattle.rules.proofs.Taken.{not-not}
use Rattle.model.specs.State.{State}
use Rattle.model.specs.Guards.{Runs, HasBook, MayRun}
use Rattle.promises.proofs.Seen.{Seen}
use Rattle.promises.proofs.Rows.{read_task_status}
use Rattle.promises.proofs.BookCells.{book_there}
use Rattle.promises.proofs.Held.{Held, task-fits, finish_fits_lem, task_number, finish_number, present_mark}

-- what a taken step is: the tables after it are seen as a state that a move of its kind leads to
abbrev pub Moved : (State → Type 0) → List ℕ → Type 0
Moved R u = (s' : State) × Seen u s' × R s'

-- a move of one kind is a move
pub moved_by : {R Q : State → Type 0} {u : List ℕ} → ((s' : State) → R s' → Q s') → Moved R u → Moved Q u
moved_by f m = (m.0, m.1, f m.0 m.2)

-- a task that is made and running
pub task-runs : {t : List ℕ} {a : State} → Held t a → (k : ℕ) → task_made t k ≡ true → not (eqb (task_status t k) 5) ≡ false → Runs a k
task-runs {t} h k made r =
    let n = task_number h k made in
    record { low = n.0; high = n.1; running = sym (read_task_status h.seen k n.0 (task-fits h k n.0 n.1).number) ∙ eqb-true (task_status t k) 5 (not-not (eqb (task_status t k) 5) r) }

-- a finish that is made and has a book
pub has_book : {t : List ℕ} {a : State} → Held t a → (f : ℕ) → finish_made t f ≡ true → book_absent t f ≡ false → HasBook a f
has_book {t} h f made there =
    let n = finish_number h f made in
    let f33 = (finish_fits_lem h f n.0 n.1).number in
    record { low = n.0; high = n.1; present = book_there h.seen f n.0 f33 (present_mark h f n.0 f33) there }

-- an opener or spawner about to run is blocked
pub may_run_lem : {t : List ℕ} {a : State} → Seen t a → (o : ℕ) → o < 256 → may_run t o ≡ true → MayRun a o
unfolding may_run
may_run_lem {t} s o o256 e = λ pos. sym (read_task_status s o pos o256) ∙ eqb-true (task_status t o) 6 (rw (ne_eqb o 0 (λ q. omega arith)) at e)
