-- Kill: what the loss of place p does to each table.
use Rattle.std.specs.Prelude.{Bool, true, false, cond, ◌&&◌, ◌||◌, not, ℕ, eqb}
use Rattle.model.specs.Base.{upd, sum}
use Rattle.model.specs.State.{State, with_dead, with_task_status, with_finish_status, with_due, with_locals, with_slot}
use Rattle.model.specs.Messages.{none, goes_to}

-- Tasks at the place running or blocked, and tasks from it waiting (1, 2), are lost.
unfoldable pub loses_task : ℕ → ℕ → ℕ → ℕ → Bool
loses_task p from at status = ((eqb status 5 || eqb status 6) && eqb at p) || ((eqb status 1 || eqb status 2) && eqb from p)

-- Unreleased finishes homed there are lost.
unfoldable pub loses_finish : ℕ → ℕ → ℕ → Bool
loses_finish p home status = eqb home p && not (eqb status 4)

-- column v of a square of n places is all 0
unfoldable pub empty_column : ℕ → (ℕ → ℕ → ℕ) → ℕ → Bool
empty_column n live v = eqb (sum n (λ i. live i v)) 0

-- Every book with a live count in its column has adopt due.
unfoldable pub due_after : ℕ → ℕ → (ℕ → ℕ → ℕ) → ℕ → ℕ → ℕ
due_after n present live due p = cond (eqb present 1 && not (empty_column n live p)) 1 due

-- Its local books become 0; messages going to it vanish.
abbrev pub kill : State → ℕ → State
kill s p =
    let l = s.locals in
    with_dead (upd s.dead p true)
    (with_task_status (λ t. cond (loses_task p (s.tasks.from t) (s.tasks.at t) (s.tasks.status t)) 8 (s.tasks.status t))
    (with_finish_status (λ f. cond (loses_finish p (s.finishes.home f) (s.finishes.status f)) 5 (s.finishes.status f))
    (with_due (λ f. due_after s.places (s.books.present f) (s.books.live f) (s.books.due f) p)
    (with_locals (record {
      received = λ f j i. cond (eqb j p) 0 (l.received f j i);
      reported = λ f j i. cond (eqb j p) 0 (l.reported f j i);
      live = λ f j. cond (eqb j p) 0 (l.live f j);
      denied = λ f j i. cond (eqb j p) false (l.denied f j i);
    })
    (with_slot (λ k. cond (goes_to s.finishes.home (s.slot k) p) none (s.slot k)) s)))))
