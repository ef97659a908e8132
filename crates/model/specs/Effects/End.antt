-- End, of a main task and of another task.
use Rattle.std.specs.Prelude.{◌≡◌, cond, ℕ, ◌-◌, ◌<◌, eqb}
use Rattle.std.proofs.Common.{arith, ne_eqb}
use Rattle.model.specs.Base.{upd, on, is₂}
use Rattle.model.specs.State.{State, Message, with_task_status, with_finish_status, with_local_live, with_reported, with_slot}
use Rattle.model.specs.Messages.{report}

-- An opener or spawner about to run; 0 is none, and nothing runs.
unfoldable pub wake : ℕ → (ℕ → ℕ) → ℕ → ℕ
wake o status x = cond (eqb o 0) (status x) (upd status o 5 x)

pub wake-none : (o : ℕ) (status : ℕ → ℕ) (x : ℕ) → o ≡ 0 → wake o status x ≡ status x
unfolding wake
wake-none o status x e = rw e

pub wake_some : (o : ℕ) (status : ℕ → ℕ) (x : ℕ) → 0 < o → wake o status x ≡ upd status o 5 x
unfolding wake
wake_some o status x h = rw (ne_eqb o 0 (λ e. omega arith))

-- End, main task: unpublished, the finish is released and its opener, if any, runs;
abbrev pub end_unpublished : State → ℕ → State
end_unpublished s t =
    let f = s.tasks.finish t in
    with_finish_status (upd s.finishes.status f 4)
    (with_task_status (wake (s.finishes.opener f) (upd s.tasks.status t 7)) s)

-- a report from its home, count 1 for its home
abbrev pub home_report : ℕ → ℕ → Message
home_report f h = report f h (λ i. on (eqb h i) 1)

-- published, it waits for release and sends a report (7) from its home, count 1 for its home.
abbrev pub end_published : State → ℕ → ℕ → State
end_published s t k =
    let f = s.tasks.finish t in
    with_slot (upd s.slot k (home_report f (s.finishes.home f)))
    (with_finish_status (upd s.finishes.status f 3)
    (with_task_status (upd s.tasks.status t 7) s))

-- End, other task: local live count down by one;
abbrev pub end_other : State → ℕ → State
end_other s t =
    with_local_live (λ f j. s.locals.live f j - on (is₂ (s.tasks.finish t) (s.tasks.at t) f j) 1)
    (with_task_status (upd s.tasks.status t 7) s)

-- received less reported for each sender
abbrev pub local_report : State → ℕ → ℕ → Message
local_report s f j = report f j (λ i. s.locals.received f j i - s.locals.reported f j i)

-- at 0 a report carries received less reported for each sender, and reported becomes received.
abbrev pub end_last : State → ℕ → ℕ → State
end_last s t k =
    with_slot (upd s.slot k (local_report s (s.tasks.finish t) (s.tasks.at t)))
    (with_reported (λ f j i. cond (is₂ (s.tasks.finish t) (s.tasks.at t) f j) (s.locals.received f j i) (s.locals.reported f j i))
    (end_other s t))
