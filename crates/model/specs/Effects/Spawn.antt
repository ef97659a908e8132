-- Spawn: the task blocks; the new task is from its place to b.
use Rattle.std.specs.Prelude.{ℕ, suc}
use Rattle.model.specs.Base.{upd}
use Rattle.model.specs.State.{State, with_tasks, with_finish_status, with_slot}
use Rattle.model.specs.Messages.{publish, transit}

-- task t blocks; the new task is from its place to p, with status v
abbrev pub with_spawned : ℕ → ℕ → ℕ → State → State
with_spawned t p v s =
    let T = s.tasks in
    let n = suc T.made in
    with_tasks (record {
      made = n;
      from = upd T.from n (T.at t);
      at = upd T.at n p;
      finish = upd T.finish n (T.finish t);
      status = upd (upd T.status t 6) n v;
      sent = upd T.sent n 1;
      maker = upd T.maker n t;
    }) s

-- A main task whose finish is unpublished: finish publishing, new task status 1, publish (1) sent.
abbrev pub spawn_first : State → ℕ → ℕ → ℕ → State
spawn_first s t p k =
    let f = s.tasks.finish t in
    with_slot (upd s.slot k (publish f (suc s.tasks.made)))
    (with_finish_status (upd s.finishes.status f 2) (with_spawned t p 1 s))

-- Otherwise status 2, transit (3).
abbrev pub spawn_later : State → ℕ → ℕ → ℕ → State
spawn_later s t p k =
    with_slot (upd s.slot k (transit (s.tasks.finish t) (suc s.tasks.made) (s.tasks.at t) p))
    (with_spawned t p 2 s)
