-- Open: the task blocks; a new active finish is homed at its place, with a running main task, from and at that place.
use Rattle.std.specs.Prelude.{ℕ, suc}
use Rattle.model.specs.Base.{upd}
use Rattle.model.specs.State.{State, with_tasks, with_finishes}

-- Parent is the opener's finish.
abbrev pub open_finish : State → ℕ → State
open_finish s t =
    let T = s.tasks in
    let F = s.finishes in
    let n = suc T.made in
    let g = suc F.made in
    with_tasks (record {
      made = n;
      from = upd T.from n (T.at t);
      at = upd T.at n (T.at t);
      finish = upd T.finish n g;
      status = upd (upd T.status t 6) n 5;
      sent = upd T.sent n 0;
      maker = upd T.maker n t;
    })
    (with_finishes (record {
      made = g;
      home = upd F.home g (T.at t);
      opener = upd F.opener g t;
      parent = upd F.parent g (T.finish t);
      status = upd F.status g 1;
      published = upd F.published g 0;
      main = upd F.main g n;
    }) s)
