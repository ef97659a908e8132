-- No count that rises leaves 0 to 255, where at most 255 tasks are made: what it counts are tasks.
use Rattle.std.specs.Prelude.{◌≡◌, Bool, false, ℕ, suc, ◌+◌, ◌≤◌, ◌<◌}
use Rattle.std.proofs.Common.{sym, ◌∙◌, arith}
use Rattle.model.specs.Base.{upd, upd-cases, on-le, is₃, is₃_same, sum_most, sum-upd, sum_upd₂, bool_cases, eq_cases, both}
use Rattle.model.specs.State.{State}
use Rattle.model.specs.Messages.{between}
use Rattle.model.specs.Weights.{weigh, weigh-le, weigh_out, tasks_with}
use Rattle.model.specs.Guards.{Full}
use Rattle.model.specs.Inv.{Inv}
use Rattle.model.proofs.Facts.InFlight.{tallied_ge}

module _ (s : State) (inv : Inv s) where
  -- tasks of one key and of some statuses, there being no task 0
  module _ (key : ℕ → Bool) (lo hi : ℕ) (pos : 0 < lo) where
    abbrev counts : ℕ → ℕ
    counts x = weigh (key x) lo hi (s.tasks.status x)

    one : (x : ℕ) → counts x ≤ 1
    one x = omega (arith, weigh-le (key x) lo hi (s.tasks.status x), on-le (key x) 1)

    none : counts 0 ≡ 0
    none = weigh_out (key 0) lo hi (s.tasks.status 0) (λ l _. omega (arith, inv.status_made 0 (omega arith)))

    tasks_most : tasks_with s key lo hi ≤ s.tasks.made
    tasks_most = omega (
      arith,
      sum_most (suc s.tasks.made) (upd counts 0 1) (λ x _. upd-cases counts (λ w. w ≤ 1) 0 1 x (λ _. omega arith) (λ _. one x)),
      sum-upd (suc s.tasks.made) (λ _ v. v) counts 0 1 (omega arith),
      none,
    )

    -- a made task that does not count leaves room for one more
    tasks_fewer : (t : ℕ) → 0 < t → t ≤ s.tasks.made → counts t ≡ 0 → tasks_with s key lo hi < s.tasks.made
    tasks_fewer t z l e = omega (
      arith,
      sum_most (suc s.tasks.made) (upd (upd counts 0 1) t 1)
          (λ x _. upd-cases (upd counts 0 1) (λ w. w ≤ 1) t 1 x (λ _. omega arith) (λ _. upd-cases counts (λ w. w ≤ 1) 0 1 x (λ _. omega arith) (λ _. one x))),
      sum_upd₂ (suc s.tasks.made) (λ _ v. v) counts 0 1 t 1 (omega arith) (omega arith) (λ q. omega arith),
      none,
    )

  module _ (few : s.tasks.made ≤ 255) (k : ℕ) where
    abbrev f : ℕ
    f = (s.slot k).finish

    abbrev i : ℕ
    i = (s.slot k).from

    abbrev j : ℕ
    j = (s.slot k).to

    -- a message that carries a task goes from one place to another
    apart : 3 ≤ (s.slot k).tag → (s.slot k).tag ≤ 6 → k < s.slots → i ≡ j → ⊥
    apart l h r q =
        let n = inv.names_task k r (omega arith) h in
        let p = inv.names_pair k r l h in
        (inv.sent_tasks (s.slot k).task n.2).3 (p.0 ∙ q ∙ sym p.1)

    sent_few : 3 ≤ (s.slot k).tag → (s.slot k).tag ≤ 6 → k < s.slots → s.books.sent f i j + between s 3 f i j ≤ 255
    sent_few l h r = omega (
      arith,
      inv.sent_tasks_most f i j (apart l h r),
      tasks_most (λ t. is₃ (s.tasks.finish t) (s.tasks.from t) (s.tasks.at t) f i j) 2 8 (omega arith),
    )

    -- 3, from and to alive, the book present: live and sent rise by one
    pub transit_room : Full s k 3 → s.dead i ≡ false → s.books.present f ≡ 1 → s.dead j ≡ false → (s.books.live f i j < 255) × (s.books.sent f i j < 255)
    transit_room full a p b =
        let few_sent = sent_few (omega (arith, full.tag)) (omega (arith, full.tag)) full.range in
        let this = tallied_ge s k 3 (λ m. is₃ m.finish m.from m.to f i j) (λ m. 1) full.range full.tag (is₃_same f i j) in
        let let_in : s.locals.denied f j i ≡ false = bool_cases (s.locals.denied f j i) (λ d. both (inv.denied_dead f j i d) a) (λ d. d) in
        let most = inv.reports_most f i j b (apart (omega (arith, full.tag)) (omega (arith, full.tag)) full.range) in
        (omega (arith, inv.counted f i j p b let_in, most), omega arith)

    -- 6, not denied: received and the local live count rise by one
    pub task_room : Full s k 6 → s.locals.denied f j i ≡ false → (s.locals.received f j i < 255) × (s.locals.live f j < 255)
    task_room full d =
        let wire = inv.on_wire k full.range full.tag in
        let t = (s.slot k).task in
        let n = inv.names_task k full.range (omega (arith, full.tag)) (omega (arith, full.tag)) in
        let present : s.books.present f ≡ 1 = eq_cases (s.books.present f) 0 (λ z. both (inv.late k full.range full.tag z) d) (λ n. omega (arith, inv.present_mark f)) in
        let this = tallied_ge s k 6 (λ m. is₃ m.finish m.from m.to f i j) (λ m. 1) full.range full.tag (is₃_same f i j) in
        let key : ℕ → Bool = λ x. is₃ (s.tasks.sent x) (s.tasks.finish x) (s.tasks.at x) 1 f j in (
          omega (arith, sent_few (omega (arith, full.tag)) (omega (arith, full.tag)) full.range, inv.sent_most f i j present wire.1, this),
          omega (arith, inv.local_live f j, tasks_fewer key 5 6 (omega arith) t n.0 n.1 (weigh_out (key t) 5 6 (s.tasks.status t) (λ l _. omega (arith, wire.0)))),
        )
