-- A sent task's status changes, and at most its spawner wakes: what holds whatever the change, before any slot is written.
use Rattle.std.specs.Prelude.{◌≡◌, refl, false, ℕ, ◌≤◌, ◌<◌}
use Rattle.std.proofs.Common.{sym, ap, ◌∙◌, arith}
use Rattle.model.specs.State.{State, with_task_status}
use Rattle.model.specs.Inv.{Inv}
use Rattle.model.specs.Inv.Rows as R
use Rattle.model.specs.Inv.Statuses as T
use Rattle.model.specs.Inv.Messages as M

-- what is shown
pub record TaskMoved (s : State) : Type 0 where
  pub task_statuses : R.TaskStatuses s
  pub main_statuses : R.MainStatuses s
  pub status_made : R.StatusMade s
  pub active : T.Active s
  pub publishing : T.Publishing s
  pub waiting : T.Waiting s
  pub released : T.Released s
  pub lost : T.Lost s
  pub busy : T.Busy s
  pub waiters : T.Waiters s
  pub lost_tasks : T.LostTasks s
  pub first_task : T.FirstTask s
  pub first_lost : T.FirstLost s
  pub publishes : M.Publishes s
  pub published : M.Published s
  pub lost_transits : M.LostTransits s
  pub named_publish : M.NamedPublish s
  pub named_transit : M.NamedTransit s

-- t has status v, its blocked spawner may run, and every other task is as it was
abbrev pub Moves : State → ℕ → ℕ → (ℕ → ℕ) → Type 1
Moves s t v status = (P : ℕ → Type 0) (x : ℕ) → (x ≡ t → P v) → (x ≡ s.tasks.maker t → s.tasks.status x ≡ 6 → P 5) → ((x ≡ t → ⊥) → P (s.tasks.status x)) → P (status x)

-- from u, which is waiting for transit, on the wire or running, to v: on the wire, dropped, running or ended
module _ (s : State) (t u v : ℕ) (status : ℕ → ℕ) (inv : Inv s) (is_sent : s.tasks.sent t ≡ 1) (was-u : s.tasks.status t ≡ u) (u-low : 2 ≤ u) (u-high : u ≤ 5)
    (v_low : 3 ≤ v) (v_high : v ≤ 7) (v-not : v ≡ 6 → ⊥) (lives : v ≡ 5 → s.dead (s.tasks.at t) ≡ false) (by_Row : Moves s t v status) where
  abbrev s' : State
  s' = with_task_status status s

  -- a status of before other than 6 and u stays
  pub stays : (x w : ℕ) → s.tasks.status x ≡ w → (w ≡ 6 → ⊥) → (w ≡ u → ⊥) → status x ≡ w
  stays x w e n₆ n = by_Row (λ y. y ≡ w) x (λ q. absurd (n (sym e ∙ ap s.tasks.status q ∙ was-u))) (λ _ q. absurd (n₆ (sym e ∙ q))) (λ _. e)

  -- a status other than 5 and v is of before
  was : (x w : ℕ) → status x ≡ w → (w ≡ 5 → ⊥) → (w ≡ v → ⊥) → (s.tasks.status x ≡ w) × (x ≡ t → ⊥)
  was x w e n₅ n = by_Row (λ y. y ≡ w → (s.tasks.status x ≡ w) × (x ≡ t → ⊥)) x (λ _ q. absurd (n (sym q))) (λ _ _ q. absurd (n₅ (sym q))) (λ ne q. (q, ne)) e

  -- a main task is another
  main_other : (f : ℕ) → 0 < s.finishes.status f → s.finishes.main f ≡ t → ⊥
  main_other f h q = let b = inv.finish_made f h in omega (arith, (inv.mains f b.0 b.1).1, ap s.tasks.sent q)

  task_statuses : R.TaskStatuses s'
  task_statuses x z l = by_Row (λ w. (0 < w) × (w ≤ 8)) x (λ _. omega arith) (λ _ _. omega arith) (λ _. inv.task_statuses x z l)

  main_statuses : R.MainStatuses s'
  main_statuses x z l e = by_Row (λ w. 5 ≤ w) x (λ q. absurd (omega (arith, ap s.tasks.sent q))) (λ _ _. omega arith) (λ _. inv.main_statuses x z l e)

  status_made : R.StatusMade s'
  status_made x = by_Row (λ w. 0 < w → (0 < x) × (x ≤ s.tasks.made)) x
      (λ q _. inv.status_made x (omega (arith, ap s.tasks.status q)))
      (λ _ q _. inv.status_made x (omega arith))
      (λ _. inv.status_made x)

  active : T.Active s'
  active f e =
      let k = inv.active f e in
      let r : (5 ≤ status (s.finishes.main f)) × (status (s.finishes.main f) ≤ 6) = by_Row (λ w. (5 ≤ w) × (w ≤ 6)) (s.finishes.main f)
      (λ q. absurd (main_other f (omega arith) q))
      (λ _ _. omega arith)
      (λ _. (k.1, k.2)) in
      (k.0, r.0, r.1)

  -- the main task of a publishing finish is blocked by a task that waits for publish, and so is no spawner of t
  publishing : T.Publishing s'
  publishing f e =
      let k = inv.publishing f e in
      let b = inv.finish_made f (omega arith) in (
        k.0,
        k.1,
        by_Row (λ w. w ≡ 6) (s.finishes.main f)
            (λ q. absurd (main_other f (omega arith) q))
            (λ q _.
            let of : s.tasks.finish t ≡ f = (inv.sent_tasks t is_sent).2 ∙ ap s.tasks.finish (sym q) ∙ (inv.mains f b.0 b.1).0 in
            absurd (omega (arith, (inv.first_task t is_sent (ap s.finishes.published of ∙ k.1) (λ p. omega (arith, ap s.finishes.status of))).1)))
            (λ _. k.2),
      )

  main_ended : (f : ℕ) → 7 ≤ s.tasks.status (s.finishes.main f) → status (s.finishes.main f) ≡ s.tasks.status (s.finishes.main f)
  main_ended f l = stays (s.finishes.main f) (s.tasks.status (s.finishes.main f)) refl (λ q. omega arith) (λ q. omega arith)

  waiting : T.Waiting s'
  waiting f e = let k = inv.waiting f e in rw (main_ended f (omega (arith, k.2))) k

  released : T.Released s'
  released f e = let k = inv.released f e in rw (main_ended f (omega arith)) k

  lost : T.Lost s'
  lost f e = let k = inv.lost f e in rw (main_ended f k.1) k

  busy : T.Busy s'
  busy x = by_Row (λ w. 5 ≤ w → w ≤ 6 → s.dead (s.tasks.at x) ≡ false) x
      (λ q l h. rw q (lives (omega arith)))
      (λ _ q _ _. inv.busy x (omega arith) (omega arith))
      (λ _. inv.busy x)

  waiters : T.Waiters s'
  waiters x = by_Row (λ w. 1 ≤ w → w ≤ 2 → s.dead (s.tasks.from x) ≡ false) x (λ _ _ h. absurd (omega arith)) (λ _ _ _ h. absurd (omega arith)) (λ _. inv.waiters x)

  lost_tasks : T.LostTasks s'
  lost_tasks x e = inv.lost_tasks x (was x 8 e (λ q. omega arith) (λ q. omega arith)).0

  first_task : T.FirstTask s'
  first_task x e p n₅ = let k = inv.first_task x e p n₅ in (k.0, stays x 1 k.1 (λ q. omega arith) (λ q. omega arith), k.2)

  first_lost : T.FirstLost s'
  first_lost x e p q₅ = stays x 8 (inv.first_lost x e p q₅) (λ q. omega arith) (λ q. omega arith)

  publishes : M.Publishes s'
  publishes k h e = let r = inv.publishes k h e in (r.0, r.1, (λ a. ((r.2 a).0, stays (s.slot k).task 1 (r.2 a).1 (λ q. omega arith) (λ q. omega arith))), r.3)

  published : M.Published s'
  published k h e = let r = inv.published k h e in (r.0, r.1, r.2, stays (s.slot k).task 1 r.3 (λ q. omega arith) (λ q. omega arith))

  lost_transits : M.LostTransits s'
  lost_transits k h l m a = let r = inv.lost_transits k h l m a in (r.0, stays (s.slot k).task 8 r.1 (λ q. omega arith) (λ q. omega arith))

  named_publish : M.NamedPublish s'
  named_publish x e = inv.named_publish x (was x 1 e (λ q. omega arith) (λ q. omega arith)).0

  named_transit : M.NamedTransit s'
  named_transit x e = inv.named_transit x (was x 2 e (λ q. omega arith) (λ q. omega arith)).0

  pub moves : TaskMoved s'
  moves = search (
    task_statuses,
    main_statuses,
    status_made,
    active,
    publishing,
    waiting,
    released,
    lost,
    busy,
    waiters,
    lost_tasks,
    first_task,
    first_lost,
    publishes,
    published,
    lost_transits,
    named_publish,
    named_transit,
  )
