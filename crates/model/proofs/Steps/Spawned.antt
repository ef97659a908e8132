-- A task spawned, before any message is sent: what holds whether its finish is publishing now or was published.
use Rattle.std.specs.Prelude.{◌≡◌, refl, Bool, true, false, ℕ, suc, ◌+◌, ◌≤◌, ◌<◌, eqb}
use Rattle.std.proofs.Common.{sym, ap, ◌∙◌, arith, eqb-true}
use Rattle.model.specs.Base.{upd, upd_same, upd_other, upd-below, upd-cases, on, on_true, on_false, is₂, is₃, is₂_same, is₂_false, sum_ext, eq_cases, bool_cases, both}
use Rattle.model.specs.State.{State, with_finish_status}
use Rattle.model.specs.Messages.{naming}
use Rattle.model.specs.Weights.{weigh, weigh_in, weigh_out, tasks_with, finishes_with, ended}
use Rattle.model.specs.Guards.{Runs}
use Rattle.model.specs.Effects.Spawn.{with_spawned}
use Rattle.model.specs.Inv.{Inv}
use Rattle.model.specs.Inv.Rows as R
use Rattle.model.specs.Inv.Statuses as T
use Rattle.model.specs.Inv.Messages as M
use Rattle.model.specs.Inv.Books as B
use Rattle.model.specs.Inv.Cells as C
use Rattle.model.specs.Inv.Locals as L
use Rattle.model.proofs.Facts.Openers.{not_skipped}
use Rattle.model.proofs.Steps.NewRows.{grown_blocked}
use Rattle.model.proofs.Facts.InFlight.{tallied_some}

-- what is shown
pub record Spawned (s : State) : Type 0 where
  pub task_ranges : R.TaskRanges s
  pub main_tasks : R.MainTasks s
  pub sent_tasks : R.SentTasks s
  pub task_statuses : R.TaskStatuses s
  pub main_statuses : R.MainStatuses s
  pub status_made : R.StatusMade s
  pub sent_made : R.SentMade s
  pub finish_ranges : R.FinishRanges s
  pub opened : R.Opened s
  pub mains : R.Mains s
  pub finish_statuses : R.FinishStatuses s
  pub finish_made : R.FinishMade s
  pub active : T.Active s
  pub publishing : T.Publishing s
  pub waiting : T.Waiting s
  pub released : T.Released s
  pub lost : T.Lost s
  pub dead_home : T.DeadHome s
  pub busy : T.Busy s
  pub waiters : T.Waiters s
  pub lost_tasks : T.LostTasks s
  pub first_task : T.FirstTask s
  pub first_lost : T.FirstLost s
  pub blocked : T.Blocked s
  pub names_task : M.NamesTask s
  pub names_pair : M.NamesPair s
  pub publishes : M.Publishes s
  pub published : M.Published s
  pub transits : M.Transits s
  pub lost_transits : M.LostTransits s
  pub on_wire : M.OnWire s
  pub release_some : M.ReleaseSome s
  pub release_none : M.ReleaseNone s
  pub book_unreleased : B.BookUnreleased s
  pub active_book : B.ActiveBook s
  pub skipped : B.Skipped s
  pub counted : C.Counted s
  pub counted_denied : C.CountedDenied s
  pub local_live : L.LocalLive s

-- the finish f is publishing, if v is 1, and every other finish is as it was
abbrev pub Turned : State → ℕ → ℕ → (ℕ → ℕ) → Type 1
Turned s f v status = (P : ℕ → Type 0) (g : ℕ) → (g ≡ f → v ≡ 1 → P 2) → ((g ≡ f → v ≡ 1 → ⊥) → P (s.finishes.status g)) → P (status g)

-- the new task has status v: 1 if its finish is unpublished, 2 if it is published
module _ (s : State) (t p v : ℕ) (status : ℕ → ℕ) (inv : Inv s) (runs : Runs s t) (place : p < s.places) (away : s.tasks.at t ≡ p → ⊥)
    (turns : v ≡ suc (s.finishes.published (s.tasks.finish t)))
    (first : v ≡ 1 → (s.tasks.sent t ≡ 0) × (s.finishes.status (s.tasks.finish t) ≡ 1))
    (by_finish : Turned s (s.tasks.finish t) v status) where
  abbrev n : ℕ
  n = suc s.tasks.made

  abbrev f₀ : ℕ
  f₀ = s.tasks.finish t

  abbrev s' : State
  s' = with_finish_status status (with_spawned t p v s)

  waits : (1 ≤ v) × (v ≤ 2)
  waits = omega (arith, inv.published_mark f₀)

  -- what is to be shown of a status
  by_row : (P : ℕ → Type 0) (x : ℕ) → (x ≡ n → P v) → (x ≡ t → P 6) → ((x ≡ n → ⊥) → (x ≡ t → ⊥) → P (s.tasks.status x)) → P (s'.tasks.status x)
  by_row P x a b c = upd-cases (upd s.tasks.status t 6) P n v x a (λ k. upd-cases s.tasks.status P t 6 x b (λ l. c k l))

  -- a status of before other than 5 stays
  stays : (x w : ℕ) → s.tasks.status x ≡ w → 0 < w → (w ≡ 5 → ⊥) → s'.tasks.status x ≡ w
  stays x w e z ne = by_row (λ u. u ≡ w) x
      (λ q. absurd (omega (arith, inv.status_made x (omega arith))))
      (λ q. absurd (ne (sym e ∙ ap s.tasks.status q ∙ runs.running)))
      (λ _ _. e)

  pub was : (x w : ℕ) → s'.tasks.status x ≡ w → (x ≡ n → w ≡ v → ⊥) → (w ≡ 6 → ⊥) → s.tasks.status x ≡ w
  was x w e a b = by_row (λ u. u ≡ w → s.tasks.status x ≡ w) x (λ r q. absurd (a r (sym q))) (λ _ q. absurd (b (sym q))) (λ _ _ q. q) e

  t-blocked : s'.tasks.status t ≡ 6
  t-blocked = by_row (λ w. w ≡ 6) t (λ q. absurd (omega (arith, runs.high))) (λ _. refl) (λ _ n. absurd (n refl))

  at_alive : s.dead (s.tasks.at t) ≡ false
  at_alive = inv.busy t (omega (arith, runs.running)) (omega (arith, runs.running))

  made : (0 < f₀) × (f₀ ≤ s.finishes.made)
  made = omega (arith, inv.task_ranges t runs.low runs.high)

  -- the first task's spawner is the main task
  t_main : v ≡ 1 → s.finishes.main f₀ ≡ t
  t_main e = (inv.main_tasks t runs.low runs.high (first e).0).2

  finish_was : (g w : ℕ) → status g ≡ w → (w ≡ 2 → ⊥) → s.finishes.status g ≡ w
  finish_was g w e n₂ = by_finish (λ u. u ≡ w → s.finishes.status g ≡ w) g (λ _ _ q. absurd (n₂ (sym q))) (λ _ q. q) e

  finish_stays : (g w : ℕ) → s.finishes.status g ≡ w → (w ≡ 1 → ⊥) → status g ≡ w
  finish_stays g w e n₁ = by_finish (λ u. u ≡ w) g (λ q e₁. absurd (n₁ (sym e ∙ ap s.finishes.status q ∙ (first e₁).1))) (λ _. e)

  now_publishing : v ≡ 1 → status f₀ ≡ 2
  now_publishing e = by_finish (λ w. w ≡ 2) f₀ (λ _ _. refl) (λ ne. absurd (ne refl e))

  task_ranges : R.TaskRanges s'
  task_ranges x z l = eq_cases x n
      (λ q. let r = inv.task_ranges t runs.low runs.high in rw q (simp upd_same (r.1, place, r.2, r.3, omega arith, omega (arith, runs.high))))
      (λ ne. let b : x < n = omega arith in simp upd-below (inv.task_ranges x z (omega arith)))

  new_sent : (x : ℕ) → x ≡ n → s'.tasks.sent x ≡ 1
  new_sent x q = rw q (upd_same s.tasks.sent n 1)

  main_tasks : R.MainTasks s'
  main_tasks x z l e = eq_cases x n
      (λ q. absurd (omega (arith, new_sent x q)))
      (λ ne. let b : x < n = omega arith in simp upd-below (inv.main_tasks x z (omega arith) (simp upd-below at e)))

  sent_tasks : R.SentTasks s'
  sent_tasks x e = eq_cases x n
      (λ q. let b : t < n = omega (arith, runs.high) in rw q (simp (upd_same, upd-below) (runs.low, refl, refl, away)))
      (λ ne.
      let d = rw (upd_other s.tasks.sent n 1 x ne) at e in
      let m = inv.sent_made x (omega (arith, d)) in
      let b : x < n = omega (arith, m) in
      let c : s.tasks.maker x < n = omega (arith, inv.task_ranges x m.0 m.1) in
      simp upd-below (inv.sent_tasks x d))

  task_statuses : R.TaskStatuses s'
  task_statuses x z l = by_row (λ w. (0 < w) × (w ≤ 8)) x (λ _. omega (arith, waits)) (λ _. omega arith) (λ a _. inv.task_statuses x z (omega arith))

  main_statuses : R.MainStatuses s'
  main_statuses x z l e = by_row (λ w. 5 ≤ w) x
      (λ q. absurd (omega (arith, new_sent x q)))
      (λ _. omega arith)
      (λ a _. inv.main_statuses x z (omega arith) (rw (upd_other s.tasks.sent n 1 x a) at e))

  status_made : R.StatusMade s'
  status_made x = by_row (λ w. 0 < w → (0 < x) × (x ≤ n)) x
      (λ q _. omega arith)
      (λ q _. omega (arith, runs.low, runs.high))
      (λ _ _ h. omega (arith, inv.status_made x h))

  sent_made : R.SentMade s'
  sent_made x = upd-cases s.tasks.sent (λ w. 0 < w → (0 < x) × (x ≤ n)) n 1 x (λ q _. omega arith) (λ _ h. omega (arith, inv.sent_made x h))

  -- a main task is of before
  main_old : (g : ℕ) → 0 < g → g ≤ s.finishes.made → s.finishes.main g < n
  main_old g z l = omega (arith, inv.finish_ranges g z l)

  finish_ranges : R.FinishRanges s'
  finish_ranges g z l = let r = inv.finish_ranges g z l in (r.0, r.1, r.2, omega (arith, r.3))

  opened : R.Opened s'
  opened g h l =
      let c : s.finishes.opener g < n = omega (arith, inv.finish_ranges g (omega arith) l) in
      simp upd-below (inv.opened g h l)

  mains : R.Mains s'
  mains g z l = let c = main_old g z l in simp upd-below (inv.mains g z l)

  finish_statuses : R.FinishStatuses s'
  finish_statuses g z l = by_finish (λ w. (0 < w) × (w ≤ 5)) g (λ _ _. omega arith) (λ _. inv.finish_statuses g z l)

  finish_made : R.FinishMade s'
  finish_made g = by_finish (λ w. 0 < w → (0 < g) × (g ≤ s.finishes.made)) g (λ q _ _. omega (arith, made)) (λ _. inv.finish_made g)

  active : T.Active s'
  active g e =
      let k = inv.active g (finish_was g 1 e (λ q. omega arith)) in
      let b : (5 ≤ s'.tasks.status (s.finishes.main g)) × (s'.tasks.status (s.finishes.main g) ≤ 6) = by_row (λ w. (5 ≤ w) × (w ≤ 6)) (s.finishes.main g)
      (λ q. absurd (omega (arith, inv.status_made (s.finishes.main g) (omega (arith, k.1)))))
      (λ _. omega arith)
      (λ _ _. (k.1, k.2)) in
      (k.0, b.0, b.1)

  publishing : T.Publishing s'
  publishing g = by_finish (λ w. w ≡ 2 → (s.dead (s.finishes.home g) ≡ false) × (s.finishes.published g ≡ 0) × (s'.tasks.status (s.finishes.main g) ≡ 6)) g
      (λ q e _. rw (q, t_main e) ((inv.active f₀ (first e).1).0, omega arith, t-blocked))
      (λ _ e. let k = inv.publishing g e in (k.0, k.1, stays (s.finishes.main g) 6 k.2 (omega arith) (λ q. omega arith)))

  waiting : T.Waiting s'
  waiting g e = let k = inv.waiting g (finish_was g 3 e (λ q. omega arith)) in (k.0, k.1, stays (s.finishes.main g) 7 k.2 (omega arith) (λ q. omega arith))

  released : T.Released s'
  released g e = stays (s.finishes.main g) 7 (inv.released g (finish_was g 4 e (λ q. omega arith))) (omega arith) (λ q. omega arith)

  lost : T.Lost s'
  lost g e =
      let k = inv.lost g (finish_was g 5 e (λ q. omega arith)) in
      (k.0, rw (stays (s.finishes.main g) (s.tasks.status (s.finishes.main g)) refl (omega (arith, k.1)) (λ q. omega (arith, k.1))) k.1)

  dead_home : T.DeadHome s'
  dead_home g z l d = by_finish (λ w. 4 ≤ w) g (λ q e. both (rw q at d) (inv.active f₀ (first e).1).0) (λ _. inv.dead_home g z l d)

  busy : T.Busy s'
  busy x = by_row (λ w. 5 ≤ w → w ≤ 6 → s.dead (s'.tasks.at x) ≡ false) x
      (λ _ l _. absurd (omega (arith, waits)))
      (λ q _ _. let b : t < n = omega (arith, runs.high) in rw q (simp upd-below at_alive))
      (λ a _ l h. rw (upd_other s.tasks.at n p x a) (inv.busy x l h))

  waiters : T.Waiters s'
  waiters x = by_row (λ w. 1 ≤ w → w ≤ 2 → s.dead (s'.tasks.from x) ≡ false) x
      (λ q _ _. rw (q, upd_same) at_alive)
      (λ _ _ h. absurd (omega arith))
      (λ a _ l h. rw (upd_other s.tasks.from n (s.tasks.at t) x a) (inv.waiters x l h))

  lost_tasks : T.LostTasks s'
  lost_tasks x e =
      let e₀ = was x 8 e (λ _ q. omega (arith, waits)) (λ q. omega arith) in
      let b : x < n = omega (arith, inv.status_made x (omega arith)) in
      simp upd-below (inv.lost_tasks x e₀)

  -- the new task is the first of an unpublished finish
  first_task : T.FirstTask s'
  first_task x e u n₅ = eq_cases x n
      (λ q.
      let fresh : s.finishes.published f₀ ≡ 0 = rw (q, upd_same) at u in
      let e₁ : v ≡ 1 = omega arith in
      rw q (simp upd_same (now_publishing e₁, e₁, sym (t_main e₁))))
      (λ ne.
      let d = rw (upd_other s.tasks.sent n 1 x ne) at e in
      let b : x < n = omega (arith, inv.sent_made x (omega (arith, d))) in
      let k = inv.first_task x d (simp upd-below at u) (λ q₅. n₅ (simp upd-below (finish_stays (s.tasks.finish x) 5 q₅ (λ q. omega arith)))) in
      let st = stays x 1 k.1 (omega arith) (λ q. omega arith) in
      rw (st, upd-below s.tasks.finish n f₀ x b, upd-below s.tasks.maker n t x b) (finish_stays (s.tasks.finish x) 2 k.0 (λ q. omega arith), refl, k.2))

  first_lost : T.FirstLost s'
  first_lost x e u q₅ = eq_cases x n
      (λ q.
      let fresh : s.finishes.published f₀ ≡ 0 = rw (q, upd_same) at u in
      let lost₀ : status f₀ ≡ 5 = rw (q, upd_same) at q₅ in
      absurd (omega (arith, now_publishing (omega arith))))
      (λ ne.
      let d = rw (upd_other s.tasks.sent n 1 x ne) at e in
      let b : x < n = omega (arith, inv.sent_made x (omega (arith, d))) in
      stays x 8 (inv.first_lost x d (simp upd-below at u) (finish_was (s.tasks.finish x) 5 (simp upd-below at q₅) (λ q. omega arith))) (omega arith) (λ q. omega arith))

  -- a sum over the tasks grows by the new one, and t moves in it
  pub grows : (b b' : ℕ → Bool) (lo hi : ℕ) → ((x : ℕ) → x < n → b' x ≡ b x)
      → tasks_with s' b' lo hi + weigh (b t) lo hi 5 ≡ tasks_with s b lo hi + weigh (b t) lo hi 6 + weigh (b' n) lo hi v
  grows b b' lo hi same = omega (
    arith,
    grown_blocked s.tasks.made t b b' s.tasks.status v lo hi runs.high same,
    ap (weigh (b t) lo hi) runs.running,
  )

  -- t has one more reason to be blocked, and no other task has
  blocked : T.Blocked s'
  blocked b h =
      let key : ℕ → Bool = λ x. is₂ (s.tasks.sent x) (s.tasks.maker x) 1 b in
      let key' : ℕ → Bool = λ x. is₂ (s'.tasks.sent x) (s'.tasks.maker x) 1 b in
      let opens : ℕ → Bool = λ g. eqb (s.finishes.opener g) b in
      let spawned = grows key key' 1 2 (λ x l. simp upd-below) in
      let was_out = weigh_out (key t) 1 2 5 (λ _ h. omega arith) in
      let is_out = weigh_out (key t) 1 2 6 (λ _ h. omega arith) in
      let new : weigh (key' n) 1 2 v ≡ on (is₂ 1 t 1 b) 1 = simp upd_same (weigh_in (is₂ 1 t 1 b) 1 2 v waits.0 waits.1) in
      let opened = sum_ext (suc s.finishes.made) (λ g. weigh (opens g) 1 3 (s.finishes.status g)) (λ g. weigh (opens g) 1 3 (status g))
      (λ g _. by_finish (λ w. weigh (opens g) 1 3 w ≡ weigh (opens g) 1 3 (s.finishes.status g)) g
      (λ q e. rw (q, (first e).1) (weigh_in (opens f₀) 1 3 2 (omega arith) (omega arith) ∙ sym (weigh_in (opens f₀) 1 3 1 (omega arith) (omega arith))))
      (λ _. refl)) in
      by_row (λ w. weigh true 6 6 w ≡ tasks_with s' key' 1 2 + finishes_with s' opens 1 3) b
      (λ q. omega (
        arith,
        spawned,
        was_out,
        is_out,
        new,
        opened,
        inv.blocked b h,
        weigh_out true 6 6 v (λ h _. omega (arith, waits)),
        weigh_out true 6 6 (s.tasks.status b) (λ l _. omega (arith, inv.status_made b (omega arith))),
        on_false (is₂ 1 t 1 b) 1 (is₂_false 1 t 1 b (λ _ r. omega (arith, runs.high))),
      ))
      (λ q. omega (
        arith,
        spawned,
        was_out,
        is_out,
        new,
        opened,
        inv.blocked b h,
        weigh_in true 6 6 6 (omega arith) (omega arith),
        on_true true 1 refl,
        weigh_out true 6 6 (s.tasks.status b) (λ l _. omega (arith, runs.running, ap s.tasks.status q)),
        on_true (is₂ 1 t 1 b) 1 (rw q (is₂_same 1 t)),
      ))
      (λ _ ne. omega (arith, spawned, was_out, is_out, new, opened, inv.blocked b h, on_false (is₂ 1 t 1 b) 1 (is₂_false 1 t 1 b (λ _ r. ne (sym r)))))

  -- the task that a message names is of before
  task_old : (k : ℕ) → k < s.slots → 1 ≤ (s.slot k).tag → (s.slot k).tag ≤ 6 → (s.slot k).task < n
  task_old k h l m = omega (arith, inv.names_task k h l m)

  none-names : (x : ℕ) → 1 ≤ x → x ≤ 6 → naming s x n ≡ 0
  none-names x l h = eq_cases (naming s x n) 0 (λ e. e)
      (λ some.
      let r = tallied_some s x (λ m. eqb m.task n) (λ m. 1) (omega arith) in
      absurd (omega (arith, task_old r.0 r.1 (omega (arith, r.2)) (omega (arith, r.2)), eqb-true (s.slot r.0).task n r.3)))

  pub unnamed : naming s 1 n + naming s 2 n + naming s 3 n + naming s 4 n + naming s 5 n + naming s 6 n ≡ 0
  unnamed = omega (
    arith,
    none-names 1 (omega arith) (omega arith),
    none-names 2 (omega arith) (omega arith),
    none-names 3 (omega arith) (omega arith),
    none-names 4 (omega arith) (omega arith),
    none-names 5 (omega arith) (omega arith),
    none-names 6 (omega arith) (omega arith),
  )

  names_task : M.NamesTask s'
  names_task k h l m =
      let b = task_old k h l m in
      let r = inv.names_task k h l m in
      simp upd-below (r.0, omega (arith, r.1), r.2, r.3)

  names_pair : M.NamesPair s'
  names_pair k h l m = let b = task_old k h (omega arith) m in simp upd-below (inv.names_pair k h l m)

  publishes : M.Publishes s'
  publishes k h e =
      let m = s.slot k in
      let r = inv.publishes k h e in (
        r.0,
        r.1,
        (λ a. (finish_stays m.finish 2 (r.2 a).0 (λ q. omega arith), stays m.task 1 (r.2 a).1 (omega arith) (λ q. omega arith))),
        (λ d. finish_stays m.finish 5 (r.3 d) (λ q. omega arith)),
      )

  published : M.Published s'
  published k h e =
      let m = s.slot k in
      let r = inv.published k h e in
      (r.0, r.1, finish_stays m.finish 2 r.2 (λ q. omega arith), stays m.task 1 r.3 (omega arith) (λ q. omega arith))

  transits : M.Transits s'
  transits k h l m a = let r = inv.transits k h l m a in (stays (s.slot k).task 2 r.0 (omega arith) (λ q. omega arith), r.1)

  lost_transits : M.LostTransits s'
  lost_transits k h l m a = let r = inv.lost_transits k h l m a in (r.0, stays (s.slot k).task 8 r.1 (omega arith) (λ q. omega arith))

  on_wire : M.OnWire s'
  on_wire k h e = let r = inv.on_wire k h e in (stays (s.slot k).task 3 r.0 (omega arith) (λ q. omega arith), r.1)

  release_some : M.ReleaseSome s'
  release_some g e = inv.release_some g (finish_was g 3 e (λ q. omega arith))

  release_none : M.ReleaseNone s'
  release_none g n₃ = inv.release_none g (λ e. n₃ (finish_stays g 3 e (λ q. omega arith)))

  book_unreleased : B.BookUnreleased s'
  book_unreleased g b e = inv.book_unreleased g b (finish_was g 4 e (λ q. omega arith))

  active_book : B.ActiveBook s'
  active_book g e = inv.active_book g (finish_was g 1 e (λ q. omega arith))

  -- the finish, whose main task ran, is not between a book and its parent
  skipped : B.Skipped s'
  skipped g x b u w n₁ n₂ =
      let r = inv.skipped g x b u w n₁ n₂ in
      let same : status x ≡ s.finishes.status x = by_finish (λ w. w ≡ s.finishes.status x) x
      (λ q e. absurd (bool_cases (s.dead (s.finishes.home g))
      (λ d. omega (arith, r.4 d, (first e).1, ap s.finishes.status q))
      (λ a. not_skipped s inv g x b a u w n₁ n₂ (omega (arith, made)) (ap s.tasks.status (ap s.finishes.main q ∙ t_main e) ∙ runs.running))))
      (λ _. refl) in
      rw same r

  -- no main task has ended
  ended_same : (g i j : ℕ) → ended s' g i j ≡ ended s g i j
  ended_same g i j =
      let b = is₂ (s.finishes.home g) (s.finishes.home g) i j in
      by_finish (λ w. weigh b 3 5 w ≡ weigh b 3 5 (s.finishes.status g)) g
      (λ q e. weigh_out b 3 5 2 (λ l _. omega arith) ∙ sym (weigh_out b 3 5 (s.finishes.status g) (λ l _. omega (arith, (first e).1, ap s.finishes.status q))))
      (λ _. refl)

  counted : C.Counted s'
  counted g i j b a d = omega (arith, inv.counted g i j b a d, ended_same g i j)

  counted_denied : C.CountedDenied s'
  counted_denied g i j b a d = omega (arith, inv.counted_denied g i j b a d, ended_same g i j)

  local_live : L.LocalLive s'
  local_live f j =
      let key : ℕ → Bool = λ x. is₃ (s.tasks.sent x) (s.tasks.finish x) (s.tasks.at x) 1 f j in
      let key' : ℕ → Bool = λ x. is₃ (s'.tasks.sent x) (s'.tasks.finish x) (s'.tasks.at x) 1 f j in
      omega (
        arith,
        inv.local_live f j,
        grows key key' 5 6 (λ x l. simp upd-below),
        weigh_in (key t) 5 6 5 (omega arith) (omega arith),
        weigh_in (key t) 5 6 6 (omega arith) (omega arith),
        weigh_out (key' n) 5 6 v (λ l _. omega (arith, waits)),
      )

  pub spawns : Spawned s'
  spawns = search (
    task_ranges,
    main_tasks,
    sent_tasks,
    task_statuses,
    main_statuses,
    status_made,
    sent_made,
    finish_ranges,
    opened,
    mains,
    finish_statuses,
    finish_made,
    active,
    publishing,
    waiting,
    released,
    lost,
    dead_home,
    busy,
    waiters,
    lost_tasks,
    first_task,
    first_lost,
    blocked,
    names_task,
    names_pair,
    publishes,
    published,
    transits,
    lost_transits,
    on_wire,
    release_some,
    release_none,
    book_unreleased,
    active_book,
    skipped,
    counted,
    counted_denied,
    local_live,
  )
