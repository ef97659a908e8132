-- A finish whose main task has ended waits for release now, or is released and its opener runs: what holds of both, before any slot is written.
use Rattle.std.specs.Prelude.{◌≡◌, refl, Bool, true, false, ℕ, suc, ◌+◌, ◌≤◌, ◌<◌, eqb}
use Rattle.std.proofs.Common.{sym, ap, ◌∙◌, arith, eq-eqb, ne_eqb}
use Rattle.model.specs.Base.{upd, upd_other, upd-cases, on_true, on_false, is₂, is₃, is₃_false, sum_ext, sum-upd, eq_cases, bool_cases, both}
use Rattle.model.specs.State.{State, with_task_status, with_finish_status}
use Rattle.model.specs.Weights.{weigh, weigh_in, weigh_out, weigh_off, weigh-le, tasks_with, finishes_with}
use Rattle.model.specs.Inv.{Inv}
use Rattle.model.specs.Inv.Rows as R
use Rattle.model.specs.Inv.Statuses as T
use Rattle.model.specs.Inv.Messages as M
use Rattle.model.specs.Inv.Books as B
use Rattle.model.specs.Inv.Cells as C
use Rattle.model.specs.Inv.Locals as L
use Rattle.model.proofs.Facts.Openers.{not_skipped}
use Rattle.model.proofs.Facts.Publishing.{opens_none}

-- what is shown
pub record FinishTurned (s : State) : Type 0 where
  pub task_statuses : R.TaskStatuses s
  pub main_statuses : R.MainStatuses s
  pub status_made : R.StatusMade s
  pub finish_statuses : R.FinishStatuses s
  pub finish_made : R.FinishMade s
  pub active : T.Active s
  pub publishing : T.Publishing s
  pub waiting : T.Waiting s
  pub released : T.Released s
  pub lost : T.Lost s
  pub dead_home : T.DeadHome s
  pub busy : T.Busy s
  pub waiters : T.Waiters s
  pub lost_tasks : T.LostTasks s
  pub first_task : T.FirstTask s
  pub first_lost : T.FirstLost s
  pub blocked : T.Blocked s
  pub publishes : M.Publishes s
  pub published : M.Published s
  pub publish_some : M.PublishSome s
  pub transits : M.Transits s
  pub lost_transits : M.LostTransits s
  pub on_wire : M.OnWire s
  pub named_publish : M.NamedPublish s
  pub named_transit : M.NamedTransit s
  pub book_unreleased : B.BookUnreleased s
  pub active_book : B.ActiveBook s
  pub skipped : B.Skipped s
  pub sent_tasks_most : C.SentTasksMost s
  pub local_live : L.LocalLive s

-- t has ended, the blocked task o (0 is none) runs, and every other task is as it was
abbrev pub Rows : State → ℕ → ℕ → (ℕ → ℕ) → Type 1
Rows s t o status = (P : ℕ → Type 0) (x : ℕ) → (x ≡ t → P 7) → (0 < o → x ≡ o → s.tasks.status x ≡ 6 → P 5)
    → ((x ≡ t → ⊥) → (0 < o → x ≡ o → ⊥) → P (s.tasks.status x)) → P (status x)

-- the finish goes from status u, active with a running main task or waiting for release, to status v: 3 if it waits now, 4 if it is released
module _ (s : State) (f₀ u v o : ℕ) (status : ℕ → ℕ) (inv : Inv s) (was-u : s.finishes.status f₀ ≡ u) (u-low : 1 ≤ u) (u-not : u ≡ 2 → ⊥) (rises : u < v) (v_low : 3 ≤ v) (v_high : v ≤ 4)
    (runs : u ≡ 1 → s.tasks.status (s.finishes.main f₀) ≡ 5) (waits : v ≡ 3 → (s.finishes.published f₀ ≡ 1) × (o ≡ 0))
    (wakes : v ≡ 4 → (s.books.present f₀ ≡ 0) × (o ≡ s.finishes.opener f₀)) (by_Row : Rows s (s.finishes.main f₀) o status) where
  abbrev t : ℕ
  t = s.finishes.main f₀

  abbrev s' : State
  s' = with_finish_status (upd s.finishes.status f₀ v) (with_task_status status s)

  made : (0 < f₀) × (f₀ ≤ s.finishes.made)
  made = inv.finish_made f₀ (omega arith)

  home_lives : s.dead (s.finishes.home f₀) ≡ false
  home_lives = eq_cases u 1 (λ e. (inv.active f₀ (was-u ∙ e)).0) (λ n. (inv.waiting f₀ (omega arith)).0)

  -- the main task runs or has ended
  t_was : (5 ≤ s.tasks.status t) × (s.tasks.status t ≤ 7) × (s.tasks.status t ≡ 6 → ⊥)
  t_was = eq_cases u 1
      (λ e. let r = runs e in (omega arith, omega arith, λ q. omega arith))
      (λ n. let r = (inv.waiting f₀ (omega arith)).2 in (omega arith, omega arith, λ q. omega arith))

  t_made : (0 < t) × (t ≤ s.tasks.made)
  t_made = inv.status_made t (omega (arith, t_was.0))

  is_main : s.tasks.sent t ≡ 0
  is_main = (inv.mains f₀ made.0 made.1).1

  opener : 0 < o → (v ≡ 4) × (o ≡ s.finishes.opener f₀)
  opener z = eq_cases v 3 (λ e. absurd (omega (arith, (waits e).1))) (λ n. let e : v ≡ 4 = omega arith in (e, (wakes e).1))

  -- the main task of another finish is another
  main_other : (g : ℕ) → 0 < s.finishes.status g → (g ≡ f₀ → ⊥) → s.finishes.main g ≡ t → ⊥
  main_other g h n q = let b = inv.finish_made g h in n (sym (inv.mains g b.0 b.1).0 ∙ ap s.tasks.finish q ∙ (inv.mains f₀ made.0 made.1).0)

  by_finish : (P : ℕ → Type 0) (g : ℕ) → (g ≡ f₀ → P v) → ((g ≡ f₀ → ⊥) → P (s.finishes.status g)) → P (s'.finishes.status g)
  by_finish P g a b = upd-cases s.finishes.status P f₀ v g a b

  finish_was : (g w : ℕ) → s'.finishes.status g ≡ w → (w ≡ v → ⊥) → (s.finishes.status g ≡ w) × (g ≡ f₀ → ⊥)
  finish_was g w e n = by_finish (λ y. y ≡ w → (s.finishes.status g ≡ w) × (g ≡ f₀ → ⊥)) g (λ _ q. absurd (n (sym q))) (λ ne q. (q, ne)) e

  finish_stays : (g w : ℕ) → s.finishes.status g ≡ w → (w ≡ u → ⊥) → s'.finishes.status g ≡ w
  finish_stays g w e n = upd_other s.finishes.status f₀ v g (λ q. n (sym e ∙ ap s.finishes.status q ∙ was-u)) ∙ e

  -- a status of before other than 5 and 6 stays
  stays : (x w : ℕ) → s.tasks.status x ≡ w → (w ≡ 5 → ⊥) → (w ≡ 6 → ⊥) → status x ≡ w
  stays x w e n₅ n₆ = by_Row (λ y. y ≡ w) x
      (λ q. eq_cases w 7 sym (λ n₇. absurd (omega (arith, t_was.0, t_was.1, ap s.tasks.status q))))
      (λ _ _ q. absurd (n₆ (sym e ∙ q)))
      (λ _ _. e)

  was : (x w : ℕ) → status x ≡ w → (w ≡ 7 → ⊥) → (w ≡ 5 → ⊥) → s.tasks.status x ≡ w
  was x w e n₇ n₅ = by_Row (λ y. y ≡ w → s.tasks.status x ≡ w) x (λ _ q. absurd (n₇ (sym q))) (λ _ _ _ q. absurd (n₅ (sym q))) (λ _ _ q. q) e

  main_ended : status (s.finishes.main f₀) ≡ 7
  main_ended = by_Row (λ w. w ≡ 7) t (λ _. refl) (λ _ _ q. absurd (t_was.2 q)) (λ n _. absurd (n refl))

  task_statuses : R.TaskStatuses s'
  task_statuses x z l = by_Row (λ w. (0 < w) × (w ≤ 8)) x (λ _. omega arith) (λ _ _ _. omega arith) (λ _ _. inv.task_statuses x z l)

  main_statuses : R.MainStatuses s'
  main_statuses x z l e = by_Row (λ w. 5 ≤ w) x (λ _. omega arith) (λ _ _ _. omega arith) (λ _ _. inv.main_statuses x z l e)

  status_made : R.StatusMade s'
  status_made x = by_Row (λ w. 0 < w → (0 < x) × (x ≤ s.tasks.made)) x
      (λ q _. omega (arith, t_made))
      (λ _ _ q _. inv.status_made x (omega arith))
      (λ _ _. inv.status_made x)

  finish_statuses : R.FinishStatuses s'
  finish_statuses g z l = by_finish (λ w. (0 < w) × (w ≤ 5)) g (λ _. omega arith) (λ _. inv.finish_statuses g z l)

  finish_made : R.FinishMade s'
  finish_made g = by_finish (λ w. 0 < w → (0 < g) × (g ≤ s.finishes.made)) g (λ q _. omega (arith, made)) (λ _. inv.finish_made g)

  active : T.Active s'
  active g e =
      let w = finish_was g 1 e (λ q. omega arith) in
      let k = inv.active g w.0 in
      let b : (5 ≤ status (s.finishes.main g)) × (status (s.finishes.main g) ≤ 6) = by_Row (λ w. (5 ≤ w) × (w ≤ 6)) (s.finishes.main g)
      (λ q. absurd (main_other g (omega (arith, w.0)) w.1 q))
      (λ _ _ _. omega arith)
      (λ _ _. (k.1, k.2)) in
      (k.0, b.0, b.1)

  -- the main task of a publishing finish is another than the opener
  publishing : T.Publishing s'
  publishing g e =
      let w = finish_was g 2 e (λ q. omega arith) in
      let k = inv.publishing g w.0 in (
        k.0,
        k.1,
        by_Row (λ w. w ≡ 6) (s.finishes.main g)
            (λ q. absurd (main_other g (omega (arith, w.0)) w.1 q))
            (λ z q _. absurd (opens_none s inv g w.0 f₀ (omega arith) (omega arith) (omega (arith, opener z)) (q ∙ (opener z).1)))
            (λ _ _. k.2),
      )

  waiting : T.Waiting s'
  waiting g = by_finish (λ w. w ≡ 3 → (s.dead (s.finishes.home g) ≡ false) × (s.finishes.published g ≡ 1) × (status (s.finishes.main g) ≡ 7)) g
      (λ q e. rw q (home_lives, (waits e).0, main_ended))
      (λ _ e. let k = inv.waiting g e in (k.0, k.1, stays (s.finishes.main g) 7 k.2 (λ q. omega arith) (λ q. omega arith)))

  released : T.Released s'
  released g = by_finish (λ w. w ≡ 4 → status (s.finishes.main g) ≡ 7) g
      (λ q _. rw q main_ended)
      (λ _ e. stays (s.finishes.main g) 7 (inv.released g e) (λ q. omega arith) (λ q. omega arith))

  lost : T.Lost s'
  lost g e =
      let k = inv.lost g (finish_was g 5 e (λ q. omega arith)).0 in
      (k.0, by_Row (λ w. 7 ≤ w) (s.finishes.main g) (λ _. omega arith) (λ _ _ q. absurd (omega (arith, k.1))) (λ _ _. k.1))

  dead_home : T.DeadHome s'
  dead_home g z l d = by_finish (λ w. 4 ≤ w) g (λ q. both (rw q at d) home_lives) (λ _. inv.dead_home g z l d)

  busy : T.Busy s'
  busy x = by_Row (λ w. 5 ≤ w → w ≤ 6 → s.dead (s.tasks.at x) ≡ false) x
      (λ _ _ h. absurd (omega arith))
      (λ _ _ q _ _. inv.busy x (omega arith) (omega arith))
      (λ _ _. inv.busy x)

  waiters : T.Waiters s'
  waiters x = by_Row (λ w. 1 ≤ w → w ≤ 2 → s.dead (s.tasks.from x) ≡ false) x (λ _ _ h. absurd (omega arith)) (λ _ _ _ _ h. absurd (omega arith)) (λ _ _. inv.waiters x)

  lost_tasks : T.LostTasks s'
  lost_tasks x e = inv.lost_tasks x (was x 8 e (λ q. omega arith) (λ q. omega arith))

  -- the finish, being active, has no sent task if it is unpublished
  first_task : T.FirstTask s'
  first_task x e p n₅ =
      let k = inv.first_task x e p (λ q. n₅ (finish_stays (s.tasks.finish x) 5 q (λ q. omega arith))) in
      (finish_stays (s.tasks.finish x) 2 k.0 (λ q. omega arith), stays x 1 k.1 (λ q. omega arith) (λ q. omega arith), k.2)

  first_lost : T.FirstLost s'
  first_lost x e p q₅ = stays x 8 (inv.first_lost x e p (finish_was (s.tasks.finish x) 5 q₅ (λ q. omega arith)).0) (λ q. omega arith) (λ q. omega arith)

  publishes : M.Publishes s'
  publishes k h e =
      let m = s.slot k in
      let r = inv.publishes k h e in (
        r.0,
        r.1,
        (λ a. (finish_stays m.finish 2 (r.2 a).0 (λ q. omega arith), stays m.task 1 (r.2 a).1 (λ q. omega arith) (λ q. omega arith))),
        (λ d. finish_stays m.finish 5 (r.3 d) (λ q. omega arith)),
      )

  published : M.Published s'
  published k h e =
      let m = s.slot k in
      let r = inv.published k h e in
      (r.0, r.1, finish_stays m.finish 2 r.2 (λ q. omega arith), stays m.task 1 r.3 (λ q. omega arith) (λ q. omega arith))

  publish_some : M.PublishSome s'
  publish_some g e = inv.publish_some g (finish_was g 2 e (λ q. omega arith)).0

  transits : M.Transits s'
  transits k h l m a = let r = inv.transits k h l m a in (stays (s.slot k).task 2 r.0 (λ q. omega arith) (λ q. omega arith), r.1)

  lost_transits : M.LostTransits s'
  lost_transits k h l m a = let r = inv.lost_transits k h l m a in (r.0, stays (s.slot k).task 8 r.1 (λ q. omega arith) (λ q. omega arith))

  on_wire : M.OnWire s'
  on_wire k h e = let r = inv.on_wire k h e in (stays (s.slot k).task 3 r.0 (λ q. omega arith) (λ q. omega arith), r.1)

  named_publish : M.NamedPublish s'
  named_publish x e = inv.named_publish x (was x 1 e (λ q. omega arith) (λ q. omega arith))

  named_transit : M.NamedTransit s'
  named_transit x e = inv.named_transit x (was x 2 e (λ q. omega arith) (λ q. omega arith))

  book_unreleased : B.BookUnreleased s'
  book_unreleased g p = by_finish (λ w. w ≡ 4 → ⊥) g
      (λ q e. omega (arith, (wakes e).0, ap s.books.present q))
      (λ _. inv.book_unreleased g p)

  active_book : B.ActiveBook s'
  active_book g e = inv.active_book g (finish_was g 1 e (λ q. omega arith)).0

  -- the finish is not between a book and its parent: it waited for release, or its main task runs
  skipped : B.Skipped s'
  skipped g x p above w n₁ n₂ =
      let r = inv.skipped g x p above w n₁ n₂ in
      let other : x ≡ f₀ → ⊥ = λ q. bool_cases (s.dead (s.finishes.home g))
      (λ d. omega (arith, r.4 d, ap s.finishes.status q))
      (λ a. not_skipped s inv g x p a above w n₁ n₂ (omega (arith, made)) (ap s.tasks.status (ap s.finishes.main q) ∙ runs (sym was-u ∙ ap s.finishes.status (sym q) ∙ r.3 a))) in
      rw (upd_other s.finishes.status f₀ v x other) r

  -- a sum over the tasks that counts running as blocked, and t ended as before
  same_sum : (key : ℕ → Bool) (lo hi : ℕ) → weigh (key t) lo hi 7 ≡ weigh (key t) lo hi (s.tasks.status t) → ((x : ℕ) → weigh (key x) lo hi 5 ≡ weigh (key x) lo hi 6)
      → tasks_with s' key lo hi ≡ tasks_with s key lo hi
  same_sum key lo hi at-end alike = sum_ext (suc s.tasks.made) (λ x. weigh (key x) lo hi (s.tasks.status x)) (λ x. weigh (key x) lo hi (status x))
      (λ x _. by_Row (λ w. weigh (key x) lo hi w ≡ weigh (key x) lo hi (s.tasks.status x)) x
      (λ q. rw q at-end)
      (λ _ _ q. rw q (alike x))
      (λ _ _. refl))

  -- its opener, if it is woken, is blocked by the finish no more
  blocked : T.Blocked s'
  blocked b h =
      let key : ℕ → Bool = λ x. is₂ (s.tasks.sent x) (s.tasks.maker x) 1 b in
      let opens : ℕ → Bool = λ g. eqb (s.finishes.opener g) b in
      let out : (x w : ℕ) → 2 < w → weigh (key x) 1 2 w ≡ 0 = λ x w l. weigh_out (key x) 1 2 w (λ _ h. omega arith) in
      let spawned = same_sum key 1 2 (out t 7 (omega arith) ∙ sym (out t (s.tasks.status t) (omega (arith, t_was.0)))) (λ x. out x 5 (omega arith) ∙ sym (out x 6 (omega arith))) in
      let opened = sum-upd (suc s.finishes.made) (λ g w. weigh (opens g) 1 3 w) s.finishes.status f₀ v (omega (arith, made)) in
      let was_in = weigh_in (opens f₀) 1 3 (s.finishes.status f₀) (omega arith) (omega arith) in
      by_Row (λ w. weigh true 6 6 w ≡ tasks_with s' key 1 2 + finishes_with s' opens 1 3) b
      (λ q. omega (
        arith,
        spawned,
        opened,
        was_in,
        weigh-le (opens f₀) 1 3 v,
        inv.blocked b h,
        weigh_out true 6 6 7 (λ _ l. omega arith),
        weigh_out true 6 6 (s.tasks.status b) (λ l h. t_was.2 (omega (arith, ap s.tasks.status q))),
      ))
      (λ z q q₆. omega (
        arith,
        spawned,
        opened,
        was_in,
        weigh_out (opens f₀) 1 3 v (λ _ l. omega (arith, (opener z).0)),
        inv.blocked b h,
        on_true (opens f₀) 1 (eq-eqb (s.finishes.opener f₀) b (sym (q ∙ (opener z).1))),
        weigh_out true 6 6 5 (λ l _. omega arith),
        weigh_in true 6 6 (s.tasks.status b) (omega arith) (omega arith),
        on_true true 1 refl,
      ))
      (λ _ ne. eq_cases v 3
      (λ e. omega (arith, spawned, opened, was_in, weigh_in (opens f₀) 1 3 v (omega arith) (omega arith), inv.blocked b h))
      (λ n₃.
      let e = (wakes (omega arith)).1 in
      omega (
        arith,
        spawned,
        opened,
        was_in,
        weigh-le (opens f₀) 1 3 v,
        inv.blocked b h,
        on_false (opens f₀) 1 (ne_eqb (s.finishes.opener f₀) b (λ q. ne (omega arith) (sym (e ∙ q)))),
      )))

  sent_tasks_most : C.SentTasksMost s'
  sent_tasks_most f i j ne =
      let key : ℕ → Bool = λ x. is₃ (s.tasks.finish x) (s.tasks.from x) (s.tasks.at x) f i j in
      let all : (x w : ℕ) → 2 ≤ w → w ≤ 8 → weigh (key x) 2 8 w ≡ weigh (key x) 2 8 5 = λ x w l h. weigh_in (key x) 2 8 w l h ∙ sym (weigh_in (key x) 2 8 5 (omega arith) (omega arith)) in
      omega (arith, inv.sent_tasks_most f i j ne, same_sum key 2 8 (all t 7 (omega arith) (omega arith) ∙ sym (all t (s.tasks.status t) (omega (arith, t_was.0)) (omega (arith, t_was.1)))) (λ x. sym (all x 6 (omega arith) (omega arith))))

  -- a main task is not counted
  local_live : L.LocalLive s'
  local_live f j =
      let key : ℕ → Bool = λ x. is₃ (s.tasks.sent x) (s.tasks.finish x) (s.tasks.at x) 1 f j in
      let off : key t ≡ false = is₃_false (s.tasks.sent t) (s.tasks.finish t) (s.tasks.at t) 1 f j (λ e _ _. omega (arith, is_main)) in
      omega (
        arith,
        inv.local_live f j,
        same_sum key 5 6 (weigh_off (key t) 5 6 7 off ∙ sym (weigh_off (key t) 5 6 (s.tasks.status t) off))
            (λ x. weigh_in (key x) 5 6 5 (omega arith) (omega arith) ∙ sym (weigh_in (key x) 5 6 6 (omega arith) (omega arith))),
      )

  pub turns : FinishTurned s'
  turns = search (
    task_statuses,
    main_statuses,
    status_made,
    finish_statuses,
    finish_made,
    active,
    publishing,
    waiting,
    released,
    lost,
    dead_home,
    busy,
    waiters,
    lost_tasks,
    first_task,
    first_lost,
    blocked,
    publishes,
    published,
    publish_some,
    transits,
    lost_transits,
    on_wire,
    named_publish,
    named_transit,
    book_unreleased,
    active_book,
    skipped,
    sent_tasks_most,
    local_live,
  )
