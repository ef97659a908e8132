-- To open a finish keeps the invariant.
use Rattle.std.specs.Prelude.{◌≡◌, refl, true, false, ℕ, suc, ◌+◌, ◌≤◌, ◌<◌, eqb, leb}
use Rattle.std.proofs.Common.{sym, ap, ◌∙◌, arith, eq-eqb, ne_eqb, leb-true, leb-false}
use Rattle.model.specs.Base.{upd, upd_same, upd_other, upd-below, upd-cases, on, on_true, on_false, is₂, is₃, is₃_false, eq_cases, bool_cases, both}
use Rattle.model.specs.State.{State}
use Rattle.model.specs.Nesting.{Under, under_same, under_le}
use Rattle.model.specs.Weights.{weigh, weigh_in, weigh_out, weigh_off, tasks_with, finishes_with}
use Rattle.model.specs.Guards.{Runs}
use Rattle.model.specs.Effects.Open.{open_finish}
use Rattle.model.specs.Inv.{Inv}
use Rattle.model.specs.Inv.Rows.{TaskRanges, MainTasks, SentTasks, TaskStatuses, MainStatuses, StatusMade, SentMade, FinishRanges, Root, Opened, Mains, FinishStatuses, PublishedMark, FinishMade, PublishedMade, BlankFinishes}
use Rattle.model.specs.Inv.Statuses.{Active, Publishing, Waiting, Released, Lost, DeadHome, Busy, Waiters, LostTasks, FirstTask, FirstLost, Blocked}
use Rattle.model.specs.Inv.Messages.{NamesFinish, NamesTask, NamesPair, Publishes, Published, PublishSome, Transits, LostTransits, OnWire, NamedPublish, NamedTransit, ReleaseSome, ReleaseNone, GhostMade, GhostEnds, FreshMessages, FreshLocals, FreshBook}
use Rattle.model.specs.Inv.Books.{BookMade, BookUnreleased, ActiveBook, AdoptedDead, Orphans, BookAbove, Skipped}
use Rattle.model.specs.Inv.Cells.{Counted, CountedDenied, SentFrom, SentMost, SentTasksMost}
use Rattle.model.specs.Inv.Locals.{LocalLive}
use Rattle.model.proofs.Facts.{parent-le}
use Rattle.model.proofs.Steps.NewRows.{grown, grown_blocked}

module _ (s : State) (t : ℕ) (inv : Inv s) (runs : Runs s t) where
  abbrev s' : State
  s' = open_finish s t

  abbrev n : ℕ
  n = suc s.tasks.made

  abbrev g : ℕ
  g = suc s.finishes.made

  -- a task of before, but for t, has its status
  kept : (x : ℕ) → (x ≡ n → ⊥) → (x ≡ t → ⊥) → s'.tasks.status x ≡ s.tasks.status x
  kept x a b = upd_other (upd s.tasks.status t 6) n 5 x a ∙ upd_other s.tasks.status t 6 x b

  -- what is to be shown of a status
  by_row : (P : ℕ → Type 0) (x : ℕ) → (x ≡ n → P 5) → (x ≡ t → P 6) → ((x ≡ n → ⊥) → (x ≡ t → ⊥) → P (s.tasks.status x)) → P (s'.tasks.status x)
  by_row P x a b c = upd-cases (upd s.tasks.status t 6) P n 5 x a (λ k. upd-cases s.tasks.status P t 6 x b (λ l. c k l))

  -- a status of before other than 5 stays
  stays : (x v : ℕ) → s.tasks.status x ≡ v → 0 < v → (v ≡ 5 → ⊥) → s'.tasks.status x ≡ v
  stays x v e p ne = kept x (λ q. omega (arith, inv.status_made x (omega arith))) (λ q. ne (sym e ∙ ap s.tasks.status q ∙ runs.running)) ∙ e

  was : (x v : ℕ) → s'.tasks.status x ≡ v → (v ≡ 5 → ⊥) → (v ≡ 6 → ⊥) → s.tasks.status x ≡ v
  was x v e a b = by_row (λ w. w ≡ v → s.tasks.status x ≡ v) x (λ _ q. absurd (a (sym q))) (λ _ q. absurd (b (sym q))) (λ _ _ q. q) e

  at_alive : s.dead (s.tasks.at t) ≡ false
  at_alive = inv.busy t (omega (arith, runs.running)) (omega (arith, runs.running))

  busy_stays : (x : ℕ) → 5 ≤ s.tasks.status x → s.tasks.status x ≤ 6 → (5 ≤ s'.tasks.status x) × (s'.tasks.status x ≤ 6)
  busy_stays x l h = by_row (λ w. (5 ≤ w) × (w ≤ 6)) x (λ _. omega arith) (λ _. omega arith) (λ _ _. (l, h))

  ended_stays : (x : ℕ) → 7 ≤ s.tasks.status x → 7 ≤ s'.tasks.status x
  ended_stays x h = rw (stays x (s.tasks.status x) refl (omega arith) (λ q. omega arith)) h

  -- a finish that is not the new one, by its status
  older : (f v : ℕ) → s'.finishes.status f ≡ v → (v ≡ 1 → ⊥) → (f ≡ g → ⊥) × (s.finishes.status f ≡ v)
  older f v e n₁ = eq_cases f g
      (λ q. absurd (n₁ (sym e ∙ ap s'.finishes.status q ∙ upd_same s.finishes.status g 1)))
      (λ ne. (ne, rw (upd_other s.finishes.status g 1 f ne) at e))

  -- a book's finish, and a message's, is not the new one
  booked : (f : ℕ) → s.books.present f ≡ 1 → f ≡ g → ⊥
  booked f p q = omega (arith, inv.book_made f p)

  named : (k : ℕ) → k < s.slots → 1 ≤ (s.slot k).tag → (s.slot k).finish < g
  named k h l = omega (arith, inv.names_finish k h l)

  task_ranges : TaskRanges s'
  task_ranges x z l = eq_cases x n
      (λ q. let r = inv.task_ranges t runs.low runs.high in rw q (simp upd_same (r.1, r.1, omega arith, omega arith, omega arith, omega (arith, runs.high))))
      (λ ne.
      let b : x < n = omega arith in
      let r = inv.task_ranges x z (omega arith) in
      simp upd-below (r.0, r.1, r.2, omega (arith, r.3), r.4, r.5))

  main_tasks : MainTasks s'
  main_tasks x z l e = eq_cases x n
      (λ q. rw q (simp upd_same (refl, refl, refl, refl)))
      (λ ne.
      let b : x < n = omega arith in
      let c : s.tasks.finish x < g = omega (arith, inv.task_ranges x z (omega arith)) in
      simp upd-below (inv.main_tasks x z (omega arith) (simp upd-below at e)))

  old_sent : (x : ℕ) → s'.tasks.sent x ≡ 1 → (x < n) × (s.tasks.sent x ≡ 1)
  old_sent x e = eq_cases x n
      (λ q. absurd (omega (arith, ap s'.tasks.sent q, upd_same s.tasks.sent n 0)))
      (λ ne. let d : s.tasks.sent x ≡ 1 = rw (upd_other s.tasks.sent n 0 x ne) at e in (omega (arith, inv.sent_made x (omega arith)), d))

  sent_tasks : SentTasks s'
  sent_tasks x e =
      let d = old_sent x e in
      let b : x < n = d.0 in
      let m = inv.sent_made x (omega (arith, d.1)) in
      let c : s.tasks.maker x < n = omega (arith, inv.task_ranges x m.0 m.1) in
      simp upd-below (inv.sent_tasks x d.1)

  task_statuses : TaskStatuses s'
  task_statuses x z l = by_row (λ w. (0 < w) × (w ≤ 8)) x (λ _. omega arith) (λ _. omega arith) (λ a _. inv.task_statuses x z (omega arith))

  main_statuses : MainStatuses s'
  main_statuses x z l e = by_row (λ w. 5 ≤ w) x (λ _. omega arith) (λ _. omega arith) (λ a _. inv.main_statuses x z (omega arith) (rw (upd_other s.tasks.sent n 0 x a) at e))

  status_made : StatusMade s'
  status_made x = by_row (λ w. 0 < w → (0 < x) × (x ≤ n)) x
      (λ q _. omega arith)
      (λ q _. omega (arith, runs.low, runs.high))
      (λ _ _ h. omega (arith, inv.status_made x h))

  sent_made : SentMade s'
  sent_made x = upd-cases s.tasks.sent (λ w. 0 < w → (0 < x) × (x ≤ n)) n 0 x (λ q h. absurd (omega arith)) (λ ne h. omega (arith, inv.sent_made x h))

  finish_ranges : FinishRanges s'
  finish_ranges f z l = eq_cases f g
      (λ q. let r = inv.task_ranges t runs.low runs.high in rw q (simp upd_same (r.1, omega (arith, runs.high), omega (arith, r.3), omega arith)))
      (λ ne.
      let b : f < g = omega arith in
      let r = inv.finish_ranges f z (omega arith) in
      simp upd-below (r.0, r.1, r.2, omega (arith, r.3)))

  root : Root s'
  root =
      let r = inv.root in
      let b : 1 < g = omega (arith, r.0) in
      simp upd-below (omega arith, r.1, r.2, r.3, r.4)

  opened : Opened s'
  opened f h l = eq_cases f g
      (λ q. let b : t < n = omega (arith, runs.high) in rw q (simp (upd_same, upd-below) (runs.low, refl, refl)))
      (λ ne.
      let b : f < g = omega arith in
      let c : s.finishes.opener f < n = omega (arith, inv.finish_ranges f (omega arith) (omega arith)) in
      simp upd-below (inv.opened f h (omega arith)))

  mains : Mains s'
  mains f z l = eq_cases f g
      (λ q. rw q (simp upd_same (refl, refl)))
      (λ ne.
      let b : f < g = omega arith in
      let c : s.finishes.main f < n = omega (arith, inv.finish_ranges f z (omega arith)) in
      simp upd-below (inv.mains f z (omega arith)))

  finish_statuses : FinishStatuses s'
  finish_statuses f z l = upd-cases s.finishes.status (λ w. (0 < w) × (w ≤ 5)) g 1 f (λ _. omega arith) (λ ne. inv.finish_statuses f z (omega arith))

  published_mark : PublishedMark s'
  published_mark f = upd-cases s.finishes.published (λ w. w ≤ 1) g 0 f (λ _. omega arith) (λ _. inv.published_mark f)

  finish_made : FinishMade s'
  finish_made f = upd-cases s.finishes.status (λ w. 0 < w → (0 < f) × (f ≤ g)) g 1 f (λ q _. omega arith) (λ ne h. omega (arith, inv.finish_made f h))

  published_made : PublishedMade s'
  published_made f = upd-cases s.finishes.published (λ w. 0 < w → (0 < f) × (f ≤ g)) g 0 f (λ q _. omega arith) (λ ne h. omega (arith, inv.published_made f h))

  blank_finishes : BlankFinishes s'
  blank_finishes f h =
      let ne : f ≡ g → ⊥ = λ q. h (omega arith) (omega arith) in
      simp upd_other (inv.blank_finishes f (λ z l. h z (omega arith)))

  active : Active s'
  active f e = eq_cases f g
      (λ q. rw q (simp upd_same (at_alive, omega arith, omega arith)))
      (λ ne.
      let k = inv.active f (rw (upd_other s.finishes.status g 1 f ne) at e) in
      let b = busy_stays (s.finishes.main f) k.1 k.2 in
      rw (upd_other s.finishes.home g (s.tasks.at t) f ne, upd_other s.finishes.main g n f ne) (k.0, b.0, b.1))

  publishing : Publishing s'
  publishing f e =
      let o = older f 2 e (λ q. omega arith) in
      let k = inv.publishing f o.1 in
      rw (upd_other s.finishes.home g (s.tasks.at t) f o.0, upd_other s.finishes.main g n f o.0, upd_other s.finishes.published g 0 f o.0)
      (k.0, k.1, stays (s.finishes.main f) 6 k.2 (omega arith) (λ q. omega arith))

  waiting : Waiting s'
  waiting f e =
      let o = older f 3 e (λ q. omega arith) in
      let k = inv.waiting f o.1 in
      rw (upd_other s.finishes.home g (s.tasks.at t) f o.0, upd_other s.finishes.main g n f o.0, upd_other s.finishes.published g 0 f o.0)
      (k.0, k.1, stays (s.finishes.main f) 7 k.2 (omega arith) (λ q. omega arith))

  released : Released s'
  released f e =
      let o = older f 4 e (λ q. omega arith) in
      rw (upd_other s.finishes.main g n f o.0) (stays (s.finishes.main f) 7 (inv.released f o.1) (omega arith) (λ q. omega arith))

  lost : Lost s'
  lost f e =
      let o = older f 5 e (λ q. omega arith) in
      let k = inv.lost f o.1 in
      rw (upd_other s.finishes.home g (s.tasks.at t) f o.0, upd_other s.finishes.main g n f o.0) (k.0, ended_stays (s.finishes.main f) k.1)

  dead_home : DeadHome s'
  dead_home f z l d = eq_cases f g
      (λ q. both (rw (q, upd_same) at d) at_alive)
      (λ ne. rw (upd_other s.finishes.status g 1 f ne) (inv.dead_home f z (omega arith) (rw (upd_other s.finishes.home g (s.tasks.at t) f ne) at d)))

  busy : Busy s'
  busy x = by_row (λ w. 5 ≤ w → w ≤ 6 → s.dead (s'.tasks.at x) ≡ false) x
      (λ q _ _. rw (q, upd_same) at_alive)
      (λ q _ _. let b : t < n = omega (arith, runs.high) in rw q (simp upd-below at_alive))
      (λ a _ l h. rw (upd_other s.tasks.at n (s.tasks.at t) x a) (inv.busy x l h))

  waiters : Waiters s'
  waiters x = by_row (λ w. 1 ≤ w → w ≤ 2 → s.dead (s'.tasks.from x) ≡ false) x
      (λ _ _ h. absurd (omega arith))
      (λ _ _ h. absurd (omega arith))
      (λ a _ l h. rw (upd_other s.tasks.from n (s.tasks.at t) x a) (inv.waiters x l h))

  lost_tasks : LostTasks s'
  lost_tasks x e =
      let e₀ = was x 8 e (λ q. omega arith) (λ q. omega arith) in
      let b : x < n = omega (arith, inv.status_made x (omega arith)) in
      simp upd-below (inv.lost_tasks x e₀)

  first_task : FirstTask s'
  first_task x e p n₅ =
      let d = old_sent x e in
      let b : x < n = d.0 in
      let m = inv.sent_made x (omega (arith, d.1)) in
      let c : s.tasks.finish x < g = omega (arith, inv.task_ranges x m.0 m.1) in
      let k = inv.first_task x d.1 (simp upd-below at p) (simp upd-below at n₅) in
      let st = stays x 1 k.1 (omega arith) (λ q. omega arith) in
      rw (st, upd-below s.tasks.finish n g x b, upd-below s.tasks.maker n t x b, upd-below s.finishes.status g 1 (s.tasks.finish x) c, upd-below s.finishes.main g n (s.tasks.finish x) c)
      (k.0, refl, k.2)

  first_lost : FirstLost s'
  first_lost x e p q₅ =
      let d = old_sent x e in
      let b : x < n = d.0 in
      let m = inv.sent_made x (omega (arith, d.1)) in
      let c : s.tasks.finish x < g = omega (arith, inv.task_ranges x m.0 m.1) in
      stays x 8 (inv.first_lost x d.1 (simp upd-below at p) (simp upd-below at q₅)) (omega arith) (λ q. omega arith)

  -- t has one more reason to be blocked, and no other task has
  blocked : Blocked s'
  blocked b h =
      let tasks = grown_blocked s.tasks.made t (λ x. is₂ (s.tasks.sent x) (s.tasks.maker x) 1 b) (λ x. is₂ (s'.tasks.sent x) (s'.tasks.maker x) 1 b) s.tasks.status 5 1 2 runs.high
      (λ x l. simp upd-below) in
      let was_out = weigh_out (is₂ (s.tasks.sent t) (s.tasks.maker t) 1 b) 1 2 (s.tasks.status t) (λ _ h. omega (arith, runs.running)) in
      let is_out = weigh_out (is₂ (s.tasks.sent t) (s.tasks.maker t) 1 b) 1 2 6 (λ _ h. omega arith) in
      let new_out = weigh_out (is₂ (s'.tasks.sent n) (s'.tasks.maker n) 1 b) 1 2 5 (λ _ h. omega arith) in
      let finishes = grown s.finishes.made (λ f. eqb (s.finishes.opener f) b) (λ f. eqb (s'.finishes.opener f) b) s.finishes.status 1 1 3 (λ x l. simp upd-below) in
      let key : weigh (eqb (s'.finishes.opener g) b) 1 3 1 ≡ on (eqb t b) 1 = rw (upd_same s.finishes.opener) (weigh_in (eqb t b) 1 3 1 (omega arith) (omega arith)) in
      by_row (λ w. weigh true 6 6 w ≡ tasks_with s' (λ x. is₂ (s'.tasks.sent x) (s'.tasks.maker x) 1 b) 1 2 + finishes_with s' (λ f. eqb (s'.finishes.opener f) b) 1 3) b
      (λ q. omega (
        arith,
        tasks,
        was_out,
        is_out,
        new_out,
        finishes,
        key,
        inv.blocked b h,
        weigh_out true 6 6 5 (λ h _. omega arith),
        weigh_out true 6 6 (s.tasks.status b) (λ l _. omega (arith, inv.status_made b (omega arith))),
        on_false (eqb t b) 1 (ne_eqb t b (λ r. omega (arith, runs.high))),
      ))
      (λ q. omega (
        arith,
        tasks,
        was_out,
        is_out,
        new_out,
        finishes,
        key,
        inv.blocked b h,
        weigh_in true 6 6 6 (omega arith) (omega arith),
        on_true true 1 refl,
        weigh_out true 6 6 (s.tasks.status b) (λ l _. omega (arith, runs.running, ap s.tasks.status q)),
        on_true (eqb t b) 1 (eq-eqb t b (sym q)),
      ))
      (λ _ ne. omega (arith, tasks, was_out, is_out, new_out, finishes, key, inv.blocked b h, on_false (eqb t b) 1 (ne_eqb t b (λ r. ne (sym r)))))

  names_finish : NamesFinish s'
  names_finish k h l = omega (arith, inv.names_finish k h l)

  -- the task that a message names is of before
  task_old : (k : ℕ) → k < s.slots → 1 ≤ (s.slot k).tag → (s.slot k).tag ≤ 6 → (s.slot k).task < n
  task_old k h l m = omega (arith, inv.names_task k h l m)

  names_task : NamesTask s'
  names_task k h l m =
      let b = task_old k h l m in
      let r = inv.names_task k h l m in
      simp upd-below (r.0, omega (arith, r.1), r.2, r.3)

  names_pair : NamesPair s'
  names_pair k h l m =
      let b = task_old k h (omega arith) m in
      simp upd-below (inv.names_pair k h l m)

  publishes : Publishes s'
  publishes k h e =
      let c = named k h (omega arith) in
      let r = inv.publishes k h e in
      simp upd-below (r.0, r.1, (λ a. ((r.2 a).0, stays (s.slot k).task 1 (r.2 a).1 (omega arith) (λ q. omega arith))), r.3)

  published : Published s'
  published k h e =
      let c = named k h (omega arith) in
      let r = inv.published k h e in
      simp upd-below (r.0, r.1, r.2, stays (s.slot k).task 1 r.3 (omega arith) (λ q. omega arith))

  publish_some : PublishSome s'
  publish_some f e = inv.publish_some f (older f 2 e (λ q. omega arith)).1

  transits : Transits s'
  transits k h l m a = let r = inv.transits k h l m a in (stays (s.slot k).task 2 r.0 (omega arith) (λ q. omega arith), r.1)

  lost_transits : LostTransits s'
  lost_transits k h l m a = let r = inv.lost_transits k h l m a in (r.0, stays (s.slot k).task 8 r.1 (omega arith) (λ q. omega arith))

  on_wire : OnWire s'
  on_wire k h e = let r = inv.on_wire k h e in (stays (s.slot k).task 3 r.0 (omega arith) (λ q. omega arith), r.1)

  named_publish : NamedPublish s'
  named_publish x e = inv.named_publish x (was x 1 e (λ q. omega arith) (λ q. omega arith))

  named_transit : NamedTransit s'
  named_transit x e = inv.named_transit x (was x 2 e (λ q. omega arith) (λ q. omega arith))

  release_some : ReleaseSome s'
  release_some f e = inv.release_some f (older f 3 e (λ q. omega arith)).1

  release_none : ReleaseNone s'
  release_none f n₃ = inv.release_none f (λ e. eq_cases f g
      (λ q. omega (arith, inv.finish_made f (omega arith)))
      (λ ne. n₃ (rw (upd_other s.finishes.status g 1 f ne) e)))

  ghost_made : GhostMade s'
  ghost_made q x e = let r = inv.ghost_made q x e in (r.0, omega (arith, r.1), r.2)

  ghost_ends : GhostEnds s'
  ghost_ends k h e =
      let r = inv.ghost_ends k h e in
      let p = inv.dead_places (s.finishes.home (s.slot k).number) r.0 in
      let ne : (s.slot k).number ≡ g → ⊥ = λ q. omega (arith, p.0, inv.blank_finishes (s.slot k).number (λ _ l. omega arith)) in
      simp upd_other r

  fresh_messages : FreshMessages s'
  fresh_messages k h l n₉ = let c = named k h (omega arith) in simp upd-below (inv.fresh_messages k h l n₉)

  -- the new finish has no local book and no store book, as one that is not made
  unpublished : (f : ℕ) → s'.finishes.published f ≡ 0 → s.finishes.published f ≡ 0
  unpublished f e = eq_cases f g
      (λ q. bool_cases (leb (s.finishes.published f) 0)
      (λ b. omega (arith, leb-true (s.finishes.published f) 0 b))
      (λ b. absurd (omega (arith, inv.published_made f (leb-false (s.finishes.published f) 0 b)))))
      (λ ne. rw (upd_other s.finishes.published g 0 f ne) at e)

  fresh_locals : FreshLocals s'
  fresh_locals f j i e = inv.fresh_locals f j i (unpublished f e)

  fresh_book : FreshBook s'
  fresh_book f i j e p = let ne = booked f p in simp upd_other (inv.fresh_book f i j (unpublished f e) p)

  book_made : BookMade s'
  book_made f p = omega (arith, inv.book_made f p)

  book_unreleased : BookUnreleased s'
  book_unreleased f p e = inv.book_unreleased f p (older f 4 e (λ q. omega arith)).1

  active_book : ActiveBook s'
  active_book f e = eq_cases f g
      (λ q. eq_cases (s.books.present f) 1
      (λ p. absurd (booked f p q))
      (λ n₁. omega (arith, inv.present_mark f, ap s'.finishes.published q, upd_same s.finishes.published g 0)))
      (λ ne. rw (upd_other s.finishes.published g 0 f ne) (inv.active_book f (rw (upd_other s.finishes.status g 1 f ne) at e)))

  adopted_dead : AdoptedDead s'
  adopted_dead f a =
      let d = inv.adopted_dead f a in
      let ne : f ≡ g → ⊥ = λ q. omega (arith, inv.dead_places (s.finishes.home f) d, inv.blank_finishes f (λ _ l. omega arith)) in
      simp upd_other d

  orphans : Orphans s'
  orphans f p d = inv.orphans f p (rw (upd_other s.finishes.home g (s.tasks.at t) f (booked f p)) at d)

  -- parents of before are as they were
  parent_old : (x : ℕ) → x < g → s'.finishes.parent x ≡ s.finishes.parent x
  parent_old x b = upd-below s.finishes.parent g (s.tasks.finish t) x b

  under_old : (f x : ℕ) → x < g → Under s'.finishes.parent f x → Under s.finishes.parent f x
  under_old f x l u = under_same g parent_old (λ y b. omega (arith, parent-le s inv y)) l u

  under_new : (f x : ℕ) → x < g → Under s.finishes.parent f x → Under s'.finishes.parent f x
  under_new f x l u = under_same g (λ y b. sym (parent_old y b)) (λ y b. rw (parent_old y b) (omega (arith, parent-le s inv y))) l u

  book_above : BookAbove s'
  book_above f p = under_new (s.books.parent f) f (omega (arith, inv.book_made f p)) (inv.book_above f p)

  skipped : Skipped s'
  skipped f x p u v n₁ n₂ =
      let b : f < g = omega (arith, inv.book_made f p) in
      let u₀ = under_old x f b u in
      let c : x < g = omega (arith, under_le (parent-le s inv) u₀) in
      simp upd-below (inv.skipped f x p u₀ (under_old (s.books.parent f) x c v) n₁ n₂)

  counted : Counted s'
  counted f i j p a d = let ne = booked f p in simp upd_other (inv.counted f i j p a d)

  counted_denied : CountedDenied s'
  counted_denied f i j p a d = let ne = booked f p in simp upd_other (inv.counted_denied f i j p a d)

  sent_from : SentFrom s'
  sent_from f i j p a b = let ne = booked f p in simp upd_other (inv.sent_from f i j p a b)

  sent_most : SentMost s'
  sent_most f i j p a = let ne = booked f p in simp upd_other (inv.sent_most f i j p a)

  -- the new main task is from and at one place, and t counts as before
  sent_tasks_most : SentTasksMost s'
  sent_tasks_most f i j ne = omega (
    arith,
    inv.sent_tasks_most f i j ne,
    grown_blocked s.tasks.made t (λ x. is₃ (s.tasks.finish x) (s.tasks.from x) (s.tasks.at x) f i j) (λ x. is₃ (s'.tasks.finish x) (s'.tasks.from x) (s'.tasks.at x) f i j) s.tasks.status 5 2 8 runs.high
        (λ x l. simp upd-below),
    weigh_in (is₃ (s.tasks.finish t) (s.tasks.from t) (s.tasks.at t) f i j) 2 8 (s.tasks.status t) (omega (arith, runs.running)) (omega (arith, runs.running)),
    weigh_in (is₃ (s.tasks.finish t) (s.tasks.from t) (s.tasks.at t) f i j) 2 8 6 (omega arith) (omega arith),
  )

  local_live : LocalLive s'
  local_live f j = omega (
    arith,
    inv.local_live f j,
    grown_blocked s.tasks.made t (λ x. is₃ (s.tasks.sent x) (s.tasks.finish x) (s.tasks.at x) 1 f j) (λ x. is₃ (s'.tasks.sent x) (s'.tasks.finish x) (s'.tasks.at x) 1 f j) s.tasks.status 5 5 6 runs.high
        (λ x l. simp upd-below),
    weigh_in (is₃ (s.tasks.sent t) (s.tasks.finish t) (s.tasks.at t) 1 f j) 5 6 (s.tasks.status t) (omega (arith, runs.running)) (omega (arith, runs.running)),
    weigh_in (is₃ (s.tasks.sent t) (s.tasks.finish t) (s.tasks.at t) 1 f j) 5 6 6 (omega arith) (omega arith),
    weigh_off (is₃ (s'.tasks.sent n) (s'.tasks.finish n) (s'.tasks.at n) 1 f j) 5 6 5 (is₃_false (s'.tasks.sent n) (s'.tasks.finish n) (s'.tasks.at n) 1 f j (λ e _ _. omega (arith, upd_same s.tasks.sent n 0))),
  )

  pub opens_keeps : Inv (open_finish s t)
  opens_keeps = search (
    task_ranges,
    main_tasks,
    sent_tasks,
    task_statuses,
    main_statuses,
    status_made,
    sent_made,
    finish_ranges,
    root,
    opened,
    mains,
    finish_statuses,
    published_mark,
    finish_made,
    published_made,
    blank_finishes,
    active,
    publishing,
    waiting,
    released,
    lost,
    dead_home,
    busy,
    waiters,
    lost_tasks,
    first_task,
    first_lost,
    blocked,
    names_finish,
    names_task,
    names_pair,
    publishes,
    published,
    publish_some,
    transits,
    lost_transits,
    on_wire,
    named_publish,
    named_transit,
    release_some,
    release_none,
    ghost_made,
    ghost_ends,
    fresh_messages,
    fresh_locals,
    fresh_book,
    book_made,
    book_unreleased,
    active_book,
    adopted_dead,
    orphans,
    book_above,
    skipped,
    counted,
    counted_denied,
    sent_from,
    sent_most,
    sent_tasks_most,
    local_live,
  )
