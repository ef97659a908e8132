-- The deliver of published (2) keeps the invariant: the finish is active and published, and its first task waits for transit (3).
use Rattle.std.specs.Prelude.{◌≡◌, refl, Bool, true, false, ℕ, suc, ◌+◌, ◌≤◌, ◌<◌, eqb}
use Rattle.std.proofs.Common.{sym, ap, ◌∙◌, arith, eq-eqb, ne_eqb}
use Rattle.model.specs.Base.{upd, upd_same, upd_other, upd-cases, on, on_true, on_false, is₂, is₃, sum-upd, eq_cases, both}
use Rattle.model.specs.State.{State, Message, with_slot}
use Rattle.model.specs.Weights.{weigh, weigh_in, weigh_out, tasks_with, finishes_with, ended}
use Rattle.model.specs.Messages.{transit, tally_is, tally_else, tallied_moves, naming, of_finish}
use Rattle.model.specs.Guards.{Full}
use Rattle.model.specs.Effects.Deliver.{deliver_published}
use Rattle.model.specs.Inv.{Inv}
use Rattle.model.specs.Inv.Rows as T
use Rattle.model.specs.Inv.Statuses as S
use Rattle.model.specs.Inv.Messages as M
use Rattle.model.specs.Inv.Books as B
use Rattle.model.specs.Inv.Cells as C
use Rattle.model.specs.Inv.Locals as L
use Rattle.model.proofs.Facts.Alone.{alone_publish}
use Rattle.model.proofs.Steps.Written as W
use Rattle.model.proofs.Steps.Reply.{Copies, Replied, replies}

module _ (s : State) (k : ℕ) (inv : Inv s) (full : Full s k 2) (home_lives : s.dead (s.finishes.home (s.slot k).finish) ≡ false)
    (is-publishing : s.finishes.status (s.slot k).finish ≡ 2) (waits : s.tasks.status (s.slot k).task ≡ 1) where
  abbrev s' : State
  s' = deliver_published s k

  abbrev f₀ : ℕ
  f₀ = (s.slot k).finish

  abbrev t : ℕ
  t = (s.slot k).task

  abbrev m : Message
  m = transit f₀ t (s.tasks.from t) (s.tasks.at t)

  copies : Copies s k m
  copies _ = (omega arith, omega (arith, full.tag), omega (arith, full.tag), refl, refl)

  old_low : (s.slot k).tag ≤ 6
  old_low = omega (arith, full.tag)

  replied : Replied (with_slot (upd s.slot k m) s)
  replied = replies s k m inv full.range copies old_low

  other_tag : (x : ℕ) → (x ≡ 2 → ⊥) → (x ≡ 3 → ⊥) → W.Elsewhere s k m full.range x
  other_tag x n₂ n = ((λ q. n₂ (omega (arith, full.tag))), (λ q. n (sym q)))

  named : (0 < t) × (t ≤ s.tasks.made) × (s.tasks.sent t ≡ 1) × (s.tasks.finish t ≡ f₀)
  named = inv.names_task k full.range (omega (arith, full.tag)) (omega (arith, full.tag))

  made : (0 < f₀) × (f₀ ≤ s.finishes.made)
  made = inv.names_finish k full.range (omega (arith, full.tag))

  booked : s.books.present f₀ ≡ 1
  booked = (inv.published k full.range full.tag).0

  by_row : (P : ℕ → Type 0) (x : ℕ) → (x ≡ t → P 2) → ((x ≡ t → ⊥) → P (s.tasks.status x)) → P (s'.tasks.status x)
  by_row P x a b = upd-cases s.tasks.status P t 2 x a b

  by_finish : (P : ℕ → Type 0) (f : ℕ) → (f ≡ f₀ → P 1) → ((f ≡ f₀ → ⊥) → P (s.finishes.status f)) → P (s'.finishes.status f)
  by_finish P f a b = upd-cases s.finishes.status P f₀ 1 f a b

  -- a task's status other than 1 stays, one other than 2 is of before
  stays : (x w : ℕ) → s.tasks.status x ≡ w → (w ≡ 1 → ⊥) → s'.tasks.status x ≡ w
  stays x w e n = upd_other s.tasks.status t 2 x (λ q. n (sym e ∙ ap s.tasks.status q ∙ waits)) ∙ e

  was : (x w : ℕ) → s'.tasks.status x ≡ w → (w ≡ 2 → ⊥) → (s.tasks.status x ≡ w) × (x ≡ t → ⊥)
  was x w e n = by_row (λ u. u ≡ w → (s.tasks.status x ≡ w) × (x ≡ t → ⊥)) x (λ _ q. absurd (n (sym q))) (λ ne q. (q, ne)) e

  -- so for a finish's status
  was_finish : (f w : ℕ) → s'.finishes.status f ≡ w → (w ≡ 1 → ⊥) → (s.finishes.status f ≡ w) × (f ≡ f₀ → ⊥)
  was_finish f w e n = by_finish (λ u. u ≡ w → (s.finishes.status f ≡ w) × (f ≡ f₀ → ⊥)) f (λ _ q. absurd (n (sym q))) (λ ne q. (q, ne)) e

  unpublished : (f : ℕ) → s'.finishes.published f ≡ 0 → (s.finishes.published f ≡ 0) × (f ≡ f₀ → ⊥)
  unpublished f e = upd-cases s.finishes.published (λ u. u ≡ 0 → (s.finishes.published f ≡ 0) × (f ≡ f₀ → ⊥)) f₀ 1 f (λ _ q. absurd (omega arith)) (λ ne q. (q, ne)) e

  -- a main task is another than t
  main_stays : (f : ℕ) → 0 < s.finishes.status f → s'.tasks.status (s.finishes.main f) ≡ s.tasks.status (s.finishes.main f)
  main_stays f h = upd_other s.tasks.status t 2 (s.finishes.main f)
      (λ q. let b = inv.finish_made f h in omega (arith, named.2, (inv.mains f b.0 b.1).1, ap s.tasks.sent q))

  task_statuses : T.TaskStatuses s'
  task_statuses x z l = by_row (λ w. (0 < w) × (w ≤ 8)) x (λ _. omega arith) (λ _. inv.task_statuses x z l)

  main_statuses : T.MainStatuses s'
  main_statuses x z l e = by_row (λ w. 5 ≤ w) x (λ q. absurd (omega (arith, named.2, ap s.tasks.sent q))) (λ _. inv.main_statuses x z l e)

  status_made : T.StatusMade s'
  status_made x = by_row (λ w. 0 < w → (0 < x) × (x ≤ s.tasks.made)) x (λ q _. omega (arith, named.0, named.1)) (λ _ h. inv.status_made x h)

  finish_statuses : T.FinishStatuses s'
  finish_statuses f z l = by_finish (λ w. (0 < w) × (w ≤ 5)) f (λ _. omega arith) (λ _. inv.finish_statuses f z l)

  published_mark : T.PublishedMark s'
  published_mark f = upd-cases s.finishes.published (λ w. w ≤ 1) f₀ 1 f (λ _. omega arith) (λ _. inv.published_mark f)

  finish_made : T.FinishMade s'
  finish_made f = by_finish (λ w. 0 < w → (0 < f) × (f ≤ s.finishes.made)) f (λ q _. omega (arith, made)) (λ _ h. inv.finish_made f h)

  published_made : T.PublishedMade s'
  published_made f = upd-cases s.finishes.published (λ w. 0 < w → (0 < f) × (f ≤ s.finishes.made)) f₀ 1 f (λ q _. omega (arith, made)) (λ _ h. inv.published_made f h)

  active : S.Active s'
  active f e = eq_cases f f₀
      (λ q. rw (q, main_stays f₀ (omega arith)) (home_lives, omega (arith, (inv.publishing f₀ is-publishing).2), omega (arith, (inv.publishing f₀ is-publishing).2)))
      (λ ne. let e₀ : s.finishes.status f ≡ 1 = rw (upd_other s.finishes.status f₀ 1 f ne) at e in rw (main_stays f (omega arith)) (inv.active f e₀))

  publishing : S.Publishing s'
  publishing f e =
      let o = was_finish f 2 e (λ q. omega arith) in
      rw (main_stays f (omega (arith, o.0)), upd_other s.finishes.published f₀ 1 f o.1) (inv.publishing f o.0)

  waiting : S.Waiting s'
  waiting f e =
      let o = was_finish f 3 e (λ q. omega arith) in
      rw (main_stays f (omega (arith, o.0)), upd_other s.finishes.published f₀ 1 f o.1) (inv.waiting f o.0)

  released : S.Released s'
  released f e = let o = was_finish f 4 e (λ q. omega arith) in rw (main_stays f (omega (arith, o.0))) (inv.released f o.0)

  lost : S.Lost s'
  lost f e = let o = was_finish f 5 e (λ q. omega arith) in rw (main_stays f (omega (arith, o.0))) (inv.lost f o.0)

  dead_home : S.DeadHome s'
  dead_home f z l d = by_finish (λ w. 4 ≤ w) f (λ q. both d (rw q home_lives)) (λ _. inv.dead_home f z l d)

  busy : S.Busy s'
  busy x = by_row (λ w. 5 ≤ w → w ≤ 6 → s.dead (s.tasks.at x) ≡ false) x (λ _ l _. absurd (omega arith)) (λ _. inv.busy x)

  from_lives : s.dead (s.tasks.from t) ≡ false
  from_lives = inv.waiters t (omega arith) (omega arith)

  waiters : S.Waiters s'
  waiters x = by_row (λ w. 1 ≤ w → w ≤ 2 → s.dead (s.tasks.from x) ≡ false) x (λ q _ _. rw q from_lives) (λ _. inv.waiters x)

  lost_tasks : S.LostTasks s'
  lost_tasks x e = inv.lost_tasks x (was x 8 e (λ q. omega arith)).0

  first_task : S.FirstTask s'
  first_task x e p n₅ =
      let o = unpublished (s.tasks.finish x) p in
      let same = upd_other s.finishes.status f₀ 1 (s.tasks.finish x) o.1 in
      let r = inv.first_task x e o.0 (λ q. n₅ (same ∙ q)) in
      (same ∙ r.0, upd_other s.tasks.status t 2 x (λ q. o.1 (ap s.tasks.finish q ∙ named.3)) ∙ r.1, r.2)

  first_lost : S.FirstLost s'
  first_lost x e p q₅ =
      let o = unpublished (s.tasks.finish x) p in
      stays x 8 (inv.first_lost x e o.0 (was_finish (s.tasks.finish x) 5 q₅ (λ q. omega arith)).0) (λ q. omega arith)

  -- a sum over the tasks moves by what t counts for, one over the finishes by what f₀ does
  moves : (key : ℕ → Bool) (lo hi : ℕ) → tasks_with s' key lo hi + weigh (key t) lo hi 1 ≡ tasks_with s key lo hi + weigh (key t) lo hi 2
  moves key lo hi = omega (
    arith,
    sum-upd (suc s.tasks.made) (λ x w. weigh (key x) lo hi w) s.tasks.status t 2 (omega (arith, named.1)),
    ap (weigh (key t) lo hi) waits,
  )

  moves_finish : (key : ℕ → Bool) (lo hi : ℕ) → finishes_with s' key lo hi + weigh (key f₀) lo hi 2 ≡ finishes_with s key lo hi + weigh (key f₀) lo hi 1
  moves_finish key lo hi = omega (
    arith,
    sum-upd (suc s.finishes.made) (λ x w. weigh (key x) lo hi w) s.finishes.status f₀ 1 (omega (arith, made)),
    ap (weigh (key f₀) lo hi) is-publishing,
  )

  -- t waits still, and f₀ is open still
  blocked : S.Blocked s'
  blocked b h =
      let key : ℕ → Bool = λ x. is₂ (s.tasks.sent x) (s.tasks.maker x) 1 b in
      let opens : ℕ → Bool = λ f. eqb (s.finishes.opener f) b in
      let same : weigh true 6 6 (s'.tasks.status b) ≡ weigh true 6 6 (s.tasks.status b) = by_row (λ w. weigh true 6 6 w ≡ weigh true 6 6 (s.tasks.status b)) b
      (λ q. weigh_out true 6 6 2 (λ l _. omega arith) ∙ sym (weigh_out true 6 6 (s.tasks.status b) (λ l _. omega (arith, ap s.tasks.status q))))
      (λ _. refl) in
      omega (
        arith,
        inv.blocked b h,
        same,
        moves key 1 2,
        moves_finish opens 1 3,
        weigh_in (key t) 1 2 1 (omega arith) (omega arith),
        weigh_in (key t) 1 2 2 (omega arith) (omega arith),
        weigh_in (opens f₀) 1 3 1 (omega arith) (omega arith),
        weigh_in (opens f₀) 1 3 2 (omega arith) (omega arith),
      )

  names_pair : M.NamesPair s'
  names_pair = W.each s k m full.range (M.NamesPairOf s) inv.names_pair (λ _ _. (refl, refl))

  publishes : M.Publishes s'
  publishes l h = upd-cases s.slot (M.PublishesOf s') k m l (λ _ e. absurd (omega arith))
      (λ ne e.
      let r = inv.publishes l h e in
      let n = inv.names_task l h (omega arith) (omega arith) in
      let other : (s.slot l).finish ≡ f₀ → ⊥ = λ q. omega (arith, booked, r.0, ap s.books.present q) in
      let same = upd_other s.finishes.status f₀ 1 (s.slot l).finish other in (
        r.0,
        upd_other s.finishes.published f₀ 1 (s.slot l).finish other ∙ r.1,
        (λ a. (same ∙ (r.2 a).0, upd_other s.tasks.status t 2 (s.slot l).task (λ q. other (sym n.3 ∙ ap s.tasks.finish q ∙ named.3)) ∙ (r.2 a).1)),
        λ d. same ∙ r.3 d,
      ))

  published : M.Published s'
  published l h = upd-cases s.slot (M.PublishedOf s') k m l (λ _ e. absurd (omega arith))
      (λ ne e.
      let r = inv.published l h e in
      let n = inv.names_task l h (omega arith) (omega arith) in
      let other = alone_publish s inv.publish_once k l full.range h ne (omega (arith, full.tag)) (omega (arith, full.tag)) (omega arith) (omega arith) in (
        r.0,
        r.1,
        upd_other s.finishes.status f₀ 1 (s.slot l).finish other ∙ r.2,
        upd_other s.tasks.status t 2 (s.slot l).task (λ q. other (sym n.3 ∙ ap s.tasks.finish q ∙ named.3)) ∙ r.3,
      ))

  -- one message less of tag 2 and of f₀, one more of tag 3
  of_falls : (f : ℕ) → of_finish s' 2 f + on (eqb f₀ f) 1 ≡ of_finish s 2 f
  of_falls f = omega (
    arith,
    tallied_moves s k m full.range 2 (λ m. eqb m.finish f) (λ m. 1),
    tally_is 2 (s.slot k) (eqb f₀ f) 1 full.tag,
    tally_else 2 m (eqb f₀ f) 1 (λ q. omega arith),
  )

  naming_falls : (x : ℕ) → naming s' 2 x + on (eqb t x) 1 ≡ naming s 2 x
  naming_falls x = omega (
    arith,
    tallied_moves s k m full.range 2 (λ m. eqb m.task x) (λ m. 1),
    tally_is 2 (s.slot k) (eqb t x) 1 full.tag,
    tally_else 2 m (eqb t x) 1 (λ q. omega arith),
  )

  naming_rises : (x : ℕ) → naming s' 3 x ≡ naming s 3 x + on (eqb t x) 1
  naming_rises x = omega (
    arith,
    tallied_moves s k m full.range 3 (λ m. eqb m.task x) (λ m. 1),
    tally_else 3 (s.slot k) (eqb t x) 1 (λ q. omega (arith, full.tag)),
    tally_is 3 m (eqb t x) 1 refl,
  )

  publish_once : M.PublishOnce s'
  publish_once f = omega (arith, inv.publish_once f, of_falls f, W.of_same s k m full.range 1 f (other_tag 1 (λ q. omega arith) (λ q. omega arith)))

  publish_some : M.PublishSome s'
  publish_some f e =
      let o = was_finish f 2 e (λ q. omega arith) in
      omega (
        arith,
        inv.publish_some f o.0,
        of_falls f,
        W.of_same s k m full.range 1 f (other_tag 1 (λ q. omega arith) (λ q. omega arith)),
        on_false (eqb f₀ f) 1 (ne_eqb f₀ f (λ q. o.1 (sym q))),
      )

  named_publish : M.NamedPublish s'
  named_publish x e =
      let o = was x 1 e (λ q. omega arith) in
      omega (
        arith,
        inv.named_publish x o.0,
        naming_falls x,
        W.naming_same s k m full.range 1 x (other_tag 1 (λ q. omega arith) (λ q. omega arith)),
        on_false (eqb t x) 1 (ne_eqb t x (λ q. o.1 (sym q))),
      )

  named_transit : M.NamedTransit s'
  named_transit x e = eq_cases x t
      (λ q. omega (
        arith,
        inv.named_once x,
        naming_rises x,
        naming_falls x,
        on_true (eqb t x) 1 (eq-eqb t x (sym q)),
        W.naming_same s k m full.range 4 x (other_tag 4 (λ q. omega arith) (λ q. omega arith)),
        W.naming_same s k m full.range 5 x (other_tag 5 (λ q. omega arith) (λ q. omega arith)),
      ))
      (λ ne. omega (
        arith,
        inv.named_transit x (rw (upd_other s.tasks.status t 2 x ne) at e),
        naming_rises x,
        on_false (eqb t x) 1 (ne_eqb t x (λ q. ne (sym q))),
        W.naming_same s k m full.range 4 x (other_tag 4 (λ q. omega arith) (λ q. omega arith)),
        W.naming_same s k m full.range 5 x (other_tag 5 (λ q. omega arith) (λ q. omega arith)),
      ))

  transits : M.Transits s'
  transits = W.each s k m full.range (M.TransitsOf s')
      (λ l h a b d. let r = inv.transits l h a b d in (stays (s.slot l).task 2 r.0 (λ q. omega arith), r.1))
      (λ _ _ _. (upd_same s.tasks.status t 2, booked))

  lost_transits : M.LostTransits s'
  lost_transits = W.each s k m full.range (M.LostTransitsOf s')
      (λ l h a b d. let r = inv.lost_transits l h a b d in (r.0, stays (s.slot l).task 8 r.1 (λ q. omega arith)))
      (λ _ _ d. both d from_lives)

  on_wire : M.OnWire s'
  on_wire = W.each s k m full.range (M.OnWireOf s')
      (λ l h e. let r = inv.on_wire l h e in (stays (s.slot l).task 3 r.0 (λ q. omega arith), r.1))
      (λ e. absurd (omega arith))

  late : M.Late s'
  late = W.each s k m full.range (M.LateOf s) inv.late (λ e. absurd (omega arith))

  release_some : M.ReleaseSome s'
  release_some f e = replied.release_some f (was_finish f 3 e (λ q. omega arith)).0

  release_none : M.ReleaseNone s'
  release_none f n₃ = replied.release_none f
      (λ e. eq_cases f f₀ (λ q. omega (arith, ap s.finishes.status q)) (λ ne. n₃ (upd_other s.finishes.status f₀ 1 f ne ∙ e)))

  fresh_messages : M.FreshMessages s'
  fresh_messages = W.each s k m full.range (M.FreshMessagesOf s')
      (λ l h a n₉. upd-cases s.finishes.published (λ w. w ≡ 1) f₀ 1 (s.slot l).finish (λ _. refl) (λ _. inv.fresh_messages l h a n₉))
      (λ _ _. upd_same s.finishes.published f₀ 1)

  fresh_locals : M.FreshLocals s'
  fresh_locals f j i e = inv.fresh_locals f j i (unpublished f e).0

  fresh_book : M.FreshBook s'
  fresh_book f i j e = inv.fresh_book f i j (unpublished f e).0

  questions : M.Questions s'
  questions = W.questions s k m full.range (other_tag 6 (λ q. omega arith) (λ q. omega arith)) (other_tag 10 (λ q. omega arith) (λ q. omega arith)) inv.questions

  book_unreleased : B.BookUnreleased s'
  book_unreleased f p e = inv.book_unreleased f p (was_finish f 4 e (λ q. omega arith)).0

  active_book : B.ActiveBook s'
  active_book f e = eq_cases f f₀
      (λ q. rw (q, upd_same s.finishes.published f₀ 1) booked)
      (λ ne. rw (upd_other s.finishes.published f₀ 1 f ne) (inv.active_book f (rw (upd_other s.finishes.status f₀ 1 f ne) at e)))

  -- f₀ has a book, and so is not skipped
  skipped : B.Skipped s'
  skipped f x p u v n₁ n₂ =
      let r = inv.skipped f x p u v n₁ n₂ in
      let ne : x ≡ f₀ → ⊥ = λ q. omega (arith, booked, r.2, ap s.books.present q) in
      rw (upd_other s.finishes.published f₀ 1 x ne, upd_other s.finishes.status f₀ 1 x ne) r

  -- no main task ended
  ended_same : (f i j : ℕ) → ended s' f i j ≡ ended s f i j
  ended_same f i j = let key = is₂ (s.finishes.home f) (s.finishes.home f) i j in
      by_finish (λ w. weigh key 3 5 w ≡ ended s f i j) f
      (λ q. weigh_out key 3 5 1 (λ l _. omega arith) ∙ sym (weigh_out key 3 5 (s.finishes.status f) (λ l _. omega (arith, ap s.finishes.status q))))
      (λ _. refl)

  counted : C.Counted s'
  counted f i j p l d = omega (arith, replied.counted f i j p l d, ended_same f i j)

  counted_denied : C.CountedDenied s'
  counted_denied f i j p l d = omega (arith, replied.counted_denied f i j p l d, ended_same f i j)

  sent_from : C.SentFrom s'
  sent_from = W.sent_from s k m full.range (other_tag 4 (λ q. omega arith) (λ q. omega arith)) (other_tag 6 (λ q. omega arith) (λ q. omega arith)) inv.sent_from

  sent_most : C.SentMost s'
  sent_most = W.sent_most s k m full.range (other_tag 6 (λ q. omega arith) (λ q. omega arith)) inv.sent_most

  -- t asks for transit now, and counts as a task that does
  sent_tasks_most : C.SentTasksMost s'
  sent_tasks_most f i j ne =
      let key : ℕ → Bool = λ x. is₃ (s.tasks.finish x) (s.tasks.from x) (s.tasks.at x) f i j in
      let asks = is₃ f₀ (s.tasks.from t) (s.tasks.at t) f i j in
      let same : on (key t) 1 ≡ on asks 1 = rw named.3 refl in
      omega (
        arith,
        inv.sent_tasks_most f i j ne,
        moves key 2 8,
        same,
        weigh_out (key t) 2 8 1 (λ l _. omega arith),
        weigh_in (key t) 2 8 2 (omega arith) (omega arith),
        tallied_moves s k m full.range 3 (λ m. is₃ m.finish m.from m.to f i j) (λ m. 1),
        tally_else 3 (s.slot k) (is₃ f₀ (s.slot k).from (s.slot k).to f i j) 1 (λ q. omega (arith, full.tag)),
        tally_is 3 m asks 1 refl,
      )

  local_live : L.LocalLive s'
  local_live f j =
      let key : ℕ → Bool = λ x. is₃ (s.tasks.sent x) (s.tasks.finish x) (s.tasks.at x) 1 f j in
      omega (arith, inv.local_live f j, moves key 5 6, weigh_out (key t) 5 6 1 (λ l _. omega arith), weigh_out (key t) 5 6 2 (λ l _. omega arith))

  pub delivers_published_keeps : Inv (deliver_published s k)
  delivers_published_keeps = let r = replied in search (
    task_statuses,
    main_statuses,
    status_made,
    finish_statuses,
    published_mark,
    finish_made,
    published_made,
    active,
    publishing,
    waiting,
    released,
    lost,
    dead_home,
    busy,
    waiters,
    lost_tasks,
    first_task,
    first_lost,
    blocked,
    names_pair,
    publishes,
    published,
    publish_once,
    publish_some,
    transits,
    lost_transits,
    on_wire,
    late,
    named_publish,
    named_transit,
    release_some,
    release_none,
    questions,
    fresh_messages,
    fresh_locals,
    fresh_book,
    book_unreleased,
    active_book,
    skipped,
    counted,
    counted_denied,
    sent_from,
    sent_most,
    sent_tasks_most,
    local_live,
  )
