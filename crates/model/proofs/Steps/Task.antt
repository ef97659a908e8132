-- The deliver of a task message (6) whose sender is not denied keeps the invariant: the task is received where it was on the wire.
use Rattle.std.specs.Prelude.{◌≡◌, Bool, true, false, ℕ, suc, ◌+◌, ◌≤◌, ◌<◌, eqb}
use Rattle.std.proofs.Common.{sym, ap, ◌∙◌, arith}
use Rattle.model.specs.Base.{upd, upd_other, upd-cases, on, on_true, on_false, is₂, is₃, is₂_same, is₃_same, is₂-cases, is₂_false, is₃_false, sum-upd, eq_cases, both}
use Rattle.model.specs.State.{State, Message, with_task_status}
use Rattle.model.specs.Messages.{none, tally_is, between}
use Rattle.model.specs.Weights.{weigh, weigh_in, weigh_out, tasks_with, finishes_with}
use Rattle.model.specs.Guards.{Full}
use Rattle.model.specs.Effects.Deliver.{deliver_task}
use Rattle.model.specs.Inv.{Inv}
use Rattle.model.specs.Inv.Statuses.{Blocked}
use Rattle.model.specs.Inv.Messages.{Publishes, PublishesOf, Published, PublishedOf, Transits, TransitsOf, LostTransits, LostTransitsOf, OnWire, OnWireOf, NamedPublish, NamedTransit, Questions, QuestionsOf, FreshLocals}
use Rattle.model.specs.Inv.Cells.{CountedDenied, SentFrom, SentMost, NotFromSelf, SentTasksMost}
use Rattle.model.specs.Inv.Locals.{LocalLive, ReportedMost, Pending, Unreported, LocalBook}
use Rattle.model.proofs.Facts.Alone.{alone}
use Rattle.model.proofs.Steps.Written as W
use Rattle.model.proofs.Steps.TaskMoved.{TaskMoved, Moves, moves}
use Rattle.model.proofs.Steps.TaskMoved as N
use Rattle.model.proofs.Steps.Emptied as D

module _ (s : State) (k : ℕ) (inv : Inv s) (full : Full s k 6) (alive : s.dead (s.slot k).to ≡ false)
    (let_in : s.locals.denied (s.slot k).finish (s.slot k).to (s.slot k).from ≡ false) (on-the-wire : s.tasks.status (s.slot k).task ≡ 3) where
  abbrev m : Message
  m = s.slot k

  abbrev t : ℕ
  t = m.task

  abbrev s' : State
  s' = deliver_task s k

  -- before the slot is emptied
  abbrev s₁ : State
  s₁ = with_task_status (upd s.tasks.status t 5) s

  other_tag : (x : ℕ) → 0 < x → (x ≡ 6 → ⊥) → W.Elsewhere s k none full.range x
  other_tag x z n = ((λ q. n (sym q ∙ full.tag)), (λ q. omega arith))

  named : (0 < t) × (t ≤ s.tasks.made) × (s.tasks.sent t ≡ 1) × (s.tasks.finish t ≡ m.finish)
  named = inv.names_task k full.range (omega (arith, full.tag)) (omega (arith, full.tag))

  paired : (s.tasks.from t ≡ m.from) × (s.tasks.at t ≡ m.to)
  paired = inv.names_pair k full.range (omega (arith, full.tag)) (omega (arith, full.tag))

  -- its finish is published and has a book
  is_published : s.finishes.published m.finish ≡ 1
  is_published = inv.fresh_messages k full.range (omega (arith, full.tag)) (λ q. omega (arith, full.tag))

  has_book : s.books.present m.finish ≡ 1
  has_book = eq_cases (s.books.present m.finish) 0
      (λ e. both (inv.late k full.range full.tag e) let_in)
      (λ n. omega (arith, inv.present_mark m.finish))

  by_row : Moves s t 5 s₁.tasks.status
  by_row P x a _ c = upd-cases s.tasks.status P t 5 x a c

  moved : TaskMoved s₁
  moved = moves s t 3 5 s₁.tasks.status inv named.2 on-the-wire (omega arith) (omega arith) (omega arith) (omega arith) (λ q. omega arith) (λ _. rw paired.1 alive) by_row

  stays : (x w : ℕ) → s.tasks.status x ≡ w → (w ≡ 6 → ⊥) → (w ≡ 3 → ⊥) → s₁.tasks.status x ≡ w
  stays = N.stays s t 3 5 s₁.tasks.status inv named.2 on-the-wire (omega arith) (omega arith) (omega arith) (omega arith) (λ q. omega arith) (λ _. rw paired.1 alive) by_row

  -- a sum over the tasks moves by what t counts for
  sums : (key : ℕ → Bool) (lo hi : ℕ) → tasks_with s' key lo hi + weigh (key t) lo hi 3 ≡ tasks_with s key lo hi + weigh (key t) lo hi 5
  sums key lo hi = omega (
    arith,
    sum-upd (suc s.tasks.made) (λ x v. weigh (key x) lo hi v) s.tasks.status t 5 (omega (arith, named.1)),
    ap (λ (v : ℕ). weigh (key t) lo hi v) on-the-wire,
  )

  blocked : Blocked s'
  blocked b h =
      let key : ℕ → Bool = λ x. is₂ (s.tasks.sent x) (s.tasks.maker x) 1 b in
      let moved = sums key 1 2 in
      let was_out = weigh_out (key t) 1 2 3 (λ _ l. omega arith) in
      let is_out = weigh_out (key t) 1 2 5 (λ _ l. omega arith) in
      upd-cases s.tasks.status (λ w. weigh true 6 6 w ≡ tasks_with s' key 1 2 + finishes_with s (λ f. eqb (s.finishes.opener f) b) 1 3) t 5 b
      (λ q. omega (
        arith,
        moved,
        was_out,
        is_out,
        inv.blocked b h,
        weigh_out true 6 6 5 (λ l _. omega arith),
        weigh_out true 6 6 (s.tasks.status b) (λ l _. omega (arith, on-the-wire, ap s.tasks.status q)),
      ))
      (λ _. omega (arith, moved, was_out, is_out, inv.blocked b h))

  publishes : Publishes s'
  publishes = W.each s₁ k none full.range (PublishesOf s₁) moved.publishes (λ e. absurd (omega arith))

  published : Published s'
  published = W.each s₁ k none full.range (PublishedOf s₁) moved.published (λ e. absurd (omega arith))

  transits : Transits s'
  transits = W.each s₁ k none full.range (TransitsOf s₁)
      (λ l h a b d. let r = inv.transits l h a b d in (stays (s.slot l).task 2 r.0 (λ q. omega arith) (λ q. omega arith), r.1))
      (λ l. absurd (omega arith))

  lost_transits : LostTransits s'
  lost_transits = W.each s₁ k none full.range (LostTransitsOf s₁) moved.lost_transits (λ l. absurd (omega arith))

  -- another message names another task
  on_wire : OnWire s'
  on_wire l h = upd-cases s.slot (OnWireOf s₁) k none l
      (λ _ e. absurd (omega arith))
      (λ ne e. let r = inv.on_wire l h e in (
        upd_other s.tasks.status t 5 (s.slot l).task
            (alone s inv.named_once k l full.range h ne (omega (arith, full.tag)) (omega (arith, full.tag)) (omega arith) (omega arith)) ∙ r.0,
        r.1,
      ))

  named_publish : NamedPublish s'
  named_publish = W.named_publish s₁ k none full.range (other_tag 1 (omega arith) (λ q. omega arith)) (other_tag 2 (omega arith) (λ q. omega arith)) moved.named_publish

  named_transit : NamedTransit s'
  named_transit = W.named_transit s₁ k none full.range (other_tag 3 (omega arith) (λ q. omega arith)) (other_tag 4 (omega arith) (λ q. omega arith)) (other_tag 5 (omega arith) (λ q. omega arith)) moved.named_transit

  sent_tasks_most : SentTasksMost s'
  sent_tasks_most f i j ne =
      let key : ℕ → Bool = λ x. is₃ (s.tasks.finish x) (s.tasks.from x) (s.tasks.at x) f i j in
      omega (
        arith,
        inv.sent_tasks_most f i j ne,
        sums key 2 8,
        weigh_in (key t) 2 8 3 (omega arith) (omega arith),
        weigh_in (key t) 2 8 5 (omega arith) (omega arith),
        W.between_same s k none full.range 3 f i j (other_tag 3 (omega arith) (λ q. omega arith)),
      )

  -- the pair's own cell, the place's own count
  abbrev here : ℕ → ℕ → ℕ → Bool
  here f i j = is₃ m.finish m.from m.to f i j

  abbrev place : ℕ → ℕ → Bool
  place f j = is₂ m.finish m.to f j

  -- what was on its way is received
  arrives : (f i j : ℕ) → between s' 6 f i j + on (here f i j) 1 ≡ between s 6 f i j
  arrives f i j = omega (arith, D.falls s k full.range 6 (λ m. is₃ m.finish m.from m.to f i j) (λ m. 1) (omega arith), tally_is 6 m (here f i j) 1 full.tag)

  questions : Questions s'
  questions l h = upd-cases s.slot (QuestionsOf s') k none l
      (λ _ e. absurd (omega arith))
      (λ _ e. let r = inv.questions l h e in (r.0, omega (arith, r.1, arrives (s.slot l).finish (s.slot l).from (s.slot l).to), r.2))

  sent_from : SentFrom s'
  sent_from f i j p a b = omega (
    arith,
    inv.sent_from f i j p a b,
    arrives f i j,
    W.between_same s k none full.range 4 f i j (other_tag 4 (omega arith) (λ q. omega arith)),
  )

  sent_most : SentMost s'
  sent_most f i j p a = omega (arith, inv.sent_most f i j p a, arrives f i j)

  counted_denied : CountedDenied s'
  counted_denied f i j p a d = omega (
    arith,
    W.counted_denied s k none full.range (other_tag 7 (omega arith) (λ q. omega arith)) (other_tag 11 (omega arith) (λ q. omega arith)) inv.counted_denied f i j p a d,
    on_false (here f i j) 1 (is₃_false m.finish m.from m.to f i j (λ x y z. both d (rw (x, y, z) at let_in))),
  )

  not_from_self : NotFromSelf s'
  not_from_self f j = omega (
    arith,
    inv.not_from_self f j,
    on_false (here f j j) 1 (is₃_false m.finish m.from m.to f j j (λ _ y z. (inv.sent_tasks t named.2).3 (paired.0 ∙ y ∙ sym z ∙ sym paired.1))),
  )

  fresh_locals : FreshLocals s'
  fresh_locals f j i e =
      let r = inv.fresh_locals f j i e in
      let other : m.finish ≡ f → ⊥ = λ q. omega (arith, is_published, ap s.finishes.published q) in (
        omega (arith, r.0, on_false (here f i j) 1 (is₃_false m.finish m.from m.to f i j (λ q _ _. other q))),
        r.1,
        omega (arith, r.2, on_false (place f j) 1 (is₂_false m.finish m.to f j (λ q _. other q))),
        r.3,
      )

  local_live : LocalLive s'
  local_live f j =
      let key : ℕ → Bool = λ x. is₃ (s.tasks.sent x) (s.tasks.finish x) (s.tasks.at x) 1 f j in
      let here-key : on (key t) 1 ≡ on (place f j) 1 = is₂-cases m.finish m.to f j
      (λ p q. on_true (key t) 1 (rw (named.2, named.3, paired.1, p, q) (is₃_same 1 f j)) ∙ sym (on_true (place f j) 1 (rw (p, q) (is₂_same f j))))
      (λ n. on_false (key t) 1 (is₃_false (s.tasks.sent t) (s.tasks.finish t) (s.tasks.at t) 1 f j (λ _ p q. both (rw (sym named.3 ∙ p, sym paired.1 ∙ q) (is₂_same f j)) n)) ∙ sym (on_false (place f j) 1 n)) in
      omega (arith, inv.local_live f j, sums key 5 6, weigh_out (key t) 5 6 3 (λ l _. omega arith), weigh_in (key t) 5 6 5 (omega arith) (omega arith), here-key)

  reported_most : ReportedMost s'
  reported_most f j i = omega (arith, inv.reported_most f j i)

  pending : Pending s'
  pending f j h = is₂-cases m.finish m.to f j
      (λ p q. (m.from, omega (arith, inv.reported_most f j m.from, on_true (here f m.from j) 1 (rw (p, q) (is₃_same f m.from j)))))
      (λ n. let r = inv.pending f j (omega (arith, on_false (place f j) 1 n)) in (r.0, omega (arith, r.1)))

  unreported : Unreported s'
  unreported f j i h = is₂-cases m.finish m.to f j
      (λ p q. omega (arith, on_true (place f j) 1 (rw (p, q) (is₂_same f j))))
      (λ n. omega (
        arith,
        inv.unreported f j i (omega (arith, on_false (here f i j) 1 (is₃_false m.finish m.from m.to f i j (λ p _ q. both (rw (p, q) (is₂_same f j)) n)))),
      ))

  local_book : LocalBook s'
  local_book f j h = is₂-cases m.finish m.to f j
      (λ p _. rw p at has_book)
      (λ n. inv.local_book f j (omega (arith, on_false (place f j) 1 n)))

  pub delivers_task_keeps : Inv (deliver_task s k)
  delivers_task_keeps = let r = moved in search (
    blocked,
    publishes,
    published,
    transits,
    lost_transits,
    on_wire,
    named_publish,
    named_transit,
    sent_tasks_most,
    questions,
    sent_from,
    sent_most,
    counted_denied,
    not_from_self,
    fresh_locals,
    local_live,
    reported_most,
    pending,
    unreported,
    local_book,
    D.lasts s k full.range (search inv),
    D.release_none s k full.range inv.release_none,
    W.publish_some s k none full.range (other_tag 1 (omega arith) (λ q. omega arith)) (other_tag 2 (omega arith) (λ q. omega arith)) inv.publish_some,
    W.release_some s k none full.range (other_tag 8 (omega arith) (λ q. omega arith)) inv.release_some,
    W.ghosts s k none full.range (other_tag 9 (omega arith) (λ q. omega arith)) inv.ghosts,
    W.counted s k none full.range (other_tag 7 (omega arith) (λ q. omega arith)) inv.counted,
    W.marked s k none full.range (other_tag 10 (omega arith) (λ q. omega arith)) inv.marked,
  )
