-- The answer to a transit, granted or denied, settles its task, on the wire or dropped, and the spawner runs: kept, if the cells allow for what takes the slot.
use Rattle.std.specs.Prelude.{◌≡◌, refl, Bool, true, false, ℕ, suc, ◌+◌, ◌≤◌, ◌<◌, eqb}
use Rattle.std.proofs.Common.{sym, ap, ◌∙◌, arith, ne_eqb}
use Rattle.model.specs.Base.{upd, upd-cases, on_true, on_false, is₂, is₃, is₂_same, is₂_false, sum_ext, sum_upd₂}
use Rattle.model.specs.State.{State, Message, with_task_status, with_slot}
use Rattle.model.specs.Messages.{tally_away, tally_else, tallied_moves}
use Rattle.model.specs.Weights.{weigh, weigh_in, weigh_out, tasks_with, finishes_with}
use Rattle.model.specs.Effects.End.{wake, wake_some}
use Rattle.model.proofs.Facts.{spawner-blocked}
use Rattle.model.proofs.Facts.Alone.{alone}
use Rattle.model.specs.Inv.{Inv}
use Rattle.model.specs.Inv.Statuses.{Blocked}
use Rattle.model.specs.Inv.Messages.{NamesPair, NamesPairOf, Publishes, PublishesOf, Published, PublishedOf, PublishOnce, PublishSome, Transits, TransitsOf, LostTransits, LostTransitsOf, OnWire, OnWireOf, Late, LateOf, NamedPublish, NamedTransit, Questions, FreshMessages, FreshMessagesOf}
use Rattle.model.specs.Inv.Cells.{SentFrom, SentMost, SentTasksMost}
use Rattle.model.specs.Inv.Locals.{LocalLive}
use Rattle.model.proofs.Steps.Written as W
use Rattle.model.proofs.Steps.TaskMoved.{TaskMoved, Moves, moves}
use Rattle.model.proofs.Steps.Reply.{Copies, Replied, replies}

module _ (s : State) (k v : ℕ) (m : Message) (inv : Inv s) (in-range : k < s.slots) (is-answer : (4 ≤ (s.slot k).tag) × ((s.slot k).tag ≤ 5))
    (waits : s.tasks.status (s.slot k).task ≡ 2) (low : 3 ≤ v) (high : v ≤ 4) (copies : Copies s k m) (only-task : 1 ≤ m.tag → m.tag ≡ 6) where
  -- the task
  abbrev t : ℕ
  t = (s.slot k).task

  -- before the slot is written
  abbrev s₁ : State
  s₁ = with_task_status (wake (s.tasks.maker t) (upd s.tasks.status t v)) s

  abbrev s' : State
  s' = with_slot (upd s.slot k m) s₁

  is_sent : s.tasks.sent t ≡ 1
  is_sent = (inv.names_task k in-range (omega arith) (omega arith)).2

  -- the spawner
  abbrev b₀ : ℕ
  b₀ = s.tasks.maker t

  b₀_some : 0 < b₀
  b₀_some = (inv.sent_tasks t is_sent).0

  b₀-blocked : s.tasks.status b₀ ≡ 6
  b₀-blocked = spawner-blocked s inv t is_sent (omega arith) (omega arith)

  made : (0 < t) × (t ≤ s.tasks.made)
  made = inv.sent_made t (omega (arith, is_sent))

  b₀_made : (0 < b₀) × (b₀ ≤ s.tasks.made)
  b₀_made = inv.status_made b₀ (omega (arith, b₀-blocked))

  t_other : t ≡ b₀ → ⊥
  t_other q = omega (arith, b₀-blocked, ap s.tasks.status q)

  by_row : (P : ℕ → Type 0) (x : ℕ) → (x ≡ b₀ → P 5) → (x ≡ t → P v) → ((x ≡ b₀ → ⊥) → (x ≡ t → ⊥) → P (s.tasks.status x)) → P (s'.tasks.status x)
  by_row P x a b c = rw (wake_some b₀ (upd s.tasks.status t v) x b₀_some)
      (upd-cases (upd s.tasks.status t v) P b₀ 5 x a (λ n. upd-cases s.tasks.status P t v x b (c n)))

  -- what is neither t nor its spawner has its status still
  same : (x : ℕ) → (s.tasks.status x ≡ 6 → ⊥) → (x ≡ t → ⊥) → s'.tasks.status x ≡ s.tasks.status x
  same x n₆ n = by_row (λ w. w ≡ s.tasks.status x) x (λ q. absurd (n₆ (ap s.tasks.status q ∙ b₀-blocked))) (λ q. absurd (n q)) (λ _ _. refl)

  rows : Moves s t v s₁.tasks.status
  rows P x a b c = by_row P x (λ q. b q (ap s.tasks.status q ∙ b₀-blocked)) a (λ _ n. c n)

  moved : TaskMoved s₁
  moved = moves s t 2 v s₁.tasks.status inv is_sent waits (omega arith) (omega arith) low (omega arith) (λ q. omega arith) (λ q. absurd (omega arith)) rows

  settled : s'.tasks.status t ≡ v
  settled = by_row (λ w. w ≡ v) t (λ q. absurd (t_other q)) (λ _. refl) (λ _ n. absurd (n refl))

  -- a sum over the tasks moves by what t and its spawner count for
  sums : (key : ℕ → Bool) (lo hi : ℕ) → tasks_with s' key lo hi + weigh (key t) lo hi 2 + weigh (key b₀) lo hi 6 ≡ tasks_with s key lo hi + weigh (key t) lo hi v + weigh (key b₀) lo hi 5
  sums key lo hi =
      let g : ℕ → ℕ → ℕ = λ x w. weigh (key x) lo hi w in
      omega (
        arith,
        sum_ext (suc s.tasks.made) (λ x. g x (upd (upd s.tasks.status t v) b₀ 5 x)) (λ x. g x (s'.tasks.status x)) (λ x _. ap (g x) (wake_some b₀ (upd s.tasks.status t v) x b₀_some)),
        sum_upd₂ (suc s.tasks.made) g s.tasks.status t v b₀ 5 (omega (arith, made)) (omega (arith, b₀_made)) (λ q. t_other (sym q)),
        ap (g t) waits,
        ap (g b₀) b₀-blocked,
      )

  blocked : Blocked s'
  blocked b h =
      let key = is₂ (s.tasks.sent t) (s.tasks.maker t) 1 b in
      let moved = sums (λ x. is₂ (s.tasks.sent x) (s.tasks.maker x) 1 b) 1 2 in
      let was_in = weigh_in key 1 2 2 (omega arith) (omega arith) in
      let is_out = weigh_out key 1 2 v (λ _ l. omega arith) in
      let other = weigh_out (is₂ (s.tasks.sent b₀) (s.tasks.maker b₀) 1 b) 1 2 6 (λ _ l. omega arith) in
      let other' = weigh_out (is₂ (s.tasks.sent b₀) (s.tasks.maker b₀) 1 b) 1 2 5 (λ _ l. omega arith) in
      by_row (λ w. weigh true 6 6 w ≡ tasks_with s' (λ x. is₂ (s.tasks.sent x) (s.tasks.maker x) 1 b) 1 2 + finishes_with s (λ f. eqb (s.finishes.opener f) b) 1 3) b
      (λ q. omega (
        arith,
        moved,
        was_in,
        is_out,
        other,
        other',
        inv.blocked b h,
        on_true key 1 (rw (is_sent, q) (is₂_same 1 b₀)),
        weigh_out true 6 6 5 (λ l _. omega arith),
        weigh_in true 6 6 (s.tasks.status b) (omega (arith, b₀-blocked, ap s.tasks.status q)) (omega (arith, b₀-blocked, ap s.tasks.status q)),
        on_true true 1 refl,
      ))
      (λ q. omega (
        arith,
        moved,
        was_in,
        is_out,
        other,
        other',
        inv.blocked b h,
        on_false key 1 (is₂_false (s.tasks.sent t) (s.tasks.maker t) 1 b (λ _ p. t_other (sym q ∙ sym p))),
        weigh_out true 6 6 v (λ l _. omega arith),
        weigh_out true 6 6 (s.tasks.status b) (λ l _. omega (arith, waits, ap s.tasks.status q)),
      ))
      (λ n _. omega (
        arith,
        moved,
        was_in,
        is_out,
        other,
        other',
        inv.blocked b h,
        on_false key 1 (is₂_false (s.tasks.sent t) (s.tasks.maker t) 1 b (λ _ p. n (sym p))),
      ))

  -- tags 1, 2 and 3 are neither in nor out
  low_tag : (x : ℕ) → 0 < x → x < 4 → W.Elsewhere s₁ k m in-range x
  low_tag x z l = ((λ q. omega arith), (λ q. omega (arith, only-task (omega arith))))

  publishes : Publishes s'
  publishes = W.each s₁ k m in-range (PublishesOf s₁) moved.publishes (λ e. absurd (omega (arith, only-task (omega arith))))

  published : Published s'
  published = W.each s₁ k m in-range (PublishedOf s₁) moved.published (λ e. absurd (omega (arith, only-task (omega arith))))

  publish_once : PublishOnce s'
  publish_once = W.publish_once s₁ k m in-range (low_tag 1 (omega arith) (omega arith)) (low_tag 2 (omega arith) (omega arith)) inv.publish_once

  publish_some : PublishSome s'
  publish_some = W.publish_some s₁ k m in-range (low_tag 1 (omega arith) (omega arith)) (low_tag 2 (omega arith) (omega arith)) inv.publish_some

  -- another message names another task
  transits : Transits s'
  transits l h = upd-cases s.slot (TransitsOf s₁) k m l
      (λ _ a b. absurd (omega (arith, only-task (omega arith))))
      (λ ne a b d. let r = inv.transits l h a b d in
      (same (s.slot l).task (λ q. omega (arith, r.0)) (alone s inv.named_once k l in-range h ne (omega arith) (omega arith) (omega arith) (omega arith)) ∙ r.0, r.1))

  lost_transits : LostTransits s'
  lost_transits = W.each s₁ k m in-range (LostTransitsOf s₁) moved.lost_transits (λ a b. absurd (omega (arith, only-task (omega arith))))

  named_publish : NamedPublish s'
  named_publish = W.named_publish s₁ k m in-range (low_tag 1 (omega arith) (omega arith)) (low_tag 2 (omega arith) (omega arith)) moved.named_publish

  -- who waits still is named as before
  named_transit : NamedTransit s'
  named_transit x e =
      let w : (s.tasks.status x ≡ 2) × (x ≡ t → ⊥) = by_row (λ u. u ≡ 2 → (s.tasks.status x ≡ 2) × (x ≡ t → ⊥)) x (λ _ q. absurd (omega arith)) (λ _ q. absurd (omega arith)) (λ _ n q. (q, n)) e in
      let away = ne_eqb t x (λ q. w.1 (sym q)) in
      omega (
        arith,
        inv.named_transit x w.0,
        W.naming_same s₁ k m in-range 3 x (low_tag 3 (omega arith) (omega arith)),
        tallied_moves s₁ k m in-range 4 (λ m. eqb m.task x) (λ m. 1),
        tally_away 4 (s.slot k) (eqb t x) 1 away,
        tally_else 4 m (eqb m.task x) 1 (λ q. omega (arith, only-task (omega arith))),
        tallied_moves s₁ k m in-range 5 (λ m. eqb m.task x) (λ m. 1),
        tally_away 5 (s.slot k) (eqb t x) 1 away,
        tally_else 5 m (eqb m.task x) 1 (λ q. omega (arith, only-task (omega arith))),
      )

  sent_tasks_most : SentTasksMost s'
  sent_tasks_most f i j ne =
      let key : ℕ → Bool = λ x. is₃ (s.tasks.finish x) (s.tasks.from x) (s.tasks.at x) f i j in
      omega (
        arith,
        inv.sent_tasks_most f i j ne,
        sums key 2 8,
        W.between_same s₁ k m in-range 3 f i j (low_tag 3 (omega arith) (omega arith)),
        weigh_in (key t) 2 8 2 (omega arith) (omega arith),
        weigh_in (key t) 2 8 v (omega arith) (omega arith),
        weigh_in (key b₀) 2 8 6 (omega arith) (omega arith),
        weigh_in (key b₀) 2 8 5 (omega arith) (omega arith),
      )

  local_live : LocalLive s'
  local_live f j =
      let key : ℕ → Bool = λ x. is₃ (s.tasks.sent x) (s.tasks.finish x) (s.tasks.at x) 1 f j in
      omega (
        arith,
        inv.local_live f j,
        sums key 5 6,
        weigh_out (key t) 5 6 2 (λ l _. omega arith),
        weigh_out (key t) 5 6 v (λ l _. omega arith),
        weigh_in (key b₀) 5 6 6 (omega arith) (omega arith),
        weigh_in (key b₀) 5 6 5 (omega arith) (omega arith),
      )

  -- what the new message says, and what the cells say
  module _ (new-pair : NamesPairOf s m) (new-wire : m.tag ≡ 6 → (v ≡ 3) × (s.dead m.to ≡ false)) (new-late : LateOf s m) (new-fresh : FreshMessagesOf s m)
      (questions : Questions s') (sent_from : SentFrom s') (sent_most : SentMost s') where
    names_pair : NamesPair s'
    names_pair = W.each s k m in-range (NamesPairOf s) inv.names_pair new-pair

    on_wire : OnWire s'
    on_wire = W.each s₁ k m in-range (OnWireOf s₁)
        (λ l h e. let r = inv.on_wire l h e in (same (s.slot l).task (λ q. omega (arith, r.0)) (λ q. omega (arith, r.0, ap s.tasks.status q)) ∙ r.0, r.1))
        (λ e. let w = new-wire e in (rw (copies (omega arith)).4 (settled ∙ w.0), w.1))

    late : Late s'
    late = W.each s k m in-range (LateOf s) inv.late new-late

    fresh_messages : FreshMessages s'
    fresh_messages = W.each s k m in-range (FreshMessagesOf s) inv.fresh_messages new-fresh

    replied : Replied (with_slot (upd s.slot k m) s)
    replied = replies s k m inv in-range copies (omega arith)

    pub settled_keeps : Inv s'
    settled_keeps = let r = replied in let w = moved in search (
      blocked,
      names_pair,
      publishes,
      published,
      publish_once,
      publish_some,
      transits,
      lost_transits,
      on_wire,
      late,
      named_publish,
      named_transit,
      questions,
      fresh_messages,
      sent_from,
      sent_most,
      sent_tasks_most,
      local_live,
    )
