-- A transit's answer, granted or denied, takes its slot and names the same task, which waits still: kept, if the live and sent counts allow for it.
use Rattle.std.specs.Prelude.{◌≡◌, refl, false, ℕ, ◌+◌, ◌≤◌}
use Rattle.std.proofs.Common.{sym, arith}
use Rattle.model.specs.Base.{upd, on, is₃, both}
use Rattle.model.specs.State.{State, Message, with_live, with_sent, with_slot}
use Rattle.model.specs.Messages.{between, tally_is, tally_else, tallied_moves}
use Rattle.model.specs.Guards.{Full}
use Rattle.model.specs.Inv.{Inv}
use Rattle.model.specs.Inv.Messages as M
use Rattle.model.specs.Inv.Books as B
use Rattle.model.specs.Inv.Cells as C
use Rattle.model.proofs.Steps.Written as W
use Rattle.model.proofs.Steps.Reply.{Copies, Replied, named_same, replies}

-- an answer of tag n
module _ (s : State) (k n : ℕ) (inv : Inv s) (full : Full s k 3) (from_lives : s.dead (s.slot k).from ≡ false) (low : 4 ≤ n) (high : n ≤ 5) where
  abbrev m₀ : Message
  m₀ = s.slot k

  abbrev m : Message
  m = record { tag = n; finish = m₀.finish; task = m₀.task; from = m₀.from; to = m₀.to; number = 0; counts = λ i. 0 }

  abbrev s' : State
  s' = with_slot (upd s.slot k m) s

  copies : Copies s k m
  copies h = (omega arith, omega (arith, full.tag), omega (arith, full.tag), refl, refl)

  old_low : m₀.tag ≤ 6
  old_low = omega (arith, full.tag)

  replied : Replied (with_slot (upd s.slot k m) s)
  replied = replies s k m inv full.range copies old_low

  other_tag : (x : ℕ) → (x ≡ 3 → ⊥) → (x ≡ n → ⊥) → W.Elsewhere s k m full.range x
  other_tag x n₃ n = ((λ q. n₃ (omega (arith, full.tag))), (λ q. n (sym q)))

  names_pair : M.NamesPair s'
  names_pair = W.each s k m full.range (M.NamesPairOf s) inv.names_pair (λ _ _. inv.names_pair k full.range (omega (arith, full.tag)) (omega (arith, full.tag)))

  publishes : M.Publishes s'
  publishes = W.each s k m full.range (M.PublishesOf s) inv.publishes (λ e. absurd (omega arith))

  published : M.Published s'
  published = W.each s k m full.range (M.PublishedOf s) inv.published (λ e. absurd (omega arith))

  publish_once : M.PublishOnce s'
  publish_once = W.publish_once s k m full.range (other_tag 1 (λ q. omega arith) (λ q. omega arith)) (other_tag 2 (λ q. omega arith) (λ q. omega arith)) inv.publish_once

  publish_some : M.PublishSome s'
  publish_some = W.publish_some s k m full.range (other_tag 1 (λ q. omega arith) (λ q. omega arith)) (other_tag 2 (λ q. omega arith) (λ q. omega arith)) inv.publish_some

  transits : M.Transits s'
  transits = W.each s k m full.range (M.TransitsOf s) inv.transits (λ _ _. inv.transits k full.range (omega (arith, full.tag)) (omega (arith, full.tag)))

  lost_transits : M.LostTransits s'
  lost_transits = W.each s k m full.range (M.LostTransitsOf s) inv.lost_transits (λ _ _ d. both d from_lives)

  on_wire : M.OnWire s'
  on_wire = W.each s k m full.range (M.OnWireOf s) inv.on_wire (λ e. absurd (omega arith))

  late : M.Late s'
  late = W.each s k m full.range (M.LateOf s) inv.late (λ e. absurd (omega arith))

  fresh_messages : M.FreshMessages s'
  fresh_messages = W.each s k m full.range (M.FreshMessagesOf s) inv.fresh_messages (λ _ _. inv.fresh_messages k full.range (omega (arith, full.tag)) (λ q. omega (arith, full.tag)))

  named_publish : M.NamedPublish s'
  named_publish = W.named_publish s k m full.range (other_tag 1 (λ q. omega arith) (λ q. omega arith)) (other_tag 2 (λ q. omega arith) (λ q. omega arith)) inv.named_publish

  -- the answer names the task in the transit's stead
  named_transit : M.NamedTransit s'
  named_transit x e = omega (
    arith,
    inv.named_transit x e,
    named_same s k m inv full.range copies old_low (omega arith) x,
    W.naming_same s k m full.range 1 x (other_tag 1 (λ q. omega arith) (λ q. omega arith)),
    W.naming_same s k m full.range 2 x (other_tag 2 (λ q. omega arith) (λ q. omega arith)),
    W.naming_same s k m full.range 6 x (other_tag 6 (λ q. omega arith) (λ q. omega arith)),
  )

  pub transits_fall : (f i j : ℕ) → between s' 3 f i j + on (is₃ m₀.finish m₀.from m₀.to f i j) 1 ≡ between s 3 f i j
  transits_fall f i j = omega (
    arith,
    tallied_moves s k m full.range 3 (λ m. is₃ m.finish m.from m.to f i j) (λ m. 1),
    tally_is 3 m₀ (is₃ m₀.finish m₀.from m₀.to f i j) 1 full.tag,
    tally_else 3 m (is₃ m₀.finish m₀.from m₀.to f i j) 1 (λ q. omega arith),
  )

  -- live and sent counts may change with it
  module _ (live sent : ℕ → ℕ → ℕ → ℕ) where
    abbrev s₂ : State
    s₂ = with_slot (upd s.slot k m) (with_live live (with_sent sent s))

    module _ (fresh_book : M.FreshBook s₂) (questions : M.Questions s₂) (book_counts : B.BookCountsBut 0 s₂) (due_column : B.DueColumn s₂) (cell_places : C.CellPlaces s₂)
        (counted : C.Counted s₂) (counted_denied : C.CountedDenied s₂) (sent_from : C.SentFrom s₂) (sent_most : C.SentMost s₂) (sent_book : C.SentBook s₂) (sent_tasks_most : C.SentTasksMost s₂) where
      pub answered_keeps : Inv s₂
      answered_keeps = let r = replied in search (
        names_pair,
        publishes,
        published,
        publish_once,
        publish_some,
        transits,
        lost_transits,
        on_wire,
        late,
        named_publish,
        named_transit,
        fresh_messages,
        fresh_book,
        questions,
        book_counts,
        due_column,
        cell_places,
        counted,
        counted_denied,
        sent_from,
        sent_most,
        sent_book,
        sent_tasks_most,
      )
