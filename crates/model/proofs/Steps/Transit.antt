-- The deliver of transit (3) keeps the invariant: live and sent rise with the grant; or the receiver is dead, and denied is the answer.
use Rattle.std.specs.Prelude.{◌≡◌, true, false, ℕ, ◌+◌, ◌<◌}
use Rattle.std.proofs.Math.Path.{refl}
use Rattle.std.proofs.Common.{sym, ap, inl, inr}
use native.Mathlib.Omega.{arith}
use Rattle.model.specs.Base.{upd-cases, on, on-cases, on_false, is₃, is₃_false, is₃_true, eq_cases, both}
use Rattle.model.specs.State.{State, Message}
use Rattle.model.specs.Messages.{denied, granted, between, tally_is, tally_else, tallied_moves}
use Rattle.model.specs.Guards.{Full, Repaired}
use Rattle.model.specs.Effects.Closing.{Counts}
use Rattle.model.specs.Effects.Deliver.{deliver_transit, refuse_transit}
use Rattle.model.specs.Inv.{Inv}
use Rattle.model.specs.Inv.Messages as M
use Rattle.model.specs.Inv.Books as B
use Rattle.model.specs.Inv.Cells as C
use Rattle.model.proofs.Steps.Written as W
use Rattle.model.proofs.Steps.Answer.{transits_fall, answered_keeps}

module _ (s : State) (k : ℕ) (inv : Inv s) (full : Full s k 3) (from_lives : s.dead (s.slot k).from ≡ false)
    (booked : s.books.present (s.slot k).finish ≡ 1) (repaired : Repaired s (s.slot k).finish) where
  abbrev m₀ : Message
  m₀ = s.slot k

  module _ (to_dead : s.dead (s.slot k).to ≡ true) where
    abbrev refused : Message
    refused = denied m₀.finish m₀.task m₀.from m₀.to

    other_tag : (x : ℕ) → (x ≡ 3 → ⊥) → (x ≡ 5 → ⊥) → W.Elsewhere s k refused full.range x
    other_tag x n₃ n = ((λ q. n₃ (omega (arith, full.tag))), (λ q. n (sym q)))

    sent_tasks_fewer : C.SentTasksMost (refuse_transit s k)
    sent_tasks_fewer f i j ne = omega (arith, inv.sent_tasks_most f i j ne, transits_fall s k 5 inv full from_lives (omega arith) (omega arith) f i j)

    pub refuses_transit_keeps : Inv (refuse_transit s k)
    refuses_transit_keeps = answered_keeps s k 5 inv full from_lives (omega arith) (omega arith) s.books.live s.books.sent inv.fresh_book
        (W.questions s k refused full.range (other_tag 6 (λ q. omega arith) (λ q. omega arith)) (other_tag 10 (λ q. omega arith) (λ q. omega arith)) inv.questions)
        inv.book_counts inv.due_column inv.cell_places
        (W.counted s k refused full.range (other_tag 7 (λ q. omega arith) (λ q. omega arith)) inv.counted)
        (W.counted_denied s k refused full.range (other_tag 7 (λ q. omega arith) (λ q. omega arith)) (other_tag 11 (λ q. omega arith) (λ q. omega arith)) inv.counted_denied)
        (W.sent_from s k refused full.range (other_tag 4 (λ q. omega arith) (λ q. omega arith)) (other_tag 6 (λ q. omega arith) (λ q. omega arith)) inv.sent_from)
        (W.sent_most s k refused full.range (other_tag 6 (λ q. omega arith) (λ q. omega arith)) inv.sent_most)
        inv.sent_book sent_tasks_fewer

  module _ (to-lives : s.dead (s.slot k).to ≡ false) where
    abbrev s' : State
    s' = deliver_transit s k

    abbrev grant : Message
    grant = granted m₀.finish m₀.task m₀.from m₀.to

    elsewhere : (x : ℕ) → (x ≡ 3 → ⊥) → (x ≡ 4 → ⊥) → W.Elsewhere s k grant full.range x
    elsewhere x n₃ n = ((λ q. n₃ (omega (arith, full.tag))), (λ q. n (sym q)))

    -- live and sent rise where the grant stands
    here : ℕ → ℕ → ℕ → ℕ
    here f i j = on (is₃ m₀.finish m₀.from m₀.to f i j) 1

    live_rises : (f i j : ℕ) → s'.books.live f i j ≡ s.books.live f i j + here f i j
    unfolding here
    live_rises f i j = refl

    sent_rises : (f i j : ℕ) → s'.books.sent f i j ≡ s.books.sent f i j + here f i j
    unfolding here
    sent_rises f i j = refl

    grants_rise : (f i j : ℕ) → between s' 4 f i j ≡ between s 4 f i j + here f i j
    unfolding here
    grants_rise f i j = omega (
      arith,
      tallied_moves s k grant full.range 4 (λ m. is₃ m.finish m.from m.to f i j) (λ m. 1),
      tally_else 4 m₀ (is₃ m₀.finish m₀.from m₀.to f i j) 1 (λ q. omega (arith, full.tag)),
      tally_is 4 grant (is₃ m₀.finish m₀.from m₀.to f i j) 1 refl,
    )

    asks_fall : (f i j : ℕ) → between s' 3 f i j + here f i j ≡ between s 3 f i j
    unfolding here
    asks_fall f i j = transits_fall s k 4 inv full from_lives (omega arith) (omega arith) f i j

    away : (f i j : ℕ) → (m₀.finish ≡ f → m₀.from ≡ i → m₀.to ≡ j → ⊥) → here f i j ≡ 0
    unfolding here
    away f i j n = on_false (is₃ m₀.finish m₀.from m₀.to f i j) 1 (is₃_false m₀.finish m₀.from m₀.to f i j n)

    at-grant : (f i j : ℕ) → 0 < here f i j → (m₀.finish ≡ f) × (m₀.from ≡ i) × (m₀.to ≡ j)
    unfolding here
    at-grant f i j h = on-cases (is₃ m₀.finish m₀.from m₀.to f i j) 1 h (λ e _. is₃_true m₀.finish m₀.from m₀.to f i j e)

    -- a dead sender is another
    not_dead : (f i j : ℕ) → s.dead i ≡ true → here f i j ≡ 0
    not_dead f i j d = away f i j (λ _ q _. both d (rw q at from_lives))

    fresh_book : M.FreshBook s'
    fresh_book f i j e p =
        let r = inv.fresh_book f i j e p in
        let z = away f i j (λ q _ _. omega (arith, inv.fresh_messages k full.range (omega (arith, full.tag)) (λ e. omega (arith, full.tag)), ap s.finishes.published q)) in
        (omega (arith, r.0, z, sent_rises f i j), omega (arith, r.1, z, live_rises f i j), r.2)

    questions : M.Questions s'
    questions l h = upd-cases s.slot (M.QuestionsOf s') k grant l
        (λ _ e. absurd (omega arith))
        (λ _ e.
        let r = inv.questions l h e in
        let m = s.slot l in
        let z = not_dead m.finish m.from m.to (inv.asks l h (omega arith)).0 in (
          r.0,
          omega (arith, r.1, W.between_same s k grant full.range 6 m.finish m.from m.to (elsewhere 6 (λ q. omega arith) (λ q. omega arith))),
          λ p. omega (arith, r.2 p, z, sent_rises m.finish m.from m.to),
        ))

    book_counts : B.BookCountsBut 0 s'
    book_counts f n p = more (inv.book_counts f n p)
      where
        more : Counts s f → Counts s' f
        more (inl (i, j, h)) = inl (i, j, omega (arith, live_rises f i j))
        more (inr g) = inr g

    due_column : B.DueColumn s'
    due_column f p d = let r = inv.due_column f p d in (r.0, r.1, r.2, omega (arith, r.3, live_rises f r.1 r.0))

    cell_places : C.CellPlaces s'
    cell_places f i j h = eq_cases (s.books.live f i j) 0
        (λ z.
        let g = at-grant f i j (omega (arith, live_rises f i j)) in
        let p = inv.names_pair k full.range (omega (arith, full.tag)) (omega (arith, full.tag)) in
        let n = inv.names_task k full.range (omega (arith, full.tag)) (omega (arith, full.tag)) in
        omega (arith, g.1, g.2, p, inv.task_ranges m₀.task n.0 n.1))
        (λ n. inv.cell_places f i j (omega arith))

    counted : C.Counted s'
    counted f i j p l d = omega (
      arith,
      inv.counted f i j p l d,
      live_rises f i j,
      sent_rises f i j,
      W.reports_same s k grant full.range f i j (elsewhere 7 (λ q. omega arith) (λ q. omega arith)),
    )

    counted_denied : C.CountedDenied s'
    counted_denied f i j p l d = omega (
      arith,
      inv.counted_denied f i j p l d,
      live_rises f i j,
      not_dead f i j (inv.denied_dead f j i d),
      W.reports_same s k grant full.range f i j (elsewhere 7 (λ q. omega arith) (λ q. omega arith)),
      W.answered_same s k grant full.range f i j (elsewhere 11 (λ q. omega arith) (λ q. omega arith)),
    )

    sent_from : C.SentFrom s'
    sent_from f i j p a b = omega (
      arith,
      inv.sent_from f i j p a b,
      sent_rises f i j,
      grants_rise f i j,
      W.between_same s k grant full.range 6 f i j (elsewhere 6 (λ q. omega arith) (λ q. omega arith)),
    )

    sent_most : C.SentMost s'
    sent_most f i j p a = omega (
      arith,
      inv.sent_most f i j p a,
      sent_rises f i j,
      W.between_same s k grant full.range 6 f i j (elsewhere 6 (λ q. omega arith) (λ q. omega arith)),
    )

    sent_book : C.SentBook s'
    sent_book f i j h = eq_cases (s.books.sent f i j) 0
        (λ z. let g = at-grant f i j (omega (arith, sent_rises f i j)) in rw g.0 at booked)
        (λ n. inv.sent_book f i j (omega arith))

    sent_tasks_most : C.SentTasksMost s'
    sent_tasks_most f i j ne = omega (arith, inv.sent_tasks_most f i j ne, sent_rises f i j, asks_fall f i j)

    pub delivers_transit_keeps : Inv (deliver_transit s k)
    delivers_transit_keeps = answered_keeps s k 4 inv full from_lives (omega arith) (omega arith) s'.books.live s'.books.sent
        fresh_book questions book_counts due_column cell_places counted counted_denied sent_from sent_most sent_book sent_tasks_most
