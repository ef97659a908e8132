-- Deliver of a report (7): the column lowered keeps the invariant but for the closing test, and with it the whole.
use Rattle.std.specs.Prelude.{◌≡◌, ℕ, ◌+◌, ◌≤◌, ◌<◌}
use Rattle.std.proofs.Common.{sym, ap, ◌∙◌, inl, inr, arith}
use Rattle.model.specs.Base.{on-le, is₂, is₂-cases, is₂_false}
use Rattle.model.specs.State.{State, with_live}
use Rattle.model.specs.Messages.{none, tally, tally_is, tally_else, tally_away, tallied_moves, reports}
use Rattle.model.specs.Guards.{Full, Repaired}
use Rattle.model.specs.Effects.Closing.{Closing, Counts}
use Rattle.model.specs.Effects.Deliver.{deliver_report}
use Rattle.model.specs.Inv.{Inv, InvBut}
use Rattle.model.specs.Inv.Messages as M
use Rattle.model.specs.Inv.Books as B
use Rattle.model.specs.Inv.Cells as C
use Rattle.model.proofs.Steps.Written as W
use Rattle.model.proofs.Steps.Emptied as D
use Rattle.model.proofs.Steps.Closing.{closing_keeps}

module _ (s : State) (k : ℕ) (inv : Inv s) (full : Full s k 7) (repaired : Repaired s (s.slot k).finish)
    (fits : (i : ℕ) → (s.slot k).counts i ≤ s.books.live (s.slot k).finish i (s.slot k).from) where
  abbrev s' : State
  s' = deliver_report s k

  abbrev f₀ : ℕ
  f₀ = (s.slot k).finish

  -- what the report takes of a cell
  abbrev taken : ℕ → ℕ → ℕ → ℕ
  taken f i j = tally 7 (s.slot k) (is₂ (s.slot k).finish (s.slot k).from f j) ((s.slot k).counts i)

  -- before the slot is emptied
  abbrev s₁ : State
  s₁ = with_live s'.books.live s

  other_tag : (t : ℕ) → 0 < t → (t ≡ 7 → ⊥) → W.Elsewhere s₁ k none full.range t
  other_tag t z n = ((λ q. n (sym q ∙ full.tag)), (λ q. omega arith))

  live_other : (f i j : ℕ) → (f ≡ f₀ → ⊥) → s'.books.live f i j ≡ s.books.live f i j
  live_other f i j n = omega (arith, tally_away 7 (s.slot k) (is₂ f₀ (s.slot k).from f j) ((s.slot k).counts i) (is₂_false f₀ (s.slot k).from f j (λ p _. n (sym p))))

  reports_fall : (f i j : ℕ) → reports s' f i j + taken f i j ≡ reports s f i j
  reports_fall f i j = omega (
    arith,
    tallied_moves s k none full.range 7 (λ m. is₂ m.finish m.from f j) (λ m. m.counts i),
    tally_else 7 none (is₂ 0 0 f j) 0 (λ q. omega arith),
  )

  cell_places : C.CellPlaces s'
  cell_places f i j h = inv.cell_places f i j (omega arith)

  fresh_book : M.FreshBook s'
  fresh_book f i j e p = let r = inv.fresh_book f i j e p in (r.0, omega (arith, r.1), r.2)

  book_counts : B.BookCountsBut f₀ s'
  book_counts f n p = go (inv.book_counts f (λ z. omega (arith, inv.book_made f p)) p)
    where
      go : Counts s f → Counts s' f
      go (inl c) = inl (c.0, c.1, omega (arith, c.2, live_other f c.0 c.1 n))
      go (inr c) = inr c

  due_column : B.DueColumn s'
  due_column f p e =
      let r = inv.due_column f p e in
      let n : f ≡ f₀ → ⊥ = λ q. omega (arith, repaired.due, ap s.books.due q) in
      (r.0, r.1, r.2, omega (arith, r.3, live_other f r.1 r.0 n))

  -- the column and the reports in flight fall together
  enough : (f i j : ℕ) → taken f i j ≤ s.books.live f i j
  enough f i j = is₂-cases f₀ (s.slot k).from f j
      (λ p q. rw (← p, ← q) (omega (arith, tally-le, fits i)))
      (λ e. omega (arith, tally_away 7 (s.slot k) (is₂ f₀ (s.slot k).from f j) ((s.slot k).counts i) e))
    where
      tally-le : taken f₀ i (s.slot k).from ≤ (s.slot k).counts i
      tally-le = omega (arith, tally_is 7 (s.slot k) (is₂ f₀ (s.slot k).from f₀ (s.slot k).from) ((s.slot k).counts i) full.tag, on-le (is₂ f₀ (s.slot k).from f₀ (s.slot k).from) ((s.slot k).counts i))

  counted : C.Counted s'
  counted f i j p a d = omega (arith, inv.counted f i j p a d, reports_fall f i j, enough f i j)

  counted_denied : C.CountedDenied s'
  counted_denied f i j p a d = omega (arith, inv.counted_denied f i j p a d, reports_fall f i j, enough f i j, W.answered_same s₁ k none full.range f i j (other_tag 11 (omega arith) (λ q. omega arith)))

  pub lowered : InvBut f₀ (deliver_report s k)
  lowered = search (
    fresh_book,
    book_counts,
    due_column,
    cell_places,
    counted,
    counted_denied,
    D.lasts s₁ k full.range (search inv),
    D.release_none s₁ k full.range inv.release_none,
    D.places s₁ k full.range (omega (arith, full.tag)) (λ q. omega (arith, full.tag)) (λ q. omega (arith, full.tag)) (search inv),
    W.ghosts s₁ k none full.range (other_tag 9 (omega arith) (λ q. omega arith)) inv.ghosts,
  )

  pub delivers_report_keeps : {t : State} → s.books.present f₀ ≡ 1 → Closing (deliver_report s k) f₀ k t → Inv t
  delivers_report_keeps p c = closing_keeps lowered p c
