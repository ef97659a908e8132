-- Deliver of a dropped count (11): the cell lowered keeps the invariant but for the closing test, and with it the whole.
use Rattle.std.specs.Prelude.{◌≡◌, Bool, false, ℕ, ◌+◌, ◌≤◌, ◌<◌}
use Rattle.std.proofs.Common.{sym, ap, ◌∙◌, inl, inr, arith}
use Rattle.model.specs.Base.{on-le, is₃, is₃-cases, is₃_false, both}
use Rattle.model.specs.State.{State, with_live}
use Rattle.model.specs.Messages.{none, tally, tally_is, tally_else, tally_away, tallied_moves, answered}
use Rattle.model.specs.Guards.{Full}
use Rattle.model.specs.Effects.Closing.{Closing, Counts}
use Rattle.model.specs.Effects.Deliver.{deliver_dropped}
use Rattle.model.specs.Inv.{Inv, InvBut}
use Rattle.model.specs.Inv.Messages as M
use Rattle.model.specs.Inv.Books as B
use Rattle.model.specs.Inv.Cells as C
use Rattle.model.proofs.Steps.Written as W
use Rattle.model.proofs.Steps.Emptied as D
use Rattle.model.proofs.Steps.Closing.{closing_keeps}

module _ (s : State) (k : ℕ) (inv : Inv s) (full : Full s k 11) (lives : s.dead (s.slot k).to ≡ false)
    (fits : (s.slot k).number ≤ s.books.live (s.slot k).finish (s.slot k).from (s.slot k).to) where
  abbrev s' : State
  s' = deliver_dropped s k

  abbrev f₀ : ℕ
  f₀ = (s.slot k).finish

  abbrev key : ℕ → ℕ → ℕ → Bool
  key f i j = is₃ (s.slot k).finish (s.slot k).from (s.slot k).to f i j

  -- what the answer takes of a cell
  abbrev taken : ℕ → ℕ → ℕ → ℕ
  taken f i j = tally 11 (s.slot k) (key f i j) (s.slot k).number

  -- before the slot is emptied
  abbrev s₁ : State
  s₁ = with_live s'.books.live s

  other_tag : (t : ℕ) → 0 < t → (t ≡ 11 → ⊥) → W.Elsewhere s₁ k none full.range t
  other_tag t z n = ((λ q. n (sym q ∙ full.tag)), (λ q. omega arith))

  live_other : (f i j : ℕ) → (f ≡ f₀ → j ≡ (s.slot k).to → ⊥) → s'.books.live f i j ≡ s.books.live f i j
  live_other f i j n = omega (arith, tally_away 11 (s.slot k) (key f i j) (s.slot k).number (is₃_false f₀ (s.slot k).from (s.slot k).to f i j (λ p _ r. n (sym p) (sym r))))

  answered_falls : (f i j : ℕ) → answered s' f i j + taken f i j ≡ answered s f i j
  answered_falls f i j = omega (
    arith,
    tallied_moves s k none full.range 11 (λ m. is₃ m.finish m.from m.to f i j) (λ m. m.number),
    tally_else 11 none (is₃ 0 0 0 f i j) 0 (λ q. omega arith),
  )

  enough : (f i j : ℕ) → taken f i j ≤ s.books.live f i j
  enough f i j = is₃-cases f₀ (s.slot k).from (s.slot k).to f i j
      (λ p q r. rw (← p, ← q, ← r) (omega (arith, tally_is 11 (s.slot k) (key f₀ (s.slot k).from (s.slot k).to) (s.slot k).number full.tag, on-le (key f₀ (s.slot k).from (s.slot k).to) (s.slot k).number)))
      (λ e. omega (arith, tally_away 11 (s.slot k) (key f i j) (s.slot k).number e))

  cell_places : C.CellPlaces s'
  cell_places f i j h = inv.cell_places f i j (omega arith)

  fresh_book : M.FreshBook s'
  fresh_book f i j e p = let r = inv.fresh_book f i j e p in (r.0, omega (arith, r.1), r.2)

  book_counts : B.BookCountsBut f₀ s'
  book_counts f n p = go (inv.book_counts f (λ z. omega (arith, inv.book_made f p)) p)
    where
      go : Counts s f → Counts s' f
      go (inl c) = inl (c.0, c.1, omega (arith, c.2, live_other f c.0 c.1 (λ q _. n q)))
      go (inr c) = inr c

  -- a dead place's column is another's
  due_column : B.DueColumn s'
  due_column f p e =
      let r = inv.due_column f p e in
      (r.0, r.1, r.2, omega (arith, r.3, live_other f r.1 r.0 (λ _ q. both r.2 (ap s.dead q ∙ lives))))

  -- the sender is denied: the cell and the answers in flight fall together
  counted : C.Counted s'
  counted f i j p a d = omega (arith, inv.counted f i j p a d, inv.no_answer f i j p a d, answered_falls f i j, W.reports_same s₁ k none full.range f i j (other_tag 7 (omega arith) (λ q. omega arith)))

  counted_denied : C.CountedDenied s'
  counted_denied f i j p a d = omega (arith, inv.counted_denied f i j p a d, answered_falls f i j, enough f i j, W.reports_same s₁ k none full.range f i j (other_tag 7 (omega arith) (λ q. omega arith)))

  pub lowered : InvBut f₀ (deliver_dropped s k)
  lowered = search (
    fresh_book,
    book_counts,
    due_column,
    cell_places,
    counted,
    counted_denied,
    D.lasts s₁ k full.range (search inv),
    D.release_none s₁ k full.range inv.release_none,
    D.places s₁ k full.range (omega (arith, full.tag)) (λ q. omega (arith, full.tag)) (λ q. omega (arith, full.tag)) (search inv),
    W.ghosts s₁ k none full.range (other_tag 9 (omega arith) (λ q. omega arith)) inv.ghosts,
  )

  pub delivers_dropped_keeps : {t : State} → s.books.present f₀ ≡ 1 → Closing (deliver_dropped s k) f₀ k t → Inv t
  delivers_dropped_keeps p c = closing_keeps lowered p c
