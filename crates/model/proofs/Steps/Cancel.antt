-- Cancel: a dead place's column cleared keeps the invariant but for the closing test, and with it the whole.
use Rattle.std.specs.Prelude.{◌≡◌, true, ℕ, ◌≤◌}
use Rattle.std.proofs.Common.{sym, ap, ◌∙◌, inl, inr, arith}
use Rattle.model.specs.Base.{is₂, is₂_false, cond_cases, both}
use Rattle.model.specs.Guards.{NotDue}
use Rattle.model.specs.State.{State}
use Rattle.model.specs.Effects.Closing.{Closing, Counts}
use Rattle.model.specs.Effects.Repair.{cancel}
use Rattle.model.specs.Inv.{Inv, InvBut}
use Rattle.model.specs.Inv.Messages as M
use Rattle.model.specs.Inv.Books as B
use Rattle.model.specs.Inv.Cells as C
use Rattle.model.proofs.Steps.Closing.{closing_keeps}

module _ (s : State) (f v : ℕ) (inv : Inv s) (died : s.dead v ≡ true) (settled : NotDue s f) where
  abbrev s' : State
  s' = cancel s f v

  pub fewer : (x i j : ℕ) → s'.books.live x i j ≤ s.books.live x i j
  fewer x i j = cond_cases (λ w. w ≤ s.books.live x i j) (is₂ f v x j) 0 (s.books.live x i j) (λ _. omega arith) (λ _. omega arith)

  live_other : (x i j : ℕ) → (f ≡ x → v ≡ j → ⊥) → s'.books.live x i j ≡ s.books.live x i j
  live_other x i j n = rw (is₂_false f v x j n)

  cell_places : C.CellPlaces s'
  cell_places x i j h = inv.cell_places x i j (omega (arith, fewer x i j))

  fresh_book : M.FreshBook s'
  fresh_book x i j e p = let r = inv.fresh_book x i j e p in (r.0, omega (arith, r.1, fewer x i j), r.2)

  book_counts : B.BookCountsBut f s'
  book_counts x n p = go (inv.book_counts x (λ z. omega (arith, inv.book_made x p)) p)
    where
      go : Counts s x → Counts s' x
      go (inl c) = inl (c.0, c.1, omega (arith, c.2, live_other x c.0 c.1 (λ q _. n (sym q))))
      go (inr c) = inr c

  due_column : B.DueColumn s'
  due_column x p e =
      let r = inv.due_column x p e in
      (r.0, r.1, r.2, omega (arith, r.3, live_other x r.1 r.0 (λ q _. omega (arith, settled, ap s.books.due q))))

  -- a live place's column is another's
  counted : C.Counted s'
  counted x i j p a d = omega (arith, inv.counted x i j p a d, live_other x i j (λ _ q. both died (ap s.dead q ∙ a)))

  counted_denied : C.CountedDenied s'
  counted_denied x i j p a d = omega (arith, inv.counted_denied x i j p a d, live_other x i j (λ _ q. both died (ap s.dead q ∙ a)))

  pub cleared : InvBut f (cancel s f v)
  cleared = search (cell_places, fresh_book, book_counts, due_column, counted, counted_denied)

  pub cancels_keeps : {k : ℕ} {t : State} → s.books.present f ≡ 1 → Closing (cancel s f v) f k t → Inv t
  cancels_keeps p c = closing_keeps cleared p c
