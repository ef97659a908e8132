-- Adopt keeps the invariant.
use Rattle.std.specs.Prelude.{◌≡◌, refl, Bool, true, false, ◌&&◌, ℕ, ◌≤◌, eqb}
use Rattle.std.proofs.Common.{sym, ap, ◌∙◌, inl, inr, arith, eqb-true, eq-eqb, ne_eqb}
use Rattle.model.specs.Base.{upd_other, upd-cases, on, on_true, on_false, is₂, is₃, is₃_same, is₃_false, is₂_true, sum_zero, cond_cases, bool_cases, eq_cases, both, or_cases, or_left, or_right, or_none, and_none, and_left, and_right}
use Rattle.model.specs.State.{State}
use Rattle.model.specs.Messages.{tally, tally_else, tally_away, endings}
use Rattle.model.specs.Guards.{HasBook}
use Rattle.model.specs.Effects.Closing.{Counts}
use Rattle.model.specs.Effects.Repair.{adopt, is_orphan, orphan_true, orphan_is}
use Rattle.model.specs.Inv.{Inv}
use Rattle.model.specs.Inv.Messages as M
use Rattle.model.specs.Inv.Books as B

module _ (s : State) (f : ℕ) (inv : Inv s) (book : HasBook s f) where
  abbrev s' : State
  s' = adopt s f

  is : (g : ℕ) → is_orphan s f g ≡ true → (s.books.present g ≡ 1) × (s.books.adopted g ≡ 0) × (s.books.parent g ≡ f) × (s.dead (s.finishes.home g) ≡ true)
  is g e = orphan_true (s.books.present g) (s.books.adopted g) (s.books.parent g) (s.dead (s.finishes.home g)) f e

  -- a present book's end is not on its way
  no_ending : (q g : ℕ) → s.books.present g ≡ 1 → endings s q g ≡ 0
  no_ending q g p = sum_zero s.slots (λ k. tally 9 (s.slot k) (is₂ (s.slot k).finish (s.slot k).number q g) 1)
      (λ k h. eq_cases (s.slot k).tag 9
      (λ e. tally_away 9 (s.slot k) (is₂ (s.slot k).finish (s.slot k).number q g) 1
      (bool_cases (is₂ (s.slot k).finish (s.slot k).number q g)
      (λ t. absurd (omega (arith, (inv.ghost_ends k h e).1, ap s.books.present (is₂_true (s.slot k).finish (s.slot k).number q g t).1)))
      (λ n. n)))
      (λ n. tally_else 9 (s.slot k) (is₂ (s.slot k).finish (s.slot k).number q g) 1 n))

  -- a book that is no orphan of f
  not-orphan : (q g : ℕ) → is_orphan s f g ≡ false → (s'.books.adopted g ≡ s.books.adopted g) × (s'.books.ghosts q g ≡ s.books.ghosts q g)
  not-orphan q g n = (rw n, or_none (s.books.ghosts q g) (eqb q f && is_orphan s f g) (and_none (eqb q f) (is_orphan s f g) n))

  ghosts : M.Ghosts s'
  ghosts q g = bool_cases (is_orphan s f g)
      (λ o.
      let r = is g o in
      let adopted : s'.books.adopted g ≡ 1 = rw o in
      eq_cases q f
      (λ e. omega (
        arith,
        no_ending q g r.0,
        on_true (is₃ (s.books.present g) (s'.books.adopted g) (s.books.parent g) 1 1 q) 1 (rw (adopted, r.0, r.2, e) (is₃_same 1 1 f)),
        on_true (s'.books.ghosts q g) 1 (rw (o, eq-eqb q f e) (or_right (s.books.ghosts q g) true refl)),
      ))
      (λ n. omega (
        arith,
        inv.ghosts q g,
        on_false (is₃ (s.books.present g) (s'.books.adopted g) (s.books.parent g) 1 1 q) 1 (is₃_false (s.books.present g) (s'.books.adopted g) (s.books.parent g) 1 1 q (λ _ _ p. n (sym p ∙ r.2))),
        on_false (is₃ (s.books.present g) (s.books.adopted g) (s.books.parent g) 1 1 q) 1 (is₃_false (s.books.present g) (s.books.adopted g) (s.books.parent g) 1 1 q (λ _ _ p. n (sym p ∙ r.2))),
        ap (λ (b : Bool). on b 1) (or_none (s.books.ghosts q g) (eqb q f && is_orphan s f g) (rw (ne_eqb q f n) refl)),
      )))
      (λ n. let k = not-orphan q g n in rw (k.0, k.1) (inv.ghosts q g))

  ghost_made : M.GhostMade s'
  ghost_made q g e = or_cases (s.books.ghosts q g) (eqb q f && is_orphan s f g) e
      (λ a. inv.ghost_made q g a)
      (λ b.
      let x : q ≡ f = eqb-true q f (and_left (eqb q f) (is_orphan s f g) b) in
      let r = is g (and_right (eqb q f) (is_orphan s f g) b) in
      (omega (arith, (inv.book_parent g r.0).0, r.2), (inv.book_made g r.0).1, ap s.books.present x ∙ book.present))

  due_mark : B.DueMark s'
  due_mark g = upd-cases s.books.due (λ w. w ≤ 1) f 0 g (λ _. omega arith) (λ _. inv.due_mark g)

  adopted_mark : B.AdoptedMark s'
  adopted_mark g = cond_cases (λ w. w ≤ 1) (is_orphan s f g) 1 (s.books.adopted g) (λ _. omega arith) (λ _. inv.adopted_mark g)

  book_counts : B.BookCountsBut 0 s'
  book_counts x n p = go (inv.book_counts x n p)
    where
      go : Counts s x → Counts s' x
      go (inl c) = inl c
      go (inr c) = inr (c.0, or_left (s.books.ghosts x c.0) (eqb x f && is_orphan s f c.0) c.1)

  due_column : B.DueColumn s'
  due_column x p e = inv.due_column x p (upd-cases s.books.due (λ w. w ≡ 1 → s.books.due x ≡ 1) f 0 x (λ _ z. absurd (omega arith)) (λ _ z. z) e)

  adopted_dead : B.AdoptedDead s'
  adopted_dead g = cond_cases (λ w. w ≡ 1 → s.dead (s.finishes.home g) ≡ true) (is_orphan s f g) 1 (s.books.adopted g) (λ o _. (is g o).3) (λ _. inv.adopted_dead g)

  -- a dead home's book that is not adopted now waits for another's adopt
  orphans : B.Orphans s'
  orphans g p d = (
    (inv.orphans g p d).0,
    bool_cases (is_orphan s f g)
        (λ o z. absurd (let one : s'.books.adopted g ≡ 1 = rw o in omega arith))
        (λ n z.
        let z₀ : s.books.adopted g ≡ 0 = sym (not-orphan 0 g n).0 ∙ z in
        let ne : s.books.parent g ≡ f → ⊥ = λ q. both (orphan_is (s.books.present g) (s.books.adopted g) (s.books.parent g) (s.dead (s.finishes.home g)) f p z₀ q d) n in
        rw (upd_other s.books.due f 0 (s.books.parent g) ne) ((inv.orphans g p d).1 z₀)),
  )

  pub adopts_keeps : Inv (adopt s f)
  adopts_keeps = search (ghosts, ghost_made, due_mark, adopted_mark, book_counts, due_column, adopted_dead, orphans)
