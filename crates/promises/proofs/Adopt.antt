-- Adopt: its walk over the books, and the whole step.
use mathlib.Core.Path.{◌≡◌, refl, sym, ap, ◌∙◌}
use mathlib.Core.Bool.{Bool, false, cond, ◌&&◌, ◌||◌, or-false}
use mathlib.Core.List.{List, [], ◌∷◌}
use Prim.Native.Nat.{ℕ, zero, suc, ◌+◌, ◌-◌, ◌*◌, ◌/◌, ◌%◌, ◌<◌}
use native.Mathlib.Omega.{arith}
use lib.Dec.{eqb, ltb, leb}
use borrow.Author.Tests.{eq-eqb, ne_eqb, ltb-true, leb-true}
use Rattle.tables.specs.Bytes.{byte}
use Rattle.tables.specs.Bits.{bit_at, marked}
use Rattle.tables.specs.Walks.{some_of, change_parts}
use Rattle.tables.proofs.Bits.{bit_mask, marked_low}
use Rattle.rules.specs.Fields.{dead, home, book_place, ghost_byte}
use Rattle.rules.specs.Books.{book_of}
use Rattle.rules.specs.Adopt.{adopt_book, adopt_step}
use Rattle.rules.specs.Adopt.{orphan as orphan_test, with_ghosts as ghosts_byte}
use Rattle.model.specs.Base.Cases.{bool_cases, eq_cases, and_left, and_right}
use Rattle.model.specs.Base.Updates.{upd, upd_same, upd_other}
use Rattle.model.specs.State.{State, with_books, with_due, with_adopted, with_ghosts}
use Rattle.model.specs.Effects.Repair.{orphan, is_orphan, adopt}
use Rattle.promises.specs.View.{cell, view, view_of, rows, flat, ghost_in, book_table, live_table, sent_table, asked_table}
use Rattle.promises.proofs.Cells.{cell_in, cell_out}
use Rattle.promises.proofs.Seen.{Seen, by, same}
use Rattle.promises.proofs.Rows.{read_dead, read_home}
use Rattle.promises.proofs.BookCells.{ghost_same, seen_due, seen_ghosts}
use Rattle.promises.proofs.WholeBooks.{read_book}
use Rattle.promises.proofs.BookWalk.{book_walk, walked_whole}
use Rattle.promises.proofs.Tests.{some_two, every_four}

module _ {t : List ℕ} {a : State} (s : Seen t a) (f : ℕ) where
  orphan_is : (g : ℕ) → 0 < g → g < 33 → orphan_test t f (book_of t g) g ≡ is_orphan a f g
  unfolding orphan_test orphan
  orphan_is g g0 g33 =
      let is = read_book s g g0 g33 in
      let b = book_of t g in
      every_four (eqb (byte b 0) 1) (eqb (byte b 3) 0) (eqb (byte b 1) f) (dead t (home t g))
      ∙ rw (is.present, is.adopted, is.parent, read_home s g g0 g33, read_dead s (a.finishes.home g)) refl

  orphan_out : (g : ℕ) → (leb 1 g && ltb g 33) ≡ false → is_orphan a f g ≡ false
  unfolding orphan view
  orphan_out g e = let z : a.books.present g ≡ 0 = ap (λ (x : State). x.books.present g) (sym s.is) ∙ cell_out book_table t g 0 e in rw z refl

  seen_adopted : Seen (change_parts (adopt_book t f) 144 1 32 (book_place 1) t) (with_adopted (λ g. cond (is_orphan a f g) 1 (a.books.adopted g)) a)
  unfolding view adopt_book
  seen_adopted = same (by F s (walked_whole t s.whole 3 (omega arith) h)
      (ap view_of (book_walk t s.whole 3 (omega arith) h)
      ∙ (λ z. with_books (record {
        present = λ g. cell t book_table g 0;
        parent = λ g. cell t book_table g 1;
        due = λ g. cell t book_table g 2;
        adopted = λ g. cond (leb 1 g && ltb g 33) (h (book_of t g) g) (cell t book_table g 3);
        ghosts = λ g. ghost_same (λ j. cond (eqb j 3 && (leb 1 g && ltb g 33)) (h (book_of t g) g) (cell t book_table g j)) (cell t book_table g) (λ j x y. rw (ne_eqb j 3 (λ e. omega arith)) refl) z;
        live = flat (cell t live_table);
        sent = flat (cell t sent_table);
        asked = λ g i. marked (cell t asked_table g i);
      }) (view_of (rows t)))))
      (λ z. with_adopted (λ g. adopted g z) a)
    where
      h : List ℕ → ℕ → ℕ
      h m g = cond (orphan_test t f m g) 1 (byte m 3)

      F : State → State
      F x = with_adopted (λ g. cond (leb 1 g && ltb g 33) (h (book_of t g) g) (x.books.adopted g)) x

      adopted : (g : ℕ) → cond (leb 1 g && ltb g 33) (h (book_of t g) g) (a.books.adopted g) ≡ cond (is_orphan a f g) 1 (a.books.adopted g)
      adopted g = bool_cases (leb 1 g && ltb g 33)
          (λ e. let g0 = leb-true 1 g (and_left (leb 1 g) (ltb g 33) e) in let g33 = ltb-true g 33 (and_right (leb 1 g) (ltb g 33) e) in
          rw (e, orphan_is g g0 g33, (read_book s g g0 g33).adopted) refl)
          (λ e. rw (e, orphan_out g e) refl)

  -- byte k of the ghosts
  new : ℕ → ℕ
  new k = ghosts_byte t f k (ghost_byte t f k)

  four : (φ : ℕ → ℕ) (k : ℕ) → k < 4 → byte (φ 0 ∷ φ 1 ∷ φ 2 ∷ φ 3 ∷ []) k ≡ φ k
  four φ zero h = refl
  four φ (suc zero) h = refl
  four φ (suc (suc zero)) h = refl
  four φ (suc (suc (suc zero))) h = refl
  four φ (suc (suc (suc (suc k)))) h = absurd (omega arith)

  module _ (f0 : 0 < f) (f33 : f < 33) where
    old : (k : ℕ) → k < 4 → ghost_byte t f k ≡ cell t book_table f (4 + k)
    old k h = sym (cell_in book_table t f (4 + k) (omega arith) f0 f33)

    new_bit : (g : ℕ) → 0 < g → g < 33 → marked (new ((g - 1) / 8)) ((g - 1) % 8) ≡ (marked (cell t book_table f (4 + (g - 1) / 8)) ((g - 1) % 8) || is_orphan a f g)
    unfolding new ghosts_byte
    new_bit g g0 g33 =
        let k = (g - 1) / 8 in
        let j = (g - 1) % 8 in
        let e : 8 * ((g - 1) / 8) + (g - 1) % 8 + 1 ≡ g = omega arith in
        marked_low (new k) j (omega arith)
        ∙ bit_mask 8 (λ j. some_of (bit_at (ghost_byte t f k) j ∷ orphan_test t f (book_of t (8 * k + j + 1)) (8 * k + j + 1) ∷ [])) j (omega arith)
        ∙ rw (e, some_two (bit_at (ghost_byte t f k) j) (orphan_test t f (book_of t g) g), orphan_is g g0 g33, old k (omega arith), marked_low (cell t book_table f (4 + k)) j (omega arith)) refl

    ghosts : (x g : ℕ) → upd a.books.ghosts f (λ g. (leb 1 g && ltb g 33) && marked (byte (new 0 ∷ new 1 ∷ new 2 ∷ new 3 ∷ []) ((g - 1) / 8)) ((g - 1) % 8)) x g
        ≡ (a.books.ghosts x g || (eqb x f && is_orphan a f g))
    unfolding view ghost_in
    ghosts x g = eq_cases x f
        (λ q. rw (q, upd_same a.books.ghosts f (λ g. (leb 1 g && ltb g 33) && marked (byte bytes ((g - 1) / 8)) ((g - 1) % 8)), eq-eqb f f refl) (bool_cases (leb 1 g && ltb g 33)
        (λ e. let g0 = leb-true 1 g (and_left (leb 1 g) (ltb g 33) e) in let g33 = ltb-true g 33 (and_right (leb 1 g) (ltb g 33) e) in
        rw (e, four new ((g - 1) / 8) (omega arith)) (new_bit g g0 g33 ∙ ap (λ (b : Bool). b || is_orphan a f g) (rw e at (was g))))
        (λ e. rw (e, sym (was g), orphan_out g e) (rw e refl))))
        (λ q. rw (upd_other a.books.ghosts f (λ g. (leb 1 g && ltb g 33) && marked (byte bytes ((g - 1) / 8)) ((g - 1) % 8)) x q, ne_eqb x f q) (sym (or-false (a.books.ghosts x g))))
      where
        bytes : List ℕ
        bytes = new 0 ∷ new 1 ∷ new 2 ∷ new 3 ∷ []

        was : (g : ℕ) → ((leb 1 g && ltb g 33) && marked (cell t book_table f (4 + (g - 1) / 8)) ((g - 1) % 8)) ≡ a.books.ghosts f g
        was g = ap (λ (x : State). x.books.ghosts f g) s.is

  pub tie_adopt : 0 < f → f < 33 → Seen (adopt_step t f) (adopt a f)
  unfolding adopt_step new
  tie_adopt f0 f33 = same (seen_due (seen_ghosts seen_adopted f f0 f33 (new 0 ∷ new 1 ∷ new 2 ∷ new 3 ∷ []) refl) f f0 f33 0)
      (λ z. with_due (upd a.books.due f 0) (with_adopted (λ g. cond (is_orphan a f g) 1 (a.books.adopted g)) (with_ghosts (λ x g. ghosts f0 f33 x g z) a)))
