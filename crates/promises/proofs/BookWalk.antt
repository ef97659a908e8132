-- A walk over the store books that writes one byte of each first row, from the book's bytes.
use mathlib.Core.Path.{◌≡◌, refl, ◌∙◌, fun_ext}
use mathlib.Core.Bool.{cond, ◌&&◌}
use mathlib.Core.List.{List}
use Prim.Native.Nat.{ℕ, ◌+◌, ◌-◌, ◌*◌, ◌/◌, ◌%◌, ◌<◌}
use native.Mathlib.Nat.{zero-add}
use native.Mathlib.Omega.{arith}
use lib.Dec.{eqb, ltb, leb}
use lib.ListN.{set, length-set}
use borrow.Author.Tests.{eq-eqb, ne_eqb, ltb-true, leb-true, lt-ltb}
use Rattle.tables.specs.Walks.{change_parts}
use Rattle.tables.specs.Layout.{Whole}
use Rattle.tables.proofs.Changes.{length_change}
use Rattle.rules.specs.Fields.{book_place}
use Rattle.rules.specs.Books.{book_of}
use Rattle.model.specs.Base.Cases.{bool_cases, eq_cases, and_left, and_right}
use Rattle.promises.specs.View.{cell, rows, book_table, live_table, sent_table, asked_table}
use Rattle.promises.proofs.Cells.{change_outside}
use Rattle.promises.proofs.Walks.{walk_set}
use Rattle.promises.proofs.Areas.{with_book_rows, books_become}

module _ (t : List ℕ) (whole : Whole t) (c : ℕ) (c8 : c < 8) (h : List ℕ → ℕ → ℕ) where
  abbrev pub walked : List ℕ
  walked = change_parts (λ m x. set m c (h m x)) 144 1 32 (book_place 1) t

  pub walked_whole : Whole walked
  walked_whole = length_change (λ m x. set m c (h m x)) 144 (λ m x l. length-set m c (h m x) ∙ l) 32 1 (book_place 1) t (omega arith) ∙ whole

  live_kept : cell walked live_table ≡ cell t live_table
  live_kept = walk_set live_table 144 1 32 2304 t (omega arith) (λ y. y / 8) (λ y. 8 + 8 * (y % 8)) (λ y j p q r. omega arith) c h (omega arith)
      ∙ fun_ext (λ y. fun_ext (λ j. rw (ne_eqb (8 + 8 * (y % 8) + j) c (λ e. omega arith)) refl))

  sent_kept : cell walked sent_table ≡ cell t sent_table
  sent_kept = walk_set sent_table 144 1 32 2304 t (omega arith) (λ y. y / 8) (λ y. 72 + 8 * (y % 8)) (λ y j p q r. omega arith) c h (omega arith)
      ∙ fun_ext (λ y. fun_ext (λ j. rw (ne_eqb (72 + 8 * (y % 8) + j) c (λ e. omega arith)) refl))

  asked_kept : cell walked asked_table ≡ cell t asked_table
  asked_kept = walk_set asked_table 144 1 32 2304 t (omega arith) (λ f. f - 1) (λ f. 136) (λ f j p q r. omega arith) c h (omega arith)
      ∙ fun_ext (λ y. fun_ext (λ j. rw (ne_eqb (136 + j) c (λ e. omega arith)) refl))

  first_rows : cell walked book_table ≡ (λ f j. cond (eqb j c && (leb 1 f && ltb f 33)) (h (book_of t f) f) (cell t book_table f j))
  unfolding book_of
  first_rows = walk_set book_table 144 1 32 2304 t (omega arith) (λ f. f - 1) (λ f. 0) (λ f j p q r. omega arith) c h (omega arith)
      ∙ fun_ext (λ f. fun_ext (λ j. rw (zero-add j) (eq_cases j c
      (λ e. bool_cases (leb 1 f && ltb f 33)
      (λ y. let a = leb-true 1 f (and_left (leb 1 f) (ltb f 33) y) in let b = ltb-true f 33 (and_right (leb 1 f) (ltb f 33) y) in
      let q : 2304 + 144 * (f - 1) ≡ book_place f = omega arith in let x : 1 + (f - 1) ≡ f = omega arith in
      rw (eq-eqb j c e, y, lt-ltb j 8 (omega arith), lt-ltb (f - 1) 32 (omega arith), q, x) refl)
      (λ y. rw (eq-eqb j c e, y, lt-ltb j 8 (omega arith)) refl))
      (λ e. rw (ne_eqb j c e) refl))))

  pub book_walk : rows walked ≡ with_book_rows (λ f j. cond (eqb j c && (leb 1 f && ltb f 33)) (h (book_of t f) f) (cell t book_table f j)) (cell t live_table) (cell t sent_table) (cell t asked_table) (rows t)
  book_walk = books_become
      (change_outside (λ m x. set m c (h m x)) 144 (λ m x l. length-set m c (h m x) ∙ l) 32 1 (book_place 1) t 2304 6912 (omega arith) (omega arith) (omega arith)) first_rows live_kept sent_kept asked_kept
