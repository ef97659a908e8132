-- A store book read and written as its 18 rows: cleared, made new, with a column cleared or lowered.
use mathlib.Core.Path.{◌≡◌, refl, sym, ap, ◌∙◌, fun_ext, subst}
use mathlib.Core.Bool.{Bool, true, false, cond}
use mathlib.Core.Logic.{◌⊎◌, inl, inr}
use mathlib.Core.List.{List}
use Prim.Native.Nat.{ℕ, ◌+◌, ◌-◌, ◌*◌, ◌/◌, ◌%◌, ◌≤◌, ◌<◌}
use native.Mathlib.Nat.{zero-add}
use native.Mathlib.Omega.{arith}
use lib.Dec.{eqb, ltb}
use lib.ListN.{length, replicate, length-replicate}
use borrow.Author.Tests.{eqb-true, eqb-false, eq-eqb, ltb-true, ltb-false, lt-ltb, le-ltb}
use Rattle.tables.specs.Bytes.{byte, write}
use Rattle.tables.specs.Bits.{marked}
use Rattle.tables.specs.Layout.{Whole, place, book_row}
use Rattle.tables.proofs.Writes.{byte-part, length_part}
use Rattle.rules.specs.Fields.{book_place}
use Rattle.rules.specs.Books.{book_of, cleared_column, lowered_column}
use Rattle.rules.specs.Books.{with_book as write_book}
use Rattle.rules.specs.Closing.{without_book as clear_book}
use Rattle.model.specs.Base.Cases.{eq_cases, bool_cases}
use Rattle.model.specs.Base.Updates.{upd, upd_same, upd_other, on, on_false, is₂, is₂_false}
use Rattle.model.specs.State.{State, with_books, with_live}
use Rattle.model.specs.Effects.Closing.{without_book}
use Rattle.model.specs.Effects.Repair.{cancel}
use Rattle.promises.specs.View.{cell, view, view_of, rows, flat, ghost_in, book_table, live_table, sent_table, asked_table}
use Rattle.promises.proofs.Cells.{write_outside, cell_in, cell_wide, cell-over}
use Rattle.promises.proofs.Areas.{books_become}
use Rattle.promises.proofs.Flat.{flat_in, flat_off, flat_square}
use Rattle.promises.proofs.Walks.{zeros_at}
use Rattle.promises.proofs.Seen.{Seen, same, by_write}
use Rattle.promises.proofs.BookCells.{ghost_same, ghost_none}
use Rattle.promises.proofs.BookBytes.{square, asked_byte, asked_in, square_in, square_ext, square_out, no_marks, cleared_length, cleared_out, cleared_square, lowered_length, lowered_out, lowered_square}

-- ---- read: b is the book of f in the state a
pub record IsBook (b : List ℕ) (a : State) (f : ℕ) : Type 0 where
  pub size : length b ≡ 144
  pub present : byte b 0 ≡ a.books.present f
  pub parent : byte b 1 ≡ a.books.parent f
  pub due : byte b 2 ≡ a.books.due f
  pub adopted : byte b 3 ≡ a.books.adopted f
  pub ghosts : ghost_in (byte b) ≡ a.books.ghosts f
  pub live : square b 8 ≡ a.books.live f
  pub sent : square b 72 ≡ a.books.sent f
  pub asked : asked_in b ≡ a.books.asked f

module _ (t : List ℕ) (whole : Whole t) (f : ℕ) (f0 : 0 < f) (f33 : f < 33) where
  pub at : (j p : ℕ) → j < 144 → book_place f + j ≡ p → byte (book_of t f) j ≡ byte t p
  unfolding book_of
  at j p h e = byte-part t (book_place f) 144 j h ∙ ap (byte t) e

  first : (j : ℕ) → j < 8 → byte (book_of t f) j ≡ cell t book_table f j
  first j h = at j (place (book_row f) j) (omega arith) (omega arith) ∙ sym (cell_in book_table t f j h f0 f33)

  of_view : IsBook (book_of t f) (view t) f
  unfolding view book_of
  of_view = record {
    size = length_part t (book_place f) 144 (omega arith);
    present = first 0 (omega arith);
    parent = first 1 (omega arith);
    due = first 2 (omega arith);
    adopted = first 3 (omega arith);
    ghosts = ghost_same (byte (book_of t f)) (cell t book_table f) (λ j p q. first j q);
    live = square_ext (book_of t f) 8 (flat (cell t live_table) f)
        (λ i j p q. at (8 + 8 * i + j) (live_table.at (8 * (f - 1) + i) j) (omega arith) (omega arith)
        ∙ sym (flat_in (cell t live_table) f i j f0 p ∙ cell_in live_table t (8 * (f - 1) + i) j q (omega arith) (omega arith)))
        (flat_off (cell t live_table) (λ y j h. cell_wide live_table t y j h) f);
    sent = square_ext (book_of t f) 72 (flat (cell t sent_table) f)
        (λ i j p q. at (72 + 8 * i + j) (sent_table.at (8 * (f - 1) + i) j) (omega arith) (omega arith)
        ∙ sym (flat_in (cell t sent_table) f i j f0 p ∙ cell_in sent_table t (8 * (f - 1) + i) j q (omega arith) (omega arith)))
        (flat_off (cell t sent_table) (λ y j h. cell_wide sent_table t y j h) f);
    asked = fun_ext (λ i. ap marked (bool_cases (ltb i 8)
        (λ e. let h = ltb-true i 8 e in rw e (at (136 + i) (asked_table.at f i) (omega arith) (omega arith) ∙ sym (cell_in asked_table t f i h f0 f33)))
        (λ e. rw e (sym (cell_wide asked_table t f i (ltb-false i 8 e))))));
  }

pub read_book : {t : List ℕ} {a : State} → Seen t a → (f : ℕ) → 0 < f → f < 33 → IsBook (book_of t f) a f
read_book {t} s f f0 f33 = subst (λ (x : State). IsBook (book_of t f) x f) s.is (of_view t s.whole f f0 f33)

-- ---- written: the book of f is b
abbrev pub with_bytes : ℕ → List ℕ → State → State
with_bytes f b s =
    let B = s.books in
    with_books (record {
      present = upd B.present f (byte b 0);
      parent = upd B.parent f (byte b 1);
      due = upd B.due f (byte b 2);
      adopted = upd B.adopted f (byte b 3);
      ghosts = upd B.ghosts f (ghost_in (byte b));
      live = upd B.live f (square b 8);
      sent = upd B.sent f (square b 72);
      asked = upd B.asked f (asked_in b);
    }) s

module _ (t : List ℕ) (whole : Whole t) (f : ℕ) (f0 : 0 < f) (f33 : f < 33) (b : List ℕ) (size : length b ≡ 144) where
  abbrev new : List ℕ
  new = write t (book_place f) b

  row_of : (x : ℕ) → eqb x f ≡ true → (1 ≤ x) × (x < 33)
  row_of x e = let q = eqb-true x f e in omega arith

  cells_of : (x : ℕ) → eqb (x / 8) (f - 1) ≡ true → (0 ≤ x) × (x < 256)
  cells_of x e = let q = eqb-true (x / 8) (f - 1) e in omega arith

  new_book_lem : cell new book_table ≡ (λ x j. cond (eqb x f) (cond (ltb j 8) (byte b (0 + j)) 0) (cell t book_table x j))
  new_book_lem = cell-over book_table t (book_place f) 144 b (λ x. eqb x f) (λ x. 0) size (omega arith) row_of
      (λ x j h e. let q = eqb-true x f e in omega arith) (λ x j h i k e c d. let q = eqb-false x f e in omega arith)

  new-asked : cell new asked_table ≡ (λ x j. cond (eqb x f) (asked_byte b j) (cell t asked_table x j))
  new-asked = cell-over asked_table t (book_place f) 144 b (λ x. eqb x f) (λ x. 136) size (omega arith) row_of
      (λ x j h e. let q = eqb-true x f e in omega arith) (λ x j h i k e c d. let q = eqb-false x f e in omega arith)

  cut : (o x j : ℕ) → cond (ltb j 8) (byte b (o + 8 * (x % 8) + j)) 0 ≡ square b o (x % 8) j
  unfolding square
  cut o x j = rw (lt-ltb (x % 8) 8 (omega arith)) refl

  new-live : cell new live_table ≡ (λ x j. cond (eqb (x / 8) (f - 1)) (square b 8 (x % 8) j) (cell t live_table x j))
  new-live = cell-over live_table t (book_place f) 144 b (λ x. eqb (x / 8) (f - 1)) (λ x. 8 + 8 * (x % 8)) size (omega arith) cells_of
      (λ x j h e. let q = eqb-true (x / 8) (f - 1) e in omega arith) (λ x j h i k e c d. let q = eqb-false (x / 8) (f - 1) e in omega arith)
      ∙ (λ z x j. cond (eqb (x / 8) (f - 1)) (cut 8 x j z) (cell t live_table x j))

  new_sent : cell new sent_table ≡ (λ x j. cond (eqb (x / 8) (f - 1)) (square b 72 (x % 8) j) (cell t sent_table x j))
  new_sent = cell-over sent_table t (book_place f) 144 b (λ x. eqb (x / 8) (f - 1)) (λ x. 72 + 8 * (x % 8)) size (omega arith) cells_of
      (λ x j h e. let q = eqb-true (x / 8) (f - 1) e in omega arith) (λ x j h i k e c d. let q = eqb-false (x / 8) (f - 1) e in omega arith)
      ∙ (λ z x j. cond (eqb (x / 8) (f - 1)) (cut 72 x j z) (cell t sent_table x j))

  no_row : (o i j : ℕ) → 8 ≤ i → square b o i j ≡ 0
  no_row o i j h = square_out b o i j (rw (le-ltb i 8 h) refl)

  new-ghosts : (x : ℕ) → ghost_in (λ j. cond (eqb x f) (cond (ltb j 8) (byte b (0 + j)) 0) (cell t book_table x j)) ≡ upd (λ y. ghost_in (cell t book_table y)) f (ghost_in (byte b)) x
  unfolding upd
  new-ghosts x = bool_cases (eqb x f)
      (λ e. rw e (ghost_same (λ j. cond (ltb j 8) (byte b (0 + j)) 0) (byte b) (λ j p q. rw (lt-ltb j 8 q, zero-add j) refl)))
      (λ e. rw e refl)

  new_marks : (x : ℕ) → (λ (i : ℕ). marked (cond (eqb x f) (asked_byte b i) (cell t asked_table x i))) ≡ upd {A = ℕ → ℕ → Bool} (λ y i. marked (cell t asked_table y i)) f (asked_in b) x
  unfolding upd
  new_marks x = bool_cases (eqb x f) (λ e. rw e refl) (λ e. rw e refl)

  is_new : view (write t (book_place f) b) ≡ with_bytes f b (view t)
  unfolding view upd
  is_new =
      ap view_of (books_become (write_outside t (book_place f) b 144 2304 6912 size (omega arith) (omega arith)) new_book_lem new-live new_sent new-asked)
      ∙ (λ z. with_books (record {
        present = λ x. cond (eqb x f) (byte b 0) (cell t book_table x 0);
        parent = λ x. cond (eqb x f) (byte b 1) (cell t book_table x 1);
        due = λ x. cond (eqb x f) (byte b 2) (cell t book_table x 2);
        adopted = λ x. cond (eqb x f) (byte b 3) (cell t book_table x 3);
        ghosts = λ x. new-ghosts x z;
        live = flat_square (cell t live_table) f (square b 8) f0 (no_row 8) z;
        sent = flat_square (cell t sent_table) f (square b 72) f0 (no_row 72) z;
        asked = λ x. new_marks x z;
      }) (view_of (rows t)))

pub seen_book : {t : List ℕ} {a : State} → Seen t a → (f : ℕ) → 0 < f → f < 33 → (b : List ℕ) → length b ≡ 144 → Seen (write_book t f b) (with_bytes f b a)
unfolding write_book
seen_book {t} s f f0 f33 b size = by_write (with_bytes f b) s (book_place f) b (is_new t s.whole f f0 f33 b size)

-- ---- the 18 rows become 0
pub seen_without_book : {t : List ℕ} {a : State} → Seen t a → (f : ℕ) → 0 < f → f < 33 → Seen (clear_book t f) (without_book f a)
unfolding clear_book
seen_without_book {t} {a} s f f0 f33 = same (seen_book s f f0 f33 (replicate 144 0) (length-replicate {A = ℕ} 144 0)) (λ z.
    let B = a.books in
    with_books (record {
      present = upd B.present f 0;
      parent = upd B.parent f 0;
      due = upd B.due f 0;
      adopted = upd B.adopted f 0;
      ghosts = upd B.ghosts f (λ g. none g z);
      live = upd B.live f (zeros 8 z);
      sent = upd B.sent f (zeros 72 z);
      asked = upd B.asked f (λ i j. unasked i j z);
    }) a)
  where
    none : (g : ℕ) → ghost_in (byte (replicate 144 0)) g ≡ false
    none g = ghost_none (byte (replicate 144 0)) (λ j. zeros_at 144 j) g

    zeros : (o : ℕ) → square (replicate 144 0) o ≡ (λ i j. 0)
    zeros o = square_ext (replicate 144 0) o (λ i j. 0) (λ i j p q. zeros_at 144 (o + 8 * i + j)) (λ i j e. refl)

    unasked : (i j : ℕ) → marked (asked_byte (replicate 144 0) i) j ≡ false
    unasked i j = rw (zeros_at 144 (136 + i)) (bool_cases (ltb i 8) (λ e. rw e (no_marks j)) (λ e. rw e (no_marks j)))

-- ---- only the live counts change
pub upd_keep : {A : Type 0} (g : ℕ → A) (k : ℕ) (v : A) → v ≡ g k → upd g k v ≡ g
upd_keep g k v e = fun_ext (λ x. eq_cases x k (λ q. rw (q, upd_same g k v) e) (λ q. upd_other g k v x q))

bytes_kept : {a : State} {f : ℕ} {b : List ℕ} → IsBook b a f → (c : List ℕ) → ((q : ℕ) → (q < 8) ⊎ (72 ≤ q) → byte c q ≡ byte b q) → with_bytes f c a ≡ with_live (upd a.books.live f (square c 8)) a
bytes_kept {a} {f} {b} is c h = λ z.
    let B = a.books in
    with_books (record {
      present = upd_keep B.present f (byte c 0) (h 0 (inl (omega arith)) ∙ is.present) z;
      parent = upd_keep B.parent f (byte c 1) (h 1 (inl (omega arith)) ∙ is.parent) z;
      due = upd_keep B.due f (byte c 2) (h 2 (inl (omega arith)) ∙ is.due) z;
      adopted = upd_keep B.adopted f (byte c 3) (h 3 (inl (omega arith)) ∙ is.adopted) z;
      ghosts = upd_keep B.ghosts f (ghost_in (byte c)) (ghost_same (byte c) (byte b) (λ j p q. h j (inl q)) ∙ is.ghosts) z;
      live = upd B.live f (square c 8);
      sent = upd_keep B.sent f (square c 72) (sent ∙ is.sent) z;
      asked = upd_keep B.asked f (asked_in c) (asked ∙ is.asked) z;
    }) a
  where
    sent : square c 72 ≡ square b 72
    sent = square_ext c 72 (square b 72) (λ i j p q. h (72 + 8 * i + j) (inr (omega arith)) ∙ sym (square_in b 72 i j p q)) (square_out b 72)

    asked : asked_in c ≡ asked_in b
    asked = fun_ext (λ i. rw (h (136 + i) (inr (omega arith))) refl)

is₂_own : (f v j : ℕ) → is₂ f v f j ≡ eqb v j
unfolding is₂
is₂_own f v j = rw (eq-eqb f f refl) refl

module _ {t : List ℕ} {a : State} (s : Seen t a) (f v : ℕ) (f0 : 0 < f) (f33 : f < 33) (v8 : v < 8) where
  b : List ℕ
  b = book_of t f

  is : IsBook b a f
  unfolding b
  is = read_book s f f0 f33

  -- column v becomes 0
  pub seen_cleared : Seen (write_book t f (cleared_column (book_of t f) v)) (cancel a f v)
  unfolding b
  seen_cleared = same (seen_book s f f0 f33 (cleared_column b v) (cleared_length b v is.size v8))
      (bytes_kept is (cleared_column b v) (cleared_out b v is.size v8) ∙ (λ z. with_live (live z) a))
    where
      live : upd a.books.live f (square (cleared_column b v) 8) ≡ (λ x i j. cond (is₂ f v x j) 0 (a.books.live x i j))
      live = rw (cleared_square b v is.size v8, is.live) (fun_ext (λ x. eq_cases x f
          (λ e. rw (e, upd_same a.books.live f (λ i j. cond (eqb v j) 0 (a.books.live f i j))) (fun_ext (λ i. fun_ext (λ j. rw (is₂_own f v j) refl))))
          (λ e. rw (upd_other a.books.live f (λ i j. cond (eqb v j) 0 (a.books.live f i j)) x e) (fun_ext (λ i. fun_ext (λ j. rw (is₂_false f v x j (λ p q. e (sym p))) refl))))))

  -- column v is lowered by the counts
  pub seen_lowered : (counts : List ℕ) → Seen (write_book t f (lowered_column (book_of t f) v counts)) (with_live (λ x i j. a.books.live x i j - on (is₂ f v x j) (byte counts i)) a)
  unfolding b
  seen_lowered counts = same (seen_book s f f0 f33 (lowered_column b v counts) (lowered_length b v is.size v8 counts))
      (bytes_kept is (lowered_column b v counts) (lowered_out b v is.size v8 counts) ∙ (λ z. with_live (live z) a))
    where
      live : upd a.books.live f (square (lowered_column b v counts) 8) ≡ (λ x i j. a.books.live x i j - on (is₂ f v x j) (byte counts i))
      live = rw (lowered_square b v is.size v8 counts, is.live) (fun_ext (λ x. eq_cases x f
          (λ e. rw (e, upd_same a.books.live f (λ i j. a.books.live f i j - on (eqb v j) (byte counts i))) (fun_ext (λ i. fun_ext (λ j. rw (is₂_own f v j) refl))))
          (λ e. rw (upd_other a.books.live f (λ i j. a.books.live f i j - on (eqb v j) (byte counts i)) x e)
          (fun_ext (λ i. fun_ext (λ j. rw (is₂_false f v x j (λ p q. e (sym p)), on_false false (byte counts i) refl) (omega arith)))))))
