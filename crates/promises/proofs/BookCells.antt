-- Store books, cell by cell: what each field reads, and what each write of one cell, of the ghosts or of a mark does.
use mathlib.Core.Path.{◌≡◌, refl, sym, ap, ◌∙◌, fun_ext}
use mathlib.Core.Bool.{Bool, true, false, cond, ◌&&◌, ◌||◌, and-false}
use mathlib.Core.List.{List}
use Prim.Native.Nat.{ℕ, ◌+◌, ◌-◌, ◌*◌, ◌/◌, ◌%◌, ◌≤◌, ◌<◌}
use native.Mathlib.Omega.{arith}
use lib.Dec.{ltb, leb}
use lib.ListN.{set, length}
use borrow.Author.Tests.{eqb-false, eq-eqb, ne_eqb, ltb-true, leb-true, le-leb, lt-ltb}
use Rattle.tables.specs.Bytes.{byte, write}
use Rattle.tables.specs.Bits.{marked, with_mark, without_mark}
use Rattle.tables.specs.Layout.{Whole, place, book_row}
use Rattle.tables.proofs.Bits.{with_mark_lem, without_mark_lem}
use Rattle.rules.specs.Fields.{present, book_parent, adopt_due, is_adopted, ghost_byte, live_place, sent_place, asked_place, live, sent_count, asked_marks}
use Rattle.rules.specs.Deliver.{book_absent, without_ghost}
use Rattle.model.specs.Base.Cases.{eq_cases, bool_cases, and_left, and_right, both}
use Rattle.model.specs.Base.Updates.{upd, upd_same, upd_other, is₂, is₃, is₂-cases, is₂_same, is₃_same, is₃_false}
use Rattle.model.specs.State.{State, with_books, with_due, with_ghosts, with_live, with_sent, with_asked}
use Rattle.promises.specs.View.{cell, view, view_of, rows, flat, ghost_in, book_table, live_table, sent_table, asked_table}
use Rattle.promises.proofs.Cells.{upd_cell, upd_run, set_outside, write_outside, cell_in, cell_kept, cell_set, cell-write, cell_out}
use Rattle.promises.proofs.Areas.{book_sits, live_sits, sent_sits, asked_sits, with_book_rows, books_become}
use Rattle.promises.proofs.Flat.{flat_in, flat-set}
use Rattle.promises.proofs.Seen.{Seen, by_set, by_write, read_cell}
use Rattle.promises.proofs.BookBytes.{no_marks}

-- ---- reads
module _ {t : List ℕ} {a : State} (s : Seen t a) (f : ℕ) (f0 : 0 < f) (f33 : f < 33) where
  pub read_present : present t f ≡ a.books.present f
  unfolding view
  read_present = read_cell s book_table f 0 (λ x. x.books.present f) (omega arith) (f0, f33) refl

  -- a mark that is not 0 is 1: the book is there
  pub book_there : a.books.present f ≤ 1 → book_absent t f ≡ false → a.books.present f ≡ 1
  unfolding book_absent
  book_there mark e = let n = eqb-false (present t f) 0 e in omega (arith, read_present)

  pub read_book_parent : book_parent t f ≡ a.books.parent f
  unfolding view
  read_book_parent = read_cell s book_table f 1 (λ x. x.books.parent f) (omega arith) (f0, f33) refl

  pub read_due : adopt_due t f ≡ a.books.due f
  unfolding view
  read_due = read_cell s book_table f 2 (λ x. x.books.due f) (omega arith) (f0, f33) refl

  pub read_adopted : is_adopted t f ≡ a.books.adopted f
  unfolding view
  read_adopted = read_cell s book_table f 3 (λ x. x.books.adopted f) (omega arith) (f0, f33) refl

  module _ (i j : ℕ) (i8 : i < 8) (j8 : j < 8) where
    pub read_live : live t f i j ≡ a.books.live f i j
    unfolding view
    read_live =
        let p : live_place f i j ≡ live_table.at (8 * (f - 1) + i) j = omega arith in
        ap (byte t) p ∙ read_cell s live_table (8 * (f - 1) + i) j (λ x. x.books.live f i j) j8 (omega arith) (sym (flat_in (cell t live_table) f i j f0 i8))

    pub read_sent : sent_count t f i j ≡ a.books.sent f i j
    unfolding view
    read_sent =
        let p : sent_place f i j ≡ sent_table.at (8 * (f - 1) + i) j = omega arith in
        ap (byte t) p ∙ read_cell s sent_table (8 * (f - 1) + i) j (λ x. x.books.sent f i j) j8 (omega arith) (sym (flat_in (cell t sent_table) f i j f0 i8))

  asked-byte : (i : ℕ) → i < 8 → asked_marks t f i ≡ cell t asked_table f i
  asked-byte i h = let p : asked_place f i ≡ asked_table.at f i = omega arith in ap (byte t) p ∙ sym (cell_in asked_table t f i h f0 f33)

  pub read_asked : (i j : ℕ) → i < 8 → marked (asked_marks t f i) j ≡ a.books.asked f i j
  unfolding view
  read_asked i j h = rw (asked-byte i h) (ap (λ (x : State). x.books.asked f i j) s.is)

-- only 32 finishes have a book
pub book_range : {t : List ℕ} {a : State} → Seen t a → (f : ℕ) → (a.books.present f ≡ 0 → ⊥) → (0 < f) × (f < 33)
unfolding view
book_range {t} s f n = bool_cases (leb 1 f && ltb f 33)
    (λ e. (leb-true 1 f (and_left (leb 1 f) (ltb f 33) e), ltb-true f 33 (and_right (leb 1 f) (ltb f 33) e)))
    (λ e. absurd (n (ap (λ (x : State). x.books.present f) (sym s.is) ∙ cell_out book_table t f 0 e)))

-- ---- laws of the arrays
-- ghosts are read from four bytes
pub ghost_same : (b c : ℕ → ℕ) → ((j : ℕ) → 4 ≤ j → j < 8 → b j ≡ c j) → ghost_in b ≡ ghost_in c
unfolding ghost_in
ghost_same b c h = fun_ext (λ g. bool_cases (leb 1 g && ltb g 33)
    (λ e. let l = ltb-true g 33 (and_right (leb 1 g) (ltb g 33) e) in rw (e, h (4 + (g - 1) / 8) (omega arith) (omega arith)) refl)
    (λ e. rw e refl))

pub ghost_none : (b : ℕ → ℕ) → ((j : ℕ) → b j ≡ 0) → (g : ℕ) → ghost_in b g ≡ false
unfolding ghost_in
ghost_none b z g = rw (z (4 + (g - 1) / 8), no_marks ((g - 1) % 8)) (and-false (leb 1 g && ltb g 33))

cell_is : (c : ℕ → ℕ → ℕ) (f i v x y : ℕ) → upd_cell c f i v x y ≡ cond (is₂ f i x y) v (c x y)
cell_is c f i v x y = is₂-cases f i x y
    (λ p q. rw (sym p, sym q, is₂_same f i, eq-eqb i i refl, upd_same (λ y. c y i) f v) refl)
    (λ e. rw e (eq_cases y i
    (λ q. rw (eq-eqb y i q) (upd_other (λ z. c z y) f v x (λ p. both (rw (p, q) (is₂_same f i)) e)))
    (λ q. rw (ne_eqb y i q) refl)))

-- mark c of the byte at a, b
pub mark_is : (m : ℕ → ℕ → ℕ) (a b c x y z : ℕ) → c < 8 → marked (cond (is₂ a b x y) (with_mark (m a b) c) (m x y)) z ≡ (marked (m x y) z || is₃ a b c x y z)
mark_is m a b c x y z h = is₂-cases a b x y
    (λ p q. rw (sym p, sym q, is₂_same a b, with_mark_lem (m a b) c z h) (eq_cases z c
    (λ r. rw (r, eq-eqb c c refl, is₃_same a b c) (sym (or_true (marked (m a b) c))))
    (λ r. rw (ne_eqb z c r, is₃_false a b c a b z (λ i j k. r (sym k))) (sym (or_none (marked (m a b) z))))))
    (λ e. rw (e, is₃_false a b c x y z (λ i j k. both (rw (sym i, sym j) (is₂_same a b)) e)) (sym (or_none (marked (m x y) z))))
  where
    or_true : (b : Bool) → (b || true) ≡ true
    or_true true = refl
    or_true false = refl

    or_none : (b : Bool) → (b || false) ≡ b
    or_none true = refl
    or_none false = refl

-- ---- writes, by rows; u is t but for bytes a to e
module _ (t : List ℕ) (whole : Whole t) (f : ℕ) (f0 : 0 < f) (f33 : f < 33) where
  set_book : (j v : ℕ) → j < 8 → rows (set t (place (book_row f) j) v) ≡ with_book_rows (upd_cell (cell t book_table) f j v) (cell t live_table) (cell t sent_table) (cell t asked_table) (rows t)
  set_book j v h =
      let p = place (book_row f) j in
      let own = set_outside t p v p (p + 1) (omega arith) (omega arith) in
      books_become (set_outside t p v 2304 6912 (omega arith) (omega arith)) (cell_set book_table book_sits t f j v p refl h f0 f33 (omega arith))
      (cell_kept live_table t (set t p v) p (p + 1) own (λ x y a b c d e. omega arith)) (cell_kept sent_table t (set t p v) p (p + 1) own (λ x y a b c d e. omega arith))
      (cell_kept asked_table t (set t p v) p (p + 1) own (λ x y a b c d e. omega arith))

  write-ghosts : (vs : List ℕ) → length vs ≡ 4 → rows (write t (place (book_row f) 4) vs) ≡ with_book_rows (upd_run (cell t book_table) f 4 4 (byte vs)) (cell t live_table) (cell t sent_table) (cell t asked_table) (rows t)
  write-ghosts vs n =
      let p = place (book_row f) 4 in
      let own = write_outside t p vs 4 p (p + 4) n (omega arith) (omega arith) in
      books_become (write_outside t p vs 4 2304 6912 n (omega arith) (omega arith)) (cell-write book_table book_sits t f 4 4 p vs n refl (omega arith) f0 f33 (omega arith))
      (cell_kept live_table t (write t p vs) p (p + 4) own (λ x y a b c d e. omega arith)) (cell_kept sent_table t (write t p vs) p (p + 4) own (λ x y a b c d e. omega arith))
      (cell_kept asked_table t (write t p vs) p (p + 4) own (λ x y a b c d e. omega arith))

  module _ (i : ℕ) (i8 : i < 8) where
    set-live : (j v : ℕ) → j < 8 → rows (set t (live_place f i j) v) ≡ with_book_rows (cell t book_table) (upd_cell (cell t live_table) (8 * (f - 1) + i) j v) (cell t sent_table) (cell t asked_table) (rows t)
    set-live j v h =
        let p = live_place f i j in
        let own = set_outside t p v p (p + 1) (omega arith) (omega arith) in
        books_become (set_outside t p v 2304 6912 (omega arith) (omega arith)) (cell_kept book_table t (set t p v) p (p + 1) own (λ x y a b c d e. omega arith))
        (cell_set live_table live_sits t (8 * (f - 1) + i) j v p (omega arith) h (omega arith) (omega arith) (omega arith))
        (cell_kept sent_table t (set t p v) p (p + 1) own (λ x y a b c d e. omega arith)) (cell_kept asked_table t (set t p v) p (p + 1) own (λ x y a b c d e. omega arith))

    set_sent : (j v : ℕ) → j < 8 → rows (set t (sent_place f i j) v) ≡ with_book_rows (cell t book_table) (cell t live_table) (upd_cell (cell t sent_table) (8 * (f - 1) + i) j v) (cell t asked_table) (rows t)
    set_sent j v h =
        let p = sent_place f i j in
        let own = set_outside t p v p (p + 1) (omega arith) (omega arith) in
        books_become (set_outside t p v 2304 6912 (omega arith) (omega arith)) (cell_kept book_table t (set t p v) p (p + 1) own (λ x y a b c d e. omega arith))
        (cell_kept live_table t (set t p v) p (p + 1) own (λ x y a b c d e. omega arith))
        (cell_set sent_table sent_sits t (8 * (f - 1) + i) j v p (omega arith) h (omega arith) (omega arith) (omega arith)) (cell_kept asked_table t (set t p v) p (p + 1) own (λ x y a b c d e. omega arith))

    set-asked : (v : ℕ) → rows (set t (asked_place f i) v) ≡ with_book_rows (cell t book_table) (cell t live_table) (cell t sent_table) (upd_cell (cell t asked_table) f i v) (rows t)
    set-asked v =
        let p = asked_place f i in
        let own = set_outside t p v p (p + 1) (omega arith) (omega arith) in
        books_become (set_outside t p v 2304 6912 (omega arith) (omega arith)) (cell_kept book_table t (set t p v) p (p + 1) own (λ x y a b c d e. omega arith))
        (cell_kept live_table t (set t p v) p (p + 1) own (λ x y a b c d e. omega arith)) (cell_kept sent_table t (set t p v) p (p + 1) own (λ x y a b c d e. omega arith))
        (cell_set asked_table asked_sits t f i v p (omega arith) i8 f0 f33 (omega arith))

-- ---- writes
module _ {t : List ℕ} {a : State} (s : Seen t a) (f : ℕ) (f0 : 0 < f) (f33 : f < 33) where
  pub seen_due : (v : ℕ) → Seen (set t (place (book_row f) 2) v) (with_due (upd a.books.due f v) a)
  unfolding view
  seen_due v = by_set (λ x. with_due (upd x.books.due f v) x) s (place (book_row f) 2) v
      (ap view_of (set_book t s.whole f f0 f33 2 v (omega arith))
      ∙ (λ z. with_ghosts (λ x. ghost_same (upd_cell (cell t book_table) f 2 v x) (cell t book_table x) (λ j p q. rw (ne_eqb j 2 (λ e. omega arith)) refl) z) (with_due (upd (λ x. cell t book_table x 2) f v) (view_of (rows t)))))

  -- four bytes of ghosts
  pub seen_ghosts : (vs : List ℕ) → length vs ≡ 4
      → Seen (write t (place (book_row f) 4) vs) (with_ghosts (upd a.books.ghosts f (λ g. (leb 1 g && ltb g 33) && marked (byte vs ((g - 1) / 8)) ((g - 1) % 8))) a)
  unfolding view ghost_in
  seen_ghosts vs n = by_write (λ x. with_ghosts (upd x.books.ghosts f (λ g. (leb 1 g && ltb g 33) && marked (byte vs ((g - 1) / 8)) ((g - 1) % 8))) x) s (place (book_row f) 4) vs
      (ap view_of (write-ghosts t s.whole f f0 f33 vs n) ∙ (λ z. with_ghosts (λ x. ghosts x z) (view_of (rows t))))
    where
      new : ℕ → Bool
      new g = (leb 1 g && ltb g 33) && marked (byte vs ((g - 1) / 8)) ((g - 1) % 8)

      ghosts : (x : ℕ) → ghost_in (upd_run (cell t book_table) f 4 4 (byte vs) x) ≡ upd (λ y. ghost_in (cell t book_table y)) f new x
      ghosts x = fun_ext (λ g. bool_cases (leb 1 g && ltb g 33)
          (λ e. let b = ltb-true g 33 (and_right (leb 1 g) (ltb g 33) e) in
          let d : 4 + (g - 1) / 8 - 4 ≡ (g - 1) / 8 = omega arith in
          rw (e, le-leb 4 (4 + (g - 1) / 8) (omega arith), lt-ltb (4 + (g - 1) / 8) (4 + 4) (omega arith)) (eq_cases x f
          (λ q. rw (q, upd_same (λ y. ghost_in (cell t book_table y)) f new, upd_same (λ y. cell t book_table y (4 + (g - 1) / 8)) f (byte vs (4 + (g - 1) / 8 - 4)), d, e) refl)
          (λ q. rw (upd_other (λ y. ghost_in (cell t book_table y)) f new x q, upd_other (λ y. cell t book_table y (4 + (g - 1) / 8)) f (byte vs (4 + (g - 1) / 8 - 4)) x q, e) refl)))
          (λ e. rw e (eq_cases x f
          (λ q. rw (q, upd_same (λ y. ghost_in (cell t book_table y)) f new, e) refl)
          (λ q. rw (upd_other (λ y. ghost_in (cell t book_table y)) f new x q, e) refl))))

  module _ (i : ℕ) (i8 : i < 8) where
    pub seen_live : (j v : ℕ) → j < 8 → Seen (set t (live_place f i j) v) (with_live (λ x y z. cond (is₃ f i j x y z) v (a.books.live x y z)) a)
    unfolding view
    seen_live j v j8 = by_set (λ b. with_live (λ x y z. cond (is₃ f i j x y z) v (b.books.live x y z)) b) s (live_place f i j) v
        (ap view_of (set-live t s.whole f f0 f33 i i8 j v j8) ∙ (λ z. with_live (flat-set (cell t live_table) f i f0 i8 j v z) (view_of (rows t))))

    pub seen_sent : (j v : ℕ) → j < 8 → Seen (set t (sent_place f i j) v) (with_sent (λ x y z. cond (is₃ f i j x y z) v (a.books.sent x y z)) a)
    unfolding view
    seen_sent j v j8 = by_set (λ b. with_sent (λ x y z. cond (is₃ f i j x y z) v (b.books.sent x y z)) b) s (sent_place f i j) v
        (ap view_of (set_sent t s.whole f f0 f33 i i8 j v j8) ∙ (λ z. with_sent (flat-set (cell t sent_table) f i f0 i8 j v z) (view_of (rows t))))

    pub seen_asked : (j : ℕ) → j < 8 → Seen (set t (asked_place f i) (with_mark (asked_marks t f i) j)) (with_asked (λ x y z. a.books.asked x y z || is₃ f i j x y z) a)
    unfolding view
    seen_asked j j8 = by_set (λ b. with_asked (λ x y z. b.books.asked x y z || is₃ f i j x y z) b) s (asked_place f i) (with_mark (asked_marks t f i) j)
        (ap view_of (set-asked t s.whole f f0 f33 i i8 (with_mark (asked_marks t f i) j))
        ∙ (λ z. with_asked (λ x y w. marked (cell_is (cell t asked_table) f i (with_mark (asked_marks t f i) j) x y z) w) (view_of (rows t)))
        ∙ (λ z. with_asked (λ x y w. marked (cond (is₂ f i x y) (with_mark (asked-byte s f f0 f33 i i8 z) j) (cell t asked_table x y)) w) (view_of (rows t)))
        ∙ (λ z. with_asked (λ x y w. mark_is (cell t asked_table) f i j x y w j8 z) (view_of (rows t))))

  -- a ghost removed
  pub seen_ghost_ended : (g : ℕ) → 0 < g → g < 33 → Seen (without_ghost t f g) (with_ghosts (λ x y. cond (is₂ f g x y) false (a.books.ghosts x y)) a)
  unfolding view ghost_in without_ghost
  seen_ghost_ended g g0 g33 = by_set (λ b. with_ghosts (λ x y. cond (is₂ f g x y) false (b.books.ghosts x y)) b) s (place (book_row f) k) v
      (ap view_of (set_book t s.whole f f0 f33 k v (omega arith))
      ∙ (λ z. with_books (record {
        present = λ x. other x 0 (omega arith) z;
        parent = λ x. other x 1 (omega arith) z;
        due = λ x. other x 2 (omega arith) z;
        adopted = λ x. other x 3 (omega arith) z;
        ghosts = λ x y. ghosts x y z;
        live = flat (cell t live_table);
        sent = flat (cell t sent_table);
        asked = λ x i. marked (cell t asked_table x i);
      }) (view_of (rows t))))
    where
      k : ℕ
      k = 4 + (g - 1) / 8

      v : ℕ
      v = without_mark (ghost_byte t f ((g - 1) / 8)) ((g - 1) % 8)

      c : ℕ → ℕ → ℕ
      c = cell t book_table

      old : ghost_byte t f ((g - 1) / 8) ≡ c f k
      old = sym (cell_in book_table t f k (omega arith) f0 f33)

      other : (x i : ℕ) → i < 4 → upd_cell c f k v x i ≡ c x i
      other x i h = rw (ne_eqb i k (λ e. omega arith)) refl

      ghosts : (x y : ℕ) → ((leb 1 y && ltb y 33) && marked (upd_cell c f k v x (4 + (y - 1) / 8)) ((y - 1) % 8)) ≡ cond (is₂ f g x y) false ((leb 1 y && ltb y 33) && marked (c x (4 + (y - 1) / 8)) ((y - 1) % 8))
      ghosts x y = is₂-cases f g x y
          (λ p q. rw (sym p, sym q, is₂_same f g, eq-eqb k k refl, upd_same (λ z. c z k) f v, without_mark_lem (ghost_byte t f ((g - 1) / 8)) ((g - 1) % 8) ((g - 1) % 8), eq-eqb ((g - 1) % 8) ((g - 1) % 8) refl) (and-false (leb 1 g && ltb g 33)))
          (λ n. rw n (bool_cases (leb 1 y && ltb y 33)
          (λ e. let y0 = leb-true 1 y (and_left (leb 1 y) (ltb y 33) e) in
          rw e (eq_cases (4 + (y - 1) / 8) k
          (λ d. rw (d, eq-eqb k k refl) (eq_cases x f
          (λ p. rw (
            p,
            upd_same (λ z. c z k) f v,
            without_mark_lem (ghost_byte t f ((g - 1) / 8)) ((g - 1) % 8) ((y - 1) % 8),
            old,
            ne_eqb ((y - 1) % 8) ((g - 1) % 8) (λ r. let q : y ≡ g = omega arith in both (rw (p, q) (is₂_same f g)) n),
          ) refl)
          (λ p. rw (upd_other (λ z. c z k) f v x p) refl)))
          (λ d. rw (ne_eqb (4 + (y - 1) / 8) k d) refl)))
          (λ e. rw e refl)))
