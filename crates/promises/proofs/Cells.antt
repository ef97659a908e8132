-- A table's cells: inside it the bytes, outside it 0; after a write elsewhere, of one byte, of a run of bytes, and after a walk.
use mathlib.Core.Path.{◌≡◌, refl, sym, ap, ◌∙◌, fun_ext}
use mathlib.Core.Bool.{Bool, true, false, cond, ◌&&◌}
use mathlib.Core.Logic.{inl, inr}
use mathlib.Core.List.{List}
use Prim.Native.Nat.{ℕ, ◌+◌, ◌-◌, ◌*◌, ◌≤◌, ◌<◌}
use native.Mathlib.Omega.{arith}
use lib.Dec.{eqb, ltb, leb}
use lib.ListN.{set, length, get_or-eq_default}
use lib.Seq.{get_or-set_same, get_or-set_other}
use borrow.Author.Tests.{eq-eqb, ne_eqb, lt-ltb, le-leb, le-ltb, ltb-true, leb-true, ltb-false, leb-false}
use Rattle.tables.specs.Bytes.{byte, part, write}
use Rattle.tables.specs.Walks.{change_parts}
use Rattle.tables.proofs.Writes.{byte-part, length_part, byte-write_in, byte-write_out}
use Rattle.tables.proofs.Changes.{Keeps, byte_change_out}
use Rattle.model.specs.Base.Cases.{eq_cases, bool_cases, and_left, and_right, both}
use Rattle.model.specs.Base.Updates.{upd, upd_same, upd_other}
use Rattle.promises.specs.View.{Table, within, cell}

-- f, but v at column j of row k
abbrev pub upd_cell : (ℕ → ℕ → ℕ) → ℕ → ℕ → ℕ → ℕ → ℕ → ℕ
upd_cell f k j v x i = cond (eqb i j) (upd (λ y. f y i) k v x) (f x i)

-- f, but the n columns from o on of row k are r
abbrev pub upd_run : (ℕ → ℕ → ℕ) → ℕ → ℕ → ℕ → (ℕ → ℕ) → ℕ → ℕ → ℕ
upd_run f k o n r x i = cond (leb o i && ltb i (o + n)) (upd (λ y. f y i) k (r (i - o)) x) (f x i)

-- the same where those are all the columns there are
pub run_row : (f : ℕ → ℕ → ℕ) (k n : ℕ) (r : ℕ → ℕ) → ((y j : ℕ) → n ≤ j → f y j ≡ 0) → ((j : ℕ) → n ≤ j → r j ≡ 0) → upd_run f k 0 n r ≡ upd f k r
run_row f k n r fz rz = fun_ext (λ x. fun_ext (λ j. bool_cases (ltb j n)
    (λ l. let e : ltb j (0 + n) ≡ true = lt-ltb j (0 + n) (omega (arith, ltb-true j n l)) in let d : j - 0 ≡ j = omega arith in
    rw (le-leb 0 j (omega arith), e, d) (eq_cases x k
    (λ q. rw (q, upd_same (λ y. f y j) k (r j), upd_same f k r) refl)
    (λ q. rw (upd_other (λ y. f y j) k (r j) x q, upd_other f k r x q) refl)))
    (λ l. let h = ltb-false j n l in let e : ltb j (0 + n) ≡ false = le-ltb j (0 + n) (omega arith) in
    rw (le-leb 0 j (omega arith), e, fz x j h) (eq_cases x k
    (λ q. rw (q, upd_same f k r) (sym (rz j h)))
    (λ q. rw (upd_other f k r x q) (sym (fz x j h)))))))

-- rows of a table do not share bytes, and a row's columns follow each other
pub record Sits (T : Table) : Type 0 where
  pub apart : (x i k j : ℕ) → i < T.wide → j < T.wide → T.first ≤ x → T.first ≤ k → T.at x i ≡ T.at k j → (x ≡ k) × (i ≡ j)
  pub along : (x j : ℕ) → T.at x j ≡ T.at x 0 + j

-- u has the bytes of t but from place a up to e
pub record Outside (t u : List ℕ) (a e : ℕ) : Type 0 where
  pub low : (p : ℕ) → p < a → byte u p ≡ byte t p
  pub high : (p : ℕ) → e ≤ p → byte u p ≡ byte t p

pub set_outside : (t : List ℕ) (p v a e : ℕ) → a ≤ p → p < e → Outside t (set t p v) a e
set_outside t p v a e h g = record { low = λ r l. get_or-set_other t p r v 0 (λ z. omega arith); high = λ r l. get_or-set_other t p r v 0 (λ z. omega arith) }

pub write_outside : (t : List ℕ) (p : ℕ) (vs : List ℕ) (n a e : ℕ) → length vs ≡ n → a ≤ p → p + n ≤ e → Outside t (write t p vs) a e
write_outside t p vs n a e m h g = record { low = λ r l. byte-write_out t p vs r (inl (omega arith)); high = λ r l. byte-write_out t p vs r (inr (omega arith)) }

pub change_outside : (g : List ℕ → ℕ → List ℕ) (w : ℕ) → Keeps g w → (n i k : ℕ) (t : List ℕ) (a e : ℕ) → k + w * n ≤ length t → a ≤ k → k + w * n ≤ e → Outside t (change_parts g w i n k t) a e
change_outside g w keeps n i k t a e h l r = record {
  low = λ p q. byte_change_out g w keeps n i k p t h (inl (omega arith));
  high = λ p q. byte_change_out g w keeps n i k p t h (inr (omega arith));
}

module _ (T : Table) where
  pub within_split : (x j : ℕ) → within T x j ≡ true → (j < T.wide) × (T.first ≤ x) × (x < T.end)
  within_split x j e =
      let r = and_right (ltb j T.wide) (leb T.first x && ltb x T.end) e in (
        ltb-true j T.wide (and_left (ltb j T.wide) (leb T.first x && ltb x T.end) e),
        leb-true T.first x (and_left (leb T.first x) (ltb x T.end) r),
        ltb-true x T.end (and_right (leb T.first x) (ltb x T.end) r),
      )

  pub within_true : (x j : ℕ) → j < T.wide → T.first ≤ x → x < T.end → within T x j ≡ true
  within_true x j a b c = rw (lt-ltb j T.wide a, le-leb T.first x b, lt-ltb x T.end c)

  pub cell_in : (t : List ℕ) (x j : ℕ) → j < T.wide → T.first ≤ x → x < T.end → cell t T x j ≡ byte t (T.at x j)
  unfolding cell
  cell_in t x j a b c = rw (within_true x j a b c)

  pub cell_out : (t : List ℕ) (x j : ℕ) → within T x j ≡ false → cell t T x j ≡ 0
  unfolding cell
  cell_out t x j e = rw e

  pub cell_wide : (t : List ℕ) (x j : ℕ) → T.wide ≤ j → cell t T x j ≡ 0
  cell_wide t x j h = cell_out t x j (bool_cases (ltb j T.wide) (λ e. absurd (omega (arith, ltb-true j T.wide e))) (λ e. rw e refl))

  -- the cells of t are g
  pub cell_ext : (t : List ℕ) (g : ℕ → ℕ → ℕ)
      → ((x j : ℕ) → j < T.wide → T.first ≤ x → x < T.end → byte t (T.at x j) ≡ g x j) → ((x j : ℕ) → within T x j ≡ false → g x j ≡ 0)
      → cell t T ≡ g
  unfolding cell
  cell_ext t g h z = fun_ext (λ x. fun_ext (λ j. bool_cases (within T x j)
      (λ e. let s = within_split x j e in rw e (h x j s.0 s.1 s.2))
      (λ e. rw e (sym (z x j e)))))

  -- nothing of the table was written
  pub cell_kept : (t u : List ℕ) (a e : ℕ) → Outside t u a e → ((x j : ℕ) → j < T.wide → T.first ≤ x → x < T.end → a ≤ T.at x j → T.at x j < e → ⊥) → cell u T ≡ cell t T
  cell_kept t u a e o h = cell_ext u (cell t T) (λ x j b c d. same x j b c d ∙ sym (cell_in t x j b c d)) (λ x j n. cell_out t x j n)
    where
      same : (x j : ℕ) → j < T.wide → T.first ≤ x → x < T.end → byte u (T.at x j) ≡ byte t (T.at x j)
      same x j b c d = bool_cases (ltb (T.at x j) a)
          (λ y. o.low (T.at x j) (ltb-true (T.at x j) a y))
          (λ n. bool_cases (leb e (T.at x j))
          (λ y. o.high (T.at x j) (leb-true e (T.at x j) y))
          (λ m. absurd (h x j b c d (ltb-false (T.at x j) a n) (leb-false e (T.at x j) m))))

  -- one byte
  pub cell_set : Sits T → (t : List ℕ) (k j v p : ℕ) → T.at k j ≡ p → j < T.wide → T.first ≤ k → k < T.end → p < length t → cell (set t p v) T ≡ upd_cell (cell t T) k j v
  cell_set sits t k j v p place hj hl hh fits = cell_ext (set t p v) (upd_cell (cell t T) k j v) inside outside
    where
      inside : (x i : ℕ) → i < T.wide → T.first ≤ x → x < T.end → byte (set t p v) (T.at x i) ≡ upd_cell (cell t T) k j v x i
      inside x i a b c = eq_cases i j
          (λ e. rw (eq-eqb i j e) (eq_cases x k
          (λ d. rw (e, d, upd_same (λ y. cell t T y j) k v, place) (get_or-set_same t p v 0 fits))
          (λ d. rw (upd_other (λ y. cell t T y i) k v x d, cell_in t x i a b c) (get_or-set_other t p (T.at x i) v 0 (λ z. d (sits.apart x i k j a hj b hl (z ∙ sym place)).0)))))
          (λ ne. rw (ne_eqb i j ne, cell_in t x i a b c) (get_or-set_other t p (T.at x i) v 0 (λ z. ne (sits.apart x i k j a hj b hl (z ∙ sym place)).1)))

      outside : (x i : ℕ) → within T x i ≡ false → upd_cell (cell t T) k j v x i ≡ 0
      outside x i n = eq_cases i j
          (λ e. rw (eq-eqb i j e) (eq_cases x k
          (λ d. let z : within T x i ≡ true = rw (e, d) (within_true k j hj hl hh) in both z n)
          (λ d. rw (upd_other (λ y. cell t T y i) k v x d) (cell_out t x i n))))
          (λ ne. rw (ne_eqb i j ne) (cell_out t x i n))

  -- a run of bytes
  pub cell-write : Sits T → (t : List ℕ) (k o n p : ℕ) (vs : List ℕ) → length vs ≡ n → T.at k o ≡ p → o + n ≤ T.wide → T.first ≤ k → k < T.end → p + n ≤ length t
      → cell (write t p vs) T ≡ upd_run (cell t T) k o n (byte vs)
  cell-write sits t k o n p vs len place room hl hh fits = cell_ext (write t p vs) (upd_run (cell t T) k o n (byte vs)) inside outside
    where
      span : (i : ℕ) → (leb o i && ltb i (o + n)) ≡ true → (o ≤ i) × (i < o + n)
      span i e = (leb-true o i (and_left (leb o i) (ltb i (o + n)) e), ltb-true i (o + n) (and_right (leb o i) (ltb i (o + n)) e))

      in_span : (i : ℕ) → o ≤ i → i < o + n → (leb o i && ltb i (o + n)) ≡ true
      in_span i a b = rw (le-leb o i a, lt-ltb i (o + n) b)

      other : (x i : ℕ) → i < T.wide → T.first ≤ x → x < T.end → (x ≡ k → o ≤ i → i < o + n → ⊥) → byte (write t p vs) (T.at x i) ≡ cell t T x i
      other x i a b c ne = rw (cell_in t x i a b c) (bool_cases (ltb (T.at x i) p)
          (λ e. byte-write_out t p vs (T.at x i) (inl (ltb-true (T.at x i) p e)))
          (λ e. bool_cases (leb (p + n) (T.at x i))
          (λ d. byte-write_out t p vs (T.at x i) (inr (omega (arith, leb-true (p + n) (T.at x i) d))))
          (λ d. let e' = ltb-false (T.at x i) p e in let d' = leb-false (p + n) (T.at x i) d in
          let z = sits.apart x i k (o + (T.at x i - p)) a (omega arith) b hl (omega (arith, sits.along k (o + (T.at x i - p)), sits.along k o)) in
          absurd (ne z.0 (omega (arith, z.1)) (omega (arith, z.1))))))

      inside : (x i : ℕ) → i < T.wide → T.first ≤ x → x < T.end → byte (write t p vs) (T.at x i) ≡ upd_run (cell t T) k o n (byte vs) x i
      inside x i a b c = bool_cases (leb o i && ltb i (o + n))
          (λ e. let s = span i e in eq_cases x k
          (λ d. let z : T.at k i ≡ p + (i - o) = omega (arith, sits.along k i, sits.along k o, s.0) in
          rw (e, d, upd_same (λ y. cell t T y i) k (byte vs (i - o)), z) (byte-write_in t p vs (i - o) (omega (arith, s.0, s.1)) (omega (arith, s.0, s.1))))
          (λ d. rw (e, upd_other (λ y. cell t T y i) k (byte vs (i - o)) x d) (other x i a b c (λ z y r. d z))))
          (λ e. rw e (other x i a b c (λ z y r. both (in_span i y r) e)))

      outside : (x i : ℕ) → within T x i ≡ false → upd_run (cell t T) k o n (byte vs) x i ≡ 0
      outside x i ne = bool_cases (leb o i && ltb i (o + n))
          (λ e. let s = span i e in eq_cases x k
          (λ d. let z : within T x i ≡ true = within_true x i (omega (arith, s.1)) (omega arith) (omega arith) in both z ne)
          (λ d. rw (e, upd_other (λ y. cell t T y i) k (byte vs (i - o)) x d) (cell_out t x i ne)))
          (λ e. rw e (cell_out t x i ne))

  -- a run of bytes over whole rows, those of which S holds: row x is the run from its byte O x on
  pub cell-over : (t : List ℕ) (p n : ℕ) (vs : List ℕ) (S : ℕ → Bool) (O : ℕ → ℕ) → length vs ≡ n → p + n ≤ length t
      → ((x : ℕ) → S x ≡ true → (T.first ≤ x) × (x < T.end))
      → ((x j : ℕ) → j < T.wide → S x ≡ true → (T.at x j ≡ p + (O x + j)) × (O x + j < n))
      → ((x j : ℕ) → j < T.wide → T.first ≤ x → x < T.end → S x ≡ false → p ≤ T.at x j → T.at x j < p + n → ⊥)
      → cell (write t p vs) T ≡ (λ x j. cond (S x) (cond (ltb j T.wide) (byte vs (O x + j)) 0) (cell t T x j))
  cell-over t p n vs S O len fits rows hit miss = cell_ext (write t p vs) (λ x j. cond (S x) (cond (ltb j T.wide) (byte vs (O x + j)) 0) (cell t T x j)) inside outside
    where
      inside : (x j : ℕ) → j < T.wide → T.first ≤ x → x < T.end → byte (write t p vs) (T.at x j) ≡ cond (S x) (cond (ltb j T.wide) (byte vs (O x + j)) 0) (cell t T x j)
      inside x j a b c = bool_cases (S x)
          (λ e. let h = hit x j a e in rw (e, lt-ltb j T.wide a, h.0) (byte-write_in t p vs (O x + j) (omega (arith, h.1)) (omega (arith, h.1))))
          (λ e. rw (e, cell_in t x j a b c) (byte-write_out t p vs (T.at x j) (bool_cases (ltb (T.at x j) p)
          (λ y. inl (ltb-true (T.at x j) p y))
          (λ y. bool_cases (leb (p + n) (T.at x j))
          (λ d. inr (omega (arith, leb-true (p + n) (T.at x j) d)))
          (λ d. absurd (miss x j a b c e (ltb-false (T.at x j) p y) (leb-false (p + n) (T.at x j) d)))))))

      outside : (x j : ℕ) → within T x j ≡ false → cond (S x) (cond (ltb j T.wide) (byte vs (O x + j)) 0) (cell t T x j) ≡ 0
      outside x j e = bool_cases (S x)
          (λ d. rw d (bool_cases (ltb j T.wide)
          (λ l. let r = rows x d in both (within_true x j (ltb-true j T.wide l) r.0 r.1) e)
          (λ l. rw l refl)))
          (λ d. rw d (cell_out t x j e))

  -- a row cut out has the row's cells
  pub row_is : Sits T → (t : List ℕ) (x : ℕ) → T.first ≤ x → x < T.end → T.at x 0 + T.wide ≤ length t → (i : ℕ) → byte (part t (T.at x 0) T.wide) i ≡ cell t T x i
  row_is sits t x a b fits i = bool_cases (ltb i T.wide)
      (λ e. let h = ltb-true i T.wide e in
      byte-part t (T.at x 0) T.wide i h ∙ ap (byte t) (sym (sits.along x i)) ∙ sym (cell_in t x i h a b))
      (λ e. let h = ltb-false i T.wide e in
      get_or-eq_default (part t (T.at x 0) T.wide) 0 (omega (arith, length_part t (T.at x 0) T.wide fits)) ∙ sym (cell_wide t x i h))
