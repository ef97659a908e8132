-- The tests of a store book and what they say of the state: under repair, a column all 0, the closing test.
use mathlib.Core.Path.{◌≡◌, refl, sym, ap, ◌∙◌}
use mathlib.Core.Bool.{Bool, true, false, ◌&&◌}
use mathlib.Core.Logic.{inl, inr}
use mathlib.Core.List.{List, [], ◌∷◌}
use Prim.Native.Nat.{ℕ, zero, suc, ◌+◌, ◌-◌, ◌*◌, ◌/◌, ◌%◌, ◌^◌, ◌≤◌, ◌<◌}
use native.Mathlib.Nat.{pow-suc}
use native.Mathlib.Omega.{arith}
use lib.Dec.{eqb, ltb}
use borrow.Author.Tests.{eqb-true, eqb-false, ltb-true, ltb-false, lt-ltb, le-leb, ne_eqb}
use Rattle.tables.specs.Bytes.{byte}
use Rattle.tables.specs.Bits.{bit_at, marked}
use Rattle.tables.specs.Walks.{every, some_below}
use Rattle.tables.proofs.Bits.{marked_low, marked_high}
use Rattle.tables.proofs.Walks.{every_each}
use Rattle.rules.specs.Books.{total, column, ghosts, dead_column, under_repair, owed_cell, owes}
use Rattle.rules.specs.Closing.{closes}
use Rattle.model.specs.Base.Cases.{bool_cases, eq_cases, both, and_left, and_right}
use Rattle.model.specs.Base.Sums.{sum, sum_ge, sum_some}
use Rattle.model.specs.State.{State}
use Rattle.model.specs.Guards.{Repaired}
use Rattle.model.specs.Effects.Closing.{Closes, Counts}
use Rattle.promises.specs.View.{ghost_in}
use Rattle.promises.proofs.Tests.{below_none}
use Rattle.promises.proofs.Bytes.{Bytes}
use Rattle.promises.proofs.BookBytes.{square, square_out, total_is, column_is, ghosts-sum, no_ghosts, square_in}
use Rattle.promises.proofs.WholeBooks.{IsBook}

-- a number that is not 0 has a bit
some_bit : (n m : ℕ) → m < 2 ^ n → 0 < m → (j : ℕ) × (j < n) × (bit_at m j ≡ true)
unfolding bit_at
some_bit zero m h p = absurd (omega arith)
some_bit (suc n) m h p = bool_cases (eqb (m % 2) 1)
    (λ e. (0, omega arith, e))
    (λ e. let z = eqb-false (m % 2) 1 e in let r = some_bit n (m / 2) (omega (arith, pow-suc 2 n)) (omega arith) in (suc r.0, omega (arith, r.1), r.2))

-- four bytes that are not all 0 have a ghost
some_ghost : (b : List ℕ) → Bytes b → 0 < ghosts b → (g : ℕ) × (ghost_in (byte b) g ≡ true)
unfolding ghost_in
some_ghost b small h =
    let k = sum_some 4 (λ k. byte b (4 + 1 * k)) (rw (← ghosts-sum b) h) in
    let e : 4 + 1 * k.0 ≡ 4 + k.0 = omega arith in
    let j = some_bit 8 (byte b (4 + k.0)) (small.small (4 + k.0)) (rw (← ap (byte b) e) k.2) in
    let d : (8 * k.0 + j.0 + 1 - 1) / 8 ≡ k.0 = omega (arith, j.1) in
    let m : (8 * k.0 + j.0 + 1 - 1) % 8 ≡ j.0 = omega (arith, j.1) in
    (8 * k.0 + j.0 + 1, rw (le-leb 1 (8 * k.0 + j.0 + 1) (omega arith), lt-ltb (8 * k.0 + j.0 + 1) 33 (omega (arith, k.1, j.1)), d, m, marked_low (byte b (4 + k.0)) j.0 j.1) j.2)

module _ {b : List ℕ} {a : State} {f : ℕ} (is : IsBook b a f) where
  cell_is : (i j : ℕ) → square b 8 i j ≡ a.books.live f i j
  cell_is i j = ap (λ (r : ℕ → ℕ → ℕ). r i j) is.live

  live_outside : (i j : ℕ) → (ltb i 8 && ltb j 8) ≡ false → a.books.live f i j ≡ 0
  live_outside i j e = sym (cell_is i j) ∙ square_out b 8 i j e

  pub column-sum : (v : ℕ) → v < 8 → column b v ≡ sum 8 (λ i. a.books.live f i v)
  column-sum v h = column_is b v h ∙ ap (λ (r : ℕ → ℕ → ℕ). sum 8 (λ i. r i v)) is.live

  column_zero : (v : ℕ) → v < 8 → column b v ≡ 0 → (i : ℕ) → a.books.live f i v ≡ 0
  column_zero v h z i = bool_cases (ltb i 8)
      (λ e. omega (arith, sum_ge 8 (λ i. a.books.live f i v) i (ltb-true i 8 e), column-sum v h))
      (λ e. live_outside i v (rw e refl))

  -- a column that is not all 0 has a count
  pub column_some : (v : ℕ) → v < 8 → (column b v ≡ 0 → ⊥) → (i : ℕ) × (0 < a.books.live f i v)
  column_some v h n = let r = sum_some 8 (λ i. a.books.live f i v) (omega (arith, column-sum v h)) in (r.0, r.2)

  pub book_repaired : (d : ℕ) → ((v : ℕ) → marked d v ≡ a.dead v) → a.books.due f ≤ 1 → under_repair d b ≡ false → Repaired a f
  unfolding under_repair dead_column every
  book_repaired d dead most e = bool_cases (eqb (byte b 2) 1)
      (λ y. both (rw y refl) e)
      (λ y. let n = eqb-false (byte b 2) 1 y in record {
        due = omega (arith, is.due);
        columns = λ v i q. bool_cases (ltb v 8)
            (λ l. let h = ltb-true v 8 l in column_zero v h (clear v h (dead v ∙ q) (below_none (dead_column d b) 8 (rw y at e) v h)) i)
            (λ l. both (dead v ∙ q) (marked_high d v (ltb-false v 8 l)));
      })
    where
      clear : (v : ℕ) → v < 8 → marked d v ≡ true → dead_column d b v ≡ false → column b v ≡ 0
      clear v h m n = bool_cases (eqb (column b v) 0) (λ z. eqb-true (column b v) 0 z) (λ z. both (rw (m, z) refl) n)

  pub book_closes : closes b ≡ true → Closes a f
  unfolding closes
  book_closes e =
      let h = every_each (eqb (total b) 0 ∷ eqb (ghosts b) 0 ∷ []) e in
      let all : total b ≡ 0 = eqb-true (total b) 0 h.0 in
      let none : ghosts b ≡ 0 = eqb-true (ghosts b) 0 h.1.0 in
      ((λ i j. sym (cell_is i j) ∙ zero_cell all i j), (λ g. ap (λ (r : ℕ → Bool). r g) (sym is.ghosts) ∙ no_ghosts b none g))
    where
      zero_cell : total b ≡ 0 → (i j : ℕ) → square b 8 i j ≡ 0
      zero_cell z i j = bool_cases (ltb i 8 && ltb j 8)
          (λ y. let p = ltb-true i 8 (and_left (ltb i 8) (ltb j 8) y) in let q = ltb-true j 8 (and_right (ltb i 8) (ltb j 8) y) in
          omega (arith, total_is b, sum_ge 8 (λ i. sum 8 (λ j. square b 8 i j)) i p, sum_ge 8 (λ j. square b 8 i j) j q))
          (λ y. square_out b 8 i j y)

  pub book_counts : Bytes b → closes b ≡ false → Counts a f
  unfolding closes every
  book_counts small e = eq_cases (total b) 0
      (λ z. eq_cases (ghosts b) 0
      (λ y. both (rw (z, y) refl) e)
      (λ y. let g = some_ghost b small (omega arith) in inr (g.0, ap (λ (r : ℕ → Bool). r g.0) (sym is.ghosts) ∙ g.1)))
      (λ z. let i = sum_some 8 (λ i. sum 8 (λ j. square b 8 i j)) (omega (arith, total_is b)) in
      let j = sum_some 8 (λ j. square b 8 i.0 j) i.2 in
      inl (i.0, j.0, rw (cell_is i.0 j.0) at j.2))

  -- no count is owed: a dead sender's cell at a live receiver was asked for
  pub book_asked : (ps d : ℕ) → ((v : ℕ) → marked d v ≡ a.dead v) → owes ps d b ≡ false
      → (i j : ℕ) → a.dead i ≡ true → j < ps → a.dead j ≡ false → 0 < a.books.live f i j → a.books.asked f i j ≡ true
  unfolding owes owed_cell every
  book_asked ps d dead e i j died in_session_lem lives some = bool_cases (ltb i 8 && ltb j 8)
      (λ y. let i8 = ltb-true i 8 (and_left (ltb i 8) (ltb j 8) y) in let j8 = ltb-true j 8 (and_right (ltb i 8) (ltb j 8) y) in
      let c = below_none (owed_cell ps d b i) 8 (below_none (λ i. some_below (owed_cell ps d b i) 8) 8 e i i8) j j8 in
      let n : byte b (8 + 8 * i + j) ≡ 0 → ⊥ = λ z. omega (arith, square_in b 8 i j i8 j8, cell_is i j) in
      bool_cases (a.books.asked f i j) (λ q. q) (λ q.
      both (rw (dead i ∙ died, lt-ltb j ps in_session_lem, dead j ∙ lives, ne_eqb (byte b (8 + 8 * i + j)) 0 n, mark i j i8 ∙ q) refl) c))
      (λ y. absurd (omega (arith, live_outside i j y)))
    where
      mark : (i j : ℕ) → i < 8 → marked (byte b (136 + i)) j ≡ a.books.asked f i j
      mark i j l = rw (lt-ltb i 8 l) at (ap (λ (r : ℕ → ℕ → Bool). r i j) is.asked)
