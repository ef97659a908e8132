-- A store book as its 144 bytes: its squares, its total, columns and ghosts, and its bytes after a column is cleared or lowered.
use mathlib.Core.Path.{◌≡◌, refl, sym, ap, ◌∙◌, fun_ext}
use mathlib.Core.Bool.{Bool, true, false, cond, ◌&&◌}
use mathlib.Core.Logic.{◌⊎◌}
use mathlib.Core.List.{List}
use Prim.Native.Nat.{ℕ, zero, suc, ◌+◌, ◌-◌, ◌*◌, ◌/◌, ◌%◌, ◌≤◌, ◌<◌}
use native.Mathlib.Nat.{add-zero, add-suc, mul-zero, mul-suc}
use native.Mathlib.Omega.{arith}
use lib.Dec.{eqb, ltb, leb}
use lib.ListN.{length, length-set}
use lib.Seq.{get_or-set_same, get_or-set_other}
use borrow.Author.Tests.{eq-eqb, ne_eqb, ltb-true, lt-ltb}
use Rattle.tables.specs.Bytes.{byte, part}
use Rattle.tables.specs.Bits.{bit_at, marked}
use Rattle.tables.specs.Walks.{sum_bytes}
use Rattle.tables.proofs.Writes.{byte-part, length_part}
use Rattle.tables.proofs.Changes.{Keeps, length_change, byte_change_in, byte_change_out}
use Rattle.rules.specs.Books.{total, column, ghosts, clear_row, cleared_column, lower_row, lowered_column}
use Rattle.model.specs.Base.Cases.{eq_cases, bool_cases, and_left, and_right}
use Rattle.model.specs.Base.Sums.{sum, sum-suc, sum_ext, sum_ge}
use Rattle.model.specs.Base.Updates.{on, on_true, on_false}
use Rattle.promises.specs.View.{ghost_in}

-- the eight by eight square from byte o on
unfoldable pub square : List ℕ → ℕ → ℕ → ℕ → ℕ
square b o i j = cond (ltb i 8 && ltb j 8) (byte b (o + 8 * i + j)) 0

-- byte i of the asked marks
abbrev pub asked_byte : List ℕ → ℕ → ℕ
asked_byte b i = cond (ltb i 8) (byte b (136 + i)) 0

abbrev pub asked_in : List ℕ → ℕ → ℕ → Bool
asked_in b i = marked (asked_byte b i)

pub square_in : (b : List ℕ) (o i j : ℕ) → i < 8 → j < 8 → square b o i j ≡ byte b (o + 8 * i + j)
unfolding square
square_in b o i j p q = rw (lt-ltb i 8 p, lt-ltb j 8 q)

pub square_ext : (b : List ℕ) (o : ℕ) (g : ℕ → ℕ → ℕ) → ((i j : ℕ) → i < 8 → j < 8 → byte b (o + 8 * i + j) ≡ g i j) → ((i j : ℕ) → (ltb i 8 && ltb j 8) ≡ false → g i j ≡ 0) → square b o ≡ g
unfolding square
square_ext b o g h z = fun_ext (λ i. fun_ext (λ j. bool_cases (ltb i 8 && ltb j 8)
    (λ e. rw e (h i j (ltb-true i 8 (and_left (ltb i 8) (ltb j 8) e)) (ltb-true j 8 (and_right (ltb i 8) (ltb j 8) e))))
    (λ e. rw e (sym (z i j e)))))

pub square_out : (b : List ℕ) (o i j : ℕ) → (ltb i 8 && ltb j 8) ≡ false → square b o i j ≡ 0
unfolding square
square_out b o i j e = rw e

-- ---- sums over bytes
sum_front : (n : ℕ) (φ : ℕ → ℕ) → sum (suc n) φ ≡ φ 0 + sum n (λ i. φ (suc i))
unfolding sum
sum_front zero φ = refl
sum_front (suc n) φ = omega (arith, sum-suc (suc n) φ, sum_front n φ, sum-suc n (λ i. φ (suc i)))

bytes_sum : (b : List ℕ) (w n k : ℕ) → sum_bytes b k w n ≡ sum n (λ i. byte b (k + w * i))
unfolding sum_bytes sum
bytes_sum b w zero k = refl
bytes_sum b w (suc n) k =
    let a : k + w * 0 ≡ k = omega (arith, mul-zero w) in
    let rest : sum n (λ i. byte b (k + w * suc i)) ≡ sum n (λ i. byte b (k + w + w * i)) =
    sum_ext n (λ i. byte b (k + w + w * i)) (λ i. byte b (k + w * suc i)) (λ x h. let e : k + w * suc x ≡ k + w + w * x = omega (arith, mul-suc w x) in ap (byte b) e) in
    omega (arith, bytes_sum b w n (k + w), sum_front n (λ i. byte b (k + w * i)), ap (byte b) a)

sum-add : (n m : ℕ) (φ : ℕ → ℕ) → sum (m + n) φ ≡ sum m φ + sum n (λ i. φ (m + i))
unfolding sum
sum-add zero m φ = rw (add-zero m) (omega arith)
sum-add (suc n) m φ = rw (add-suc m n) (omega (arith, sum-suc (m + n) φ, sum-suc n (λ i. φ (m + i)), sum-add n m φ))

sum-mul : (n w : ℕ) (φ : ℕ → ℕ) → sum (w * n) φ ≡ sum n (λ i. sum w (λ j. φ (w * i + j)))
unfolding sum
sum-mul zero w φ = rw (mul-zero w) refl
sum-mul (suc n) w φ =
    let e : w * suc n ≡ w * n + w = omega (arith, mul-suc w n) in
    rw e (omega (arith, sum-add w (w * n) φ, sum-suc n (λ i. sum w (λ j. φ (w * i + j))), sum-mul n w φ))

pub total_is : (b : List ℕ) → total b ≡ sum 8 (λ i. sum 8 (λ j. square b 8 i j))
unfolding total
total_is b =
    bytes_sum b 1 64 8 ∙ sum-mul 8 8 (λ i. byte b (8 + 1 * i))
    ∙ sum_ext 8 (λ i. sum 8 (λ j. square b 8 i j)) (λ i. sum 8 (λ j. byte b (8 + 1 * (8 * i + j)))) (λ i p.
    sum_ext 8 (λ j. square b 8 i j) (λ j. byte b (8 + 1 * (8 * i + j))) (λ j q.
    let e : 8 + 1 * (8 * i + j) ≡ 8 + 8 * i + j = omega arith in ap (byte b) e ∙ sym (square_in b 8 i j p q)))

pub column_is : (b : List ℕ) (v : ℕ) → v < 8 → column b v ≡ sum 8 (λ i. square b 8 i v)
unfolding column
column_is b v h =
    bytes_sum b 8 8 (8 + v)
    ∙ sum_ext 8 (λ i. square b 8 i v) (λ i. byte b (8 + v + 8 * i)) (λ i p. let e : 8 + v + 8 * i ≡ 8 + 8 * i + v = omega arith in ap (byte b) e ∙ sym (square_in b 8 i v p h))

pub ghosts-sum : (b : List ℕ) → ghosts b ≡ sum 4 (λ k. byte b (4 + 1 * k))
unfolding ghosts
ghosts-sum b = bytes_sum b 1 4 4

zero_bits : (j : ℕ) → bit_at 0 j ≡ false
unfolding bit_at
zero_bits zero = refl
zero_bits (suc j) = zero_bits j

pub no_marks : (j : ℕ) → marked 0 j ≡ false
unfolding marked
no_marks j = bool_cases (ltb j 8) (λ e. rw e (zero_bits j)) (λ e. rw e refl)

pub no_ghosts : (b : List ℕ) → ghosts b ≡ 0 → (g : ℕ) → ghost_in (byte b) g ≡ false
unfolding ghost_in
no_ghosts b z g = bool_cases (leb 1 g && ltb g 33)
    (λ e. let h = ltb-true g 33 (and_right (leb 1 g) (ltb g 33) e) in
    let d : 4 + 1 * ((g - 1) / 8) ≡ 4 + (g - 1) / 8 = omega arith in
    let q : byte b (4 + (g - 1) / 8) ≡ 0 = omega (arith, sum_ge 4 (λ k. byte b (4 + 1 * k)) ((g - 1) / 8) (omega arith), ghosts-sum b, ap (byte b) d) in
    rw (e, q) (no_marks ((g - 1) % 8)))
    (λ e. rw e refl)

-- ---- a column cleared, and lowered by counts
clear_keeps : (v : ℕ) → Keeps (clear_row v) 8
unfolding clear_row
clear_keeps v m i l = length-set m v 0 ∙ l

lower_keeps : (v : ℕ) (counts : List ℕ) → Keeps (lower_row v counts) 8
unfolding lower_row
lower_keeps v counts m i l = length-set m v (byte m v - byte counts i) ∙ l

module _ (b : List ℕ) (v : ℕ) (l : length b ≡ 144) (v8 : v < 8) where
  pub cleared_length : length (cleared_column b v) ≡ 144
  unfolding cleared_column
  cleared_length = length_change (clear_row v) 8 (clear_keeps v) 8 0 8 b (omega arith) ∙ l

  pub cleared_out : (q : ℕ) → (q < 8) ⊎ (72 ≤ q) → byte (cleared_column b v) q ≡ byte b q
  unfolding cleared_column
  cleared_out q h = byte_change_out (clear_row v) 8 (clear_keeps v) 8 0 8 q b (omega arith) h

  pub cleared_square : square (cleared_column b v) 8 ≡ (λ i j. cond (eqb v j) 0 (square b 8 i j))
  unfolding cleared_column clear_row
  cleared_square = square_ext (cleared_column b v) 8 (λ i j. cond (eqb v j) 0 (square b 8 i j))
      (λ i j p q. let e : 8 + 8 * i + j ≡ 8 + (8 * i + j) = omega arith in let m = part b (8 + 8 * i) 8 in
      rw (square_in b 8 i j p q, e) (byte_change_in (clear_row v) 8 (clear_keeps v) 8 0 8 i j b p q (omega arith) ∙ eq_cases v j
      (λ d. rw (← d, eq-eqb v v refl) (get_or-set_same m v 0 0 (omega (arith, length_part b (8 + 8 * i) 8 (omega arith)))))
      (λ d. rw (ne_eqb v j d) (get_or-set_other m v j 0 0 (λ z. d (sym z)) ∙ byte-part b (8 + 8 * i) 8 j q ∙ ap (byte b) e))))
      (λ i j e. rw (square_out b 8 i j e) (bool_cases (eqb v j) (λ d. rw d refl) (λ d. rw d refl)))

  module _ (counts : List ℕ) where
    pub lowered_length : length (lowered_column b v counts) ≡ 144
    unfolding lowered_column
    lowered_length = length_change (lower_row v counts) 8 (lower_keeps v counts) 8 0 8 b (omega arith) ∙ l

    pub lowered_out : (q : ℕ) → (q < 8) ⊎ (72 ≤ q) → byte (lowered_column b v counts) q ≡ byte b q
    unfolding lowered_column
    lowered_out q h = byte_change_out (lower_row v counts) 8 (lower_keeps v counts) 8 0 8 q b (omega arith) h

    pub lowered_square : square (lowered_column b v counts) 8 ≡ (λ i j. square b 8 i j - on (eqb v j) (byte counts i))
    unfolding lowered_column lower_row
    lowered_square = square_ext (lowered_column b v counts) 8 (λ i j. square b 8 i j - on (eqb v j) (byte counts i))
        (λ i j p q. let e : 8 + 8 * i + j ≡ 8 + (8 * i + j) = omega arith in let m = part b (8 + 8 * i) 8 in let n : 0 + i ≡ i = omega arith in
        rw (square_in b 8 i j p q, e) (byte_change_in (lower_row v counts) 8 (lower_keeps v counts) 8 0 8 i j b p q (omega arith) ∙ eq_cases v j
        (λ d. rw (← d, eq-eqb v v refl, on_true true (byte counts i) refl, n)
        (get_or-set_same m v (byte m v - byte counts i) 0 (omega (arith, length_part b (8 + 8 * i) 8 (omega arith)))
        ∙ ap (λ (x : ℕ). x - byte counts i) (byte-part b (8 + 8 * i) 8 v v8 ∙ ap (byte b) (e_at i))))
        (λ d. rw (ne_eqb v j d, on_false false (byte counts i) refl, n) (get_or-set_other m v j (byte m v - byte counts i) 0 (λ z. d (sym z)) ∙ byte-part b (8 + 8 * i) 8 j q ∙ ap (byte b) e ∙ omega arith))))
        (λ i j e. rw (square_out b 8 i j e) (omega arith))
      where
        e_at : (i : ℕ) → 8 + 8 * i + v ≡ 8 + (8 * i + v)
        e_at i = omega arith
