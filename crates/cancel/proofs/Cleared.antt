-- A book without a column: its live counts and its ghosts summed, and whether it closes.
use mathlib.Core.Path.{◌≡◌, refl, sym, ap, ◌∙◌}
use mathlib.Core.Logic.{inl}
use mathlib.Core.List.{List}
use Prim.Native.Nat.{ℕ, zero, suc, ◌+◌, ◌-◌, ◌*◌, ◌≤◌, ◌<◌}
use native.Mathlib.Omega.{arith}
use lib.Dec.{eqb}
use lib.ListN.{length, set}
use lib.Seq.{get_or-set_same, get_or-set_other}
use borrow.Author.Tests.{ne_eqb}
use Rattle.tables.specs.Bytes.{byte, part}
use Rattle.tables.specs.Walks.{every, sum_bytes}
use Rattle.tables.proofs.Writes.{byte-part, length_part}
use Rattle.tables.proofs.Changes.{byte_change_in, byte_change_out}
use Rattle.tables.proofs.Tests.{if_eq, if_ne, last, same_eqb}
use Rattle.rules.specs.Books.{total, column, ghosts, clear_row, cleared_column}
use Rattle.rules.specs.Closing.{closes}
use Rattle.square.proofs.Sums.{sum-add, sum_last}
use Rattle.square.proofs.Columns.{clear_keeps}

sum_same : (b c : List ℕ) (n k : ℕ) → ((q : ℕ) → k ≤ q → q < k + n → byte c q ≡ byte b q) → sum_bytes c k 1 n ≡ sum_bytes b k 1 n
unfolding sum_bytes
sum_same b c zero k same = refl
sum_same b c (suc n) k same =
    let first = same k (omega arith) (omega arith) in
    let rest = sum_same b c n (k + 1) (λ q lo hi. same q (omega arith) (omega arith)) in
    omega arith

-- c is b but for place h, where it is 0
sum_hole : (b c : List ℕ) (n k h v : ℕ) → h ≡ k + v → v < n
    → ((q : ℕ) → k ≤ q → q < k + n → (q ≡ h → ⊥) → byte c q ≡ byte b q) → byte c h ≡ 0 → sum_bytes c k 1 n + byte b h ≡ sum_bytes b k 1 n
unfolding sum_bytes
sum_hole b c zero k h v e l same gone = absurd (omega arith)
sum_hole b c (suc n) k h zero e l same gone =
    let z : h ≡ k = omega arith in
    let rest = sum_same b c n (k + 1) (λ q lo hi. same q (omega arith) (omega arith) (λ i. omega arith)) in
    let first : byte c k ≡ 0 = ap (byte c) (sym z) ∙ gone in
    let here : byte b h ≡ byte b k = ap (byte b) z in
    omega arith
sum_hole b c (suc n) k h (suc v) e l same gone =
    let first = same k (omega arith) (omega arith) (λ i. omega arith) in
    let rest = sum_hole b c n (k + 1) h v (omega arith) (omega arith) (λ q lo hi d. same q (omega arith) (omega arith) d) gone in
    omega arith

-- one row more
row_more : (m : List ℕ) (n : ℕ) → sum_bytes m 8 1 (8 * suc n) ≡ sum_bytes m 8 1 (8 * n) + sum_bytes m (8 + 8 * n) 1 8
row_more m n =
    let z : 8 * suc n ≡ 8 * n + 8 = omega arith in
    let y : 8 + 1 * (8 * n) ≡ 8 + 8 * n = omega arith in
    ap (sum_bytes m 8 1) z ∙ sum-add m 8 1 (8 * n) 8 ∙ ap (λ (k : ℕ). sum_bytes m 8 1 (8 * n) + sum_bytes m k 1 8) y

module _ (b : List ℕ) (v : ℕ) (long : length b ≡ 144) (below : v < 8) where
  -- byte j of row n
  cell : (n j : ℕ) → n < 8 → j < 8 → byte (cleared_column b v) (8 + (8 * n + j)) ≡ byte (set (part b (8 + 8 * n) 8) v 0) j
  unfolding cleared_column clear_row
  cell n j h l = byte_change_in (clear_row v) 8 (clear_keeps v) 8 0 8 n j b h l (omega arith)

  hole : (n : ℕ) → n < 8 → byte (cleared_column b v) (8 + (8 * n + v)) ≡ 0
  hole n h =
      let e : length (part b (8 + 8 * n) 8) ≡ 8 = length_part b (8 + 8 * n) 8 (omega arith) in
      cell n v h below ∙ get_or-set_same (part b (8 + 8 * n) 8) v 0 0 (omega arith)

  kept_at : (n j : ℕ) → n < 8 → j < 8 → (j ≡ v → ⊥) → byte (cleared_column b v) (8 + (8 * n + j)) ≡ byte b (8 + (8 * n + j))
  kept_at n j h l d =
      let z : 8 + 8 * n + j ≡ 8 + (8 * n + j) = omega arith in
      cell n j h l ∙ get_or-set_other (part b (8 + 8 * n) 8) v j 0 0 d ∙ byte-part b (8 + 8 * n) 8 j l ∙ ap (byte b) z

  kept : (n q : ℕ) → n < 8 → 8 + 8 * n ≤ q → q < 8 + 8 * n + 8 → (q ≡ 8 + (8 * n + v) → ⊥) → byte (cleared_column b v) q ≡ byte b q
  kept n q h lo hi d =
      let z : q ≡ 8 + (8 * n + (q - (8 + 8 * n))) = omega arith in
      ap (byte (cleared_column b v)) z ∙ kept_at n (q - (8 + 8 * n)) h (omega arith) (λ i. d (omega arith)) ∙ ap (byte b) (sym z)

  rows : (n : ℕ) → n ≤ 8 → sum_bytes (cleared_column b v) 8 1 (8 * n) + sum_bytes b (8 + v) 8 n ≡ sum_bytes b 8 1 (8 * n)
  unfolding sum_bytes
  rows zero h = refl
  rows (suc n) h =
      let x : 8 + v + 8 * n ≡ 8 + (8 * n + v) = omega arith in
      let here : byte b (8 + v + 8 * n) ≡ byte b (8 + (8 * n + v)) = ap (byte b) x in
      let earlier = rows n (omega arith) in
      let row =
      sum_hole b (cleared_column b v) 8 (8 + 8 * n) (8 + (8 * n + v)) v (omega arith) below (λ q lo hi d. kept n q (omega arith) lo hi d) (hole n (omega arith)) in
      omega (arith, row_more (cleared_column b v) n, row_more b n, sum_last b (8 + v) 8 n)

  pub total_cleared : total (cleared_column b v) + column b v ≡ total b
  unfolding total column
  total_cleared = rows 8 (omega arith)

  pub ghosts_cleared : ghosts (cleared_column b v) ≡ ghosts b
  unfolding ghosts cleared_column
  ghosts_cleared = sum_same b (cleared_column b v) 4 4 (λ q lo hi. byte_change_out (clear_row v) 8 (clear_keeps v) 8 0 8 q b (omega arith) (inl (omega arith)))

  -- x is the total and y the column
  module _ (x y : ℕ) (all : x ≡ total b) (gone : y ≡ column b v) where
    pub left_open : (x ≡ y → ⊥) → eqb x y ≡ closes (cleared_column b v)
    unfolding closes every
    left_open d = rw (ne_eqb x y d) (if_ne (total (cleared_column b v)) 0 _ _ _ (λ z. d (omega (arith, total_cleared))) refl)

    pub left_closed : (w : ℕ) → w ≡ ghosts b → x ≡ y → eqb w 0 ≡ closes (cleared_column b v)
    unfolding closes every
    left_closed w e same =
        if_eq (total (cleared_column b v)) 0 _ _ _ (omega (arith, total_cleared))
        (last (eqb w 0) (eqb (ghosts (cleared_column b v)) 0) (same_eqb w (ghosts (cleared_column b v)) 0 (e ∙ sym ghosts_cleared)))
