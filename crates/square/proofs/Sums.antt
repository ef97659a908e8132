-- A loop that sums: one byte or one row more; and the square by value has the sums of the book that it was taken from.
use mathlib.Core.Path.{◌≡◌, refl, sym, ap, ◌∙◌}
use mathlib.Core.List.{List, []}
use Prim.Native.Nat.{ℕ, zero, suc, ◌+◌, ◌*◌, ◌≤◌, ◌<◌}
use native.Mathlib.Nat.{zero-add, mul-suc}
use native.Mathlib.Omega.{arith}
use lib.ListN.{get_or}
use Rattle.tables.specs.Bytes.{byte, part}
use Rattle.tables.specs.Walks.{sum_bytes}
use Rattle.tables.proofs.Writes.{byte-part}
use Rattle.square.specs.Square.{live_of}
use Rattle.square.proofs.Live.{live_row}

-- n and then l bytes
pub sum-add : (m : List ℕ) (k w n l : ℕ) → sum_bytes m k w (n + l) ≡ sum_bytes m k w n + sum_bytes m (k + w * n) w l
unfolding sum_bytes
sum-add m k w zero l =
    let z : k + w * 0 ≡ k = omega arith in
    rw (zero-add l, z, zero-add (sum_bytes m k w l)) refl
sum-add m k w (suc n) l =
    let z : suc n + l ≡ suc (n + l) = omega arith in
    let y : k + w + w * n ≡ k + w * suc n = omega (arith, mul-suc w n) in
    rw z (omega (arith, sum-add m (k + w) w n l, ap (λ (x : ℕ). sum_bytes m x w l) y))

pub sum_last : (m : List ℕ) (k w n : ℕ) → sum_bytes m k w (suc n) ≡ sum_bytes m k w n + byte m (k + w * n)
unfolding sum_bytes
sum_last m k w n =
    let z : n + 1 ≡ suc n = omega arith in
    sym (ap (sum_bytes m k w) z) ∙ omega (arith, sum-add m k w n 1)

-- a turn of the loop: r is the byte at place `at`, w after the one before
pub sum_more : (m : List ℕ) (k w i at s r : ℕ) → s ≡ sum_bytes m k w i → r ≡ byte m at → k + w * i ≡ at → s + r ≡ sum_bytes m k w (i + 1)
sum_more m k w i at s r inv e place =
    let z : i + 1 ≡ suc i = omega arith in
    rw z (omega (arith, sum_last m k w i, ap (byte m) place))

-- the bytes of a part, summed
sum-part : (b : List ℕ) (k l n j : ℕ) → j + n ≤ l → sum_bytes (part b k l) j 1 n ≡ sum_bytes b (k + j) 1 n
unfolding sum_bytes
sum-part b k l zero j h = refl
sum-part b k l (suc n) j h =
    let z : k + (j + 1) ≡ k + j + 1 = omega arith in
    rw (byte-part b k l j (omega arith), sum-part b k l n (j + 1) (omega arith), z) refl

pub part_sum : (b : List ℕ) (k n r : ℕ) → r ≡ sum_bytes (part b k n) 0 1 n → r ≡ sum_bytes b k 1 n
part_sum b k n r e = let z : k + 0 ≡ k = omega arith in e ∙ sum-part b k n n 0 (omega arith) ∙ ap (λ (x : ℕ). sum_bytes b x 1 n) z

module _ (b : List ℕ) (q : List (List ℕ)) (live : q ≡ live_of b) (i s r : ℕ) (h : i < 8) where
  row : get_or q i [] ≡ part b (8 + 8 * i) 8
  row = ap (λ (x : List (List ℕ)). get_or x i []) live ∙ live_row b i h

  -- a row of the square more
  pub total_more : s ≡ sum_bytes b 8 1 (8 * i) → r ≡ sum_bytes (get_or q i []) 0 1 8 → s + r ≡ sum_bytes b 8 1 (8 * (i + 1))
  total_more inv e =
      let z : 8 * (i + 1) ≡ 8 * i + 8 = omega arith in
      let y : 8 + 1 * (8 * i) ≡ 8 + 8 * i = omega arith in
      let g : r ≡ sum_bytes b (8 + 8 * i) 1 8 = part_sum b (8 + 8 * i) 8 r (e ∙ ap (λ (x : List ℕ). sum_bytes x 0 1 8) row) in
      rw (z, sum-add b 8 1 (8 * i) 8, y) (omega arith)

  -- a cell of its column v more
  pub column_more : (v : ℕ) → v < 8 → s ≡ sum_bytes b (8 + v) 8 i → r ≡ byte (get_or q i []) v → s + r ≡ sum_bytes b (8 + v) 8 (i + 1)
  column_more v l inv e =
      sum_more b (8 + v) 8 i (8 + 8 * i + v) s r inv (e ∙ ap (λ (x : List ℕ). byte x v) row ∙ byte-part b (8 + 8 * i) 8 v l) (omega arith)

  pub cell_fits : (v : ℕ) → v < 8 → ((j : ℕ) → byte b j < 256) → r ≡ byte (get_or q i []) v → r < 256
  cell_fits v l fits e = rw (e, row, byte-part b (8 + 8 * i) 8 v l) (fits (8 + 8 * i + v))

pub ruleset column_turns = (column_more, cell_fits)
