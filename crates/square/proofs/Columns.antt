-- A column changed row by row: a turn of each loop, and the book as long as before.
use mathlib.Core.Path.{◌≡◌, refl, sym, ◌∙◌}
use mathlib.Core.List.{List}
use Prim.Native.Nat.{ℕ, ◌+◌, ◌-◌, ◌*◌, ◌<◌}
use native.Mathlib.Nat.{zero-add}
use native.Mathlib.Omega.{arith}
use lib.ListN.{length, set, length-set}
use Rattle.tables.specs.Bytes.{byte, part}
use Rattle.tables.specs.Walks.{change_parts}
use Rattle.tables.proofs.Writes.{byte-part, write-part-set}
use Rattle.tables.proofs.Changes.{change_none, change_done, change_more, length_change}
use Rattle.rules.specs.Books.{clear_row, cleared_column, lower_row}

pub clear_keeps : (v : ℕ) (m : List ℕ) (i : ℕ) → length m ≡ 8 → length (clear_row v m i) ≡ 8
unfolding clear_row
clear_keeps v m i l = length-set m v 0 ∙ l

lower_keeps : (v : ℕ) (counts m : List ℕ) (i : ℕ) → length m ≡ 8 → length (lower_row v counts m i) ≡ 8
unfolding lower_row
lower_keeps v counts m i l = length-set m v (byte m v - byte counts i) ∙ l

module _ (v n x : ℕ) (b u : List ℕ) (h : n < 8) (l : v < 8) (long : length b ≡ 144) (e : x ≡ v) where
  pub clear_more : u ≡ change_parts (clear_row v) 8 0 n 8 b → set u (8 + 8 * n + x) 0 ≡ change_parts (clear_row v) 8 0 (n + 1) 8 b
  unfolding clear_row
  clear_more inv =
      change_more (clear_row v) 8 (clear_keeps v) n 0 8 (8 + 8 * n) (0 + n) b u (set u (8 + 8 * n + x) 0) (omega arith) inv
      (rw e (sym (write-part-set u (8 + 8 * n) 8 v 0 l))) refl refl

  pub lower_more : (counts : List ℕ) (y : ℕ) → u ≡ change_parts (lower_row v counts) 8 0 n 8 b → y ≡ byte u (8 + 8 * n + x) - byte counts n
      → set u (8 + 8 * n + x) y ≡ change_parts (lower_row v counts) 8 0 (n + 1) 8 b
  unfolding lower_row
  lower_more counts y inv less =
      let cell : byte u (8 + 8 * n + x) ≡ byte (part u (8 + 8 * n) 8) v = rw e (sym (byte-part u (8 + 8 * n) 8 v l)) in
      change_more (lower_row v counts) 8 (lower_keeps v counts) n 0 8 (8 + 8 * n) n b u (set u (8 + 8 * n + x) y) (omega arith) inv
      (rw (less, cell, e) (sym (write-part-set u (8 + 8 * n) 8 v (byte (part u (8 + 8 * n) 8) v - byte counts n) l))) refl (zero-add n)

pub cleared_length : (b : List ℕ) (v : ℕ) → length b ≡ 144 → length (cleared_column b v) ≡ 144
unfolding cleared_column
cleared_length b v l = length_change (clear_row v) 8 (clear_keeps v) 8 0 8 b (omega arith) ∙ l

pub ruleset clear_turns = (change_none, clear_more, change_done)

pub ruleset lower_turns = (change_none, lower_more, change_done)
