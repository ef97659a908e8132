-- Session tables, one store book as its 18 rows: column, total, ghosts; and from The steps, under repair and owed.
use Rattle.std.specs.Prelude.{Bool, true, cond, not, List, [], ◌∷◌, ℕ, ◌+◌, ◌-◌, ◌*◌, eqb, ltb, set}
use Rattle.tables.specs.Bytes.{byte, part, write}
use Rattle.tables.specs.Bits.{marked}
use Rattle.tables.specs.Walks.{every, some_below, sum_bytes, change_parts}
use Rattle.rules.specs.Fields.{book_place}

-- Store book of f, 18 rows
unfoldable pub book_of : List ℕ → ℕ → List ℕ
book_of t f = part t (book_place f) 144

-- The live counts are an eight by eight square; its sum is the total.
unfoldable pub total : List ℕ → ℕ
total b = sum_bytes b 8 1 64

unfoldable pub column : List ℕ → ℕ → ℕ
column b v = sum_bytes b (8 + v) 8 8

unfoldable pub ghosts : List ℕ → ℕ
ghosts b = sum_bytes b 4 1 4

-- the tables with the book of f written whole
unfoldable pub with_book : List ℕ → ℕ → List ℕ → List ℕ
with_book t f b = write t (book_place f) b

-- column v of the live counts set to 0, row by row
unfoldable pub clear_row : ℕ → List ℕ → ℕ → List ℕ
clear_row v m i = set m v 0

unfoldable pub cleared_column : List ℕ → ℕ → List ℕ
cleared_column b v = change_parts (clear_row v) 8 0 8 8 b

-- column v lowered by the counts, row by row
unfoldable pub lower_row : ℕ → List ℕ → List ℕ → ℕ → List ℕ
lower_row v counts m i = set m v (byte m v - byte counts i)

unfoldable pub lowered_column : List ℕ → ℕ → List ℕ → List ℕ
lowered_column b v counts = change_parts (lower_row v counts) 8 0 8 8 b

-- a dead place's column is not all 0; d is the dead mask
unfoldable pub dead_column : ℕ → List ℕ → ℕ → Bool
dead_column d b v = every (marked d v ∷ not (eqb (column b v) 0) ∷ [])

-- A book is under repair when adopt is due or a dead place's column is not all 0.
unfoldable pub under_repair : ℕ → List ℕ → Bool
under_repair d b = cond (eqb (byte b 2) 1) true (some_below (dead_column d b) 8)

-- A count is owed when a dead sender and live receiver have a positive cell not yet asked; ps is the number of places.
unfoldable pub owed_cell : ℕ → ℕ → List ℕ → ℕ → ℕ → Bool
owed_cell ps d b i j =
    every (marked d i ∷ ltb j ps ∷ not (marked d j) ∷ not (eqb (byte b (8 + 8 * i + j)) 0) ∷ not (marked (byte b (136 + i)) j) ∷ [])

unfoldable pub owes : ℕ → ℕ → List ℕ → Bool
owes ps d b = some_below (λ i. some_below (owed_cell ps d b i) 8) 8
