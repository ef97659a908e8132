-- Where the rows of the session tables stand: 1,888 rows of 8 bytes, 15,104 in all, no header.
use Rattle.std.specs.Prelude.{List, ◌≡◌, ℕ, ◌+◌, ◌-◌, ◌*◌, length}

-- 15,104 bytes in all
abbrev pub Whole : List ℕ → Type 0
Whole t = length t ≡ 15104

-- where a column of a row stands
abbrev pub place : ℕ → ℕ → ℕ
place row column = 8 * row + column

-- Row t, task t
abbrev pub task_row : ℕ → ℕ
task_row k = k

-- Row 255 + f, finish f
abbrev pub finish_row : ℕ → ℕ
finish_row f = 255 + f

-- Store book of f, 18 rows from 288 + 18(f − 1)
abbrev pub book_row : ℕ → ℕ
book_row f = 288 + 18 * (f - 1)

-- Local book of f at place p, 3 rows from 864 + 3(8(f − 1) + p)
abbrev pub local_row : ℕ → ℕ → ℕ
local_row f p = 864 + 3 * (8 * (f - 1) + p)

-- Slot s (0 to 127), 2 rows from 1,632 + 2s
abbrev pub slot_row : ℕ → ℕ
slot_row s = 1632 + 2 * s
