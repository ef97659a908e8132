-- The lines of the programs as bytes: numbers in decimal, a space after each but the last, which a line end follows.
use Rattle.std.specs.Prelude.{List, [], ◌∷◌, ◌++◌, ℕ, zero, suc, ◌+◌, ◌*◌, decimal}
use Rattle.tables.specs.Bytes.{byte}

-- a number and the byte that ends it
abbrev pub word : ℕ → ℕ → List ℕ
word n end = decimal n ++ (end ∷ [])

-- the line of a record in the printed run: its number, its kind, its answer
abbrev pub record_line : ℕ → ℕ → ℕ → List ℕ
record_line number kind answer = word number 32 ++ (word kind 32 ++ word answer 10)

-- the line of a step whose five bytes stand at place k of a log: the record's four numbers and the answer
abbrev pub step_line : List ℕ → ℕ → List ℕ
step_line log k =
    word (byte log k) 32
    ++ (word (byte log (k + 1)) 32 ++ (word (byte log (k + 2)) 32 ++ (word (byte log (k + 3)) 32 ++ word (byte log (k + 4)) 10)))

-- the lines of the first n steps of a log
unfoldable pub step_lines : List ℕ → ℕ → List ℕ
step_lines log zero = []
step_lines log (suc n) = step_lines log n ++ step_line log (5 * n)

-- the last line: "end", and three numbers
abbrev pub end_line : ℕ → ℕ → ℕ → List ℕ
end_line a b c = 101 ∷ 110 ∷ 100 ∷ 32 ∷ (word a 32 ++ (word b 32 ++ word c 10))

-- the line of a last incomplete record: its number, and "short"
abbrev pub short_line : ℕ → List ℕ
short_line number = word number 32 ++ (115 ∷ 104 ∷ 111 ∷ 114 ∷ 116 ∷ 10 ∷ [])
