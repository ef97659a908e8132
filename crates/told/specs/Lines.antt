-- What the lines of the program edges are made of, as bytes.
use Rattle.std.specs.Prelude.{List, [], ◌∷◌, ◌++◌, ℕ, Bool, true, false}
use Rattle.tables.specs.Bytes.{byte}
use Rattle.lines.specs.Lines.{word}

-- "same" or "new"
abbrev pub same_word : Bool → List ℕ
same_word true = 115 ∷ 97 ∷ 109 ∷ 101 ∷ []
same_word false = 110 ∷ 101 ∷ 119 ∷ []

-- a record, "= ", its answer, and whether the tables are what they were
abbrev pub answer_words : List ℕ → ℕ → Bool → List ℕ
answer_words r answer same =
    word (byte r 0) 32 ++ (word (byte r 1) 32 ++ (word (byte r 2) 32 ++ (word (byte r 3) 32 ++ (61 ∷ 32 ∷ (word answer 32 ++ (same_word same ++ (59 ∷ 32 ∷ [])))))))

-- tasks made, finishes made, messages in flight
abbrev pub count_words : ℕ → ℕ → ℕ → List ℕ
count_words tasks finishes messages = word tasks 32 ++ (word finishes 32 ++ word messages 32)

-- two tags and two statuses, and the line's end
abbrev pub field_words : ℕ → ℕ → ℕ → ℕ → List ℕ
field_words first second one two = word first 32 ++ (word second 32 ++ (word one 32 ++ word two 10))

-- "lengths ", those of the tables and of the record, and the answer
abbrev pub lengths_line : ℕ → ℕ → ℕ → Bool → List ℕ
lengths_line tables lent answer same =
    108 ∷ 101 ∷ 110 ∷ 103 ∷ 116 ∷ 104 ∷ 115 ∷ 32 ∷ (word tables 32 ++ (word lent 32 ++ (61 ∷ 32 ∷ (word answer 32 ++ (same_word same ++ (10 ∷ []))))))
