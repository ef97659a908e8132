-- The five bytes of a step taken out of a log.
use mathlib.Core.Path.{◌≡◌, refl, ◌∙◌}
use mathlib.Core.List.{List, ◌++◌, append_assoc}
use Prim.Native.Nat.{ℕ, ◌+◌, ◌*◌}
use native.Mathlib.Omega.{arith}
use native.Mathlib.Nat.{add-zero}
use native.Mathlib.Numerals.{add-one}
use Rattle.tables.specs.Bytes.{byte, part}
use Rattle.tables.proofs.Writes.{byte-part}
use Rattle.lines.specs.Lines.{word, step_line, step_lines}

-- their line is the line of the step at that place
pub part_line : (t : List ℕ) (k : ℕ) → step_line (part t k 5) 0 ≡ step_line t k
part_line t k =
    rw (
      byte-part t k 5 0 (omega arith),
      byte-part t k 5 1 (omega arith),
      byte-part t k 5 2 (omega arith),
      byte-part t k 5 3 (omega arith),
      byte-part t k 5 4 (omega arith),
      add-zero k,
    )
    refl

-- a step's five words put one by one
pub words_put : (t o p q r s u : List ℕ) → p ≡ o ++ word (byte t 0) 32 → q ≡ p ++ word (byte t 1) 32 → r ≡ q ++ word (byte t 2) 32 → s ≡ r ++ word (byte t 3) 32
    → u ≡ s ++ word (byte t 4) 10 → u ≡ o ++ step_line t 0
words_put t o p q r s u e1 e2 e3 e4 e5 = e5 ∙ (rw (e4, e3, e2, e1) (five o (word (byte t 0) 32) (word (byte t 1) 32) (word (byte t 2) 32) (word (byte t 3) 32) (word (byte t 4) 10)))
  where
    five : (o a b c d e : List ℕ) → ((((o ++ a) ++ b) ++ c) ++ d) ++ e ≡ o ++ (a ++ (b ++ (c ++ (d ++ e))))
    five o a b c d e = rw (append_assoc (((o ++ a) ++ b) ++ c) d e, append_assoc ((o ++ a) ++ b) c (d ++ e), append_assoc (o ++ a) b (c ++ (d ++ e)), append_assoc o a (b ++ (c ++ (d ++ e)))) refl

-- the lines of one step more, behind what was there
pub steps_more : (o t p u s : List ℕ) (i : ℕ) → p ≡ o ++ step_lines t i → s ≡ part t (5 * i) 5 → u ≡ p ++ step_line s 0 → u ≡ o ++ step_lines t (i + 1)
unfolding step_lines
steps_more o t p u s i e at more =
    more ∙ rw (add-one i, at, part_line t (5 * i), e) (append_assoc o (step_lines t i) (step_line t (5 * i)))
