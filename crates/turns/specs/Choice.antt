-- The lowest of numbered records that is taken.
use Rattle.std.specs.Prelude.{cond, List, ℕ, eqb, ltb}
use Rattle.rules.specs.Refusals.{answer}
use Rattle.acts.specs.First.{first_from}

-- the number of the first of n records that is taken, or n
unfoldable pub first_taken : List ℕ → (ℕ → List ℕ) → ℕ → ℕ
first_taken t records n = first_from (λ i. eqb (answer t (records i)) 0) 0 n

-- that record; another where none of them is taken
unfoldable pub taken_or : List ℕ → (ℕ → List ℕ) → ℕ → List ℕ → List ℕ
taken_or t records n other = cond (ltb (first_taken t records n) n) (records (first_taken t records n)) other
