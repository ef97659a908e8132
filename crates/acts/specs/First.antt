-- The lowest of many numbers: the first of which a test holds.
use Rattle.std.specs.Prelude.{Bool, cond, ℕ, zero, suc}

-- the first of the n numbers from i on of which p holds, or the number after the last
unfoldable pub first_from : (ℕ → Bool) → ℕ → ℕ → ℕ
first_from p i zero = i
first_from p i (suc n) = cond (p i) i (first_from p (suc i) n)
