-- A byte as eight marks: tested by halving, and written whole from a test.
use Rattle.std.specs.Prelude.{Bool, true, false, ◌&&◌, ◌||◌, not, ℕ, zero, suc, ◌+◌, ◌*◌, ◌/◌, ◌%◌, eqb, ltb}

abbrev pub digit : Bool → ℕ
digit true = 1
digit false = 0

-- bit j of m
unfoldable pub bit_at : ℕ → ℕ → Bool
bit_at m zero = eqb (m % 2) 1
bit_at m (suc j) = bit_at (m / 2) j

-- the number whose lowest n bits are as p says
unfoldable pub mask : (ℕ → Bool) → ℕ → ℕ
mask p zero = 0
mask p (suc n) = digit (p 0) + 2 * mask (λ j. p (suc j)) n

-- mark j of the byte m; no byte has a mark from 8 on
unfoldable pub marked : ℕ → ℕ → Bool
marked m j = ltb j 8 && bit_at m j

-- the byte m with mark k, and without it
unfoldable pub with_mark : ℕ → ℕ → ℕ
with_mark m k = mask (λ j. eqb j k || bit_at m j) 8

unfoldable pub without_mark : ℕ → ℕ → ℕ
without_mark m k = mask (λ j. not (eqb j k) && bit_at m j) 8
