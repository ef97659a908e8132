-- What goes over many rows walks from part to part: the tables are dropped to the first part once, then part after part.
-- A part is w bytes long; n parts stand one after the other and are numbered from i; m is the tables from the part on.
use Rattle.std.specs.Prelude.{Bool, true, false, cond, ◌&&◌, List, [], ◌∷◌, ◌++◌, ℕ, zero, suc, ◌+◌, drop, take}
use Rattle.tables.specs.Bytes.{byte}
use Rattle.tables.specs.Bits.{digit}

-- every test of a list holds
unfoldable pub every : List Bool → Bool
every [] = true
every (c ∷ l) = cond c (every l) false

-- some test of a list holds
unfoldable pub some_of : List Bool → Bool
some_of [] = false
some_of (c ∷ l) = cond c true (some_of l)

-- p holds of each part
unfoldable pub every_part : (List ℕ → ℕ → Bool) → ℕ → ℕ → ℕ → List ℕ → Bool
every_part p w i zero m = true
every_part p w i (suc n) m = p m i && every_part p w (suc i) n (drop w m)

-- the number of the first part of which p holds, or the number after the last
unfoldable pub first_part : (List ℕ → ℕ → Bool) → ℕ → ℕ → ℕ → List ℕ → ℕ
first_part p w i zero m = i
first_part p w i (suc n) m = cond (p m i) i (first_part p w (suc i) n (drop w m))

-- how many parts p holds of
unfoldable pub count_parts : (List ℕ → ℕ → Bool) → ℕ → ℕ → ℕ → List ℕ → ℕ
count_parts p w i zero m = 0
count_parts p w i (suc n) m = digit (p m i) + count_parts p w (suc i) n (drop w m)

-- each part becomes what g makes of it; what comes after the parts stays
unfoldable pub each_part : (List ℕ → ℕ → List ℕ) → ℕ → ℕ → ℕ → List ℕ → List ℕ
each_part g w i zero m = m
each_part g w i (suc n) m = g (take w m) i ++ each_part g w (suc i) n (drop w m)

-- the same for the parts from place k of the tables on
unfoldable pub change_parts : (List ℕ → ℕ → List ℕ) → ℕ → ℕ → ℕ → ℕ → List ℕ → List ℕ
change_parts g w i n k t = take k t ++ each_part g w i n (drop k t)

-- p holds of some number below n, and of every number below n
unfoldable pub some_below : (ℕ → Bool) → ℕ → Bool
some_below p zero = false
some_below p (suc n) = cond (p n) true (some_below p n)

unfoldable pub every_below : (ℕ → Bool) → ℕ → Bool
every_below p zero = true
every_below p (suc n) = cond (p n) (every_below p n) false

-- the sum of n bytes, the first at place k, each w after the one before
unfoldable pub sum_bytes : List ℕ → ℕ → ℕ → ℕ → ℕ
sum_bytes m k w zero = 0
sum_bytes m k w (suc n) = byte m k + sum_bytes m (k + w) w n
