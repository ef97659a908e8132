-- How a line is read, word by word: of the bytes that are left, a number and the bytes after it.
-- A number above 65535, the highest of the ranges, is read no further than shows that.
use Rattle.std.specs.Prelude.{Bool, cond, List, [], ◌∷◌, ℕ, ◌+◌, ◌-◌, ◌*◌, eqb, leb, Option, None, Some, option_map}
use Rattle.std.specs.Char.{is_ascii_digit}
use Rattle.tables.specs.Walks.{every}
use Rattle.plan.specs.declared.Plan.{Plan}
use Rattle.plan.specs.Plan.{fits}

-- what f makes of the value, if there is one
abbrev pub and_then : {A B : Type 0} → Option A → (A → Option B) → Option B
and_then None f = None
and_then (Some x) f = f x

-- b is a digit more of a number that begins as v: after a 0 there is none
unfoldable pub goes_on : ℕ → ℕ → Bool
goes_on v b = every (leb 1 v ∷ leb v 65535 ∷ is_ascii_digit b ∷ [])

-- v with the digit b behind it
unfoldable pub with_digit : ℕ → ℕ → ℕ
with_digit v b = 10 * v + (b - 48)

-- the number that begins as v and goes on in m
unfoldable pub read_on : ℕ → List ℕ → ℕ × List ℕ
read_on v [] = (v, [])
read_on v (b ∷ m) = cond (goes_on v b) (read_on (with_digit v b) m) (v, b ∷ m)

-- the number that m begins with
unfoldable pub number_of : List ℕ → Option (ℕ × List ℕ)
number_of [] = None
number_of (b ∷ m) = cond (is_ascii_digit b) (Some (read_on (with_digit 0 b) m)) None

-- a number before a space
unfoldable pub spaced : ℕ → List ℕ → Option (ℕ × List ℕ)
spaced v [] = None
spaced v (b ∷ m) = cond (eqb b 32) (Some (v, m)) None

unfoldable pub word_of : List ℕ → Option (ℕ × List ℕ)
word_of m = and_then (number_of m) (λ r. spaced r.0 r.1)

-- a number before the end
unfoldable pub ended : ℕ → List ℕ → Option ℕ
ended v [] = Some v
ended v (b ∷ m) = None

unfoldable pub last_of : List ℕ → Option ℕ
last_of m = and_then (number_of m) (λ r. ended r.0 r.1)

-- the five numbers of a line
unfoldable pub numbers_of : List ℕ → Option Plan
numbers_of m =
    and_then (word_of m) (λ a.
    and_then (word_of a.1) (λ b.
    and_then (word_of b.1) (λ c.
    and_then (word_of c.1) (λ d.
    option_map (λ k. record { levels = a.0; width = b.0; places = c.0; victim = d.0; killstep = k }) (last_of d.1)))))

-- the plan of a line
unfoldable pub plan_of : List ℕ → Option Plan
plan_of m = and_then (numbers_of m) (λ p. cond (fits p) (Some p) None)
