-- The two choices of a turn in the request's own words, of any records and in the order of their bytes: "the lowest adopt, cancel or
-- ask (by record bytes) that is taken; the lowest slot whose deliver is taken".
use Rattle.std.specs.Prelude.{◌≡◌, Bool, true, false, cond, ◌||◌, List, [], ◌∷◌, ℕ, eqb, ltb}
use Rattle.tables.specs.Bytes.{byte}
use Rattle.rules.specs.Refusals.{answer}
use Rattle.turns.specs.Choice.{taken_or}
use Rattle.turns.specs.Turn.{deliver_record, repair_or}

-- the first bytes come before the second: at the leftmost place where they differ they are lower, or they end there
unfoldable pub precedes : List ℕ → List ℕ → Bool
precedes l [] = false
precedes [] (y ∷ m) = true
precedes (x ∷ l) (y ∷ m) = cond (eqb x y) (precedes l m) (ltb x y)

-- the record's kind is one of these
unfoldable pub is_of : List ℕ → List ℕ → Bool
is_of [] r = false
is_of (kind ∷ kinds) r = eqb (byte r 0) kind || is_of kinds r

-- The choice among the records of some kinds: one that is taken and that no taken one precedes; where none is taken, the other.
pub data Lowest (t kinds other : List ℕ) : List ℕ → Type 0 where
  lowest : (choice : List ℕ) → is_of kinds choice ≡ true → answer t choice ≡ 0
      → ((r : List ℕ) → is_of kinds r ≡ true → answer t r ≡ 0 → precedes r choice ≡ false) → Lowest t kinds other choice
  none : ((r : List ℕ) → is_of kinds r ≡ true → answer t r ≡ 0 → ⊥) → Lowest t kinds other other

-- the lowest adopt (6), cancel (7) or ask (8) that is taken
abbrev pub LowestRepair : Type 0
LowestRepair = (t other : List ℕ) → Lowest t (6 ∷ 7 ∷ 8 ∷ []) other (repair_or t other)

-- the lowest deliver (4) that is taken; of two delivers the one whose slot is lower precedes
abbrev pub LowestDeliver : Type 0
LowestDeliver = (t other : List ℕ) → Lowest t (4 ∷ []) other (taken_or t deliver_record 128 other)
