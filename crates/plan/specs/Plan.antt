-- The line that the program `tree` is given: its five numbers, their ranges, how they are spelled, and what reading it means.
use Rattle.std.specs.Prelude.{◌≡◌, Bool, true, false, cond, List, [], ◌∷◌, ◌++◌, ℕ, eqb, ltb, leb, decimal, Option, None, Some}
use Rattle.tables.specs.Walks.{every}
use Rattle.plan.specs.declared.Plan.{Plan}
use Rattle.plan.specs.Tree.{tree_size}

-- every number is in its range, and the tree has at most 255 tasks
unfoldable pub fits : Plan → Bool
fits p = every (
    leb 1 p.levels ∷ leb p.levels 5 ∷ leb 1 p.width ∷ leb p.width 4 ∷ leb 2 p.places ∷ leb p.places 8 ∷ ltb p.victim p.places
    ∷ leb p.killstep 65535 ∷ leb (tree_size p.width p.levels) 255 ∷ [])

-- what stands before the first newline, or all where there is none
unfoldable pub first_line : List ℕ → List ℕ
first_line [] = []
first_line (b ∷ m) = cond (eqb b 10) [] (b ∷ first_line m)

-- five decimal numbers separated by single spaces, each written the one way, without leading zeros
unfoldable pub spelled : Plan → List ℕ
spelled p = decimal p.levels ++ (32 ∷ (decimal p.width ++ (32 ∷ (decimal p.places ++ (32 ∷ (decimal p.victim ++ (32 ∷ decimal p.killstep)))))))

-- no plan: the line is refused
abbrev pub no_plan : Plan
no_plan = record { levels = 0; width = 0; places = 0; victim = 0; killstep = 0 }

-- the plan that is named, or no plan
abbrev pub named : Option Plan → Plan
named None = no_plan
named (Some p) = p

-- r is what the input is read as: the plan that its first line spells, if that fits, else no plan
pub record ReadsAs (input : List ℕ) (r : Plan) : Type 0 where
  pub accepted : fits r ≡ true → first_line input ≡ spelled r
  pub complete : (p : Plan) → fits p ≡ true → first_line input ≡ spelled p → r ≡ p
  pub refused : fits r ≡ false → r ≡ no_plan
