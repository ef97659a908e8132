use mathlib.Core.List.{List, []}
use Prim.Native.Nat.{ℕ}
use Rattle.turns.specs.declared.Searched.{Searched}
use Rattle.turns.specs.Turn.{repair_or}
use Rattle.turns.proofs.Choice.{stops, goes_on_lem}
use Rattle.turns.proofs.Order.{lowest_of, kind_chooses}
use Rattle.turns.proofs.repair.Goals as goal

-- what is left of a repair on tables t
abbrev after-adopt : List ℕ → List ℕ
after-adopt t = lowest_of Searched.Cancel t (lowest_of Searched.Ask t [])

pub returns-in-Some : goal.returns-in-Some
unfolding repair_or
returns-in-Some c = stops _ (kind_chooses Searched.Adopt _) c.in-Some.ensures _

pub returns-in-Some-lowest_taken : goal.returns-in-Some-lowest_taken
unfolding repair_or
returns-in-Some-lowest_taken c =
    goes_on_lem _ (kind_chooses Searched.Adopt _) c.in_default.ensures after-adopt
    (stops _ (kind_chooses Searched.Cancel _) c.in-Some-lowest_taken.ensures _)

pub returns : goal.returns
unfolding repair_or
returns c =
    goes_on_lem _ (kind_chooses Searched.Adopt _) c.in_default.ensures after-adopt
    (goes_on_lem _ (kind_chooses Searched.Cancel _) c.in_default-lowest_taken.ensures (λ t. lowest_of Searched.Ask t []) c.lowest_taken-3.ensures)
