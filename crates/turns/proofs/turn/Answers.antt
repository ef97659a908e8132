use mathlib.Core.List.{List}
use Prim.Native.Nat.{ℕ}
use Rattle.plan.specs.declared.Plan.{Plan}
use Rattle.acts.specs.Acts.{act_of}
use Rattle.turns.specs.declared.Searched.{Searched}
use Rattle.turns.specs.Turn.{repair_or, turn_record}
use Rattle.turns.proofs.Choice.{stops, goes_on_lem}
use Rattle.turns.proofs.Order.{lowest_of, kind_chooses, repair_chooses, kill_chooses}
use Rattle.turns.proofs.turn.Goals as goal

-- what is left of a turn on tables t
abbrev after-repair : Plan → List ℕ → List ℕ
after-repair p t = lowest_of Searched.Deliver t (act_of p t)

abbrev after-kill : Plan → List ℕ → List ℕ
after-kill p t = repair_or t (after-repair p t)

pub returns-in-Some : goal.returns-in-Some
unfolding turn_record
returns-in-Some c = stops _ (kill_chooses _ _ _) c.in-Some.ensures _

pub returns-in-Some-repair : goal.returns-in-Some-repair
unfolding turn_record
returns-in-Some-repair c =
    goes_on_lem _ (kill_chooses _ _ _) c.in_default.ensures (after-kill _)
    (stops _ (repair_chooses _) c.in-Some-repair.ensures _)

pub returns-in-Some-lowest_taken : goal.returns-in-Some-lowest_taken
unfolding turn_record
returns-in-Some-lowest_taken c =
    goes_on_lem _ (kill_chooses _ _ _) c.in_default.ensures (after-kill _)
    (goes_on_lem _ (repair_chooses _) c.in_default-repair.ensures (after-repair _)
    (stops _ (kind_chooses Searched.Deliver _) c.in-Some-lowest_taken.ensures _))

pub returns : goal.returns
unfolding turn_record
returns c =
    goes_on_lem _ (kill_chooses _ _ _) c.in_default.ensures (after-kill _)
    (goes_on_lem _ (repair_chooses _) c.in_default-repair.ensures (after-repair _)
    (goes_on_lem _ (kind_chooses Searched.Deliver _) c.in_default-lowest_taken.ensures (act_of _) c.act.ensures))
