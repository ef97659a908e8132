-- The words of the release half, said of the core that is the rules, are those of demand 3.
use mathlib.Core.Path.{◌≡◌, refl, ap}
use mathlib.Core.Bool.{false, cond}
use mathlib.Core.List.{List, [], ◌∷◌}
use Prim.Native.Nat.{ℕ}
use Rattle.rules.specs.Refusals.{answer}
use Rattle.rules.specs.Step.{after}
use Rattle.rules.specs.Outcome.{Core}
use Rattle.rules.specs.Sessions.{takes_begin, no_begin, played}
use Rattle.witness.specs.ReleaseHalf.{takes_begin_of, no_begin_of, played_of}

abbrev the_rules : Core
the_rules = record { says = answer; leaves = after }

pub rules_begin : (t r : List ℕ) → takes_begin_of the_rules t r ≡ takes_begin t r
unfolding takes_begin_of takes_begin
rules_begin t r = refl

pub rules_alone : (t : List ℕ) (rs : List (List ℕ)) → no_begin_of the_rules t rs ≡ no_begin t rs
unfolding no_begin_of no_begin takes_begin_of takes_begin
rules_alone t [] = refl
rules_alone t (r ∷ rs) = ap (cond (takes_begin t r) false) (rules_alone (after t r) rs)

pub rules_played : (t : List ℕ) (rs : List (List ℕ)) → played_of the_rules t rs ≡ played t rs
unfolding played_of played
rules_played t [] = refl
rules_played t (r ∷ rs) = rules_played (after t r) rs
