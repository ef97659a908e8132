-- No second outcome fits: an outcome is the rules' answer and the rules' tables, and that outcome is one.
use mathlib.Core.Path.{◌≡◌, refl, sym, ◌∙◌}
use mathlib.Core.Bool.{Bool, true, false}
use mathlib.Core.List.{List, [], ◌∷◌}
use mathlib.Core.Logic.{◌≢◌}
use Prim.Native.Nat.{ℕ}
use lib.Dec.{eqb}
use borrow.Author.Tests.{eq-eqb, ne_eqb, eqb-true, eqb-false}
use Rattle.rules.specs.Action.{action_of}
use Rattle.rules.specs.Refusals.{Check, refuse, first_of, refusals, answer}
use Rattle.rules.specs.Step.{step, after}
use Rattle.rules.specs.Outcome.{First, none_applies, applies, passes, Outcome}

first_is : {l : List Check} {a : ℕ} → First l a → a ≡ first_of l
unfolding first_of
first_is none_applies = refl
first_is applies = refl
first_is (passes p) = first_is p

first_of_lem : (l : List Check) → First l (first_of l)
unfolding first_of
first_of_lem [] = none_applies
first_of_lem (refuse true n ∷ l) = applies
first_of_lem (refuse false n ∷ l) = passes (first_of_lem l)

module _ (t r : List ℕ) where
  pub after_done : answer t r ≡ 0 → after t r ≡ step t (action_of r)
  unfolding after
  after_done h = rw (eq-eqb (answer t r) 0 h)

  pub after-refused : answer t r ≢ 0 → after t r ≡ t
  unfolding after
  after-refused h = rw (ne_eqb (answer t r) 0 h)

  pub answer_is : {a : ℕ} {u : List ℕ} → Outcome t r a u → a ≡ answer t r
  unfolding answer
  answer_is o = first_is o.answered

  pub tables_are : {a : ℕ} {u : List ℕ} → Outcome t r a u → u ≡ after t r
  tables_are {a} {u} o = go (eqb a 0) refl
    where
      go : (v : Bool) → eqb a 0 ≡ v → u ≡ after t r
      go true e = let z = eqb-true a 0 e in o.done z ∙ sym (after_done (sym (answer_is o) ∙ z))
      go false e = let z = eqb-false a 0 e in o.refused z ∙ sym (after-refused (λ q. z (answer_is o ∙ q)))

  -- the rules' own outcome fits
  pub outcome : Outcome t r (answer t r) (after t r)
  unfolding answer
  outcome = record { answered = first_of_lem (refusals t r); done = after_done; refused = after-refused }

  -- and no second one does
  pub unique : {a b : ℕ} {u w : List ℕ} → Outcome t r a u → Outcome t r b w → (a ≡ b) × (u ≡ w)
  unique p q = (answer_is p ∙ sym (answer_is q), tables_are p ∙ sym (tables_are q))
