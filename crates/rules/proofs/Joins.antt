-- The two ways of a step's joiner: the tables where its check refuses, and where it does not.
use mathlib.Core.Path.{◌≡◌, sym, ◌∙◌}
use mathlib.Core.List.{List}
use Prim.Native.Nat.{ℕ}
use borrow.Author.Tests.{eq-eqb, ne_eqb}
use Rattle.rules.specs.Action.{Action}
use Rattle.rules.specs.Refusals.{step_answer}
use Rattle.rules.specs.Step.{step, step_after}

module _ (n : ℕ) (t : List ℕ) (x : Action) (says : n ≡ step_answer t x) where
  pub unchanged : (n ≡ 0 → ⊥) → t ≡ step_after t x
  unfolding step_after
  unchanged h = sym (rw (ne_eqb (step_answer t x) 0 (λ z. h (says ∙ z))))

  pub changed : (u : List ℕ) → n ≡ 0 → u ≡ step t x → u ≡ step_after t x
  unfolding step_after
  changed u h e = e ∙ sym (rw (eq-eqb (step_answer t x) 0 (sym says ∙ h)))
