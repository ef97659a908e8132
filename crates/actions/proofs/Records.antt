-- What the range test and a step's joiner tell of a record's answer and tables, for every action that the range test guards.
use mathlib.Core.Path.{◌≡◌, refl, sym, ap, ◌∙◌}
use mathlib.Core.Bool.{true, false, cond}
use mathlib.Core.List.{List}
use Prim.Native.Nat.{ℕ}
use lib.Dec.{eqb}
use Rattle.rules.specs.Action.{Action, unknown}
use Rattle.rules.specs.Refusals.{no_action, unsound, first_of, step_answer}
use Rattle.rules.specs.Step.{step, step_after}
use Rattle.actions.specs.Records.{record_answer, record_after}

module _ (t : List ℕ) (x : Action) where
  pub unnamed_says : no_action x ≡ true → 1 ≡ record_answer t x
  unfolding record_answer first_of
  unnamed_says h = rw h

  pub unnamed_keeps : no_action x ≡ true → t ≡ record_after t x
  unfolding record_after
  unnamed_keeps h = rw (← (unnamed_says h))

  module _ (named : no_action x ≡ false) where
    pub unsound_says : unsound t x ≡ true → 8 ≡ record_answer t x
    unfolding record_answer first_of
    unsound_says h = rw (named, h)

    pub unsound_keeps : unsound t x ≡ true → t ≡ record_after t x
    unfolding record_after
    unsound_keeps h = rw (← (unsound_says h))

    -- every action but a begin is tested, and a sound one is answered as its step
    passed : unsound t x ≡ false → record_answer t x ≡ step_answer t x
    unfolding record_answer step_answer first_of
    passed h = rw (named, h)

    pub step_says : (n : ℕ) → unsound t x ≡ false → n ≡ step_answer t x → n ≡ record_answer t x
    step_says n h e = e ∙ sym (passed h)

    pub step_takes : (u : List ℕ) → unsound t x ≡ false → u ≡ step_after t x → u ≡ record_after t x
    unfolding record_after step_after
    step_takes u h e = e ∙ ap (λ (n : ℕ). cond (eqb n 0) (step t x) t) (sym (passed h))

module _ (t : List ℕ) (x : Action) (e : x ≡ unknown) where
  pub unknown_says : 1 ≡ record_answer t x
  unfolding no_action
  unknown_says = unnamed_says t x (rw e refl)

  pub unknown_keeps : t ≡ record_after t x
  unfolding no_action
  unknown_keeps = unnamed_keeps t x (rw e refl)

pub ruleset records = (unnamed_says, unnamed_keeps, unsound_says, unsound_keeps, step_says, step_takes)
