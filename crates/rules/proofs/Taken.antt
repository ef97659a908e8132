-- What a taken step tells: every refusal's test is false; the lengths are right; the record names its action.
use mathlib.Core.Path.{◌≡◌, refl, ap, ◌∙◌, subst}
use mathlib.Core.Bool.{Bool, true, false, cond, not, true≢false}
use mathlib.Core.List.{List, [], ◌∷◌}
use Prim.Native.Nat.{ℕ, suc, ◌<◌}
use native.Mathlib.Omega.{arith}
use lib.Dec.{eqb}
use lib.ListN.{length}
use borrow.Author.Tests.{eqb-true, ltb-false}
use Rattle.tables.specs.Bytes.{byte}
use Rattle.tables.specs.Walks.{some_of}
use Rattle.tables.specs.Layout.{Whole}
use Rattle.rules.specs.Action.{Action, unknown, deliver, only0, action_named, action_of}
use Rattle.rules.specs.Refusals.{wrong_length, no_action, unsound, not_there, wrong_place, not_ready, must_wait, no_room, unwanted, first_of, step_refusals, step_answer, refusals, answer}

-- every test of a step's own refusals is false
pub record StepTaken (t : List ℕ) (x : Action) : Type 0 where
  pub there : not_there t x ≡ false
  pub right_place : wrong_place t x ≡ false
  pub ready : not_ready t x ≡ false
  pub no_wait : must_wait t x ≡ false
  pub room : no_room t x ≡ false
  pub wanted : unwanted t x ≡ false

pub record Taken (t r : List ℕ) : Type 0 where
  pub right_length : wrong_length t r ≡ false
  pub action : no_action (action_of r) ≡ false
  pub sound : unsound t (action_of r) ≡ false
  pub own : StepTaken t (action_of r)

-- a check that did not refuse
past : (c : Bool) (n x : ℕ) → cond c (suc n) x ≡ 0 → (c ≡ false) × (x ≡ 0)
past true n x h = absurd (omega arith)
past false n x h = (refl, h)

pub step-taken : (t : List ℕ) (x : Action) → step_answer t x ≡ 0 → StepTaken t x
unfolding step_answer step_refusals first_of
step-taken t x h =
    let a = past _ 1 _ h in
    let b = past _ 2 _ a.1 in
    let c = past _ 3 _ b.1 in
    let d = past _ 4 _ c.1 in
    let e = past _ 5 _ d.1 in
    let f = past _ 8 _ e.1 in
    record { there = a.0; right_place = b.0; ready = c.0; no_wait = d.0; room = e.0; wanted = f.0 }

pub taken : (t r : List ℕ) → answer t r ≡ 0 → Taken t r
unfolding answer refusals first_of step_answer
taken t r h =
    let a = past _ 6 _ h in
    let b = past _ 0 _ a.1 in
    let c = past _ 7 _ b.1 in
    record { right_length = a.0; action = b.0; sound = c.0; own = step-taken t (action_of r) c.1 }

pub neither : (a b : Bool) → some_of (a ∷ b ∷ []) ≡ false → (a ≡ false) × (b ≡ false)
unfolding some_of
neither true b h = absurd (true≢false h)
neither false true h = absurd (true≢false h)
neither false false h = (refl, refl)

pub not-not : (a : Bool) → not a ≡ false → a ≡ true
not-not true h = refl
not-not false h = absurd (true≢false h)

pub whole : (t r : List ℕ) → wrong_length t r ≡ false → Whole t
unfolding wrong_length
whole t r h = eqb-true (length t) 15104 (not-not (eqb (length t) 15104) (neither _ _ h).0)

only0_is : (x : ℕ) (a : Action) → no_action (only0 x a) ≡ false → only0 x a ≡ a
unfolding only0 no_action
only0_is x a h = go (eqb x 0) h
  where
    go : (v : Bool) → no_action (cond v a unknown) ≡ false → cond v a unknown ≡ a
    go true q = refl
    go false q = absurd (true≢false q)

-- a taken record of kind 4 is a deliver
pub is_deliver : (r : List ℕ) → byte r 0 ≡ 4 → no_action (action_of r) ≡ false → action_of r ≡ deliver (byte r 1)
unfolding action_of action_named
is_deliver r kind h =
    let x : Action = deliver (byte r 1) in
    let named : action_of r ≡ only0 (byte r 2) (only0 (byte r 3) x) = ap (λ (z : ℕ). action_named z (byte r 1) (byte r 2) (byte r 3)) kind in
    let first = only0_is (byte r 2) (only0 (byte r 3) x) (subst (λ (a : Action). no_action a ≡ false) named h) in
    let second = only0_is (byte r 3) x (subst (λ (a : Action). no_action a ≡ false) (named ∙ first) h) in
    named ∙ first ∙ second

-- and its slot is one of the 128
pub slot_there : (t : List ℕ) (s : ℕ) → not_there t (deliver s) ≡ false → s < 128
unfolding not_there
slot_there t s h = let z = ltb-false 127 s h in omega arith
