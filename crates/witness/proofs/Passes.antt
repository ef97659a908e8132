-- A pass that computes each record once, its answer and then its step, and what such a pass shows of `all_taken` and `played`.
use mathlib.Core.Path.{◌≡◌, refl, ap, ◌∙◌}
use mathlib.Core.Bool.{Bool, true, false, cond, false≢true}
use mathlib.Core.List.{List, [], ◌∷◌, ◌++◌}
use Prim.Native.Nat.{ℕ}
use lib.Dec.{eqb}
use borrow.Author.Tests.{eqb-true}
use Rattle.tables.specs.Walks.{every}
use Rattle.rules.specs.Action.{action_of}
use Rattle.rules.specs.Refusals.{answer}
use Rattle.rules.specs.Step.{step, after}
use Rattle.rules.specs.Sessions.{played}
use Rattle.rules.proofs.Unique.{after_done}
use Rattle.witness.specs.Schedule.{all_taken}

-- the records are taken one after the other, and the test holds of the tables after the last
unfoldable pub goes : List ℕ → List (List ℕ) → (List ℕ → Bool) → Bool
goes t [] test = test t
goes t (r ∷ rs) test = elim (eqb (answer t r) 0) [ true ↦ goes (step t (action_of r)) rs test | false ↦ false ]

abbrev pub Went : List ℕ → List (List ℕ) → (List ℕ → Bool) → Type 0
Went t rs test = (all_taken t rs ≡ true) × (test (played t rs) ≡ true)

pub went : (t : List ℕ) (rs : List (List ℕ)) (test : List ℕ → Bool) → goes t rs test ≡ true → Went t rs test
unfolding goes all_taken played
went t [] test h = (refl, h)
went t (r ∷ rs) test h = go (eqb (answer t r) 0) refl h (went u rs test)
  where
    u : List ℕ
    u = step t (action_of r)

    go : (v : Bool) → eqb (answer t r) 0 ≡ v → elim v [ true ↦ goes u rs test | false ↦ false ] ≡ true → (goes u rs test ≡ true → Went u rs test)
        → Went t (r ∷ rs) test
    go true e q shows = rw (after_done t r (eqb-true (answer t r) 0 e), e) (shows q)
    go false e q shows = absurd (false≢true q)

played-append : (t : List ℕ) (xs ys : List (List ℕ)) → played t (xs ++ ys) ≡ played (played t xs) ys
unfolding played
played-append t [] ys = refl
played-append t (r ∷ xs) ys = played-append (after t r) xs ys

taken-append : (t : List ℕ) (xs ys : List (List ℕ)) → all_taken t xs ≡ true → all_taken (played t xs) ys ≡ true → all_taken t (xs ++ ys) ≡ true
unfolding played all_taken
taken-append t [] ys h q = q
taken-append t (r ∷ xs) ys h q = go (eqb (answer t r) 0) h (λ z. taken-append (after t r) xs ys z q)
  where
    go : (v : Bool) → cond v (all_taken (after t r) xs) false ≡ true → (all_taken (after t r) xs ≡ true → all_taken (after t r) (xs ++ ys) ≡ true)
        → cond v (all_taken (after t r) (xs ++ ys)) false ≡ true
    go true z next = next z
    go false z next = absurd (false≢true z)

-- a pass that goes on where the records xs ended
pub went_on : (t : List ℕ) (xs ys : List (List ℕ)) (test : List ℕ → Bool) → all_taken t xs ≡ true → goes (played t xs) ys test ≡ true
    → Went t (xs ++ ys) test
went_on t xs ys test h q =
    let w = went (played t xs) ys test q in
    (taken-append t xs ys h w.0, ap test (played-append t xs ys) ∙ w.1)

-- each test of a list holds
abbrev pub Each : List Bool → Type 0
Each [] = record {}
Each (c ∷ l) = (c ≡ true) × Each l

pub each : (l : List Bool) → every l ≡ true → Each l
unfolding every
each [] h = record {}
each (true ∷ l) h = (refl, each l h)
each (false ∷ l) h = absurd (false≢true h)
