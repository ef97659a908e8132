-- Records in an order of choice: each choice gives a record of its own, whatever stands after it, or leaves it to what stands after it.
-- The code plays a choice with nothing after it, and goes on where that had no step.
use mathlib.Core.Path.{◌≡◌, refl, sym, ap, ◌∙◌}
use mathlib.Core.Bool.{Bool, true, false, cond, not}
use mathlib.Core.List.{List, [], ◌∷◌}
use Prim.Native.Nat.{ℕ}
use native.Mathlib.Omega.{arith}
use borrow.Author.Tests.{ne_eqb}
use lib.Dec.{eqb}
use lib.ListN.{length}
use Rattle.std.proofs.Common.{Option, None, Some}
use Rattle.tables.specs.Walks.{some_of}
use Rattle.rules.specs.Refusals.{wrong_length, refusals, first_of, answer}
use Rattle.rules.specs.Step.{after}
use Rattle.turns.specs.declared.Played.{Played}
use Rattle.turns.specs.Played.{played_on, step_on, Plays}

pub data Choosing (f : List ℕ → List ℕ) : Type 0 where
  leaves : ((o : List ℕ) → f o ≡ o) → Choosing f
  takes : ((o : List ℕ) → f o ≡ f []) → (f [] ≡ [] → ⊥) → Choosing f

pub choose_if : (c : Bool) (r : List ℕ) → (r ≡ [] → ⊥) → Choosing (cond c r)
choose_if true r h = takes (λ o. refl) h
choose_if false r h = leaves (λ o. refl)

pub choose_then : (f g : List ℕ → List ℕ) → Choosing f → Choosing g → Choosing (λ o. f (g o))
choose_then f g (leaves e) (leaves q) = leaves (λ o. e (g o) ∙ q o)
choose_then f g (leaves e) (takes q h) = takes (λ o. e (g o) ∙ q o ∙ sym (e (g []))) (λ z. h (sym (e (g [])) ∙ z))
choose_then f g (takes e h) c = takes (λ o. e (g o) ∙ sym (e (g []))) (λ z. h (sym (e (g [])) ∙ z))

-- what a choice with nothing after it tells of it with something after it
module _ (f : List ℕ → List ℕ) where
  left_over : Choosing f → f [] ≡ [] → (o : List ℕ) → f o ≡ o
  left_over (leaves e) z o = e o
  left_over (takes e h) z o = absurd (h z)

  taken-over : Choosing f → (f [] ≡ [] → ⊥) → (o : List ℕ) → f o ≡ f []
  taken-over (leaves e) h o = absurd (h (e []))
  taken-over (takes e h) z o = e o

-- ---- a record that is not taken changes nothing; the empty one is not
pub refused_keeps : (t r : List ℕ) → (answer t r ≡ 0 → ⊥) → after t r ≡ t
unfolding after
refused_keeps t r h = rw (ne_eqb (answer t r) 0 h)

empty-refused : (t : List ℕ) → answer t [] ≡ 7
unfolding answer refusals first_of wrong_length some_of
empty-refused t = rw (either (not (eqb (length t) 15104)))
  where
    either : (b : Bool) → cond b true true ≡ true
    either true = refl
    either false = refl

pub empty_keeps : (t : List ℕ) → after t [] ≡ t
empty_keeps t = refused_keeps t [] (λ e. let z = empty-refused t in omega arith)

-- ---- what is played tells the record
played_some : (t r : List ℕ) → (r ≡ [] → ⊥) → Some (played_on t r) ≡ step_on t r
unfolding step_on
played_some t [] h = absurd (h refl)
played_some t (kind ∷ r) h = refl

pub some_played : (t r : List ℕ) (y : Played) → Some y ≡ step_on t r → (y ≡ played_on t r) × (r ≡ [] → ⊥)
unfolding step_on
some_played t [] y e = cc
some_played t (kind ∷ r) y e = (cc, λ z. cc)

pub none_played : (t r : List ℕ) → None ≡ step_on t r → r ≡ []
unfolding step_on
none_played t [] e = refl
none_played t (kind ∷ r) e = cc

pub plays_none : (t r u : List ℕ) → r ≡ [] → u ≡ t → Plays t r None u
unfolding step_on
plays_none t r u e same = rw e (record { step = refl; tables = same ∙ sym (empty_keeps t) })

pub plays_some : (t r : List ℕ) (y : Played) (u : List ℕ) → (r ≡ [] → ⊥) → y ≡ played_on t r → u ≡ after t r → Plays t r (Some y) u
plays_some t r y u h e q = record { step = ap Some e ∙ played_some t r h; tables = q }

module _ {t : List ℕ} (f : List ℕ → List ℕ) (chooses : Choosing f) {u : List ℕ} where
  -- it had a step: that is the record, whatever stands after it
  pub stops : {y : Played} → Plays t (f []) (Some y) u → (o : List ℕ) → Plays t (f o) (Some y) u
  stops {y} plays o = rw (taken-over f chooses (some_played t (f []) y plays.step).1 o) plays

  -- it had none: the tables are the same, and what is played next is the record
  pub goes_on_lem : Plays t (f []) None u → (next : List ℕ → List ℕ) {y : Option Played} {w : List ℕ} → Plays u (next u) y w → Plays t (f (next t)) y w
  goes_on_lem plays next then =
      let z = none_played t (f []) plays.step in
      let same : u ≡ t = plays.tables ∙ ap (after t) z ∙ empty_keeps t in
      rw (left_over f chooses z (next t), ← same) then
