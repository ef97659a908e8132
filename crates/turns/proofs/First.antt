-- What the lowest of many tells: the first number of which a test holds, and the first of numbered records that is taken.
use mathlib.Core.Path.{◌≡◌, refl, ap}
use mathlib.Core.Bool.{Bool, true, false}
use mathlib.Core.List.{List}
use Prim.Native.Nat.{ℕ, zero, suc, ◌+◌, ◌≤◌, ◌<◌}
use native.Mathlib.Omega.{arith}
use lib.Dec.{eqb, ltb}
use borrow.Author.Tests.{eqb-true, eqb-false, ltb-true, ltb-false}
use mathlib.Core.Logic.{◌⊎◌, inl, inr}
use Rattle.std.proofs.lemmas.Bool.{cases_lt}
use Rattle.rules.specs.Refusals.{answer}
use Rattle.model.specs.Base.Cases.{bool_cases, eq_cases, cond_cases}
use Rattle.acts.specs.First.{first_from}
use Rattle.turns.specs.Choice.{first_taken, taken_or}

module _ (p : ℕ → Bool) where
  -- it is none of those before
  pub first_low : (n i : ℕ) → i ≤ first_from p i n
  unfolding first_from
  first_low zero i = omega arith
  first_low (suc n) i = cond_cases (λ x. i ≤ x) (p i) i (first_from p (suc i) n) (λ _. omega arith) (λ _. omega (arith, first_low n (suc i)))

  -- within the n numbers, the test holds of it
  pub first_holds : (n i : ℕ) → first_from p i n < i + n → p (first_from p i n) ≡ true
  unfolding first_from
  first_holds zero i h = absurd (omega arith)
  first_holds (suc n) i h = bool_cases (p i)
      (λ e. rw e e)
      (λ e. rw e (first_holds n (suc i) (omega (arith, rw e at h))))

  -- before it, the test holds of none
  pub first-none : (n i x : ℕ) → i ≤ x → x < first_from p i n → p x ≡ false
  unfolding first_from
  first-none zero i x low high = absurd (omega arith)
  first-none (suc n) i x low high = bool_cases (p i)
      (λ e. absurd (omega (arith, rw e at high)))
      (λ e. eq_cases x i (λ q. rw q e) (λ ne. first-none n (suc i) x (omega arith) (rw e at high)))

-- none of n numbered records is taken
abbrev pub NoneOf : List ℕ → (ℕ → List ℕ) → ℕ → Type 0
NoneOf t records n = (i : ℕ) → i < n → answer t (records i) ≡ 0 → ⊥

-- one of the records is taken and none before it, or none of them and the other is the choice
pub taken_or_lem : (P : List ℕ → Type 0) (t : List ℕ) (records : ℕ → List ℕ) (n : ℕ) (other : List ℕ)
    → ((i : ℕ) → i < n → answer t (records i) ≡ 0 → NoneOf t records i → P (records i))
    → (NoneOf t records n → P other)
    → P (taken_or t records n other)
unfolding taken_or first_taken
taken_or_lem P t records n other one none =
    let taken : ℕ → Bool = λ i. eqb (answer t (records i)) 0 in
    let i : ℕ = first_from taken 0 n in
    let before : NoneOf t records i = λ x m. eqb-false (answer t (records x)) 0 (first-none taken n 0 x (omega arith) m) in
    cond_cases P (ltb i n) (records i) other
    (λ e. let l = ltb-true i n e in one i l (eqb-true (answer t (records i)) 0 (first_holds taken n 0 (omega arith))) before)
    (λ e. let l = ltb-false i n e in none (λ x m. before x (omega arith)))

-- ---- a search that plays the records: those before i are refused
module _ (t : List ℕ) (records : ℕ → List ℕ) (i : ℕ) (before : NoneOf t records i) where
  pub none_more : (answer t (records i) ≡ 0 → ⊥) → NoneOf t records (i + 1)
  none_more refused x m e = eq_cases x i (λ q. refused (rw q at e)) (λ ne. before x (omega arith) e)

  pub taken_first : (n : ℕ) → i < n → answer t (records i) ≡ 0 → (o : List ℕ) → taken_or t records n o ≡ records i
  taken_first n l e o = taken_or_lem (λ r. r ≡ records i) t records n o
      (λ j m d none. go j (cases_lt j i) d none)
      (λ none. absurd (none i l e))
    where
      go : (j : ℕ) → (j < i) ⊎ (i ≤ j) → answer t (records j) ≡ 0 → NoneOf t records j → records j ≡ records i
      go j (inl m) d none = absurd (before j m d)
      go j (inr m) d none = eq_cases j i (λ q. ap records q) (λ ne. absurd (none i (omega arith) e))

  pub taken_none : (n : ℕ) → n ≤ i → (o : List ℕ) → taken_or t records n o ≡ o
  taken_none n l o = taken_or_lem (λ r. r ≡ o) t records n o (λ j m d _. absurd (before j (omega arith) d)) (λ _. refl)
