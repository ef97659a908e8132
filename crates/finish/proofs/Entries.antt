-- What the lengths tell of an entry's answer: 7 comes first, the record's own answer after it, and readings are of whole tables.
use mathlib.Core.Path.{◌≡◌, refl, sym, ap, ◌∙◌}
use mathlib.Core.Bool.{Bool, true, false, cond, not}
use mathlib.Core.Logic.{◌⊎◌, inl, inr}
use mathlib.Core.List.{List}
use Prim.Native.Nat.{ℕ, ◌+◌, ◌-◌, ◌<◌, ◌≤◌}
use native.Mathlib.Nat.{min-le_right}
use native.Mathlib.Omega.{arith}
use lib.Dec.{eqb}
use lib.ListN.{length, take, drop, length-take, length-drop}
use borrow.Author.Tests.{eq-eqb, ne_eqb}
use Rattle.std.proofs.lemmas.Bool.{cases_eq}
use Rattle.tables.specs.Bytes.{part}
use Rattle.tables.specs.Layout.{Whole}
use Rattle.tables.specs.Walks.{some_of}
use lib.Seq.{take_all}
use Rattle.std.specs.List.{slice_range}
use Rattle.rules.specs.Action.{action_of}
use Rattle.rules.specs.Refusals.{wrong_length, refusals, first_of, answer}
use Rattle.rules.specs.Step.{step, after}
use Rattle.actions.specs.Records.{record_answer, record_after}
use Rattle.finish.specs.Readings.{no_reading, reading}

-- 7: the tables or the record have another length
pub tables_wrong : (t r : List ℕ) → (length t ≡ 15104 → ⊥) → wrong_length t r ≡ true
unfolding wrong_length some_of
tables_wrong t r h = rw (ne_eqb (length t) 15104 h) refl

pub record_wrong : (t r : List ℕ) → Whole t → (length r ≡ 4 → ⊥) → wrong_length t r ≡ true
unfolding wrong_length some_of
record_wrong t r w h = rw (eq-eqb (length t) 15104 w, ne_eqb (length r) 4 h) refl

pub both_right : (t r : List ℕ) → Whole t → length r ≡ 4 → wrong_length t r ≡ false
unfolding wrong_length some_of
both_right t r w h = rw (eq-eqb (length t) 15104 w, eq-eqb (length r) 4 h) refl

module _ (t r : List ℕ) where
  pub wrong_says : wrong_length t r ≡ true → 7 ≡ answer t r
  unfolding answer refusals first_of
  wrong_says h = rw h

  pub wrong_keeps : wrong_length t r ≡ true → t ≡ after t r
  unfolding after
  wrong_keeps h = rw (← (wrong_says h))

  passed : wrong_length t r ≡ false → answer t r ≡ record_answer t (action_of r)
  unfolding answer refusals first_of record_answer
  passed h = rw h

  pub right_says : (n : ℕ) → wrong_length t r ≡ false → n ≡ record_answer t (action_of r) → n ≡ answer t r
  right_says n h e = e ∙ sym (passed h)

  pub right_takes : (u : List ℕ) → wrong_length t r ≡ false → u ≡ record_after t (action_of r) → u ≡ after t r
  unfolding after record_after
  right_takes u h e = e ∙ ap (λ (n : ℕ). cond (eqb n 0) (step t (action_of r)) t) (sym (passed h))

module _ (t s : List ℕ) (at : ℕ) where
  part_short : length s < at + 4 → length (part s at 4) ≡ 4 → ⊥
  unfolding part
  part_short h e =
      let most : length (take 4 (drop at s)) ≤ length (drop at s) = rw (length-take 4 (drop at s)) (min-le_right 4 (length (drop at s))) in
      omega (arith, most, length-drop at s)

  pub short_wrong : length s < at + 4 → wrong_length t (part s at 4) ≡ true
  unfolding wrong_length some_of
  short_wrong h = rw (ne_eqb (length (part s at 4)) 4 (part_short h)) (either (not (eqb (length t) 15104)))
    where
      either : (b : Bool) → cond b true true ≡ true
      either true = refl
      either false = refl

  -- what is left of a schedule from a place on begins with that record
  pub record_front : (rest : List ℕ) → rest ≡ slice_range s at (length s) → take 4 rest ≡ part s at 4
  unfolding part
  record_front rest e = ap (take 4) (e ∙ take_all (length s - at) (drop at s) (rw (length-drop at s) (omega arith)))

-- a reading of tables of the right length, and of others
pub read_says : (t : List ℕ) (r n : ℕ) → (length t ≡ 15104 → r ≡ n) → ((length t ≡ 15104 → ⊥) → r ≡ 4294967295) → r ≡ reading t n
unfolding reading no_reading
read_says t r n there none = go (cases_eq (length t) 15104)
  where
    go : (length t ≡ 15104) ⊎ (length t ≡ 15104 → ⊥) → r ≡ cond (eqb (length t) 15104) n 4294967295
    go (inl h) = rw (eq-eqb (length t) 15104 h) (there h)
    go (inr h) = rw (ne_eqb (length t) 15104 h) (none h)
