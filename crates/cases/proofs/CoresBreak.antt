-- Each wrong core breaks demand 2 where document 01 says it does.
use mathlib.Core.Path.{◌≡◌, refl, sym, ap, ◌∙◌}
use mathlib.Core.Bool.{Bool, cond}
use mathlib.Core.List.{List, [], ◌∷◌}
use mathlib.Core.Logic.{◌≢◌}
use Prim.Native.Nat.{ℕ, ◌-◌}
use native.Mathlib.Omega.{arith}
use lib.ListN.{set}
use lib.Seq.{get_or-set_same}
use borrow.Author.Tests.{eq-eqb}
use Rattle.tables.specs.Bytes.{byte}
use Rattle.tables.specs.Layout.{place, slot_row}
use Rattle.rules.specs.Fields.{received}
use Rattle.rules.specs.Messages.{Message, count_dropped, message_at}
use Rattle.rules.specs.Begin.{zero_tables}
use Rattle.rules.specs.Refusals.{answer}
use Rattle.rules.specs.Step.{after}
use Rattle.rules.specs.Outcome.{Meets}
use Rattle.rules.specs.WrongCores.{refuses_all, always_zero, never_writes, only_begins, invents_dropped, invented_step, invented}
use Rattle.rules.proofs.Unique.{answer_is, tables_are, outcome}
use Rattle.rules.proofs.Errors.{reply_says, reply_slot, reply_whole}
use Rattle.cases.proofs.CasesHold.{computed}

-- Case A: record 1, begin with 3 places, is taken and writes the place count.
abbrev pub record1 : List ℕ
record1 = 9 ∷ 3 ∷ 0 ∷ 0 ∷ []

taken1 : answer zero_tables record1 ≡ 0
unfolding computed
taken1 = refl

writes1 : byte (after zero_tables record1) 0 ≡ 3
unfolding computed
writes1 = refl

was1 : byte zero_tables 0 ≡ 0
unfolding zero_tables
was1 = refl

-- no core that leaves the tables as they were meets record 1 of case A
stays : (zero_tables ≡ after zero_tables record1) → ⊥
stays e = let z : byte zero_tables 0 ≡ 3 = ap (λ (u : List ℕ). byte u 0) e ∙ writes1 in omega (arith, z, was1)

pub refuses_all_breaks : (number : List ℕ → List ℕ → ℕ) → number zero_tables record1 ≢ 0 → Meets (refuses_all number) zero_tables record1 → ⊥
refuses_all_breaks number h o = h (answer_is zero_tables record1 o ∙ taken1)

pub always_zero_breaks : Meets always_zero zero_tables record1 → ⊥
always_zero_breaks o = stays (tables_are zero_tables record1 o)

pub never_writes_breaks : (says : List ℕ → List ℕ → ℕ) → Meets (never_writes says) zero_tables record1 → ⊥
never_writes_breaks says o = stays (tables_are zero_tables record1 o)

-- Record 2, the spawn, is taken at the tables that record 1 gives and blocks task 1, which ran.
abbrev pub record2 : List ℕ
record2 = 1 ∷ 1 ∷ 1 ∷ 0 ∷ []

abbrev tables1 : List ℕ
tables1 = after zero_tables record1

runs1 : byte tables1 11 ≡ 5
unfolding computed
runs1 = refl

blocks2 : byte (after tables1 record2) 11 ≡ 6
unfolding computed
blocks2 = refl

pub only_begins_meets_1 : Meets only_begins zero_tables record1
only_begins_meets_1 = outcome zero_tables record1

pub only_begins_breaks_2 : Meets only_begins (only_begins.leaves zero_tables record1) record2 → ⊥
only_begins_breaks_2 o =
    let e : byte tables1 11 ≡ byte (after tables1 record2) 11 = ap (λ (u : List ℕ). byte u 11) (tables_are tables1 record2 o) in
    omega (arith, e, runs1, blocks2)

-- The rule for tag 10: where it is taken, a core whose reply says another number than sent less received breaks demand 2.
module _ (t r : List ℕ) (f k v j x : ℕ) (is-taken : answer t r ≡ 0) (kind : byte r 0 ≡ 4) (asks : message_at t (byte r 1) ≡ count_dropped f k v j x) where
  invents : (n : ℕ) → (invents_dropped n).leaves t r ≡ set (after t r) (place (slot_row (byte r 1)) 5) n
  unfolding invented_step invented
  invents n =
      ap (λ (c : Bool). cond c (invented_step n t r) t) (eq-eqb (answer t r) 0 is-taken)
      ∙ ap (λ (c : Bool). cond c (invented n (byte r 1) (message_at t (byte r 1)) (after t r)) (after t r)) (eq-eqb (byte r 0) 4 kind)
      ∙ ap (λ (m : Message). invented n (byte r 1) m (after t r)) asks

  pub invented_breaks : (n : ℕ) → n ≢ x - received t f j v → Meets (invents_dropped n) t r → ⊥
  invented_breaks n h o =
      let size = reply_whole t r f k v j x is-taken kind asks in
      let slot = reply_slot t r f k v j x is-taken kind asks in
      let same : set (after t r) (place (slot_row (byte r 1)) 5) n ≡ after t r = sym (invents n) ∙ tables_are t r o in
      h
      (sym (get_or-set_same (after t r) (place (slot_row (byte r 1)) 5) n 0 (omega (arith, size, slot)))
      ∙ ap (λ (u : List ℕ). byte u (place (slot_row (byte r 1)) 5)) same
      ∙ reply_says t r f k v j x is-taken kind asks)
