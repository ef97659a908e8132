-- A core that refuses everything, one that always says 0, and one that leaves the tables as they were: the release half of demand 3
-- holds of each on zero tables, and demand 2 shuts each out in case A.
use mathlib.Core.Path.{◌≡◌, refl, ap, subst, ◌∙◌}
use mathlib.Core.Bool.{Bool, false, true≢false}
use mathlib.Core.List.{List, [], ◌∷◌, ◌++◌}
use mathlib.Core.Logic.{◌≢◌}
use Prim.Native.Nat.{ℕ, zero, suc}
use lib.ListN.{set}
use native.Mathlib.Omega.{arith}
use borrow.Author.Tests.{ne_eqb, le-leb, lt-leb}
use Rattle.tables.specs.Bytes.{byte}
use Rattle.tables.specs.Walks.{every}
use Rattle.tables.specs.Layout.{place, finish_row}
use Rattle.rules.specs.Fields.{task_made, released}
use Rattle.rules.specs.Begin.{zero_tables, begin_step}
use Rattle.rules.specs.Sessions.{is_busy, is_released, itself, is_begin}
use Rattle.rules.specs.WrongCores.{refuses_all, always_zero, never_writes}
use Rattle.cases.proofs.CasesHold.{computed}
use Rattle.cases.proofs.CoresBreak.{refuses_all_breaks, always_zero_breaks, never_writes_breaks}
use Rattle.witness.specs.Schedule.{first}
use Rattle.witness.specs.ReleaseHalf.{takes_begin_of, no_begin_of, played_of, SessionOf, ReleaseOn, OnlyDemand2}
use Rattle.witness.proofs.Passes.{each}

-- a core that never writes comes to the tables that it was given
stays : (says : List ℕ → List ℕ → ℕ) (t : List ℕ) (rs : List (List ℕ)) → played_of (never_writes says) t rs ≡ t
unfolding played_of
stays says t [] = refl
stays says t (r ∷ rs) = stays says t rs

-- no task is made on zero tables
none_made : byte zero_tables 2 ≡ 0
unfolding zero_tables
none_made = refl

idle : (k : ℕ) → is_busy zero_tables k ≡ false
unfolding is_busy task_made every
idle zero = refl
idle (suc k) = rw (none_made, le-leb 1 (suc k) (omega arith), lt-leb (suc k) 0 (omega arith))

on_zero : (says : List ℕ → List ℕ → ℕ) → ReleaseOn (never_writes says) zero_tables
on_zero says b rs later s f k r i = ap (λ (t : List ℕ). is_busy t k) (stays says zero_tables (rs ++ later)) ∙ idle k

pub refuses_all_lem : (number : List ℕ → List ℕ → ℕ) → number zero_tables first ≢ 0 → OnlyDemand2 (refuses_all number)
refuses_all_lem number h = record { not_caught = on_zero number; shut_out = refuses_all_breaks number h }

pub always_zero_lem : OnlyDemand2 always_zero
always_zero_lem = record { not_caught = on_zero (λ t r. 0); shut_out = always_zero_breaks }

pub never_writes_lem : (says : List ℕ → List ℕ → ℕ) → OnlyDemand2 (never_writes says)
never_writes_lem says = record { not_caught = on_zero says; shut_out = never_writes_breaks says }

-- a core that refuses everything has no session on any tables
pub no_session : (number : List ℕ → List ℕ → ℕ) → ((t r : List ℕ) → number t r ≢ 0)
    → (t b : List ℕ) (rs : List (List ℕ)) → SessionOf (refuses_all number) t b rs → ⊥
unfolding takes_begin_of
no_session number h t b rs s =
    let (is_begin_lem, (zero-said, end)) = each _ s.begun in
    true≢false (subst (λ (c : Bool). c ≡ false) zero-said (ne_eqb (number t b) 0 (h t b)))

-- The release half can be broken: the core that always says 0 breaks it on tables where task 1 runs in finish 1, released.
unfoldable pub broken : List ℕ
broken = set (begin_step 3) (place (finish_row 1) 3) released

pub caught : ReleaseOn always_zero broken → ⊥
unfolding computed broken takes_begin_of no_begin_of played_of is_busy is_released is_begin
caught h = true≢false (h first [] [] (record { begun = refl; alone = refl }) 1 1 refl itself)
