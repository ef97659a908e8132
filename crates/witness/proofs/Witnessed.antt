-- The schedule is computed once, over `answer` and `step` themselves.
use mathlib.Core.Path.{◌≡◌, refl}
use mathlib.Core.Bool.{Bool, true, false, not, false≢true}
use mathlib.Core.List.{List, [], ◌∷◌}
use Prim.Native.Nat.{ℕ}
use lib.Dec.{eqb}
use borrow.Author.Tests.{eqb-true}
use Rattle.tables.specs.Bytes.{byte}
use Rattle.tables.specs.Walks.{every}
use Rattle.tables.specs.Layout.{place, slot_row}
use Rattle.rules.specs.Fields.{dead, task_finish, is_adopted, ghost_byte, live, parent, finish_made}
use Rattle.rules.specs.Begin.{zero_tables}
use Rattle.rules.specs.Step.{after}
use Rattle.rules.specs.Quiet.{quiet, running_tasks}
use Rattle.rules.specs.Sessions.{is_busy, is_released, LiesIn, itself, nested, is_open, survives, is_begin, takes_begin, no_begin}
use Rattle.cases.proofs.CasesHold.{computed}
use Rattle.witness.specs.Schedule.{first, to_ghost, to_reply, to_calm, to_release, lost, ghosted, replied, calmed, whole, at, Witness}
use Rattle.witness.proofs.Passes.{goes, went, went_on, each}

-- what holds after each stretch, and that the next one goes on from there
unfoldable released_then : List ℕ → Bool
released_then t = every (is_released t 1 ∷ eqb (running_tasks t) 0 ∷ quiet t ∷ [])

unfoldable calm_then : List ℕ → Bool
calm_then t =
    every
    (quiet t ∷ is_open t 1 ∷ is_open t 2 ∷ survives t 2 ∷ eqb (live t 2 1 2) 1 ∷ is_busy t 4
    ∷ eqb (task_finish t 4) 2 ∷ finish_made t 2 ∷ eqb (parent t 2) 1
    ∷ not (is_released t 1) ∷ goes t to_release released_then ∷ [])

unfoldable reply_then : List ℕ → Bool
reply_then t =
    every (eqb (byte t (place (slot_row 0) 0)) 11 ∷ eqb (byte t (place (slot_row 0) 5)) 1 ∷ goes t to_calm calm_then ∷ [])

unfoldable ghost_then : List ℕ → Bool
ghost_then t = every (eqb (is_adopted t 2) 1 ∷ eqb (ghost_byte t 1 0) 2 ∷ goes t to_reply reply_then ∷ [])

unfoldable lost_then : List ℕ → Bool
lost_then t = every (dead t 1 ∷ goes t to_ghost ghost_then ∷ [])

-- the begin is taken, and no other record is one
begins : takes_begin zero_tables first ≡ true
unfolding computed takes_begin is_begin
begins = refl

alone : no_begin (after zero_tables first) whole ≡ true
unfolding computed no_begin takes_begin is_begin
alone = refl

-- the whole schedule with every rule of document 01 opened, as the cases are; refl told its `a` computes it fewer times
all_computed : goes (after zero_tables first) lost lost_then ≡ true
unfolding computed goes lost_then ghost_then reply_then calm_then released_then is_released is_busy is_open survives
all_computed = refl {a = true}

-- finish 2 lies in finish 1, and task 4 in finish 2
task_lies_in : (t : List ℕ) → task_finish t 4 ≡ 2 → finish_made t 2 ≡ true → parent t 2 ≡ 1 → LiesIn t 1 (task_finish t 4)
task_lies_in t f made p = rw f (nested made (rw p itself))

not_true : (c : Bool) → not c ≡ true → c ≡ false
not_true true h = absurd (false≢true h)
not_true false h = refl

pub witnessed : Witness
unfolding at lost_then ghost_then reply_then calm_then released_then
witnessed =
    let start = after zero_tables first in
    let (taken1, holds1) = went start lost lost_then all_computed in
    let (is_dead, (next1, end1)) = each _ holds1 in
    let (taken2, holds2) = went_on start lost to_ghost ghost_then taken1 next1 in
    let (is-adopted, (ghost, (next2, end2))) = each _ holds2 in
    let (taken3, holds3) = went_on start ghosted to_reply reply_then taken2 next2 in
    let (tag, (number, (next3, end3))) = each _ holds3 in
    let (taken4, holds4) = went_on start replied to_calm calm_then taken3 next3 in
    let (calm4, (open1, (open2, (survivor2, (cell, (busy4, (finish4, (made, (parent2, (waits, (next4, end4))))))))))) = each _ holds4 in
    let (taken5, holds5) = went_on start calmed to_release released_then taken4 next4 in
    let (released5, (none5, (quiet5, end5))) = each _ holds5 in
    record {
      begun = begins;
      alone = alone;
      taken = taken5;
      place_lost = is_dead;
      adopted = eqb-true _ 1 is-adopted;
      is_ghost = eqb-true _ 2 ghost;
      reply = eqb-true _ 11 tag;
      reply_says = eqb-true _ 1 number;
      calm = calm4;
      open_1 = open1;
      open_2 = open2;
      survivor = survivor2;
      still_live = eqb-true _ 1 cell;
      busy = busy4;
      lies_in = task_lies_in _ (eqb-true _ 2 finish4) made (eqb-true _ 1 parent2);
      unreleased = not_true _ waits;
      released = released5;
      none_runs = eqb-true _ 0 none5;
      is_quiet = quiet5;
    }
