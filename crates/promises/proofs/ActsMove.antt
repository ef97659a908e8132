-- On good tables the four bytes of an action are its record: they are taken where refusals 2 to 6 do not apply, and what comes after them
-- is good and is what the model's move gives.
use mathlib.Core.Path.{◌≡◌, refl, sym, subst}
use mathlib.Core.Bool.{true, false}
use mathlib.Core.List.{List}
use Prim.Native.Nat.{ℕ}
use lib.ListN.{length}
use Rattle.tables.specs.Walks.{every, some_of}
use Rattle.rules.specs.Action.{Action, unknown, spawn, open_finish, end, deliver, kill, adopt, cancel, ask, begin, only0, action_named, action_of}
use Rattle.rules.specs.Refusals.{wrong_length, no_action, not_there, wrong_place, not_ready, must_wait, no_room, first_of, step_refusals, refusals, answer}
use Rattle.rules.specs.Step.{step, after}
use Rattle.rules.specs.Sessions.{is_begin, takes_begin}
use Rattle.rules.proofs.Taken.{StepTaken, taken}
use Rattle.model.specs.Base.Cases.{both}
use Rattle.model.specs.State.{State}
use Rattle.model.specs.Step
use Rattle.model.specs.Step.{Settle, Spawn}
use Rattle.promises.specs.View.{view}
use Rattle.promises.specs.Settling.{record_of, is_settling}
use Rattle.promises.proofs.Moved.{Moved}
use Rattle.promises.proofs.StepSpawn.{spawn_moves}
use Rattle.promises.proofs.StepEnd.{end_moves}
use Rattle.promises.proofs.StepRepair.{kill_moves, adopt_moves, cancel_moves, ask_moves}
use Rattle.promises.proofs.Steps.{deliver_moves}
use Rattle.promises.proofs.Good.{Good}
use Rattle.promises.proofs.SoundTables.{good_held}
use Rattle.promises.proofs.Wanted.{good_wanted}
use Rattle.promises.proofs.Never.{good_ranges}
use Rattle.promises.proofs.Session.{Follows, follows}

pub record_is : (x : Action) → action_of (record_of x) ≡ x
unfolding record_of action_of action_named only0
record_is unknown = refl
record_is (spawn k p) = refl
record_is (open_finish k) = refl
record_is (end k) = refl
record_is (deliver s) = refl
record_is (kill p) = refl
record_is (adopt f) = refl
record_is (cancel f v) = refl
record_is (ask f v j) = refl
record_is (begin n) = refl

record_length : (x : Action) → length (record_of x) ≡ 4
unfolding record_of
record_length unknown = refl
record_length (spawn k p) = refl
record_length (open_finish k) = refl
record_length (end k) = refl
record_length (deliver s) = refl
record_length (kill p) = refl
record_length (adopt f) = refl
record_length (cancel f v) = refl
record_length (ask f v j) = refl
record_length (begin n) = refl

module _ (t : List ℕ) (x : Action) (zero : answer t (record_of x) ≡ 0) where
  own : StepTaken t x
  own = subst (StepTaken t) (record_is x) (taken t (record_of x) zero).own

  after_is : after t (record_of x) ≡ step t x
  unfolding after
  after_is = rw (zero, record_is x) refl

  by_step : {R : State → Type 0} → (StepTaken t x → Moved R (step t x)) → Moved R (after t (record_of x))
  by_step {R} moves = subst (Moved R) (sym after_is) (moves own)

module _ (t : List ℕ) (good : Good t) where
  -- 7, 1, 8 and 9 do not apply
  pub good_taken : (x : Action) → no_action x ≡ false → not_there t x ≡ false → wrong_place t x ≡ false → not_ready t x ≡ false → must_wait t x ≡ false → no_room t x ≡ false
      → answer t (record_of x) ≡ 0
  unfolding answer refusals step_refusals first_of wrong_length some_of
  good_taken x named there right_place ready no_wait room =
      rw (good.whole, record_length x, record_is x, named, good_ranges t good x, there, right_place, ready, no_wait, room, good_wanted t good x there ready) refl

  pub good_next : (x : Action) → is_begin x ≡ false → Follows t (after t (record_of x))
  unfolding takes_begin every
  good_next x other = follows good (record_of x) (rw (record_is x, other) refl)

  pub good_settles : (x : Action) → is_settling x ≡ true → answer t (record_of x) ≡ 0 → Moved (Settle (view t)) (after t (record_of x))
  unfolding is_settling step
  good_settles unknown s e = both s refl
  good_settles (spawn k p) s e = both s refl
  good_settles (open_finish k) s e = both s refl
  good_settles (end k) s e = both s refl
  good_settles (deliver k) s e = by_step t (deliver k) e (deliver_moves (good_held t good) k)
  good_settles (kill p) s e = both s refl
  good_settles (adopt f) s e = by_step t (adopt f) e (adopt_moves (good_held t good) f)
  good_settles (cancel f v) s e = by_step t (cancel f v) e (cancel_moves (good_held t good) f v)
  good_settles (ask f v j) s e = by_step t (ask f v j) e (ask_moves (good_held t good) f v j)
  good_settles (begin n) s e = both s refl

  pub good_spawns : (k p : ℕ) → answer t (record_of (spawn k p)) ≡ 0 → Moved (Spawn (view t) k p) (after t (record_of (spawn k p)))
  unfolding step
  good_spawns k p e = by_step t (spawn k p) e (spawn_moves (good_held t good) k p)

  pub good_ends : (k : ℕ) → answer t (record_of (end k)) ≡ 0 → Moved (Step.End (view t) k) (after t (record_of (end k)))
  unfolding step
  good_ends k e = by_step t (end k) e (end_moves (good_held t good) k)

  pub good_kills : (p : ℕ) → answer t (record_of (kill p)) ≡ 0 → Moved (Step.Kill (view t) p) (after t (record_of (kill p)))
  unfolding step
  good_kills p e = by_step t (kill p) e (λ own. kill_moves (good_held t good) p own good.inv.status_made good.inv.blank_finishes good.inv.cell_places)
