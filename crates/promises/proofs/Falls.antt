-- The work left falls at every deliver, adopt, cancel and ask that is taken.
use mathlib.Core.Path.{◌≡◌}
use mathlib.Core.Bool.{true}
use mathlib.Core.List.{List}
use Prim.Native.Nat.{ℕ, ◌<◌}
use Rattle.rules.specs.Action.{Action}
use Rattle.rules.specs.Refusals.{answer}
use Rattle.rules.specs.Step.{after}
use Rattle.model.specs.Work.{work}
use Rattle.model.proofs.Falls.{settle_falls}
use Rattle.promises.specs.View.{view}
use Rattle.promises.specs.Settling.{record_of, is_settling, Falls}
use Rattle.promises.proofs.Good.{Good}
use Rattle.promises.proofs.ActsMove.{good_settles}
use Rattle.promises.proofs.Demand3Holds.{session_good}

pub good_falls : (t : List ℕ) → Good t → (x : Action) → is_settling x ≡ true → answer t (record_of x) ≡ 0 → work (view (after t (record_of x))) < work (view t)
good_falls t good x settling done = let m = good_settles t good x settling done in rw m.1.is (settle_falls good.inv m.2)

pub falls : Falls
falls = ((λ t. work (view t)), λ t b rs s. good_falls _ (session_good s))
