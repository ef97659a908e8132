-- What a taken open has room for.
use mathlib.Core.Path.{◌≡◌}
use mathlib.Core.List.{List}
use Prim.Native.Nat.{ℕ, ◌<◌}
use borrow.Author.Tests.{leb-false}
use Rattle.rules.specs.Fields.{tasks_made, finishes_made}
use Rattle.rules.specs.Action.{open_finish}
use Rattle.rules.specs.Refusals.{no_room, step_answer}
use Rattle.rules.proofs.Taken.{neither, step-taken}

-- An open that is taken has room for its task and its finish.
pub open_room : (t : List ℕ) (k : ℕ) → step_answer t (open_finish k) ≡ 0 → (tasks_made t < 255) × (finishes_made t < 32)
unfolding no_room
open_room t k h =
    let n = neither _ _ (step-taken t (open_finish k) h).room in
    (leb-false 255 (tasks_made t) n.0, leb-false 32 (finishes_made t) n.1)
