-- What a taken spawn has room for.
use mathlib.Core.Path.{◌≡◌}
use mathlib.Core.Bool.{false}
use mathlib.Core.List.{List}
use Prim.Native.Nat.{ℕ, ◌<◌}
use borrow.Author.Tests.{leb-false}
use Rattle.rules.specs.Fields.{tasks_made}
use Rattle.rules.specs.Action.{spawn}
use Rattle.rules.specs.Messages.{slots_full}
use Rattle.rules.specs.Refusals.{no_room, step_answer}
use Rattle.rules.proofs.Taken.{neither, step-taken}

-- A spawn that is taken has room for its task and its message.
pub spawn_room : (t : List ℕ) (k p : ℕ) → step_answer t (spawn k p) ≡ 0 → (tasks_made t < 255) × (slots_full t ≡ false)
unfolding no_room
spawn_room t k p h =
    let n = neither _ _ (step-taken t (spawn k p) h).room in
    (leb-false 255 (tasks_made t) n.0, n.1)
