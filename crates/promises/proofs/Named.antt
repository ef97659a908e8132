-- What a message in flight names, on good tables: a made finish; 1 to 6 a made task; 3 on places.
use mathlib.Core.List.{List}
use Prim.Native.Nat.{ℕ, ◌≤◌, ◌<◌}
use native.Mathlib.Omega.{arith}
use lib.Dec.{leb}
use borrow.Author.Tests.{leb-true, leb-false}
use Rattle.model.specs.Base.Cases.{bool_cases}
use Rattle.model.specs.State.{State, Message}
use Rattle.promises.specs.View.{view}
use Rattle.promises.proofs.Slots.{read_slots}
use Rattle.promises.proofs.Good.{Good, as_seen, places-below, tasks_below, finishes_below}

pub record Names (a : State) (m : Message) : Type 0 where
  pub finish_low : 0 < m.finish
  pub finish_high : m.finish < 33
  pub task : m.tag ≤ 6 → (0 < m.task) × (m.task < 256) × (a.tasks.maker m.task < 256)
  pub places : 3 ≤ m.tag → (m.from < 8) × (m.to < 8)

module _ {t : List ℕ} (good : Good t) (k : ℕ) (k128 : k < 128) where
  pub in_flight : k < (view t).slots
  in_flight = omega (arith, read_slots (as_seen good))

  module _ (some : 1 ≤ ((view t).slot k).tag) where
    abbrev m : Message
    m = (view t).slot k

    task : m.tag ≤ 6 → (0 < m.task) × (m.task < 256) × ((view t).tasks.maker m.task < 256)
    task h =
        let n = good.inv.names_task k in_flight some h in
        omega (arith, n.0, n.1, (good.inv.task_ranges m.task n.0 n.1).5, tasks_below good)

    places : 3 ≤ m.tag → (m.from < 8) × (m.to < 8)
    places l = bool_cases (leb m.tag 6)
        (λ e.
        let h = leb-true m.tag 6 e in
        let n = good.inv.names_task k in_flight some h in
        omega (arith, good.inv.names_pair k in_flight l h, good.inv.task_ranges m.task n.0 n.1, places-below good))
        (λ e. omega (arith, good.inv.names_places k in_flight (leb-false m.tag 6 e), places-below good))

    pub names : Names (view t) ((view t).slot k)
    names =
        let f = good.inv.names_finish k in_flight some in
        record { finish_low = f.0; finish_high = omega (arith, f.1, finishes_below good); task = task; places = places }
