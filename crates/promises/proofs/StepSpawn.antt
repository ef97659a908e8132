-- A taken spawn and a taken open are moves of the model.
use mathlib.Core.Path.{◌≡◌, sym, ap, ◌∙◌}
use mathlib.Core.List.{List}
use Prim.Native.Nat.{ℕ, ◌<◌}
use native.Mathlib.Omega.{arith}
use borrow.Author.Tests.{eqb-true, eqb-false, eq-eqb, ltb-true, leb-false}
use Rattle.tables.proofs.Walks.{every_each, each_every}
use Rattle.rules.specs.Fields.{places, tasks_made, finishes_made, task_at, task_finish, task_sent, is_published, finish_status, task_made, in_session, is_main}
use Rattle.rules.specs.Action.{spawn, open_finish}
use Rattle.rules.specs.Messages.{lowest_empty}
use Rattle.rules.specs.Spawn.{is_first, spawn_step, spawn_wanted}
use Rattle.rules.specs.Open.{open_step}
use Rattle.rules.specs.Refusals.{not_there, wrong_place, not_ready, no_room, unwanted}
use Rattle.rules.proofs.Taken.{StepTaken, not-not, neither}
use Rattle.model.specs.Base.Cases.{bool_cases, both}
use Rattle.model.specs.State.{State}
use Rattle.model.specs.Effects.Spawn.{spawn_first, spawn_later}
use Rattle.model.specs.Effects.Open
use Rattle.model.specs.Step.{Spawn, Move, spawns_first, spawns_later, opens}
use Rattle.promises.proofs.Rows.{read_places, read_tasks_made, read_finishes_made, read_task_at, read_task_finish, read_task_sent, read_published, read_finish_status}
use Rattle.promises.proofs.Slots.{lowest_range, lowest_free}
use Rattle.promises.proofs.Held.{Held, finishes_made_most, task-fits}
use Rattle.promises.proofs.Moved.{Moved, task-runs}
use Rattle.promises.proofs.TieSpawn.{tie_spawn_first, tie_spawn_later, tie_open}

module _ {t : List ℕ} {a : State} (h : Held t a) (k : ℕ) where
  pub spawn_moves : (p : ℕ) → StepTaken t (spawn k p) → Moved (Spawn a k p) (spawn_step t k p)
  unfolding not_there wrong_place not_ready no_room unwanted spawn_step is_first is_main spawn_wanted in_session
  spawn_moves p taken =
      let s = h.seen in
      let there = every_each _ (not-not _ taken.there) in
      let runs = task-runs h k there.0 taken.ready in
      let k0 = runs.low in
      let fits = task-fits h k k0 runs.high in
      let k256 = fits.number in
      let room = neither _ _ taken.room in
      let made : a.tasks.made < 255 = omega (arith, leb-false 255 (tasks_made t) room.0, read_tasks_made s) in
      let inside : p < a.places = omega (arith, ltb-true p (places t) there.1.0, read_places s) in
      let away : a.tasks.at k ≡ p → ⊥ = λ e. eqb-false (task_at t k) p taken.right_place (read_task_at s k k0 k256 ∙ e) in
      let f = a.tasks.finish k in
      let f0 = fits.finish_low in
      let f33 : a.tasks.finish k < 33 = omega (arith, fits.finish_high, finishes_made_most h) in
      let is_finish : task_finish t k ≡ a.tasks.finish k = read_task_finish s k k0 k256 in
      let is_sent : task_sent t k ≡ a.tasks.sent k = read_task_sent s k k0 k256 in
      let i = lowest_empty t in
      let i128 = lowest_range s room.1 in
      let free = lowest_free s room.1 in
      let is_published_lem : is_published t (task_finish t k) ≡ a.finishes.published f = ap (is_published t) is_finish ∙ read_published s f f0 f33 in
      let is_status : finish_status t (task_finish t k) ≡ a.finishes.status f = ap (finish_status t) is_finish ∙ read_finish_status s f f0 f33 in
      let active : a.tasks.sent k ≡ 0 → a.finishes.status f ≡ 1 = λ e.
      sym is_status ∙ eqb-true (finish_status t (task_finish t k)) 1 (rw (eq-eqb (task_sent t k) 0 (is_sent ∙ e)) at (not-not (spawn_wanted t k) taken.wanted)) in
      bool_cases (is_first t k)
      (λ e. let first = every_each _ e in
      let main : a.tasks.sent k ≡ 0 = sym is_sent ∙ eqb-true (task_sent t k) 0 first.0 in
      let hidden : a.finishes.published f ≡ 0 = sym is_published_lem ∙ eqb-true (is_published t (task_finish t k)) 0 first.1.0 in
      rw e (spawn_first a k p i, tie_spawn_first s k k0 k256 made p i f0 f33 i128, spawns_first i runs inside away free main hidden (active main)))
      (λ e. rw e (
        spawn_later a k p i,
        tie_spawn_later s k k0 k256 made p i i128,
        spawns_later i runs inside away free (λ main.
            ((λ hidden. both (each_every _ (eq-eqb (task_sent t k) 0 (is_sent ∙ main), (eq-eqb (is_published t (task_finish t k)) 0 (is_published_lem ∙ hidden), tt))) e), active main)),
      ))

  pub open_moves : StepTaken t (open_finish k) → Moved (Move a) (open_step t k)
  unfolding not_there not_ready no_room
  open_moves taken =
      let s = h.seen in
      let runs = task-runs h k (not-not (task_made t k) taken.there) taken.ready in
      let room = neither _ _ taken.room in (
        Open.open_finish a k,
        tie_open s k runs.low (task-fits h k runs.low runs.high).number (omega (arith, leb-false 255 (tasks_made t) room.0, read_tasks_made s)) (omega (arith, leb-false 32 (finishes_made t) room.1, read_finishes_made s)),
        opens k runs,
      )
