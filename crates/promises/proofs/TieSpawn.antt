-- Spawn, in its two ways, and open: the rule's tables are seen as the model's effect.
use mathlib.Core.List.{List}
use Prim.Native.Nat.{ℕ, suc, ◌+◌, ◌<◌}
use native.Mathlib.Numerals.{add-one}
use native.Mathlib.Omega.{arith}
use Rattle.rules.specs.Fields.{tasks_made, task_at, task_finish}
use Rattle.rules.specs.Messages.{publish, transit}
use Rattle.rules.specs.Spawn.{with_sent, first_spawn, later_spawn}
use Rattle.rules.specs.Open.{opened, open_step}
use Rattle.model.specs.State.{State}
use Rattle.model.specs.Effects.Spawn.{with_spawned, spawn_first, spawn_later}
use Rattle.model.specs.Effects.Open.{open_finish}
use Rattle.promises.proofs.Seen.{Seen}
use Rattle.promises.proofs.Rows.{read_tasks_made, read_finishes_made, read_task_at, read_task_finish, seen_tasks_made, seen_finishes_made, seen_task_status, seen_task_row, seen_finish_status, seen_finish_row}
use Rattle.promises.proofs.Slots.{seen_send}

module _ {t : List ℕ} {a : State} (s : Seen t a) (k : ℕ) (k0 : 0 < k) (k256 : k < 256) (room : a.tasks.made < 255) where
  -- the task blocks, and the new task
  seen_spawned : (p v : ℕ) → Seen (with_sent t k (suc a.tasks.made) (a.tasks.at k) p (a.tasks.finish k) v) (with_spawned k p v a)
  unfolding with_sent
  seen_spawned p v =
      let n = suc a.tasks.made in
      seen_task_row (seen_tasks_made (seen_task_status s k 6 k0 k256) n) n (a.tasks.at k) p (a.tasks.finish k) v 1 k (omega arith) (omega arith)

  pub tie_spawn_first : (p i : ℕ) → 0 < a.tasks.finish k → a.tasks.finish k < 33 → i < 128
      → Seen (first_spawn t k (tasks_made t + 1) (task_at t k) p (task_finish t k) i) (spawn_first a k p i)
  unfolding first_spawn
  tie_spawn_first p i f0 f33 h =
      rw (read_tasks_made s, add-one a.tasks.made, read_task_at s k k0 k256, read_task_finish s k k0 k256)
      (seen_send (seen_finish_status (seen_spawned p 1) (a.tasks.finish k) 2 f0 f33) i h (publish (a.tasks.finish k) (suc a.tasks.made)) tt)

  pub tie_spawn_later : (p i : ℕ) → i < 128 → Seen (later_spawn t k (tasks_made t + 1) (task_at t k) p (task_finish t k) i) (spawn_later a k p i)
  unfolding later_spawn
  tie_spawn_later p i h =
      rw (read_tasks_made s, add-one a.tasks.made, read_task_at s k k0 k256, read_task_finish s k k0 k256)
      (seen_send (seen_spawned p 2) i h (transit (a.tasks.finish k) (suc a.tasks.made) (a.tasks.at k) p) tt)

  pub tie_open : a.finishes.made < 32 → Seen (open_step t k) (open_finish a k)
  unfolding open_step opened
  tie_open more =
      let n = suc a.tasks.made in
      let g = suc a.finishes.made in
      rw (read_tasks_made s, add-one a.tasks.made, read_finishes_made s, add-one a.finishes.made, read_task_at s k k0 k256, read_task_finish s k k0 k256)
      (seen_finish_row (seen_task_row (seen_finishes_made (seen_tasks_made (seen_task_status s k 6 k0 k256) n) g) n (a.tasks.at k) (a.tasks.at k) g 5 0 k (omega arith) (omega arith))
      g (a.tasks.at k) k (a.tasks.finish k) 1 0 n (omega arith) (omega arith))
