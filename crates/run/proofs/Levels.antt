-- Levels and children, read from the bytes, are those of the tree that the tasks' spawners make.
use mathlib.Core.Path.{◌≡◌, ap, ◌∙◌}
use mathlib.Core.Bool.{true}
use mathlib.Core.List.{List}
use Prim.Native.Nat.{ℕ, ◌≤◌, ◌<◌}
use native.Mathlib.Omega.{arith}
use borrow.Author.Tests.{ltb-true}
use Rattle.tables.proofs.Walks.{every_each}
use Rattle.rules.specs.Fields.{tasks_made}
use Rattle.promises.specs.View.{view}
use Rattle.promises.proofs.Rows.{read_tasks_made, read_task_maker}
use Rattle.promises.proofs.Good.{Good, as_seen, tasks_below}
use Rattle.plan.specs.declared.Plan.{Plan}
use Rattle.plan.specs.Tree.{level_of, children_of}
use Rattle.growth.specs.Tree.{level_same, children_same}
use Rattle.acts.specs.Acts.{spawner, spawns_more}

module _ {t : List ℕ} (good : Good t) where
  abbrev maker : ℕ → ℕ
  maker = (view t).tasks.maker

  abbrev made : ℕ
  made = (view t).tasks.made

  maker_read : (k : ℕ) → 0 < k → k ≤ made → spawner t k ≡ maker k
  maker_read k z l = read_task_maker (as_seen good) k z (omega (arith, tasks_below good))

  -- a task that has to spawn more is above the last level, with fewer children than the width
  pub spawns_below : (p : Plan) (k : ℕ) → 0 < k → k ≤ made → spawns_more p t k ≡ true → (level_of maker p.levels k < p.levels) × (children_of maker made k < p.width)
  unfolding spawns_more
  spawns_below p k z l e =
      let h = every_each _ e in
      let level = level_same maker (spawner t) made maker_read (λ x y m. (good.inv.task_ranges x y m).5) p.levels k z l in
      let children : children_of (spawner t) (tasks_made t) k ≡ children_of maker made k =
      ap (λ (n : ℕ). children_of (spawner t) n k) (read_tasks_made (as_seen good)) ∙ children_same maker (spawner t) made maker_read made k (omega arith) in
      omega (arith, level, children, ltb-true (level_of (spawner t) p.levels k) p.levels h.0, ltb-true (children_of (spawner t) (tasks_made t) k) p.width h.1.0)
