-- Trees of tasks: made tasks are 1 to a number, `maker` gives each its spawner, 0 where nobody spawned it.
use Rattle.std.specs.Prelude.{cond, ℕ, zero, suc, ◌+◌, ◌*◌, eqb}
use Rattle.tables.specs.Bits.{digit}

-- the tasks of a whole tree, by its width and levels
unfoldable pub tree_size : ℕ → ℕ → ℕ
tree_size w zero = 0
tree_size w (suc h) = 1 + w * tree_size w h

-- a task's level, counted to n + 1 at most: 1 where nobody spawned it, else one more than its spawner's
unfoldable pub level_of : (ℕ → ℕ) → ℕ → ℕ → ℕ
level_of maker zero k = 1
level_of maker (suc n) k = cond (eqb (maker k) 0) 1 (suc (level_of maker n (maker k)))

-- the children that task k has among tasks 1 to n
unfoldable pub children_of : (ℕ → ℕ) → ℕ → ℕ → ℕ
children_of maker zero k = 0
children_of maker (suc n) k = digit (eqb (maker (suc n)) k) + children_of maker n k
