use Rattle.std.proofs.Common.{◌≡◌}
use Rattle.plan.specs.Tree.{tree_size}
use Rattle.plan.proofs.tree_size.Given as goal

abbrev pub invariant-loop-level : goal.invariant-loop-level
invariant-loop-level l = l.tasks ≡ tree_size l.width l._level
