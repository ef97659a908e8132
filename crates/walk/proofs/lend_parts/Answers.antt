use mathlib.Core.Path.{refl}
use Rattle.std.proofs.Common.{arith}
use Rattle.tables.proofs.Changes.{change_none}
use Rattle.walk.proofs.Turn.{turn_lent}
use Rattle.walk.proofs.lend_parts.Goals as goal

pub loop-j-init : goal.loop-j-init
loop-j-init g c = λ f i keeps makes. change_none f _ _ _ _

pub loop-j-preserved : goal.loop-j-preserved
loop-j-preserved g c = λ f i keeps makes.
    turn_lent f _ keeps _ _ _ _ _ _ _ c.loop-j-test.true (omega arith) (c.loop-j.invariant f i keeps makes) _ _ _ refl refl
    (λ due out whole. makes _ _ _ _ c.loop-j-test.true due out whole c.change.ensures) refl
