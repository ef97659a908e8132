use Rattle.std.proofs.Common.{arith}
use Rattle.tables.proofs.Changes.{change_none}
use Rattle.walk.proofs.Turn.{turn_written}
use Rattle.walk.proofs.write_parts.Goals as goal

pub loop-j-init : goal.loop-j-init
loop-j-init g c = λ f i keeps writes. change_none f _ _ _ _

pub loop-j-preserved : goal.loop-j-preserved
loop-j-preserved g c = λ f i keeps writes.
    turn_written f _ keeps _ _ _ _ _ _ _ c.loop-j-test.true (omega arith) (c.loop-j.invariant f i keeps writes)
    (λ due. writes _ _ _ c.loop-j-test.true due c.change.ensures)
