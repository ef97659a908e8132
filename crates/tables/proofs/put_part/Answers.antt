use mathlib.Core.Path.{ap, ◌∙◌}
use native.Mathlib.Omega.{arith}
use lib.ListN.{length}
use Rattle.tables.specs.Bytes.{write}
use Rattle.tables.proofs.Writes.{part_back}
use Rattle.tables.proofs.put_part.Goals as goal

pub returns : goal.returns
returns c =
    part_back _ _ _ _ _ (ap length c.copy_from_slice.ensures.after) (omega arith) c.requires
    ∙ ap (write c.args.t.now c.args.at) c.copy_from_slice.ensures.after
