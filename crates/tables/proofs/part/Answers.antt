use mathlib.Core.Path.{◌∙◌}
use Prim.Native.Nat.{◌+◌}
use native.Mathlib.Omega.{arith}
use Rattle.tables.proofs.Writes.{part_lent}
use Rattle.tables.proofs.part.Goals as goal

pub returns : goal.returns
returns g c = (rw c.unwrap.ensures at c.try_into.ensures).1.same ∙ part_lent c.args.t.now c.args.at (c.args.at + g.row.N) g.row.N (omega arith)
