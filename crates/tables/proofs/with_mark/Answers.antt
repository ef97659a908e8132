use native.Mathlib.Omega.{arith}
use mathlib.Core.Path.{sym}
use Rattle.tables.proofs.Bits.{set_or, shift_one}
use Rattle.tables.proofs.with_mark.Goals as goal

pub returns : goal.returns
returns c = rw (shift_one _ c.requires) (sym (set_or _ _ (omega arith) c.requires))
