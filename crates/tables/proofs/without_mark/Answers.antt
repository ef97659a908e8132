use native.Mathlib.Omega.{arith}
use Rattle.tables.proofs.Bits.{clear_sub, shift_one}
use Rattle.tables.proofs.without_mark.Goals as goal

pub overflow_sub-result : goal.overflow_sub-result
overflow_sub-result c = omega (arith, shift_one _ c.requires, clear_sub c.args.m _ c.requires, c.with_mark.ensures)

pub returns : goal.returns
returns c = omega (arith, shift_one _ c.requires, clear_sub c.args.m _ c.requires, c.with_mark.ensures)
