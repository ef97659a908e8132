use mathlib.Core.Path.{sym, ◌∙◌}
use borrow.Author.Tests.{le-ltb}
use Rattle.tables.proofs.Bits.{marked_low, marked_high, bit_shift}
use Rattle.tables.proofs.is_marked.Goals as goal

pub returns-then-j-lt8 : goal.returns-then-j-lt8
returns-then-j-lt8 c = sym (marked_low _ _ c.if-j-lt8.true ∙ bit_shift _ _)

pub returns-else-j-lt8 : goal.returns-else-j-lt8
returns-else-j-lt8 c = le-ltb _ _ c.if-j-lt8.false ∙ sym (marked_high _ _ c.if-j-lt8.false)
