use Rattle.locals.proofs.Counts.{one_none}
use Rattle.locals.proofs.one_at.Goals as goal

pub returns-else-h-lt8 : goal.returns-else-h-lt8
returns-else-h-lt8 c = one_none _ c.if-h-lt8.false
