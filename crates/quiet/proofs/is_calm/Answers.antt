use Rattle.std.proofs.Common.{rules}
use Rattle.tables.specs.Walks.{every}
use Rattle.tables.proofs.Tests.{tests}
use Rattle.rules.specs.Quiet.{calm_book}
use Rattle.quiet.proofs.Calm.{whole_book}
use Rattle.quiet.proofs.is_calm.Goals as goal

pub returns-then-not-under_repair : goal.returns-then-not-under_repair
unfolding calm_book every
returns-then-not-under_repair c = λ f. rw (whole_book _ c.told-b) (search (rules, tests))

pub returns-else-not-under_repair : goal.returns-else-not-under_repair
unfolding calm_book every
returns-else-not-under_repair c = λ f. rw (whole_book _ c.told-b) (search (rules, tests))
