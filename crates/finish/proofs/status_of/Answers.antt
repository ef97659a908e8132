use Rattle.std.proofs.Common.{rules}
use Rattle.tables.proofs.Tests.{tests}
use Rattle.finish.specs.Readings.{status_of}
use Rattle.finish.proofs.status_of.Goals as goal

pub returns-in_default : goal.returns-in_default
unfolding status_of
returns-in_default c = search (rules, tests) depth 20

pub returns-in-1-to-32 : goal.returns-in-1-to-32
unfolding status_of
returns-in-1-to-32 c = search (rules, tests) depth 20

pub returns-in_default-2 : goal.returns-in_default-2
unfolding status_of
returns-in_default-2 c = search (rules, tests) depth 20
