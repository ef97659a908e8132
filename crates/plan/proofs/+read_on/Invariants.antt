use Rattle.std.proofs.Common.{length}
use Rattle.plan.proofs.+read_on.Given as goal

abbrev pub decreases-read_on : goal.decreases-read_on
decreases-read_on l = length l.line.now
