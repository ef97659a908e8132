use Rattle.std.proofs.Common.{refl}
use Rattle.answers.proofs.Joins.{refused_ne0}
use Rattle.rules.specs.Step.{step}
use Rattle.rules.proofs.Joins.{unchanged, changed}
use Rattle.adopt.proofs.adopt_orphans.Goals as goal

pub returns-in_err-g-clause-tables : goal.returns-in_err-g-clause-tables
returns-in_err-g-clause-tables c = unchanged _ _ _ c.in_err-g.ensures.answer (refused_ne0 _)

pub returns-clause-tables : goal.returns-clause-tables
unfolding step
returns-clause-tables c = changed _ _ _ c.in_ok-g.ensures.answer _ refl (rw c.in_ok-g.ensures.named at c.adopt.ensures)
