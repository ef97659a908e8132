use Rattle.std.proofs.Common.{refl}
use Rattle.answers.proofs.Joins.{refused_ne0}
use Rattle.rules.specs.Step.{step}
use Rattle.rules.proofs.Joins.{unchanged, changed}
use Rattle.kill.proofs.kill_place.Goals as goal

pub returns-in_err-q-clause-tables : goal.returns-in_err-q-clause-tables
returns-in_err-q-clause-tables c = unchanged _ _ _ c.in_err-q.ensures.answer (refused_ne0 _)

pub returns-clause-tables : goal.returns-clause-tables
unfolding step
returns-clause-tables c = changed _ _ _ c.in_ok-q.ensures.answer _ refl (rw c.in_ok-q.ensures.named at c.kill.ensures)
