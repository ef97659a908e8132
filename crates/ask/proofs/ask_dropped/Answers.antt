use Rattle.std.proofs.Common.{refl}
use Rattle.rules.specs.Sent.{sent_by}
use Rattle.answers.proofs.Joins.{refused_ne0}
use Rattle.rules.proofs.Joins.{unchanged, changed}
use Rattle.ask.proofs.ask_dropped.Goals as goal

pub returns-in_err-m-clause-tables : goal.returns-in_err-m-clause-tables
returns-in_err-m-clause-tables c = unchanged _ _ _ c.in_err-m.ensures.answer (refused_ne0 _)

pub returns-clause-answer : goal.returns-clause-answer
unfolding sent_by
returns-clause-answer c = (c.in_ok-m.ensures.answer, refl)

pub returns-clause-tables : goal.returns-clause-tables
returns-clause-tables c = changed _ _ _ c.in_ok-m.ensures.answer _ refl (rw c.in_ok-m.ensures.named at c.ask.ensures)
