use Rattle.std.proofs.Common.{refl}
use Rattle.answers.proofs.Joins.{refused_ne0}
use Rattle.rules.proofs.Joins.{unchanged, changed}
use Rattle.cancel.proofs.cancel_column.Goals as goal

pub returns-in_err-finish-clause-tables : goal.returns-in_err-finish-clause-tables
returns-in_err-finish-clause-tables c = unchanged _ _ _ c.in_err-finish.ensures.answer (refused_ne0 _)

pub returns-clause-tables : goal.returns-clause-tables
returns-clause-tables c = changed _ _ _ c.in_ok-finish.ensures.answer _ refl (rw (c.in_ok-finish.ensures.named.0, c.in_ok-finish.ensures.named.1) at c.cancel.ensures.tables)
