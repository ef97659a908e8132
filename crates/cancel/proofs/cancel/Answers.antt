use Rattle.cancel.proofs.Laws.{cancel_room, slot_aside}
use Rattle.rules.specs.Cancel.{cancel_step}
use Rattle.rules.specs.Sent.{sent_by}
use Rattle.rules.specs.Step.{step}
use Rattle.cancel.proofs.cancel.Goals as goal

pub returns-clause-sent : goal.returns-clause-sent
unfolding sent_by
returns-clause-sent c = rw (c.close.ensures.sent, c.cancel_column.ensures)

pub returns-clause-tables : goal.returns-clause-tables
unfolding step cancel_step
returns-clause-tables c = rw (c.close.ensures.tables, c.cancel_column.ensures, c.slot_or_first-s.ensures) (slot_aside _ _ _ _ (cancel_room _ _ _ c.requires))
