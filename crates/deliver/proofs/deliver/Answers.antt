use Rattle.std.proofs.Common.{sym, ◌∙◌}
use Rattle.deliver.proofs.Taken.{taken_fits, gone_step, gone_sent, kept_step, kept_sent}
use Rattle.deliver.proofs.deliver.Goals as goal

pub returns-then-is_discarded-clause-tables : goal.returns-then-is_discarded-clause-tables
returns-then-is_discarded-clause-tables c = gone_step _ _ _ c.requires.message _ (sym c.is_discarded.ensures ∙ c.if-is_discarded.true) c.empty_slot.ensures

pub returns-then-is_discarded-clause-sent : goal.returns-then-is_discarded-clause-sent
returns-then-is_discarded-clause-sent c = gone_sent _ _ _ c.requires.message (sym c.is_discarded.ensures ∙ c.if-is_discarded.true)

pub deliver-requires-clause-message_fits : goal.deliver-requires-clause-message_fits
deliver-requires-clause-message_fits c = taken_fits _ _ _ c.requires.message c.requires.taken (sym c.is_discarded.ensures ∙ c.if-is_discarded.false)

pub returns-clause-tables : goal.returns-clause-tables
returns-clause-tables c = kept_step _ _ _ c.requires.message _ (sym c.is_discarded.ensures ∙ c.if-is_discarded.false) c.deliver.ensures.tables

pub returns-clause-sent : goal.returns-clause-sent
returns-clause-sent c = kept_sent _ _ _ c.requires.message _ (sym c.is_discarded.ensures ∙ c.if-is_discarded.false) c.deliver.ensures.sent
