use Rattle.messages.proofs.Slots.{report_put}
use Rattle.messages.proofs.put_report.Goals as goal

pub returns : goal.returns
returns c = report_put _ _ _ _ _ _ _ _ c.slot-at.ensures.0 (rw c.into.ensures at c.put_part.ensures) c.put_part-2.ensures
