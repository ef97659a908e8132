use lib.Seq.{get_or-drop}
use Rattle.rules.specs.Quiet.{is_running}
use Rattle.messages.proofs.is_running.Goals as goal

pub returns : goal.returns
unfolding is_running
returns c = rw (get_or-drop, c.has_status.ensures)
