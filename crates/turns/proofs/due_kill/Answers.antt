use Rattle.turns.proofs.Order.{kill_not, kill-refused, kill-taken}
use Rattle.turns.proofs.due_kill.Goals as goal

pub returns-then-not-kill_reached : goal.returns-then-not-kill_reached
returns-then-not-kill_reached c = kill_not _ _ _ _ c.kill_reached.ensures c.if-not-kill_reached.true

pub returns-then-kill-ne0 : goal.returns-then-kill-ne0
returns-then-kill-ne0 c = kill-refused _ _ _ _ c.kill_reached.ensures c.if-not-kill_reached.false _ c.into.ensures _ _ c.play-kill.ensures.played c.play-kill.ensures.tables c.if-kill-ne0.true

pub returns : goal.returns
returns c = kill-taken _ _ _ _ c.kill_reached.ensures c.if-not-kill_reached.false _ c.into.ensures _ _ c.play-kill.ensures.played c.play-kill.ensures.tables c.if-kill-ne0.false
