use Rattle.run.proofs.Running.{plays_begin, plays_turn}
use Rattle.run.proofs.next_step.Goals as goal

pub returns-then-steps-eq0 : goal.returns-then-steps-eq0
returns-then-steps-eq0 c = plays_begin _ _ _ _ _ _ c.requires c.if-steps-eq0.true c.into.ensures c.play.ensures.played c.play.ensures.tables

pub returns : goal.returns
returns c = plays_turn _ _ _ _ _ c.if-steps-eq0.false c.turn.ensures
