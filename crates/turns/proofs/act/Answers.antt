use Rattle.turns.proofs.Order.{act_none, act_plays}
use Rattle.turns.proofs.act.Goals as goal

pub returns-in_err-k : goal.returns-in_err-k
returns-in_err-k c = rw c.from_residual.ensures (act_none _ _ c.in_err-k.ensures)

pub returns : goal.returns
returns c = act_plays _ _ _ _ _ _ c.in_ok-k.ensures c.next_act-record.ensures c.play.ensures.played c.play.ensures.tables
