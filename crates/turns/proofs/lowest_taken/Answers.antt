use Rattle.turns.proofs.Taken.{try_stop, try_pass, try_done}
use Rattle.turns.proofs.lowest_taken.Goals as goal

pub returns-then-tried-eq0 : goal.returns-then-tried-eq0
returns-then-tried-eq0 c =
    let inv = c.loop-i.invariant in
    let plays = c.play-tried.ensures in
    try_stop _ _ _ inv.1 _ inv.0 _ c.record.ensures _ _ plays.played plays.tables _ (rw (c.count-i-end.ensures.0) at c.loop-i-test.true) c.if-tried-eq0.true

pub loop-i-preserved : goal.loop-i-preserved
loop-i-preserved c =
    let inv = c.loop-i.invariant in
    let plays = c.play-tried.ensures in
    try_pass _ _ _ inv.1 _ inv.0 _ c.record.ensures _ _ plays.played plays.tables c.if-tried-eq0.false

pub returns : goal.returns
returns c =
    let inv = c.loop-i.invariant in
    try_done _ _ _ inv.1 _ inv.0 _ (rw (c.count-i-end.ensures.0) at c.loop-i-test.false)
