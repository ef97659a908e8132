use Rattle.std.proofs.Common.{◌≤◌, ◌*◌, length}
use Rattle.replay.proofs.play.Given as goal

abbrev pub invariant-loop-i : goal.invariant-loop-i
invariant-loop-i l = length l.out.bytes ≤ 63 * l.i
