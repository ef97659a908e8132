use Rattle.rules.specs.Kill.{kill_finish}
use Rattle.kill.proofs.Keeps.{finish_keeps}
use borrow.Author.Rules.{rules}
use Rattle.kill.proofs.kill_finishes.Goals as goal

pub returns : goal.returns
unfolding kill_finish
returns c = rw (← c.from.ensures) (c.lend_parts.ensures (kill_finish c.args.p) 1 (finish_keeps _) (λ u y z j h due out whole post. search rules))
