use Rattle.rules.specs.Kill.{kill_local}
use Rattle.kill.proofs.Keeps.{local_keeps}
use borrow.Author.Rules.{rules}
use Rattle.kill.proofs.kill_locals.Goals as goal

pub returns : goal.returns
unfolding kill_local
returns c = c.lend_parts.ensures (kill_local c.args.p) 0 (local_keeps _) (λ u y z j h due out whole post. search rules)
