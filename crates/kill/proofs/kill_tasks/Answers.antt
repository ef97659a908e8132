use Rattle.rules.specs.Kill.{kill_task}
use Rattle.kill.proofs.Keeps.{task_keeps}
use borrow.Author.Rules.{rules}
use Rattle.kill.proofs.kill_tasks.Goals as goal

pub returns : goal.returns
unfolding kill_task
returns c = rw (← c.from.ensures) (c.lend_parts.ensures (kill_task c.args.p) 1 (task_keeps _) (λ u y z j h due out whole post. search rules))
