use Rattle.std.proofs.Common.{rules, arith, sym, append-nil}
use Rattle.lines.specs.Lines as lines
use Rattle.lines.proofs.Steps.{steps_more}
use Rattle.lines.proofs.put_steps.Goals as goal

pub loop-i-init : goal.loop-i-init
unfolding lines.step_lines
loop-i-init g c = record { text = sym (append-nil _); most = omega arith }

pub loop-i-preserved : goal.loop-i-preserved
loop-i-preserved g c = record { text = steps_more _ _ _ _ _ _ c.loop-i.invariant.text c.part.ensures c.put_step.ensures.written; most = search rules }
