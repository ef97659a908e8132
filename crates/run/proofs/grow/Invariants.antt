use Prim.Native.Nat.{◌-◌}
use Rattle.run.proofs.Running.{Running}
use Rattle.run.proofs.grow.Given as goal

abbrev pub invariant-loop-step : goal.invariant-loop-step
invariant-loop-step l = Running l.p l.initial.t l.initial.log l.t l.log l.tally

abbrev pub decreases-loop-step : goal.decreases-loop-step
decreases-loop-step l = 2089 - l.tally.steps
