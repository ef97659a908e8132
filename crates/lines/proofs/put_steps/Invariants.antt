use Rattle.std.proofs.Common.{◌≡◌, ◌≤◌, ◌+◌, ◌*◌, ◌++◌, length}
use Rattle.lines.specs.Lines.{step_lines}
use Rattle.lines.proofs.put_steps.Given as goal

abbrev pub invariant-loop-i : goal.invariant-loop-i
invariant-loop-i g l =
    record { text : l.out.bytes ≡ l.initial.out.bytes ++ step_lines l.log l.i; most : length l.out.bytes ≤ length l.initial.out.bytes + 20 * l.i }
