use native.Mathlib.Omega.{arith}
use borrow.Author.Rules.{rules}
use Rattle.run.proofs.Running.{running_none, running_room, running-counts, running-next, running_ends}
use Rattle.run.proofs.grow.Goals as goal

pub loop-step-init : goal.loop-step-init
loop-step-init c = running_none _ _ _ _ (search rules) (search rules)

pub note_step-requires : goal.note_step-requires
note_step-requires c =
    let room = running_room c.requires.0 c.loop-step.invariant c.in-Some.ensures in
    record { room = (room.0, search rules); is_byte = omega (arith, room.1) }

pub loop-step-smaller : goal.loop-step-smaller
loop-step-smaller c =
    let run = c.loop-step.invariant in
    omega (
      arith,
      (running_room c.requires.0 run c.in-Some.ensures).0,
      running-counts c.requires.0 run c.in-Some.ensures c.note_step.ensures.log c.note_step.ensures.tally,
    )

pub loop-step-preserved : goal.loop-step-preserved
loop-step-preserved c =
    running-next c.requires.0 c.loop-step.invariant c.in-Some.ensures c.note_step.ensures.log c.note_step.ensures.tally c.next_step.array_long

pub returns : goal.returns
returns c = running_ends c.requires.0 c.loop-step.invariant c.in_default.ensures
