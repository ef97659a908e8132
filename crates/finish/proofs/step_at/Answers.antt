use Rattle.std.proofs.Common.{arith, ◌∙◌}
use Rattle.finish.proofs.Entries.{short_wrong, record_front, wrong_says, wrong_keeps}
use Rattle.finish.proofs.step_at.Goals as goal

pub returns-in_default : goal.returns-in_default
returns-in_default c = let w = short_wrong _ _ _ (omega (arith, c.in_default.ensures.lookup.0)) in (c.into.ensures ∙ wrong_says _ _ w, wrong_keeps _ _ w)

pub returns-then-rest-lt-RECORD : goal.returns-then-rest-lt-RECORD
returns-then-rest-lt-RECORD c =
    let w = short_wrong _ c.args.schedule.now c.args.at (omega (arith, c.in-Some.ensures.lookup.0.3)) in
    (c.into-then-rest-lt-RECORD.ensures ∙ wrong_says _ _ w, wrong_keeps _ _ w)

pub returns : goal.returns
returns c = rw (record_front c.args.t.now c.args.schedule.now c.args.at c.in-Some.rest.now c.in-Some.ensures.lookup.0.2) at c.finish_step.ensures
