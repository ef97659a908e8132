use Rattle.std.proofs.Common.{◌∙◌}
use Rattle.rules.specs.Action.{action_of}
use Rattle.finish.proofs.Entries.{tables_wrong, record_wrong, both_right, wrong_says, wrong_keeps, right_says, right_takes}
use Rattle.finish.proofs.finish_step.Goals as goal

pub returns-in_default : goal.returns-in_default
returns-in_default c = let w = tables_wrong _ c.args.action.now c.in_default.ensures.cases in (c.into.ensures ∙ wrong_says _ _ w, wrong_keeps _ _ w)

pub returns-in_default-try_from : goal.returns-in_default-try_from
returns-in_default-try_from c =
    let w = record_wrong _ c.args.action.now c.in-Some.ensures.cases.long c.in_default-try_from.ensures.1 in
    (c.into-in_default-try_from.ensures ∙ wrong_says _ _ w, c.in-Some.ensures.cases.same ∙ wrong_keeps _ _ w)

pub returns : goal.returns
unfolding action_of
returns c =
    let tables = c.in-Some.ensures.cases in
    let four = c.in-Ok.ensures.1 in
    let w = both_right _ c.args.action.now tables.long four.long in (
      right_says _ _ _ w (c.number_of.ensures ∙ (rw (tables.same, four.same) at c.act_on.ensures.answer)),
      right_takes _ _ _ w (rw (tables.same, four.same) at c.act_on.ensures.tables),
    )
