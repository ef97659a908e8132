use Rattle.std.proofs.Common.{refl, [], ◌∷◌, ◌∙◌}
use Rattle.rules.specs.Action.{action_of, action_named, only0}
use Rattle.finish.proofs.Entries.{tables_wrong, both_right, wrong_says, wrong_keeps, right_says, right_takes}
use Rattle.finish.proofs.finish_begin.Goals as goal

pub returns-in_default : goal.returns-in_default
returns-in_default c = let w = tables_wrong _ (9 ∷ c.args.places ∷ 0 ∷ 0 ∷ []) c.in_default.ensures.cases in (c.into.ensures ∙ wrong_says _ _ w, wrong_keeps _ _ w)

pub returns : goal.returns
unfolding action_of action_named only0
returns c =
    let tables = c.in-Some.ensures.cases in
    let w = both_right _ (9 ∷ c.args.places ∷ 0 ∷ 0 ∷ []) tables.long refl in (
      right_says _ _ _ w (c.number_of.ensures ∙ (rw tables.same at c.begin_action.ensures.answer)),
      right_takes _ _ _ w (rw tables.same at c.begin_action.ensures.tables),
    )
