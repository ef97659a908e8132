use Rattle.std.proofs.Common.{sym, ◌∙◌}
use Rattle.actions.proofs.Inside.{end_inside}
use Rattle.actions.proofs.act.Goals as goal

pub end_task-requires : goal.end_task-requires
end_task-requires c = end_inside _ _ (rw c.in-End.is at (sym c.is_unsound.ensures ∙ c.if-is_unsound.false))
