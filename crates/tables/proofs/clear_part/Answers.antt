use Rattle.tables.proofs.Writes.{part_cleared}
use Rattle.tables.proofs.clear_part.Goals as goal

pub returns : goal.returns
returns c = part_cleared _ _ _ _ c.requires (c.fill.ensures.after (λ y e. e))
