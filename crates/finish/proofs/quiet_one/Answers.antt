use mathlib.Core.Path.{ap, ◌∙◌}
use Rattle.tables.specs.Bits.{digit}
use Rattle.tables.proofs.Bits.{byte_digit}
use Rattle.finish.proofs.quiet_one.Goals as goal

pub returns : goal.returns
returns c = c.from.ensures ∙ byte_digit _ ∙ ap digit c.is_quiet.ensures
