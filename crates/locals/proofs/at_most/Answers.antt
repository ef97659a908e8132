use Rattle.std.proofs.Common.{rules}
use Rattle.std.proofs.iter.runs.Sources.{ranges}
use lib.Dec.{leb}
use Rattle.tables.specs.Bytes.{byte}
use Rattle.rules.specs.End.{each_at_most}
use Rattle.tables.proofs.Below.{every_told}
use Rattle.locals.proofs.at_most.Goals as goal

pub returns : goal.returns
unfolding each_at_most
returns c = every_told (λ i. leb (byte c.args.x i) (byte c.args.y i)) 8 _ (λ e k h. search (rules, ranges)) (λ e. search (rules, ranges))
