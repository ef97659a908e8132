use Rattle.std.proofs.Common.{rules, ◌+◌, ◌*◌}
use Rattle.std.proofs.iter.runs.Sources.{ranges}
use lib.Dec.{leb}
use Rattle.tables.specs.Bytes.{byte}
use Rattle.rules.specs.Deliver.{lowers}
use Rattle.tables.proofs.Below.{every_told}
use Rattle.square.proofs.lowers.Goals as goal

pub returns : goal.returns
unfolding lowers
returns c = every_told (λ i. leb (byte c.args.counts i) (byte c.args.b.now (8 + 8 * i + c.args.v))) 8 _ (λ e k h. search (rules, ranges)) (λ e. search (rules, ranges))
