use Rattle.std.proofs.Common.{rules}
use Rattle.std.proofs.iter.runs.Sources.{ranges}
use Rattle.rules.specs.Books.{dead_column}
use Rattle.tables.proofs.Below.{some_told}
use Rattle.repair.proofs.dead_columns.Goals as goal

pub returns : goal.returns
returns c = some_told (dead_column c.args.d c.args.b.now) 8 _ (λ e k h. search (rules, ranges)) (λ e. search (rules, ranges))
