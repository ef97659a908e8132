use Rattle.std.proofs.Common.{rules}
use Rattle.std.proofs.iter.runs.Sources.{ranges}
use Rattle.tables.specs.Walks.{some_below}
use Rattle.rules.specs.Books.{owed_cell, owes}
use Rattle.tables.proofs.Below.{some_told}
use Rattle.repair.proofs.owes.Goals as goal

pub returns : goal.returns
unfolding owes
returns c = some_told (λ i. some_below (owed_cell c.args.ps c.args.d c.args.b.now i) 8) 8 _ (λ e k h. search (rules, ranges)) (λ e. search (rules, ranges))
