use Rattle.std.proofs.Common.{rules, sym, ◌∙◌}
use Rattle.std.proofs.iter.runs.Sources.{ranges}
use Rattle.rules.specs.Books.{owed_cell}
use Rattle.tables.proofs.Below.{some_told}
use Rattle.repair.proofs.Owed.{none_owed}
use Rattle.repair.proofs.owed_row.Goals as goal

pub returns-then-is_marked : goal.returns-then-is_marked
returns-then-is_marked c = some_told (owed_cell c.args.ps c.args.d c.args.b.now c.args.i) 8 _ (λ e k h. search (rules, ranges)) (λ e. search (rules, ranges))

pub returns-else-is_marked : goal.returns-else-is_marked
returns-else-is_marked c =
    c.if-is_marked.false ∙ sym (none_owed c.args.ps _ _ c.args.b.now (rw c.number.ensures.0 at (sym c.is_marked.ensures ∙ c.if-is_marked.false)) 8)
