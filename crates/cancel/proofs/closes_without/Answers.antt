use Rattle.std.proofs.Common.{rules, List, ℕ, ap, ◌∙◌}
use Rattle.rules.specs.Books.{total, column, ghosts}
use Rattle.cancel.proofs.Laws.{book_long}
use Rattle.cancel.proofs.Cleared.{left_open, left_closed}
use Rattle.cancel.proofs.closes_without.Goals as goal

pub returns-then-total_of-column_of : goal.returns-then-total_of-column_of
returns-then-total_of-column_of c = left_closed _ _ (book_long _ _ c.args.v c.told-t (search rules)) (search rules) _ _
    (c.total_of.ensures ∙ ap total c.book-b.ensures) (c.column_of.ensures ∙ ap (λ (b : List ℕ). column b c.args.v) c.book-b.ensures)
    _ (c.ghosts_of.ensures ∙ ap ghosts c.book-b.ensures) c.if-total_of-column_of.true

pub returns-else-total_of-column_of : goal.returns-else-total_of-column_of
returns-else-total_of-column_of c = left_open _ _ (book_long _ _ c.args.v c.told-t (search rules)) (search rules) _ _
    (c.total_of.ensures ∙ ap total c.book-b.ensures) (c.column_of.ensures ∙ ap (λ (b : List ℕ). column b c.args.v) c.book-b.ensures)
    c.if-total_of-column_of.false
