use native.Mathlib.Omega.{arith}
use Rattle.rules.specs.Books.{cleared_column}
use Rattle.rules.specs.Cancel as Cancel
use Rattle.books.proofs.Places.{book_back}
use Rattle.books.proofs.cancel_column.Goals as goal

pub returns : goal.returns
unfolding Cancel.cancelled
returns c = book_back _ _ _ c.book-a.ensures.0 (λ b. cleared_column b c.args.v) _ (omega arith) c.book-a.ensures.1 c.clear_in.ensures.cleared c.clear_in.ensures.whole
