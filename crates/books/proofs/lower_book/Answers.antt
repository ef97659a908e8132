use native.Mathlib.Omega.{arith}
use Rattle.rules.specs.Books.{lowered_column}
use Rattle.books.proofs.Places.{book_back}
use Rattle.books.proofs.lower_book.Goals as goal

pub returns : goal.returns
returns c = book_back _ _ _ c.book-a.ensures.0 (λ b. lowered_column b c.args.v c.args.counts) _ (omega arith) c.book-a.ensures.1 c.lower_in.ensures.lowered c.lower_in.ensures.whole
