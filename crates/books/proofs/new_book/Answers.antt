use native.Mathlib.Omega.{arith}
use Rattle.rules.specs.Deliver.{new_book}
use Rattle.books.proofs.Places.{book_back}
use Rattle.books.proofs.new_book.Goals as goal

pub returns : goal.returns
returns c = book_back _ _ _ c.book-a.ensures.0 (λ b. new_book c.args.h c.args.q) _ (omega arith) c.book-a.ensures.1 c.new_in.ensures.new c.new_in.ensures.whole
