use Rattle.books.proofs.+nearest_book.Given as goal

abbrev pub decreases-nearest_book : goal.decreases-nearest_book
decreases-nearest_book l = l.f
