use Rattle.std.proofs.Common.{◌∙◌}
use Rattle.rules.specs.Closing as Closing
use Rattle.books.proofs.Places.{book_put}
use Rattle.books.proofs.clear_book.Goals as goal

pub returns : goal.returns
unfolding Closing.without_book
returns c = c.clear_part.ensures ∙ book_put _ _ _ c.book.ensures.0 _
