use Rattle.rules.specs.Kill.{kill_book}
use Rattle.kill.proofs.Keeps.{book_keeps}
use borrow.Author.Rules.{rules}
use Rattle.kill.proofs.kill_books.Goals as goal

pub returns : goal.returns
unfolding kill_book
returns c = c.lend_parts.ensures (kill_book c.args.p) 1 (book_keeps _) (λ u y z j h due out whole post. search rules)
