use native.Mathlib.Omega.{arith}
use Rattle.books.proofs.Climb.{parent_falls}
use Rattle.depart.proofs.publish.Goals as goal

pub nearest_book-parent-requires-clause-made : goal.nearest_book-parent-requires-clause-made
nearest_book-parent-requires-clause-made c =
    let n = c.number-finish in
    let below = parent_falls c.args.t.now n.result c.requires.parents_fall n.ensures.1 (omega arith) in
    omega (arith, below, c.finish_byte-2.ensures)
