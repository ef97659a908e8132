use mathlib.Core.Path.{◌≡◌, ap, ◌∙◌}
use Prim.Native.Nat.{◌+◌, ◌*◌}
use native.Mathlib.Omega.{arith}
use Rattle.tables.specs.Bytes.{part, write}
use Rattle.rules.specs.Adopt.{adopt_book}
use Rattle.adopt.proofs.Orphans.{adopt_keeps, adopt_due}
use borrow.Author.Rules.{rules}
use Rattle.adopt.proofs.adopt_books.Goals as goal

pub returns : goal.returns
returns c = c.write_parts.ensures (adopt_book c.args.t.now c.args.f) 1 (adopt_keeps _ _) (λ y z j h due post.
    let new : z.now ≡ write y.now (2304 + 144 * j) (adopt_book y.now c.args.f (part y.now (2304 + 144 * j) 144) (1 + j)) = search rules in
    new ∙ ap (write y.now (2304 + 144 * j)) (adopt_due _ _ _ _ _ _ (omega arith) due))
