use Rattle.std.proofs.Common.{arith, refl, rules, ◌*◌}
use Rattle.std.proofs.lemmas.Iterator.{YieldsList-from_range}
use Rattle.tables.specs.Layout.{book_row}
use Rattle.rules.specs.Sound.{book_sound, books_sound}
use Rattle.tables.proofs.Rows.{all_rows}
use Rattle.sound.proofs.Looks.{book_looks}
use Rattle.sound.proofs.books_fit.Goals as goal

pub returns : goal.returns
unfolding books_sound
returns c =
    all_rows (book_sound c.args.head.finishes) 8 144 (λ f. 8 * book_row f) c.args.t.now (book_looks _) 32 1 _ _ _ c.all.ensures.ran
    (YieldsList-from_range 1 33 32 refl refl)
    (λ x b q k. search rules)
    (λ x h. omega arith)
