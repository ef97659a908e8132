-- The place that a finish gave for its book is where the rules have the book.
use mathlib.Core.Path.{◌≡◌, ap, ◌∙◌}
use mathlib.Core.List.{List, ◌++◌}
use Prim.Native.Nat.{ℕ, ◌+◌, ◌-◌, ◌*◌, ◌≤◌}
use lib.ListN.{length, drop, take}
use native.Mathlib.Omega.{arith}
use Rattle.tables.specs.Bytes.{part, write}
use Rattle.tables.specs.Layout.{book_row}
use Rattle.tables.proofs.Writes.{part_lent, part_back}
use Rattle.rules.specs.Books.{book_of, with_book}

module _ (t : List ℕ) (f a : ℕ) (place : a ≡ 8 * book_row f) where
  pub book_there : part t a 144 ≡ book_of t f
  unfolding book_of
  book_there = let z : a ≡ 8 * book_row f + 0 = omega arith in ap (λ (k : ℕ). part t k 144) z

  pub book_put : (b : List ℕ) → write t a b ≡ with_book t f b
  unfolding with_book
  book_put b = let z : a ≡ 8 * book_row f + 0 = omega arith in ap (λ (k : ℕ). write t k b) z

  -- the book is lent and comes back as g made it
  pub book_back : (g : List ℕ → List ℕ) (p : List ℕ) → length t ≡ 15104 → a + 144 ≤ 6912 → p ≡ g (take (a + 144 - a) (drop a t)) → length p ≡ 144
      → take a t ++ (p ++ drop (a + 144 - a) (drop a t)) ≡ with_book t f (g (book_of t f))
  book_back g p whole inside e l =
      let lent : take (a + 144 - a) (drop a t) ≡ book_of t f = part_lent t a (a + 144) 144 (omega arith) ∙ book_there in
      part_back t p a (a + 144) 144 l (omega arith) (omega arith) ∙ book_put p ∙ ap (λ (b : List ℕ). with_book t f b) (e ∙ ap g lent)
