-- A closing test sends exactly when what it sends has a tag: the two definitions say one thing.
use mathlib.Core.Path.{◌≡◌, refl}
use mathlib.Core.Bool.{Bool, true, false, cond, not}
use mathlib.Core.List.{List}
use Prim.Native.Nat.{ℕ}
use lib.Dec.{eqb}
use Rattle.tables.specs.Walks.{every, some_of}
use Rattle.rules.specs.Fields.{dead, home, is_adopted}
use Rattle.rules.specs.Books.{book_of}
use Rattle.rules.specs.Closing.{closes, closing_sends}
use Rattle.rules.specs.Sent.{closed_sends, closing_sent}

pub sends_sent : (t : List ℕ) (f : ℕ) → closing_sends t f ≡ not (eqb (closing_sent t f) 0)
unfolding closing_sends closing_sent closed_sends every some_of
sends_sent t f = go (closes (book_of t f)) (eqb (is_adopted t f) 1) (dead t (home t f))
  where
    go : (c a d : Bool) → cond c (cond (cond a true (cond (not d) true false)) true false) false ≡ not (eqb (cond c (cond a 9 (cond d 0 8)) 0) 0)
    go false a d = refl
    go true true d = refl
    go true false true = refl
    go true false false = refl
