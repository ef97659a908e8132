-- A new book, as four stores leave it.
use mathlib.Core.Path.{◌≡◌, sym, ap}
use mathlib.Core.List.{List, [], ◌∷◌}
use Prim.Native.Nat.{ℕ, ◌+◌, ◌*◌}
use lib.ListN.{set, replicate}
use Rattle.tables.proofs.Writes.{write-sets}
use Rattle.rules.specs.Deliver.{new_book}

pub new_book_lem : (x h q : ℕ) → x ≡ h → set (set (set (set (replicate 144 0) 0 1) 1 q) (8 + 8 * x + x) 1) (72 + 8 * x + x) 1 ≡ new_book h q
unfolding new_book
new_book_lem x h q e =
    rw e (ap (λ (r : List ℕ). set (set r (8 + 8 * h + h) 1) (72 + 8 * h + h) 1) (sym (write-sets (1 ∷ q ∷ []) (replicate 144 0) 0)))
