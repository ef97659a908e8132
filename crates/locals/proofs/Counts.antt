-- Counts by sender: lowered each by another, and one alone.
use mathlib.Core.Path.{◌≡◌, sym, ◌∙◌}
use mathlib.Core.List.{List, [], ◌∷◌}
use Prim.Native.Nat.{ℕ, ◌-◌, ◌≤◌, ◌<◌}
use native.Mathlib.Omega.{arith}
use lib.ListN.{set, replicate, length, get_or}
use Rattle.std.proofs.lemmas.List.{ext_get_or}
use Rattle.tables.specs.Bytes.{byte}
use Rattle.rules.specs.End.{less_each}
use Rattle.rules.proofs.Less.{less_at, less_length}
use lib.Seq.{set_out}
use Rattle.rules.specs.Messages.{no_counts}

-- no place from 8 on has a count
pub one_none : (h : ℕ) → 8 ≤ h → 0 ∷ 0 ∷ 0 ∷ 0 ∷ 0 ∷ 0 ∷ 0 ∷ 0 ∷ [] ≡ set no_counts h 1
unfolding no_counts
one_none h l = sym (set_out (replicate 8 0) h 1 l)

-- counts lowered one by one
pub less_made : (x y q : List ℕ) → length x ≡ 8 → length q ≡ 8 → ((i e : ℕ) → i < 8 → get_or q i e ≡ byte x i - byte y i) → q ≡ less_each x y
less_made x y q l m h = ext_get_or 0 q (less_each x y) (m ∙ sym (less_length x y ∙ l)) (λ i g. h i 0 (omega arith) ∙ sym (less_at x y i))
