-- A book that is tested by its own 144 bytes, as the rules test it on the tables from the book on.
use Rattle.std.proofs.Common.{◌≡◌, ℕ, List, length, take, refl, arith}
use Rattle.std.proofs.lemmas.List.{get_or-take, take-take}
use lib.Seq.{take_all}
use Rattle.rules.specs.Quiet.{calm_book}

pub calm_looks : (ps d : ℕ) (m : List ℕ) (f : ℕ) → calm_book ps d (take 144 m) f ≡ calm_book ps d m f
unfolding calm_book
calm_looks ps d m f = rw (get_or-take 144 m 0 0 (omega arith), take-take 144 144 m (omega arith)) refl

pub whole_book : (b : List ℕ) → length b ≡ 144 → take 144 b ≡ b
whole_book b h = take_all 144 b (omega arith)
