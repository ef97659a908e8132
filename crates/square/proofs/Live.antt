-- The square by value, row by row.
use mathlib.Core.Path.{◌≡◌, refl, sym, ◌∙◌}
use mathlib.Core.List.{List, []}
use Prim.Native.Nat.{ℕ, zero, suc, ◌+◌, ◌*◌, ◌<◌}
use native.Mathlib.Omega.{arith}
use lib.ListN.{length, get_or}
use Rattle.std.proofs.lemmas.List.{ext_get_or}
use Rattle.tables.specs.Bytes.{part}
use Rattle.square.specs.Square.{live_of}

-- row n of the square
pub live_row : (b : List ℕ) (n : ℕ) → n < 8 → get_or (live_of b) n [] ≡ part b (8 + 8 * n) 8
unfolding live_of
live_row b zero h = refl
live_row b (suc zero) h = refl
live_row b (suc (suc zero)) h = refl
live_row b (suc (suc (suc zero))) h = refl
live_row b (suc (suc (suc (suc zero)))) h = refl
live_row b (suc (suc (suc (suc (suc zero))))) h = refl
live_row b (suc (suc (suc (suc (suc (suc zero)))))) h = refl
live_row b (suc (suc (suc (suc (suc (suc (suc zero))))))) h = refl
live_row b (suc (suc (suc (suc (suc (suc (suc (suc n)))))))) h = absurd (omega arith)

length-live : (b : List ℕ) → length (live_of b) ≡ 8
unfolding live_of
length-live b = refl

pub live_rows : (b : List ℕ) (q : List (List ℕ)) → length q ≡ 8 → ((i : ℕ) (e : List ℕ) → i < 8 → get_or q i e ≡ part b (8 + 8 * i) 8) → q ≡ live_of b
live_rows b q l h =
    let m : length (live_of b) ≡ 8 = length-live b in
    ext_get_or [] q (live_of b) (l ∙ sym m) (λ i g. h i [] (omega arith) ∙ sym (live_row b i (omega arith)))
