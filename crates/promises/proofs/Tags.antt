-- By the tag of a message: one case for each of 0 to 11.
use mathlib.Core.Path.{◌≡◌}
use Prim.Native.Nat.{ℕ, suc, ◌≤◌}
use native.Mathlib.Omega.{arith}
use Rattle.model.specs.Base.Cases.{eq_cases}

from : {P : Type 0} (k n : ℕ) → k ≤ n → (n ≡ k → P) → (suc k ≤ n → P) → P
from k n h y more = eq_cases n k y (λ ne. more (omega arith))

pub by_tag : {P : Type 0} (n : ℕ) → n ≤ 11 → (n ≡ 0 → P) → (n ≡ 1 → P) → (n ≡ 2 → P) → (n ≡ 3 → P) → (n ≡ 4 → P) → (n ≡ 5 → P) → (n ≡ 6 → P)
    → (n ≡ 7 → P) → (n ≡ 8 → P) → (n ≡ 9 → P) → (n ≡ 10 → P) → (n ≡ 11 → P) → P
by_tag n h c0 c1 c2 c3 c4 c5 c6 c7 c8 c9 c10 c11 =
    from 0 n (omega arith) c0 (λ l. from 1 n l c1 (λ l. from 2 n l c2 (λ l. from 3 n l c3 (λ l. from 4 n l c4 (λ l. from 5 n l c5 (λ l. from 6 n l c6
    (λ l. from 7 n l c7 (λ l. from 8 n l c8 (λ l. from 9 n l c9 (λ l. from 10 n l c10 (λ l. from 11 n l c11 (λ l. absurd (omega arith)))))))))))))
