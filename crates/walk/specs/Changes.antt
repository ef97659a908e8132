-- What a change of each part makes of it, and what it may rely on.
use Rattle.std.specs.Prelude.{◌≡◌, ℕ, List, ◌+◌, ◌*◌, ◌≤◌, ◌<◌, ◌⊎◌, length}
use Rattle.std.specs.Borrow.{Bor, MutBor}
use Rattle.tables.specs.Bytes.{byte, part, write}

-- f makes as long a part of a part
abbrev pub KeepsLength : (List ℕ → ℕ → List ℕ) → ℕ → Type 0
KeepsLength f w = (m : List ℕ) (i : ℕ) → length m ≡ w → length (f m i) ≡ w

-- part j is due in u: what stands before place `at`, and from this part on, is as it was in t
abbrev pub Due : List ℕ → List ℕ → ℕ → ℕ → ℕ → Type 0
Due u t at w j = (q : ℕ) → (q < at) ⊎ (at + w * j ≤ q) → byte u q ≡ byte t q

-- each call at a part that is due leaves what f makes of it; the parts are w bytes each, n of them, from place `at` on, and f is told their numbers from i on
abbrev pub Leaves : ℕ → (MutBor (List ℕ) → ℕ → Unit {0} → MutBor (List ℕ) → Type 0) → (List ℕ → ℕ → List ℕ) → ℕ → ℕ → ℕ → List ℕ → Type 0
Leaves w post f at i n t =
    (u : List ℕ) (y z : MutBor (List ℕ)) (j : ℕ) → j < n → Due u t at w j → y.now ≡ part u (at + w * j) w → length y.now ≡ w → post y j tt z
    → z.now ≡ f y.now (i + j)

-- each call at the place of a part that is due writes there what f makes of it
abbrev pub Writes : ℕ → (MutBor (List ℕ) → ℕ → ℕ → Unit {0} → MutBor (List ℕ) → Type 0) → (List ℕ → ℕ → List ℕ) → ℕ → ℕ → ℕ → List ℕ → Type 0
Writes w post f at i n t =
    (y z : MutBor (List ℕ)) (j : ℕ) → j < n → Due y.now t at w j → post y (at + w * j) j tt z
    → z.now ≡ write y.now (at + w * j) (f (part y.now (at + w * j) w) (i + j))

-- the same of parts that are copied out and put back: `bytes` are those of a copy, and the tables are u by then
abbrev pub Makes : {P : Type 0} → (P → List ℕ) → ℕ → (Bor (List ℕ) → MutBor P → ℕ → Unit {0} → MutBor P → Type 0) → (List ℕ → ℕ → List ℕ) → ℕ → ℕ → ℕ → List ℕ → Type 0
Makes {P} bytes w post f at i n t =
    (u : Bor (List ℕ)) (y z : MutBor P) (j : ℕ) → j < n → Due u.now t at w j → bytes y.now ≡ part u.now (at + w * j) w → post u y j tt z
    → bytes z.now ≡ f (bytes y.now) (i + j)
