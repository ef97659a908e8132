-- How the parts of a book's work change: its dead columns and its pairs not yet asked.
use Rattle.std.specs.Prelude.{◌≡◌, Bool, true, false, ◌&&◌, not, ℕ, ◌≤◌, ◌<◌, eqb}
use Rattle.std.proofs.Math.Path.{refl}
use Rattle.std.proofs.Common.{arith, ne_eqb}
use Rattle.model.specs.Base.{on, on_false, on-le, sum, sum_mono, sum_strict, sum_ge, sum_zero, eq_cases, bool_cases, both}
use Rattle.model.specs.Effects.Kill.{empty_column}
use Rattle.model.specs.Work.{unasked, dead_columns}

-- what column v counts for, by whether v is dead and by its sum
unfoldable column : Bool → ℕ → ℕ
column dead total = on (dead && not (eqb total 0)) 1

column_alive : (dead : Bool) (total : ℕ) → dead ≡ false → column dead total ≡ 0
unfolding column
column_alive dead total e = rw e (on_false false 1 refl)

column-empty : (dead : Bool) (total : ℕ) → total ≡ 0 → column dead total ≡ 0
unfolding column on
column-empty true total e = rw e
column-empty false total e = refl

column_full : (dead : Bool) (total : ℕ) → dead ≡ true → 0 < total → column dead total ≡ 1
unfolding column on
column_full dead total e h = rw (e, ne_eqb total 0 (λ q. omega arith))

column_most : (dead : Bool) (total : ℕ) → column dead total ≤ 1
unfolding column
column_most dead total = on-le (dead && not (eqb total 0)) 1

column-le : (dead : Bool) (a b : ℕ) → (dead ≡ true → a ≤ b) → column dead a ≤ column dead b
column-le dead a b h = bool_cases dead
    (λ d. eq_cases a 0
    (λ z. omega (arith, column-empty dead a z))
    (λ n. omega (arith, column_most dead a, column_full dead b d (omega (arith, h d)))))
    (λ d. omega (arith, column_alive dead a d))

-- what the pair of a sender and a receiver counts for, by whether they are dead and asked
unfoldable pair : Bool → Bool → Bool → ℕ
pair i j asked = on (i && (not j && not asked)) 1

pair-asked : (i j asked : Bool) → asked ≡ true → pair i j asked ≡ 0
unfolding pair on
pair-asked true true asked e = refl
pair-asked true false asked e = rw e
pair-asked false j asked e = refl

pair_open : (i j asked : Bool) → i ≡ true → j ≡ false → asked ≡ false → pair i j asked ≡ 1
unfolding pair on
pair_open i j asked d a e = rw (d, a, e)

pair-le : (i j a b : Bool) → (a ≡ true → b ≡ true) → pair i j b ≤ pair i j a
pair-le i j a true h = omega (arith, pair-asked i j true refl)
pair-le i j true false h = both (h refl) refl
pair-le i j false false h = omega arith

module _ (n : ℕ) (dead : ℕ → Bool) where
  columns_are : (live : ℕ → ℕ → ℕ) → dead_columns n dead live ≡ sum n (λ v. column (dead v) (sum n (λ i. live i v)))
  unfolding dead_columns empty_column column
  columns_are live = refl

  -- no dead place has a count
  pub columns_none : (live : ℕ → ℕ → ℕ) → ((i v : ℕ) → dead v ≡ true → live i v ≡ 0) → dead_columns n dead live ≡ 0
  columns_none live h = rw (columns_are live) (sum_zero n (λ v. column (dead v) (sum n (λ i. live i v))) (λ v _. bool_cases (dead v)
      (λ d. column-empty (dead v) (sum n (λ i. live i v)) (sum_zero n (λ i. live i v) (λ i _. h i v d)))
      (λ d. column_alive (dead v) (sum n (λ i. live i v)) d)))

  module _ (live live' : ℕ → ℕ → ℕ) (fewer : (i v : ℕ) → dead v ≡ true → live' i v ≤ live i v) where
    at_most : (v : ℕ) → column (dead v) (sum n (λ i. live' i v)) ≤ column (dead v) (sum n (λ i. live i v))
    at_most v = column-le (dead v) (sum n (λ i. live' i v)) (sum n (λ i. live i v)) (λ d. sum_mono n (λ i. live' i v) (λ i. live i v) (λ i _. fewer i v d))

    -- counts of dead places that do not rise
    pub columns_le : dead_columns n dead live' ≤ dead_columns n dead live
    columns_le = rw (columns_are live, columns_are live') (sum_mono n (λ v. column (dead v) (sum n (λ i. live' i v))) (λ v. column (dead v) (sum n (λ i. live i v))) (λ v _. at_most v))

    -- a column emptied
    pub columns_fall : (i v : ℕ) → i < n → v < n → dead v ≡ true → 0 < live i v → ((i : ℕ) → live' i v ≡ 0) → dead_columns n dead live' < dead_columns n dead live
    columns_fall i v l m d some none = rw (columns_are live, columns_are live') (sum_strict n (λ v. column (dead v) (sum n (λ i. live' i v))) (λ v. column (dead v) (sum n (λ i. live i v))) v m
        (omega (
          arith,
          column-empty (dead v) (sum n (λ i. live' i v)) (sum_zero n (λ i. live' i v) (λ i _. none i)),
          column_full (dead v) (sum n (λ i. live i v)) d (omega (arith, sum_ge n (λ i. live i v) i l)),
        ))
        (λ x _. at_most x))

  pairs_are : (asked : ℕ → ℕ → Bool) → unasked n dead asked ≡ sum n (λ i. sum n (λ j. pair (dead i) (dead j) (asked i j)))
  unfolding unasked pair
  pairs_are asked = refl

  module _ (asked asked' : ℕ → ℕ → Bool) (more : (i j : ℕ) → asked i j ≡ true → asked' i j ≡ true) where
    pairs_of : (i : ℕ) → sum n (λ j. pair (dead i) (dead j) (asked' i j)) ≤ sum n (λ j. pair (dead i) (dead j) (asked i j))
    pairs_of i = sum_mono n (λ j. pair (dead i) (dead j) (asked' i j)) (λ j. pair (dead i) (dead j) (asked i j)) (λ j _. pair-le (dead i) (dead j) (asked i j) (asked' i j) (more i j))

    -- what was asked stays so
    pub unasked-le : unasked n dead asked' ≤ unasked n dead asked
    unasked-le = rw (pairs_are asked, pairs_are asked') (sum_mono n (λ i. sum n (λ j. pair (dead i) (dead j) (asked' i j))) (λ i. sum n (λ j. pair (dead i) (dead j) (asked i j))) (λ i _. pairs_of i))

    -- a pair asked
    pub unasked_fall : (v j : ℕ) → v < n → j < n → dead v ≡ true → dead j ≡ false → asked v j ≡ false → asked' v j ≡ true → unasked n dead asked' < unasked n dead asked
    unasked_fall v j l m d a old new = rw (pairs_are asked, pairs_are asked') (sum_strict n (λ i. sum n (λ j. pair (dead i) (dead j) (asked' i j))) (λ i. sum n (λ j. pair (dead i) (dead j) (asked i j))) v l
        (sum_strict n (λ j. pair (dead v) (dead j) (asked' v j)) (λ j. pair (dead v) (dead j) (asked v j)) j m
        (omega (arith, pair_open (dead v) (dead j) (asked v j) d a old, pair-asked (dead v) (dead j) (asked' v j) new))
        (λ x _. pair-le (dead v) (dead x) (asked v x) (asked' v x) (more v x)))
        (λ x _. pairs_of x))
