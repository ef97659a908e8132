-- Laws of trees of tasks: levels, and children counted.
use Rattle.std.specs.Prelude.{◌≡◌, Bool, true, false, cond, eqb}
use Rattle.std.proofs.Math.Path.{refl}
use Prim.Native.Nat.{ℕ, zero, suc, ◌+◌, ◌*◌, ◌≤◌, ◌<◌}
use native.Mathlib.Omega.{arith}
use Rattle.std.proofs.Common.{eq-eqb, ne_eqb}
use Rattle.tables.specs.Bits.{digit}
use Rattle.model.specs.Base.Cases.{eq_cases}
use Rattle.model.specs.Base.Updates.{on}
use Rattle.plan.specs.Tree.{tree_size, level_of, children_of}

-- tests count as `on`
pub children_suc : (maker : ℕ → ℕ) (n k : ℕ) → children_of maker (suc n) k ≡ on (eqb (maker (suc n)) k) 1 + children_of maker n k
unfolding children_of on
children_suc maker n k = go (eqb (maker (suc n)) k)
  where
    go : (b : Bool) → digit b + children_of maker n k ≡ cond b 1 0 + children_of maker n k
    go true = refl
    go false = refl

pub children_none : (maker : ℕ → ℕ) (n k : ℕ) → ((x : ℕ) → 0 < x → x ≤ n → maker x ≡ k → ⊥) → children_of maker n k ≡ 0
unfolding children_of
children_none maker zero k h = refl
children_none maker (suc n) k h =
    rw (ne_eqb (maker (suc n)) k (h (suc n) (omega arith) (omega arith))) (omega (arith, children_none maker n k (λ x z l. h x z (omega arith))))

pub tree_suc : (w h : ℕ) → tree_size w (suc h) ≡ 1 + w * tree_size w h
unfolding tree_size
tree_suc w h = refl

module _ (maker : ℕ → ℕ) where
  pub level_top : (n k : ℕ) → maker k ≡ 0 → level_of maker n k ≡ 1
  unfolding level_of
  level_top zero k e = refl
  level_top (suc n) k e = rw (eq-eqb (maker k) 0 e) refl

  pub level_below : (n k : ℕ) → (maker k ≡ 0 → ⊥) → level_of maker (suc n) k ≡ suc (level_of maker n (maker k))
  unfolding level_of
  level_below n k ne = rw (ne_eqb (maker k) 0 ne) refl

  pub level_positive : (n k : ℕ) → 0 < level_of maker n k
  unfolding level_of
  level_positive zero k = omega arith
  level_positive (suc n) k = eq_cases (maker k) 0
      (λ e. omega (arith, level_top (suc n) k e))
      (λ ne. omega (arith, level_below n k ne))

  -- a count that stops before its bound needs one less
  pub level_enough : (n k : ℕ) → level_of maker (suc n) k ≤ n → level_of maker n k ≡ level_of maker (suc n) k
  level_enough zero k h = absurd (omega (arith, level_positive 1 k))
  level_enough (suc n) k h = eq_cases (maker k) 0
      (λ e. omega (arith, level_top (suc n) k e, level_top (suc (suc n)) k e))
      (λ ne. omega (arith, level_below n k ne, level_below (suc n) k ne, level_enough n (maker k) (omega (arith, level_below (suc n) k ne))))

  -- a child's level, where its spawner is above the last
  pub level_child : (n x : ℕ) → 0 < maker x → level_of maker n (maker x) < n → level_of maker n x ≡ suc (level_of maker n (maker x))
  level_child zero x z l = absurd (omega arith)
  level_child (suc n) x z l = omega (arith, level_below n x (λ e. omega arith), level_enough n (maker x) (omega arith))

-- spawners that agree on the made tasks, each below the task that it made: the same levels, the same children
module _ (maker maker' : ℕ → ℕ) (made : ℕ) (agree : (x : ℕ) → 0 < x → x ≤ made → maker' x ≡ maker x) where
  pub level_same : ((x : ℕ) → 0 < x → x ≤ made → maker x < x) → (n k : ℕ) → 0 < k → k ≤ made → level_of maker' n k ≡ level_of maker n k
  unfolding level_of
  level_same falls zero k z l = refl
  level_same falls (suc n) k z l = rw (agree k z l) (eq_cases (maker k) 0
      (λ e. rw (eq-eqb (maker k) 0 e) refl)
      (λ ne. rw (level_same falls n (maker k) (omega arith) (omega (arith, falls k z l))) refl))

  pub children_same : (n k : ℕ) → n ≤ made → children_of maker' n k ≡ children_of maker n k
  unfolding children_of
  children_same zero k l = refl
  children_same (suc n) k l = rw (agree (suc n) (omega arith) l, children_same n k (omega arith))

  -- one task more is one child more of its spawner
  pub children_more : (k : ℕ) → children_of maker' (suc made) k ≡ on (eqb (maker' (suc made)) k) 1 + children_of maker made k
  children_more k = omega (arith, children_suc maker' made k, children_same made k (omega arith))
