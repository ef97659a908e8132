-- A task's level by its spawner's, its children counted from the first task on, and the first running task.
use mathlib.Core.Path.{◌≡◌, refl, sym, ap, ◌∙◌}
use mathlib.Core.Bool.{Bool, true, false, cond}
use mathlib.Core.List.{List}
use Prim.Native.Nat.{ℕ, zero, suc, ◌+◌, ◌-◌}
use native.Mathlib.Omega.{arith}
use borrow.Author.Tests.{eq-eqb, ne_eqb, le-leb, lt-leb}
use lib.Dec.{eqb, leb}
use lib.ListN.{length}
use Rattle.std.proofs.Common.{Option, None, Some, option_map}
use Rattle.std.proofs.lemmas.List.Sums.{sum_by-cons, length-filter}
use Rattle.std.specs.List.{range_with_len, count_by, filter, find}
use Rattle.tables.specs.Bits.{digit}
use Rattle.rules.specs.Fields.{tasks_made, task_status, task_maker, running}
use Rattle.fields.specs.Numbers.{given}
use Rattle.plan.specs.Tree.{level_of, children_of}
use Rattle.acts.specs.First.{first_from}
use Rattle.acts.specs.Acts.{spawner, lowest_running, running_task}

-- ---- a level, by its spawner's
module _ (t : List ℕ) (k s : ℕ) (e : s ≡ task_maker t k) where
  pub level_first : (n : ℕ) → n ≡ 0 → 1 ≡ level_of (spawner t) n k
  unfolding level_of
  level_first zero z = refl
  level_first (suc n) z = absurd (omega arith)

  pub level_top : (n : ℕ) → s ≡ 0 → 1 ≡ level_of (spawner t) n k
  unfolding level_of
  level_top zero z = refl
  level_top (suc n) z = rw (eq-eqb (task_maker t k) 0 (sym e ∙ z)) refl

  pub level_more : (n v : ℕ) → (n ≡ 0 → ⊥) → (s ≡ 0 → ⊥) → v ≡ level_of (spawner t) (n - 1) s → 1 + v ≡ level_of (spawner t) n k
  unfolding level_of
  level_more zero v z q h = absurd (z refl)
  level_more (suc n) v z q h =
      let m : suc n - 1 ≡ n = omega arith in
      rw (ne_eqb (task_maker t k) 0 (λ i. q (e ∙ i)), ← e) (omega (arith, h, ap (λ (x : ℕ). level_of (spawner t) x s) m))

-- ---- children, counted from the first task on
module _ (maker : ℕ → ℕ) (k : ℕ) where
  abbrev pub spawned : ℕ → Bool
  spawned j = eqb (maker j) k

  abbrev counted : ℕ → ℕ → ℕ
  counted i n = count_by spawned (range_with_len i n)

  one : ℕ → ℕ
  one j = cond (spawned j) 1 0

  one_lem : (j : ℕ) → one j ≡ digit (spawned j)
  unfolding one
  one_lem j = go (spawned j)
    where
      go : (b : Bool) → cond b 1 0 ≡ digit b
      go true = refl
      go false = refl

  front : (i n : ℕ) → counted i (suc n) ≡ one i + counted (i + 1) n
  unfolding one
  front i n = sum_by-cons (λ (j : ℕ). cond (spawned j) 1 0) i (range_with_len (i + 1) n)

  back : (n i : ℕ) → counted i (suc n) ≡ counted i n + one (i + n)
  back zero i = let e : i + 0 ≡ i = omega arith in rw e (omega (arith, front i 0))
  back (suc n) i = let e : i + suc n ≡ i + 1 + n = omega arith in rw e (omega (arith, front i (suc n), front i n, back n (i + 1)))

  all_counted : (n : ℕ) → counted 1 n ≡ children_of maker n k
  unfolding children_of
  all_counted zero = refl
  all_counted (suc n) = let e : 1 + n ≡ suc n = omega arith in omega (arith, back n 1, ap one e, one_lem (suc n), all_counted n)

  pub children_counted : (n : ℕ) → length (filter spawned (range_with_len 1 n)) ≡ children_of maker n k
  children_counted n = length-filter spawned (range_with_len 1 n) ∙ all_counted n

-- ---- the first of n numbers of which a test holds
module _ (p : ℕ → Bool) (m : ℕ) where
  found_first : (n i : ℕ) → i + n ≡ suc m → find p (range_with_len i n) ≡ given (leb (first_from p i n) m) (first_from p i n)
  unfolding first_from
  found_first zero i e = rw (lt-leb i m (omega arith)) refl
  found_first (suc n) i e =
      let a : i + 1 ≡ suc i = omega arith in
      rw (a, found_first n (suc i) (omega arith)) (go (p i))
    where
      x : ℕ
      x = first_from p (suc i) n

      go : (b : Bool) → cond b (Some i) (given (leb x m) x) ≡ given (leb (cond b i x) m) (cond b i x)
      go true = rw (le-leb i m (omega arith)) refl
      go false = refl

module _ (t : List ℕ) where
  abbrev pub runs : ℕ → Bool
  runs k = eqb (task_status t k) running

  pub found_running : (o : Option ℕ) → option_map (λ k. k) o ≡ find runs (range_with_len 1 (tasks_made t)) → o ≡ running_task t
  unfolding running_task lowest_running
  found_running o e = same o ∙ e ∙ found_first runs (tasks_made t) (tasks_made t) 1 (omega arith)
    where
      same : (o : Option ℕ) → o ≡ option_map (λ k. k) o
      same None = refl
      same (Some k) = refl
