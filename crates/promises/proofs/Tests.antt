-- Laws of tests: the rules' lists of tests as the model joins them; which tasks, finishes and messages a kill changes.
use mathlib.Core.Path.{◌≡◌, refl}
use mathlib.Core.Bool.{Bool, true, false, ◌&&◌, ◌||◌, not, and_comm}
use mathlib.Core.Logic.{◌⊎◌, inl, inr}
use mathlib.Core.List.{List, [], ◌∷◌}
use Prim.Native.Nat.{ℕ, zero, suc, ◌≤◌, ◌<◌}
use native.Mathlib.Omega.{arith}
use lib.Dec.{eqb}
use borrow.Author.Tests.{ne_eqb}
use Rattle.tables.specs.Walks.{every, some_of, some_below, every_below}
use Rattle.rules.specs.Fields.{home}
use Rattle.rules.specs.Messages.{tagged}
use Rattle.rules.specs.Messages.{goes_to as place_of}
use Rattle.rules.specs.Kill.{loses_task as task_test, loses_finish as finish_test}
use Rattle.model.specs.Base.Cases.{bool_cases, eq_cases, both}
use Rattle.model.specs.Messages.{goes_to}
use Rattle.model.specs.Effects.Kill.{loses_task, loses_finish}

pub some_two : (a b : Bool) → some_of (a ∷ b ∷ []) ≡ (a || b)
unfolding some_of
some_two true b = refl
some_two false true = refl
some_two false false = refl

pub every_two : (a b : Bool) → every (a ∷ b ∷ []) ≡ (a && b)
unfolding every
every_two true true = refl
every_two true false = refl
every_two false b = refl

pub every_four : (a b c d : Bool) → every (a ∷ b ∷ c ∷ d ∷ []) ≡ (a && (b && (c && d)))
unfolding every
every_four true true true true = refl
every_four true true true false = refl
every_four true true false d = refl
every_four true false c d = refl
every_four false b c d = refl

-- what lists of tests tell
pub not_true : (b : Bool) → not b ≡ true → b ≡ false
not_true true e = both e refl
not_true false e = refl

pub some_other : (a b : Bool) → some_of (a ∷ b ∷ []) ≡ true → a ≡ false → b ≡ true
unfolding some_of
some_other a true e n = refl
some_other a false e n = both e (rw n refl)

pub one_of : {P : Type 0} (a b : Bool) → some_of (a ∷ b ∷ []) ≡ true → (a ≡ true → P) → (b ≡ true → P) → P
unfolding some_of
one_of true b e p q = p refl
one_of false true e p q = q refl
one_of false false e p q = both e refl

pub none_of_three : (a b c : Bool) → some_of (a ∷ b ∷ c ∷ []) ≡ false → (a ≡ false) × (b ≡ false) × (c ≡ false)
unfolding some_of
none_of_three true b c e = both refl e
none_of_three false true c e = both refl e
none_of_three false false true e = both refl e
none_of_three false false false e = (refl, refl, refl)

pub not_both : (x y : Bool) → every (x ∷ y ∷ []) ≡ false → x ≡ true → y ≡ false
unfolding every
not_both x true e p = both (rw p refl) e
not_both x false e p = refl

pub below_all : (p : ℕ → Bool) (n : ℕ) → every_below p n ≡ true → (i : ℕ) → i < n → p i ≡ true
unfolding every_below
below_all p zero e i h = absurd (omega arith)
below_all p (suc n) e i h = bool_cases (p n)
    (λ y. eq_cases i n (λ q. rw q y) (λ q. below_all p n (rw y at e) i (omega arith)))
    (λ y. both e (rw y refl))

pub below_none : (p : ℕ → Bool) (n : ℕ) → some_below p n ≡ false → (i : ℕ) → i < n → p i ≡ false
unfolding some_below
below_none p zero e i h = absurd (omega arith)
below_none p (suc n) e i h = bool_cases (p n)
    (λ y. both (rw y refl) e)
    (λ y. eq_cases i n (λ q. rw q y) (λ q. below_none p n (rw y at e) i (omega arith)))

-- a mark that is not 0
pub mark_set : (x : ℕ) → x ≤ 1 → (x ≡ 0 → ⊥) → x ≡ 1
mark_set x l n = omega arith

-- ---- kill
pub loses_task_lem : (p from at status : ℕ) → task_test p from at status ≡ loses_task p from at status
unfolding task_test loses_task
loses_task_lem p from at status =
    rw (
      some_two (eqb status 5) (eqb status 6),
      some_two (eqb status 1) (eqb status 2),
      every_two (eqb at p) (eqb status 5 || eqb status 6),
      every_two (eqb from p) (eqb status 1 || eqb status 2),
      some_two (eqb at p && (eqb status 5 || eqb status 6)) (eqb from p && (eqb status 1 || eqb status 2)),
      and_comm (eqb at p) (eqb status 5 || eqb status 6),
      and_comm (eqb from p) (eqb status 1 || eqb status 2),
    ) refl

pub loses_finish_lem : (p home status : ℕ) → finish_test p home status ≡ loses_finish p home status
unfolding finish_test loses_finish
loses_finish_lem p home status = every_two (eqb home p) (not (eqb status 4))

-- the store, 8, is no place
pub goes_to_lem : (t : List ℕ) (homes : ℕ → ℕ) (p tag f k v j n : ℕ) (list : List ℕ) (counts : ℕ → ℕ) → p < 8 → ((tag ≡ 2) ⊎ (tag ≡ 8) → home t f ≡ homes f)
    → eqb (place_of t (tagged tag f k v j n list)) p ≡ goes_to homes (record { tag = tag; finish = f; task = k; from = v; to = j; number = n; counts = counts }) p
unfolding place_of tagged goes_to
goes_to_lem t homes p zero f k v j n list counts h e = ne_eqb 8 p (λ q. omega arith)
goes_to_lem t homes p (suc zero) f k v j n list counts h e = ne_eqb 8 p (λ q. omega arith)
goes_to_lem t homes p (suc (suc zero)) f k v j n list counts h e = rw (e (inl refl)) refl
goes_to_lem t homes p (suc (suc (suc zero))) f k v j n list counts h e = ne_eqb 8 p (λ q. omega arith)
goes_to_lem t homes p (suc (suc (suc (suc zero)))) f k v j n list counts h e = refl
goes_to_lem t homes p (suc (suc (suc (suc (suc zero))))) f k v j n list counts h e = refl
goes_to_lem t homes p (suc (suc (suc (suc (suc (suc zero)))))) f k v j n list counts h e = refl
goes_to_lem t homes p (suc (suc (suc (suc (suc (suc (suc zero))))))) f k v j n list counts h e = ne_eqb 8 p (λ q. omega arith)
goes_to_lem t homes p (suc (suc (suc (suc (suc (suc (suc (suc zero)))))))) f k v j n list counts h e = rw (e (inr refl)) refl
goes_to_lem t homes p (suc (suc (suc (suc (suc (suc (suc (suc (suc zero))))))))) f k v j n list counts h e = ne_eqb 8 p (λ q. omega arith)
goes_to_lem t homes p (suc (suc (suc (suc (suc (suc (suc (suc (suc (suc zero)))))))))) f k v j n list counts h e = refl
goes_to_lem t homes p (suc (suc (suc (suc (suc (suc (suc (suc (suc (suc (suc zero))))))))))) f k v j n list counts h e = ne_eqb 8 p (λ q. omega arith)
goes_to_lem t homes p (suc (suc (suc (suc (suc (suc (suc (suc (suc (suc (suc (suc m)))))))))))) f k v j n list counts h e =
    let x = suc (suc (suc (suc (suc (suc (suc (suc (suc (suc (suc (suc m))))))))))) in
    rw (
      ne_eqb x 1 (λ q. omega arith),
      ne_eqb x 2 (λ q. omega arith),
      ne_eqb x 3 (λ q. omega arith),
      ne_eqb x 4 (λ q. omega arith),
      ne_eqb x 5 (λ q. omega arith),
      ne_eqb x 6 (λ q. omega arith),
      ne_eqb x 7 (λ q. omega arith),
      ne_eqb x 8 (λ q. omega arith),
      ne_eqb x 9 (λ q. omega arith),
      ne_eqb x 10 (λ q. omega arith),
      ne_eqb x 11 (λ q. omega arith),
    ) (ne_eqb 8 p (λ q. omega arith))
