-- Two messages of tags 1 to 6 name two tasks, and two of tags 1 and 2 two finishes.
use Rattle.std.specs.Prelude.{◌≡◌, refl, Bool, ℕ, zero, suc, ◌+◌, ◌≤◌, ◌<◌, eqb}
use Rattle.std.proofs.Common.{sym, arith, eq-eqb}
use Rattle.model.specs.Base.{on, on_true, sum, sum_two, eq_cases}
use Rattle.model.specs.State.{State, Message}
use Rattle.model.specs.Messages.{tally, tally_is, tally_else, naming}
use Rattle.model.specs.Inv.Messages as M

sum-add : (n : ℕ) (φ ψ : ℕ → ℕ) → sum n φ + sum n ψ ≡ sum n (λ x. φ x + ψ x)
unfolding sum
sum-add zero φ ψ = refl
sum-add (suc n) φ ψ = omega (arith, sum-add n φ ψ)

-- 1 for a message of tag 1 to 6 that names the task x
abbrev pub names : Message → ℕ → ℕ
names m x = tally 1 m (eqb m.task x) 1 + tally 2 m (eqb m.task x) 1 + tally 3 m (eqb m.task x) 1
    + tally 4 m (eqb m.task x) 1 + tally 5 m (eqb m.task x) 1 + tally 6 m (eqb m.task x) 1

one_tag : (n z : ℕ) → 1 ≤ n → n ≤ 6 → on (eqb n 1) z + on (eqb n 2) z + on (eqb n 3) z + on (eqb n 4) z + on (eqb n 5) z + on (eqb n 6) z ≡ z
unfolding on
one_tag zero z l h = absurd (omega arith)
one_tag (suc zero) z l h = omega arith
one_tag (suc (suc zero)) z l h = omega arith
one_tag (suc (suc (suc zero))) z l h = omega arith
one_tag (suc (suc (suc (suc zero)))) z l h = omega arith
one_tag (suc (suc (suc (suc (suc zero))))) z l h = omega arith
one_tag (suc (suc (suc (suc (suc (suc zero)))))) z l h = omega arith
one_tag (suc (suc (suc (suc (suc (suc (suc n))))))) z l h = absurd (omega arith)

pub names_is : (m : Message) (x : ℕ) → 1 ≤ m.tag → m.tag ≤ 6 → names m x ≡ on (eqb m.task x) 1
unfolding tally
names_is m x l h = one_tag m.tag (on (eqb m.task x) 1) l h

pub names-none : (m : Message) (x : ℕ) → m.tag ≡ 0 → names m x ≡ 0
names-none m x e = omega (
  arith,
  tally_else 1 m (eqb m.task x) 1 (λ q. omega arith),
  tally_else 2 m (eqb m.task x) 1 (λ q. omega arith),
  tally_else 3 m (eqb m.task x) 1 (λ q. omega arith),
  tally_else 4 m (eqb m.task x) 1 (λ q. omega arith),
  tally_else 5 m (eqb m.task x) 1 (λ q. omega arith),
  tally_else 6 m (eqb m.task x) 1 (λ q. omega arith),
)

publishes_is : (m : Message) (b : Bool) → 1 ≤ m.tag → m.tag ≤ 2 → tally 1 m b 1 + tally 2 m b 1 ≡ on b 1
publishes_is m b l h = eq_cases m.tag 1
    (λ e. omega (arith, tally_is 1 m b 1 e, tally_else 2 m b 1 (λ q. omega arith)))
    (λ n. omega (arith, tally_else 1 m b 1 n, tally_is 2 m b 1 (omega arith)))

-- the messages of tags 1 to 6 that name x, as one sum over the slots
pub all_names : (s : State) (x : ℕ) → naming s 1 x + naming s 2 x + naming s 3 x + naming s 4 x + naming s 5 x + naming s 6 x ≡ sum s.slots (λ k. names (s.slot k) x)
all_names s x =
    let w : ℕ → ℕ → ℕ = λ t k. tally t (s.slot k) (eqb (s.slot k).task x) 1 in
    omega (
      arith,
      sum-add s.slots (w 1) (w 2),
      sum-add s.slots (λ k. w 1 k + w 2 k) (w 3),
      sum-add s.slots (λ k. w 1 k + w 2 k + w 3 k) (w 4),
      sum-add s.slots (λ k. w 1 k + w 2 k + w 3 k + w 4 k) (w 5),
      sum-add s.slots (λ k. w 1 k + w 2 k + w 3 k + w 4 k + w 5 k) (w 6),
    )

-- two messages of tags 1 to 6 name two tasks
pub alone : (s : State) → M.NamedOnce s → (k l : ℕ) → k < s.slots → l < s.slots → (l ≡ k → ⊥)
    → 1 ≤ (s.slot k).tag → (s.slot k).tag ≤ 6 → 1 ≤ (s.slot l).tag → (s.slot l).tag ≤ 6 → (s.slot l).task ≡ (s.slot k).task → ⊥
alone s once k l a b ne lk hk ll hl q =
    let x = (s.slot k).task in
    omega (
      arith,
      once x,
      all_names s x,
      sum_two s.slots (λ k. names (s.slot k) x) k l a b (λ e. ne (sym e)),
      names_is (s.slot k) x lk hk,
      names_is (s.slot l) x ll hl,
      on_true (eqb x x) 1 (eq-eqb x x refl),
      on_true (eqb (s.slot l).task x) 1 (eq-eqb (s.slot l).task x q),
    )

-- two messages of tags 1 and 2 name two finishes
pub alone_publish : (s : State) → M.PublishOnce s → (k l : ℕ) → k < s.slots → l < s.slots → (l ≡ k → ⊥)
    → 1 ≤ (s.slot k).tag → (s.slot k).tag ≤ 2 → 1 ≤ (s.slot l).tag → (s.slot l).tag ≤ 2 → (s.slot l).finish ≡ (s.slot k).finish → ⊥
alone_publish s once k l a b ne lk hk ll hl q =
    let f = (s.slot k).finish in
    let w : ℕ → ℕ → ℕ = λ t k. tally t (s.slot k) (eqb (s.slot k).finish f) 1 in
    omega (
      arith,
      once f,
      sum-add s.slots (w 1) (w 2),
      sum_two s.slots (λ k. w 1 k + w 2 k) k l a b (λ e. ne (sym e)),
      publishes_is (s.slot k) (eqb f f) lk hk,
      publishes_is (s.slot l) (eqb (s.slot l).finish f) ll hl,
      on_true (eqb f f) 1 (eq-eqb f f refl),
      on_true (eqb (s.slot l).finish f) 1 (eq-eqb (s.slot l).finish f q),
    )
