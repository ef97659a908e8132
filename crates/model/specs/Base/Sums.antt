-- Sums over a range, what a point update does to them, and what terms that rise do.
use Rattle.std.specs.Prelude.{◌≡◌, refl, ℕ, zero, suc, ◌+◌, ◌*◌, ◌≤◌, ◌<◌}
use Rattle.std.proofs.Common.{sym, ap, arith}
use Rattle.model.specs.Base.Cases.{eq_cases}
use Rattle.model.specs.Base.Updates.{upd, upd_same, upd_other}

-- the sum of φ x over x below n
unfoldable pub sum : ℕ → (ℕ → ℕ) → ℕ
sum zero φ = 0
sum (suc n) φ = φ n + sum n φ

pub sum-suc : (n : ℕ) (φ : ℕ → ℕ) → sum (suc n) φ ≡ φ n + sum n φ
unfolding sum
sum-suc n φ = refl

-- functions that agree below n
pub sum_ext : (n : ℕ) (φ ψ : ℕ → ℕ) → ((x : ℕ) → x < n → ψ x ≡ φ x) → sum n ψ ≡ sum n φ
unfolding sum
sum_ext zero φ ψ h = refl
sum_ext (suc n) φ ψ h = omega (arith, h n (omega arith), sum_ext n φ ψ (λ x l. h x (omega arith)))

pub sum_mono : (n : ℕ) (φ ψ : ℕ → ℕ) → ((x : ℕ) → x < n → φ x ≤ ψ x) → sum n φ ≤ sum n ψ
unfolding sum
sum_mono zero φ ψ h = omega arith
sum_mono (suc n) φ ψ h = omega (arith, h n (omega arith), sum_mono n φ ψ (λ x l. h x (omega arith)))

-- each term is at most the sum
pub sum_ge : (n : ℕ) (φ : ℕ → ℕ) (k : ℕ) → k < n → φ k ≤ sum n φ
unfolding sum
sum_ge zero φ k l = omega arith
sum_ge (suc n) φ k l = eq_cases k n
    (λ e. rw e (omega arith))
    (λ ne. omega (arith, sum_ge n φ k (omega arith)))

pub sum_zero : (n : ℕ) (φ : ℕ → ℕ) → ((x : ℕ) → x < n → φ x ≡ 0) → sum n φ ≡ 0
unfolding sum
sum_zero zero φ h = refl
sum_zero (suc n) φ h = omega (arith, h n (omega arith), sum_zero n φ (λ x l. h x (omega arith)))

-- terms of at most 1
pub sum_most : (n : ℕ) (φ : ℕ → ℕ) → ((x : ℕ) → x < n → φ x ≤ 1) → sum n φ ≤ n
unfolding sum
sum_most zero φ h = omega arith
sum_most (suc n) φ h = omega (arith, h n (omega arith), sum_most n φ (λ x l. h x (omega arith)))

-- a sum that is not 0 has a term that is not
pub sum_some : (n : ℕ) (φ : ℕ → ℕ) → 0 < sum n φ → (k : ℕ) × (k < n) × (0 < φ k)
unfolding sum
sum_some zero φ p = absurd (omega arith)
sum_some (suc n) φ p = eq_cases (φ n) 0
    (λ z. let r = sum_some n φ (omega arith) in (r.0, omega (arith, r.1), r.2))
    (λ nz. (n, omega arith, omega arith))

-- φ and ψ agree but at k
sum-at : (n : ℕ) (φ ψ : ℕ → ℕ) (k : ℕ) → k < n → ((x : ℕ) → x < n → (x ≡ k → ⊥) → ψ x ≡ φ x) → sum n ψ + φ k ≡ sum n φ + ψ k
unfolding sum
sum-at zero φ ψ k l h = absurd (omega arith)
sum-at (suc n) φ ψ k l h = eq_cases k n
    (λ e. rw e (omega (arith, sum_ext n φ ψ (λ x m. h x (omega arith) (λ q. omega arith)))))
    (λ ne. omega (arith, h n (omega arith) (λ q. ne (sym q)), sum-at n φ ψ k (omega arith) (λ x m. h x (omega arith))))

-- one of the arrays that the terms read is updated at k: g x v is the term of x where that array has v
pub sum-upd : {A : Type 0} (n : ℕ) (g : ℕ → A → ℕ) (f : ℕ → A) (k : ℕ) (v : A) → k < n
    → sum n (λ x. g x (upd f k v x)) + g k (f k) ≡ sum n (λ x. g x (f x)) + g k v
sum-upd n g f k v l =
    let h = sum-at n (λ x. g x (f x)) (λ x. g x (upd f k v x)) k l (λ x m ne. rw (upd_other f k v x ne)) in
    rw upd_same at h

-- two updates
pub sum_upd₂ : {A : Type 0} (n : ℕ) (g : ℕ → A → ℕ) (f : ℕ → A) (k : ℕ) (v : A) (l : ℕ) (w : A) → k < n → l < n → (l ≡ k → ⊥)
    → sum n (λ x. g x (upd (upd f k v) l w x)) + g k (f k) + g l (f l) ≡ sum n (λ x. g x (f x)) + g k v + g l w
sum_upd₂ n g f k v l w a b ne =
    omega (arith, sum-upd n g f k v a, sum-upd n g (upd f k v) l w b, ap (g l) (upd_other f k v l ne))

-- two terms at once
pub sum_two : (n : ℕ) (φ : ℕ → ℕ) (k l : ℕ) → k < n → l < n → (k ≡ l → ⊥) → φ k + φ l ≤ sum n φ
sum_two n φ k l a b ne =
    omega (arith, sum-upd n (λ x v. v) φ k 0 a, sum_ge n (upd φ k 0) l b, upd_other φ k 0 l (λ q. ne (sym q)))

-- terms that rise: each by at most c
pub sum_rise : (n c : ℕ) (φ ψ : ℕ → ℕ) → ((x : ℕ) → x < n → ψ x ≤ φ x + c) → sum n ψ ≤ sum n φ + n * c
unfolding sum
sum_rise zero c φ ψ h = omega arith
sum_rise (suc n) c φ ψ h = omega (arith, h n (omega arith), sum_rise n c φ ψ (λ x l. h x (omega arith)))

-- the term of k alone rises, by at most c
pub sum_but : (n c : ℕ) (φ ψ : ℕ → ℕ) (k : ℕ) → ψ k ≤ φ k + c → ((x : ℕ) → x < n → (x ≡ k → ⊥) → ψ x ≤ φ x) → sum n ψ ≤ sum n φ + c
unfolding sum
sum_but zero c φ ψ k one h = omega arith
sum_but (suc n) c φ ψ k one h = eq_cases k n
    (λ e. omega (arith, rw e at one, sum_mono n ψ φ (λ x l. h x (omega arith) (λ q. omega arith))))
    (λ ne. omega (arith, h n (omega arith) (λ q. ne (sym q)), sum_but n c φ ψ k one (λ x l. h x (omega arith))))

-- none rises, and the term of k falls by c
pub sum_falls : (n c : ℕ) (φ ψ : ℕ → ℕ) (k : ℕ) → k < n → ψ k + c ≤ φ k → ((x : ℕ) → x < n → (x ≡ k → ⊥) → ψ x ≤ φ x) → sum n ψ + c ≤ sum n φ
unfolding sum
sum_falls zero c φ ψ k l one h = absurd (omega arith)
sum_falls (suc n) c φ ψ k l one h = eq_cases k n
    (λ e. omega (arith, rw e at one, sum_mono n ψ φ (λ x m. h x (omega arith) (λ q. omega arith))))
    (λ ne. omega (arith, h n (omega arith) (λ q. ne (sym q)), sum_falls n c φ ψ k (omega arith) one (λ x m. h x (omega arith))))

-- none falls, and the term of k rises
pub sum_strict : (n : ℕ) (φ ψ : ℕ → ℕ) (k : ℕ) → k < n → φ k < ψ k → ((x : ℕ) → x < n → φ x ≤ ψ x) → sum n φ < sum n ψ
sum_strict n φ ψ k l one h = omega (arith, sum_falls n 1 ψ φ k l (omega arith) (λ x m _. h x m))
