-- A byte made of marks, and its marks after one is set or cleared; then the same by shift, or and subtraction, as code does it.
use mathlib.Core.Path.{◌≡◌, refl, sym, ap, ◌∙◌, fun_ext}
use mathlib.Core.Bool.{Bool, true, false, ◌&&◌, ◌||◌, not, or_comm, and-false}
use Prim.Native.Nat.{ℕ, zero, suc, ◌+◌, ◌*◌, ◌/◌, ◌%◌, ◌^◌, ◌≤◌, ◌<◌, max}
use native.Mathlib.Nat.{pow-suc, one-mul}
use native.Mathlib.Omega.{arith}
use mir.Val.{bool_byte}
use lib.Dec.{eqb, ltb, eqb-zero-suc, eqb-suc-zero, eqb-suc-suc}
use lib.Bits.{bit_or, or_step, or_lt}
use lib.Pow.{pow-lt, shl_exact, shr-shr}
use borrow.Author.Tests.{eqb-true, eqb-false, eq-eqb, ne_eqb, lt-ltb, le-ltb, ltb-true, ltb-false}
use Rattle.tables.specs.Bits.{digit, bit_at, mask, marked, with_mark, without_mark}

-- a truth as the number that the code makes of it
pub byte_digit : (b : Bool) → bool_byte b ≡ digit b
byte_digit true = refl
byte_digit false = refl

pub digit-le : (b : Bool) → digit b ≤ 1
digit-le true = omega arith
digit-le false = omega arith

half_digit : (b : Bool) (y : ℕ) → (digit b + 2 * y) / 2 ≡ y
half_digit true y = omega arith
half_digit false y = omega arith

odd_digit : (b : Bool) (y : ℕ) → eqb ((digit b + 2 * y) % 2) 1 ≡ b
odd_digit true y = eq-eqb ((1 + 2 * y) % 2) 1 (omega arith)
odd_digit false y = ne_eqb ((0 + 2 * y) % 2) 1 (λ q. omega arith)

pub bit_mask : (n : ℕ) (p : ℕ → Bool) (j : ℕ) → j < n → bit_at (mask p n) j ≡ p j
unfolding bit_at mask
bit_mask zero p j h = absurd (omega arith)
bit_mask (suc n) p zero h = odd_digit (p 0) (mask (λ j. p (suc j)) n)
bit_mask (suc n) p (suc j) h =
    ap (λ (x : ℕ). bit_at x j) (half_digit (p 0) (mask (λ j. p (suc j)) n)) ∙ bit_mask n (λ j. p (suc j)) j (omega arith)

pub mask_lt : (n : ℕ) (p : ℕ → Bool) → mask p n < 2 ^ n
unfolding mask
mask_lt zero p = omega arith
mask_lt (suc n) p = omega (arith, pow-suc 2 n, mask_lt n (λ j. p (suc j)), digit-le (p 0))

odd : (m : ℕ) → digit (eqb (m % 2) 1) ≡ m % 2
odd m = go (eqb (m % 2) 1) refl
  where
    go : (b : Bool) → eqb (m % 2) 1 ≡ b → digit b ≡ m % 2
    go true e = omega (arith, eqb-true (m % 2) 1 e)
    go false e = let ne = eqb-false (m % 2) 1 e in omega arith

-- a number is told by its bits
pub mask_bits : (n m : ℕ) → m < 2 ^ n → mask (bit_at m) n ≡ m
unfolding mask bit_at
mask_bits zero m h = omega arith
mask_bits (suc n) m h = omega (arith, odd m, mask_bits n (m / 2) (omega (arith, pow-suc 2 n)))

-- no bits, and nothing else: 0
pub no_bits : (n m : ℕ) → m < 2 ^ n → ((j : ℕ) → j < n → bit_at m j ≡ false) → m ≡ 0
unfolding bit_at
no_bits zero m l h = omega arith
no_bits (suc n) m l h =
    let a = eqb-false (m % 2) 1 (h 0 (omega arith)) in
    let c = no_bits n (m / 2) (omega (arith, pow-suc 2 n)) (λ j g. h (suc j) (omega arith)) in
    omega arith

-- ---- marks
pub marked_low : (m j : ℕ) → j < 8 → marked m j ≡ bit_at m j
unfolding marked
marked_low m j h = rw (lt-ltb j 8 h)

pub marked_high : (m j : ℕ) → 8 ≤ j → marked m j ≡ false
unfolding marked
marked_high m j h = rw (le-ltb j 8 h)

by_range : {P : Type 0} (j : ℕ) → (j < 8 → P) → (8 ≤ j → P) → P
by_range {P} j low high = go (ltb j 8) refl
  where
    go : (b : Bool) → ltb j 8 ≡ b → P
    go true e = low (ltb-true j 8 e)
    go false e = high (ltb-false j 8 e)

-- mark k set, or cleared, and then mark j tested
pub with_mark_lem : (m k j : ℕ) → k < 8 → marked (with_mark m k) j ≡ (eqb j k || marked m j)
unfolding with_mark
with_mark_lem m k j h = by_range j
    (λ l. rw (marked_low (with_mark m k) j l, marked_low m j l) (bit_mask 8 (λ j. eqb j k || bit_at m j) j l))
    (λ g. rw (marked_high (with_mark m k) j g, marked_high m j g, ne_eqb j k (λ q. omega arith)) refl)

pub without_mark_lem : (m k j : ℕ) → marked (without_mark m k) j ≡ (not (eqb j k) && marked m j)
unfolding without_mark
without_mark_lem m k j = by_range j
    (λ l. rw (marked_low (without_mark m k) j l, marked_low m j l) (bit_mask 8 (λ j. not (eqb j k) && bit_at m j) j l))
    (λ g. rw (marked_high (without_mark m k) j g, marked_high m j g) (sym (and-false (not (eqb j k)))))

-- ---- as code does it
pub bit_shift : (j m : ℕ) → bit_at m j ≡ eqb ((m / 2 ^ j) % 2) 1
unfolding bit_at
bit_shift zero m = let e : m / 2 ^ 0 ≡ m = omega arith in rw e
bit_shift (suc j) m = bit_shift j (m / 2) ∙ ap (λ (x : ℕ). eqb (x % 2) 1) (shr-shr m 1 j ∙ ap (λ (x : ℕ). m / 2 ^ x) (omega arith))

pub shift_one : (k : ℕ) → k < 8 → 1 * 2 ^ k % 2 ^ 8 ≡ 2 ^ k
shift_one k h = shl_exact 1 k 8 (omega arith) (omega arith) ∙ one-mul (2 ^ k)

bit_at-bit_or : (j a b : ℕ) → bit_at (bit_or a b) j ≡ (bit_at a j || bit_at b j)
unfolding bit_at
bit_at-bit_or zero a b = rw (or_step a b) (go (a % 2) (b % 2) (omega arith) (omega arith))
  where
    go : (x y : ℕ) → x < 2 → y < 2 → eqb ((bit_or (a / 2) (b / 2) * 2 + max x y) % 2) 1 ≡ (eqb x 1 || eqb y 1)
    go zero zero h g = ne_eqb ((bit_or (a / 2) (b / 2) * 2 + 0) % 2) 1 (λ e. omega arith)
    go zero (suc zero) h g = eq-eqb ((bit_or (a / 2) (b / 2) * 2 + 1) % 2) 1 (omega arith)
    go (suc zero) zero h g = eq-eqb ((bit_or (a / 2) (b / 2) * 2 + 1) % 2) 1 (omega arith)
    go (suc zero) (suc zero) h g = eq-eqb ((bit_or (a / 2) (b / 2) * 2 + 1) % 2) 1 (omega arith)
    go zero (suc (suc y)) h g = absurd (omega arith)
    go (suc zero) (suc (suc y)) h g = absurd (omega arith)
    go (suc (suc x)) y h g = absurd (omega arith)
bit_at-bit_or (suc j) a b =
    let e : (bit_or (a / 2) (b / 2) * 2 + max (a % 2) (b % 2)) / 2 ≡ bit_or (a / 2) (b / 2) = omega arith in
    rw (or_step a b, e) (bit_at-bit_or j (a / 2) (b / 2))

bit_pow : (k j : ℕ) → bit_at (2 ^ k) j ≡ eqb j k
unfolding bit_at
bit_pow zero zero = refl
bit_pow zero (suc j) = none j ∙ sym (eqb-suc-zero j)
  where
    none : (j : ℕ) → bit_at 0 j ≡ false
    none zero = refl
    none (suc j) = none j
bit_pow (suc k) zero = rw (pow-suc 2 k) (ne_eqb (2 ^ k * 2 % 2) 1 (λ q. omega arith) ∙ sym (eqb-zero-suc k))
bit_pow (suc k) (suc j) =
    let e : 2 ^ k * 2 / 2 ≡ 2 ^ k = omega arith in
    rw (pow-suc 2 k, e, eqb-suc-suc j k) (bit_pow k j)

mask_same : (n : ℕ) (p q : ℕ → Bool) → ((j : ℕ) → p j ≡ q j) → mask p n ≡ mask q n
mask_same n p q h = ap (λ (r : ℕ → Bool). mask r n) (fun_ext h)

pub set_or : (m k : ℕ) → m < 256 → k < 8 → with_mark m k ≡ bit_or m (2 ^ k)
unfolding with_mark
set_or m k a b =
    mask_same 8 (λ j. eqb j k || bit_at m j) (bit_at (bit_or m (2 ^ k))) (λ j. or_comm (eqb j k) (bit_at m j) ∙ sym (bit_at-bit_or j m (2 ^ k) ∙ ap (λ (x : Bool). bit_at m j || x) (bit_pow k j)))
    ∙ mask_bits 8 (bit_or m (2 ^ k)) (or_lt 8 m (2 ^ k) a (pow-lt b))

mask_apart : (n k : ℕ) (p : ℕ → Bool) → k < n → mask (λ j. eqb j k || p j) n ≡ mask (λ j. not (eqb j k) && p j) n + 2 ^ k
unfolding mask
mask_apart zero k p h = absurd (omega arith)
mask_apart (suc n) zero p h =
    let a = mask_same n (λ j. eqb (suc j) 0 || p (suc j)) (λ j. p (suc j)) (λ j. rw (eqb-suc-zero j)) in
    let c = mask_same n (λ j. not (eqb (suc j) 0) && p (suc j)) (λ j. p (suc j)) (λ j. rw (eqb-suc-zero j)) in
    omega arith
mask_apart (suc n) (suc k) p h =
    let a = mask_same n (λ j. eqb (suc j) (suc k) || p (suc j)) (λ j. eqb j k || p (suc j)) (λ j. rw (eqb-suc-suc j k)) in
    let c = mask_same n (λ j. not (eqb (suc j) (suc k)) && p (suc j)) (λ j. not (eqb j k) && p (suc j)) (λ j. rw (eqb-suc-suc j k)) in
    rw (eqb-zero-suc k) (omega (arith, mask_apart n k (λ j. p (suc j)) (omega arith), pow-suc 2 k))

pub clear_sub : (m k : ℕ) → k < 8 → with_mark m k ≡ without_mark m k + 2 ^ k
unfolding with_mark without_mark
clear_sub m k h = mask_apart 8 k (bit_at m) h
