-- What the first byte of a line tells of how the line is read, as the code takes it off.
use Rattle.std.proofs.Common.{◌≡◌, refl, ap, ◌∙◌, true, false, List, [], ◌∷◌, ℕ, ◌-◌, ◌≤◌, length, take, drop, get_or, eqb, ltb, suc, one-add, ltb-false, arith, None, Some, eq-eqb, ne_eqb}
use Rattle.std.proofs.lemmas.List.{take_all}
use Rattle.std.specs.Char.{is_ascii_digit}
use Rattle.plan.specs.Reading.{goes_on, with_digit, read_on, number_of, spaced, word_of, ended, last_of}
use Rattle.std.specs.Prelude.{◌==◌, position}
use Rattle.std.specs.List.{position_or_len}
use Rattle.plan.specs.Plan.{first_line}
use Rattle.plan.proofs.Spelling.{by_test, goes_is}

abbrev pub first : List ℕ → ℕ
first t = get_or t 0 0

abbrev pub rest : List ℕ → List ℕ
rest t = take (length t - 1) (drop 1 t)

rest_is : (b : ℕ) (m : List ℕ) → rest (b ∷ m) ≡ m
rest_is b m = take_all (suc (length m) - 1) m (omega arith)

-- a number that begins as v
pub read_more : (v : ℕ) (t : List ℕ) → 1 ≤ length t → goes_on v (first t) ≡ true → read_on v t ≡ read_on (with_digit v (first t)) (rest t)
unfolding read_on
read_more v [] h g = absurd (omega arith)
read_more v (b ∷ m) h g = rw (g, rest_is b m) refl

pub read_stops : (v : ℕ) (t : List ℕ) → (1 ≤ length t → goes_on v (first t) ≡ false) → read_on v t ≡ (v, t)
unfolding read_on
read_stops v [] g = refl
read_stops v (b ∷ m) g = let e = g (omega arith) in rw e refl

-- a digit more
pub digit_more : (v b : ℕ) → goes_on v b ≡ true → (v ≤ 65535) × (48 ≤ b)
digit_more v b g = let r = goes_is v b g in (r.0.1, r.1.0)

-- a number
pub number_begins : (t : List ℕ) → 1 ≤ length t → is_ascii_digit (first t) ≡ true → number_of t ≡ Some (read_on (with_digit 0 (first t)) (rest t))
unfolding number_of
number_begins [] h g = absurd (omega arith)
number_begins (b ∷ m) h g = rw (g, rest_is b m) refl

pub number_none : (t : List ℕ) → (1 ≤ length t → is_ascii_digit (first t) ≡ false) → number_of t ≡ None
unfolding number_of
number_none [] g = refl
number_none (b ∷ m) g = let e = g (omega arith) in rw e refl

-- what comes after it
spaces : (v : ℕ) (m : List ℕ) → 1 ≤ length m → first m ≡ 32 → spaced v m ≡ Some (v, rest m)
unfolding spaced
spaces v [] h y = absurd (omega arith)
spaces v (b ∷ m) h y = rw (eq-eqb b 32 y, rest_is b m) refl

spaces_not : (v : ℕ) (m : List ℕ) → (1 ≤ length m → first m ≡ 32 → ⊥) → spaced v m ≡ None
unfolding spaced
spaces_not v [] n = refl
spaces_not v (b ∷ m) n = rw (ne_eqb b 32 (n (omega arith))) refl

ends : (v : ℕ) (m : List ℕ) → length m ≡ 0 → ended v m ≡ Some v
unfolding ended
ends v [] h = refl
ends v (b ∷ m) h = absurd (omega arith)

ends_not : (v : ℕ) (m : List ℕ) → (length m ≡ 0 → ⊥) → ended v m ≡ None
unfolding ended
ends_not v [] h = absurd (h refl)
ends_not v (b ∷ m) h = refl

module _ (t : List ℕ) where
  pub word_none : number_of t ≡ None → word_of t ≡ None
  unfolding word_of
  word_none e = rw e refl

  pub last_none : number_of t ≡ None → last_of t ≡ None
  unfolding last_of
  last_none e = rw e refl

  module _ (v : ℕ) (m : List ℕ) (e : number_of t ≡ Some (v, m)) where
    pub word_spaced : 1 ≤ length m → first m ≡ 32 → word_of t ≡ Some (v, rest m)
    unfolding word_of
    word_spaced h y = rw e (spaces v m h y)

    pub word_not : (1 ≤ length m → first m ≡ 32 → ⊥) → word_of t ≡ None
    unfolding word_of
    word_not n = rw e (spaces_not v m n)

    pub last_ends : length m ≡ 0 → last_of t ≡ Some v
    unfolding last_of
    last_ends h = rw e (ends v m h)

    pub last_not : (length m ≡ 0 → ⊥) → last_of t ≡ None
    unfolding last_of
    last_not h = rw e (ends_not v m h)

-- ---- the first line
line_is : (t : List ℕ) → first_line t ≡ take (position_or_len (λ b. b == 10) t) t
unfolding first_line
line_is [] = refl
line_is (b ∷ m) = by_test (eqb b 10)
    (λ e. rw e refl)
    (λ e. rw (e, one-add) (ap (λ (l : List ℕ). b ∷ l) (line_is m)))

pub line_at : (t : List ℕ) (n : ℕ) → position (λ b. b == 10) t ≡ Some n → first_line t ≡ take n t
line_at t n e = by_test (ltb (position_or_len (λ b. b == 10) t) (length t))
    (λ h. let z : Some (position_or_len (λ b. b == 10) t) ≡ Some n = rw h at e in let k : position_or_len (λ b. b == 10) t ≡ n = cc in rw (← k) (line_is t))
    (λ h. let z = rw h at e in absurd (cc))

pub line_whole : (t : List ℕ) → position (λ b. b == 10) t ≡ None → first_line t ≡ t
line_whole t e = by_test (ltb (position_or_len (λ b. b == 10) t) (length t))
    (λ h. let z = rw h at e in absurd (cc))
    (λ h. line_is t ∙ take_all _ t (ltb-false _ _ h))
