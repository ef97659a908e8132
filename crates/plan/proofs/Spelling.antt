-- Reading a word and spelling it: a number that is spelled is read as itself, and a word that is read as a number is spelled so.
use mathlib.Core.Path.{◌≡◌, refl, sym, ap, ◌∙◌}
use mathlib.Core.Bool.{Bool, true, false}
use mathlib.Core.List.{List, [], ◌∷◌, ◌++◌, append_assoc, append-nil}
use Prim.Native.Nat.{ℕ, ◌+◌, ◌-◌, ◌*◌, ◌/◌, ◌%◌, ◌≤◌, ◌<◌}
use native.Mathlib.Omega.{arith}
use borrow.Author.Tests.{le-leb, leb-true, eqb-true}
use lib.Dec.{eqb, leb}
use Rattle.tables.proofs.Walks.{every_each, each_every}
use Rattle.std.specs.Fmt.{decimal}
use Rattle.std.proofs.lemmas.Fmt.{decimal_digit, decimal_step, decimal_by_steps}
use Rattle.std.specs.Prelude.{Option, None, Some}
use Rattle.std.specs.Char.{is_ascii_digit}
use Rattle.plan.specs.Reading.{and_then, goes_on, with_digit, read_on, number_of, spaced, word_of, ended, last_of}

pub by_test : {P : Type 0} (b : Bool) → (b ≡ true → P) → (b ≡ false → P) → P
by_test true p q = p refl
by_test false p q = q refl

-- ---- digits
digit_is : (b : ℕ) → is_ascii_digit b ≡ true → (48 ≤ b) × (b ≤ 57)
digit_is b e = (grind arith, grind arith)

is_digit : (b : ℕ) → 48 ≤ b → b ≤ 57 → is_ascii_digit b ≡ true
is_digit b h l = grind arith

pub goes_is : (v b : ℕ) → goes_on v b ≡ true → ((1 ≤ v) × (v ≤ 65535)) × ((48 ≤ b) × (b ≤ 57))
unfolding goes_on
goes_is v b e =
    let h = every_each (leb 1 v ∷ leb v 65535 ∷ is_ascii_digit b ∷ []) e in
    ((leb-true 1 v h.0, leb-true v 65535 h.1.0), digit_is b h.1.1.0)

goes : (v b : ℕ) → 1 ≤ v → v ≤ 65535 → 48 ≤ b → b ≤ 57 → goes_on v b ≡ true
unfolding goes_on
goes v b h₁ h₂ h₃ h₄ = each_every (leb 1 v ∷ leb v 65535 ∷ is_ascii_digit b ∷ []) (le-leb 1 v h₁, (le-leb v 65535 h₂, (is_digit b h₃ h₄, tt)))

-- ---- what is spelled is read
reads_one : (n : ℕ) (m : List ℕ) → n < 10 → number_of ((48 + n) ∷ m) ≡ Some (read_on n m)
unfolding number_of with_digit
reads_one n m h =
    let e : 10 * 0 + (48 + n - 48) ≡ n = omega arith in
    rw (is_digit (48 + n) (omega arith) (omega arith), e) refl

reads_more : (n : ℕ) (m : List ℕ) → 10 ≤ n → n ≤ 65535 → read_on (n / 10) ((48 + n % 10) ∷ m) ≡ read_on n m
unfolding read_on with_digit
reads_more n m h l =
    let e : 10 * (n / 10) + (48 + n % 10 - 48) ≡ n = omega arith in
    rw (goes (n / 10) (48 + n % 10) (omega arith) (omega arith) (omega arith) (omega arith), e) refl

reads : (n : ℕ) (m : List ℕ) → n ≤ 65535 → number_of (decimal n ++ m) ≡ Some (read_on n m)
reads n m l = decimal_by_steps P (λ n h m l. reads_one n m h) (λ n ds h f m l. more n ds m h l f) n (omega arith) m l
  where
    P : ℕ → List ℕ → Type 0
    P n ds = (m : List ℕ) → n ≤ 65535 → number_of (ds ++ m) ≡ Some (read_on n m)

    more : (n : ℕ) (ds m : List ℕ) → 10 ≤ n → n ≤ 65535 → P (n / 10) ds → number_of ((ds ++ ((48 + n % 10) ∷ [])) ++ m) ≡ Some (read_on n m)
    more n ds m h l f = ap number_of (append_assoc ds ((48 + n % 10) ∷ []) m) ∙ f ((48 + n % 10) ∷ m) (omega arith) ∙ ap Some (reads_more n m h l)

pub reads_end : (v b : ℕ) (m : List ℕ) → goes_on v b ≡ false → read_on v (b ∷ m) ≡ (v, b ∷ m)
unfolding read_on
reads_end v b m e = rw e refl

pub word_reads : (n : ℕ) (m : List ℕ) → n ≤ 65535 → word_of (decimal n ++ (32 ∷ m)) ≡ Some (n, m)
unfolding word_of spaced
word_reads n m l =
    let s : goes_on n 32 ≡ false = by_test (goes_on n 32) (λ e. absurd (omega (arith, (goes_is n 32 e).1.0))) (λ e. e) in
    let e : number_of (decimal n ++ (32 ∷ m)) ≡ Some (n, 32 ∷ m) = reads n (32 ∷ m) l ∙ ap Some (reads_end n 32 m s) in
    rw e refl

pub last_reads : (n : ℕ) → n ≤ 65535 → last_of (decimal n) ≡ Some n
unfolding last_of ended read_on
last_reads n l =
    let e : number_of (decimal n) ≡ Some (n, []) = ap number_of (sym (append-nil (decimal n))) ∙ reads n [] l in
    rw e refl

-- ---- what is read is spelled
spells_one : (b : ℕ) → 48 ≤ b → b ≤ 57 → decimal (with_digit 0 b) ≡ b ∷ []
unfolding with_digit
spells_one b h l =
    let e : 48 + (10 * 0 + (b - 48)) ≡ b = omega arith in
    decimal_digit (10 * 0 + (b - 48)) (omega arith) ∙ rw e refl

spells_more : (v b : ℕ) → goes_on v b ≡ true → decimal (with_digit v b) ≡ decimal v ++ (b ∷ [])
unfolding with_digit
spells_more v b g =
    let r = goes_is v b g in
    let q : (10 * v + (b - 48)) / 10 ≡ v = omega arith in
    let d : 48 + (10 * v + (b - 48)) % 10 ≡ b = omega arith in
    decimal_step (10 * v + (b - 48)) (omega arith) (omega arith) ∙ rw (q, d) refl

-- a number that is spelled as far as v, and what is left
spells_on : (m : List ℕ) (v : ℕ) → decimal v ++ m ≡ decimal (read_on v m).0 ++ (read_on v m).1
unfolding read_on
spells_on [] v = refl
spells_on (b ∷ m) v = by_test (goes_on v b)
    (λ e. rw e
    (sym (append_assoc (decimal v) (b ∷ []) m)
    ∙ ap (λ (l : List ℕ). l ++ m) (sym (spells_more v b e))
    ∙ spells_on m (with_digit v b)))
    (λ e. rw e refl)

number_spelled : (m : List ℕ) (r : ℕ × List ℕ) → number_of m ≡ Some r → m ≡ decimal r.0 ++ r.1
unfolding number_of
number_spelled [] r h = cc
number_spelled (b ∷ m) r h = by_test (is_ascii_digit b)
    (λ e.
    let q : read_on (with_digit 0 b) m ≡ r = let z : Some (read_on (with_digit 0 b) m) ≡ Some r = rw e at h in cc in
    rw (← q) (ap (λ (l : List ℕ). l ++ m) (sym (spells_one b (digit_is b e).0 (digit_is b e).1)) ∙ spells_on m (with_digit 0 b)))
    (λ e. let z = rw e at h in absurd (cc))

-- a value that f made of a value
pub made_of : {A B : Type 0} (o : Option A) (f : A → Option B) (y : B) → and_then o f ≡ Some y → (x : A) × ((o ≡ Some x) × (f x ≡ Some y))
made_of None f y e = absurd (cc)
made_of (Some x) f y e = (x, (refl, e))

spaced-spelled : (v : ℕ) (m : List ℕ) (r : ℕ × List ℕ) → spaced v m ≡ Some r → decimal v ++ m ≡ decimal r.0 ++ (32 ∷ r.1)
unfolding spaced
spaced-spelled v [] r h = absurd (cc)
spaced-spelled v (b ∷ m) r h = by_test (eqb b 32)
    (λ e. let z : Some (v, m) ≡ Some r = rw e at h in let q : (v, m) ≡ r = cc in rw (← q) (ap (λ (x : ℕ). decimal v ++ (x ∷ m)) (eqb-true b 32 e)))
    (λ e. let z = rw e at h in absurd (cc))

pub word-spelled : (m : List ℕ) (r : ℕ × List ℕ) → word_of m ≡ Some r → m ≡ decimal r.0 ++ (32 ∷ r.1)
unfolding word_of
word-spelled m r h =
    let n = made_of (number_of m) (λ s. spaced s.0 s.1) r h in
    number_spelled m n.0 n.1.0 ∙ spaced-spelled n.0.0 n.0.1 r n.1.1

ended-spelled : (v : ℕ) (m : List ℕ) (n : ℕ) → ended v m ≡ Some n → decimal v ++ m ≡ decimal n
unfolding ended
ended-spelled v [] n h = let q : v ≡ n = cc in rw q (append-nil (decimal n))
ended-spelled v (b ∷ m) n h = absurd (cc)

pub last_spelled : (m : List ℕ) (n : ℕ) → last_of m ≡ Some n → m ≡ decimal n
unfolding last_of
last_spelled m n h =
    let r = made_of (number_of m) (λ s. ended s.0 s.1) n h in
    number_spelled m r.0 r.1.0 ∙ ended-spelled r.0.0 r.0.1 n r.1.1
