-- The sound ranges of numbers: a row's test holds where each of its fields is in range.
use mathlib.Core.Path.{◌≡◌, refl, sym, ap, ◌∙◌}
use mathlib.Core.Bool.{true, false}
use mathlib.Core.List.{[], ◌∷◌}
use Prim.Native.Nat.{ℕ, ◌+◌, ◌-◌, ◌/◌, ◌%◌, ◌^◌, ◌≤◌, ◌<◌}
use native.Mathlib.Omega.{arith}
use lib.Dec.{eqb, ltb, leb}
use lib.Pow.{shr_lt, shr-shr}
use borrow.Author.Tests.{eq-eqb, ne_eqb, lt-ltb, le-leb}
use Rattle.tables.specs.Bits.{bit_at, marked}
use Rattle.tables.proofs.Bits.{no_bits, marked_low, bit_shift}
use Rattle.tables.proofs.Walks.{each_every}
use Rattle.rules.specs.Sound.{task_fits, finish_fits, parent_fits, book_fits}
use Rattle.model.specs.Base.Cases.{bool_cases, eq_cases}

-- a byte all of whose marks are below n
pub below : (d n : ℕ) → d < 256 → n ≤ 8 → ((p : ℕ) → marked d p ≡ true → p < n) → d / 2 ^ n ≡ 0
below d n h l marks =
    let e : 8 - n + n ≡ 8 = omega arith in
    no_bits (8 - n) (d / 2 ^ n) (shr_lt (8 - n) n (rw e h)) (λ j g. bit_shift j (d / 2 ^ n) ∙ ap (λ (x : ℕ). eqb (x % 2) 1) (shr-shr d n j) ∙ sym (bit_shift (n + j) d) ∙ none j g)
  where
    none : (j : ℕ) → j < 8 - n → bit_at d (n + j) ≡ false
    none j g = bool_cases (bit_at d (n + j)) (λ e. absurd (omega (arith, marks (n + j) (marked_low d (n + j) (omega arith) ∙ e)))) (λ e. e)

pub odd : (m : ℕ) → m % 2 ≡ 1 → marked m 0 ≡ true
unfolding marked bit_at
odd m e = eq-eqb (m % 2) 1 e

-- the rows' tests, of numbers
pub task-fits : {ps fs k from at finish status sent maker : ℕ} → (from < ps) × (at < ps) × (0 < finish) × (finish ≤ fs) × (sent ≤ 1) × (maker < k) → (0 < status) × (status ≤ 8)
    → task_fits ps fs k from at finish status sent maker ≡ true
unfolding task_fits
task-fits {ps} {fs} {k} {from} {at} {finish} {status} {sent} {maker} r w =
    each_every (ltb from ps ∷ ltb at ps ∷ leb 1 finish ∷ leb finish fs ∷ leb 1 status ∷ leb status 8 ∷ leb sent 1 ∷ ltb maker k ∷ [])
    (lt-ltb from ps r.0, (lt-ltb at ps r.1, (le-leb 1 finish r.2, (le-leb finish fs r.3, (le-leb 1 status w.0, (le-leb status 8 w.1, (le-leb sent 1 r.4, (lt-ltb maker k r.5, tt))))))))

pub finish_fits_lem : {ps ts f home opener parent status mark main : ℕ} → (home < ps) × (opener < main) × (parent < f) × (main ≤ ts) → (0 < status) × (status ≤ 5) → mark ≤ 1
    → finish_fits ps ts f home opener parent status mark main ≡ true
unfolding finish_fits
finish_fits_lem {ps} {ts} {f} {home} {opener} {parent} {status} {mark} {main} r w p =
    each_every (ltb home ps ∷ ltb opener main ∷ ltb parent f ∷ leb 1 status ∷ leb status 5 ∷ leb mark 1 ∷ leb 1 main ∷ leb main ts ∷ [])
    (lt-ltb home ps r.0, (lt-ltb opener main r.1, (lt-ltb parent f r.2, (le-leb 1 status w.0, (le-leb status 5 w.1, (le-leb mark 1 p, (le-leb 1 main (omega (arith, r.1)), (le-leb main ts r.3, tt))))))))

parent-fits : {adopted parent : ℕ} → (adopted ≡ 1 → 0 < parent) → parent_fits adopted parent ≡ true
unfolding parent_fits
parent-fits {adopted} {parent} h = eq_cases adopted 1
    (λ e. rw (eq-eqb adopted 1 e) (le-leb 1 parent (h e)))
    (λ n. rw (ne_eqb adopted 1 n) refl)

pub book_fits_lem : {fs f present parent due adopted : ℕ} → present ≤ 1 → due ≤ 1 → adopted ≤ 1 → (present ≡ 1 → (f ≤ fs) × (parent < f) × (adopted ≡ 1 → 0 < parent))
    → book_fits fs f present parent due adopted ≡ true
unfolding book_fits
book_fits_lem {fs} {f} {present} {parent} {due} {adopted} p d m h = eq_cases present 0
    (λ e. rw (eq-eqb present 0 e) refl)
    (λ n.
    let one : present ≡ 1 = omega arith in
    let r = h one in
    rw (ne_eqb present 0 n) (each_every (eqb present 1 ∷ leb f fs ∷ ltb parent f ∷ leb due 1 ∷ leb adopted 1 ∷ parent_fits adopted parent ∷ [])
    (eq-eqb present 1 one, (le-leb f fs r.0, (lt-ltb parent f r.1, (le-leb due 1 d, (le-leb adopted 1 m, (parent-fits r.2, tt))))))))
