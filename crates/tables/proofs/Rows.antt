-- `all` over the rows of a table, as the rules walk them: the code tests a row by its own bytes, the rules by the tables from the row on.
use Rattle.std.proofs.Common.{◌≡◌, ℕ, suc, zero, ◌+◌, ◌-◌, ◌<◌, ◌≤◌, Bool, true, false, List, take, drop, Option, refl, ◌∙◌, arith, add-one}
use Rattle.std.specs.List.{list_all, range_with_len}
use Rattle.std.specs.Range.{range_inclusive_start, range_inclusive_end, range_inclusive_exhausted, range_inclusive_len, range_inclusive_steps}
use denote.Param.Members.{Mut}
use Rattle.std.specs.Fn.{Called}
use Rattle.std.specs.Iterator.{AlwaysYields, ChecksAll}
use Rattle.std.specs.declared.ops.RangeInclusive.{RangeInclusive}
use Rattle.std.proofs.lemmas.Iterator.{YieldsList}
use Rattle.std.proofs.lemmas.Iterator.Search.{all_from_yields_List}
use lib.Seq.{drop-drop}
use Rattle.tables.specs.Bytes.{part}
use Rattle.tables.specs.Walks.{every_part}

-- ---- the numbers 1 to n, as `1..=n` gives them
abbrev pub gives : RangeInclusive ℕ → Option ℕ → RangeInclusive ℕ → Type 0
gives = range_inclusive_steps (λ x y. y - x) (λ x y. y ≡ x + 1)

-- nothing is left once it is exhausted
goes_on : (s : RangeInclusive ℕ) (b : Bool) → range_inclusive_exhausted s ≡ b → 0 < range_inclusive_len (λ x y. y - x) (range_inclusive_start s) (range_inclusive_end s) b → range_inclusive_exhausted s ≡ false
goes_on s true e h = absurd (omega arith)
goes_on s false e h = e

yields : (n a : ℕ) (s : RangeInclusive ℕ) → range_inclusive_len (λ x y. y - x) (range_inclusive_start s) (range_inclusive_end s) (range_inclusive_exhausted s) ≡ n → (range_inclusive_exhausted s ≡ false → range_inclusive_start s ≡ a) → AlwaysYields gives (λ x. x) s (range_with_len a n)
yields zero a s l z = λ x j h. absurd (omega (arith, h.1.1))
yields (suc n) a s l z = (
  λ j h. absurd (omega (arith, h.1.0)),
  λ x j h.
      let start : range_inclusive_start s ≡ a = z (goes_on s _ refl (omega arith)) in
      (h.1.0 ∙ start, yields n (a + 1) j (omega (arith, h.1.1)) (λ e. omega (arith, h.1.2 e))),
)

pub one_to : (s : RangeInclusive ℕ) (n : ℕ) → range_inclusive_start s ≡ 1 → range_inclusive_end s ≡ n → range_inclusive_exhausted s ≡ false → YieldsList gives (λ x. x) s (range_with_len 1 n)
one_to s n start end fresh = record { runs = yields n 1 s (rw fresh (omega arith)) (λ _. start) }

-- ---- p looks only at the first l bytes of the tables it is given
module _ (p : List ℕ → ℕ → Bool) (l w : ℕ) (at : ℕ → ℕ) (t : List ℕ) (looks : (m : List ℕ) (x : ℕ) → p (take l m) x ≡ p m x) where
  walk : (n i : ℕ) → ((x : ℕ) → i ≤ x → at x + w ≡ at (suc x)) → list_all (λ x. p (part t (at x) l) x) (range_with_len i n) ≡ every_part p w i n (drop (at i) t)
  unfolding part every_part
  walk zero i step = refl
  walk (suc n) i step = rw (looks (drop (at i) t) i, add-one i, drop-drop w (at i) t, step i (omega arith), walk n (suc i) (λ x h. step x (omega arith))) refl

  -- `all` over the numbers from i on, where the closure tests the row of each
  pub all_rows : {S F : Type 0} {steps : S → Option ℕ → S → Type 0} {g : Mut F (ℕ × Unit {0}) Bool} {s : S} (n i : ℕ) (u : S) (f : F) (r : Bool)
      → ChecksAll steps g s f r u → YieldsList steps (λ x. x) s (range_with_len i n)
      → ((x : ℕ) (b : Bool) (q : F) → Called g f (x, tt) b q → (q ≡ f) × (b ≡ p (part t (at x) l) x))
      → ((x : ℕ) → i ≤ x → at x + w ≡ at (suc x)) → r ≡ every_part p w i n (drop (at i) t)
  all_rows n i u f r ran given row step = all_from_yields_List (λ x. p (part t (at x) l) x) u f r ran given row ∙ walk n i step
