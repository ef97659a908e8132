-- A plan's line has at most 13 bytes, so the first bytes of a longer input tell as much as all of it.
use mathlib.Core.Path.{◌≡◌, refl, sym, ap, ◌∙◌}
use mathlib.Core.Bool.{true}
use mathlib.Core.List.{List, [], ◌∷◌, ◌++◌}
use Prim.Native.Nat.{ℕ, zero, suc, ◌+◌, ◌^◌, ◌≤◌, ◌<◌}
use native.Mathlib.Omega.{arith}
use lib.Dec.{eqb}
use lib.ListN.{length, take, length-append}
use Rattle.std.specs.Fmt.{decimal}
use Rattle.std.proofs.lemmas.Fmt.{length-decimal-le}
use Rattle.plan.specs.declared.Plan.{Plan}
use Rattle.plan.specs.Plan.{fits, first_line, spelled, ReadsAs}
use Rattle.plan.proofs.Ranges.{ranges}
use Rattle.plan.proofs.Spelling.{by_test}

-- a digit, a space, and what follows
word_most : (n : ℕ) (m : List ℕ) (k : ℕ) → n < 10 → length m ≤ k → length (decimal n ++ (32 ∷ m)) ≤ 2 + k
word_most n m k low rest =
    let e : 10 ^ 1 ≡ 10 = refl in
    omega (arith, length-append (decimal n) (32 ∷ m), length-decimal-le 1 n (omega arith) (omega arith) (omega arith))

spelled_most : (p : Plan) → fits p ≡ true → length (spelled p) ≤ 13
unfolding spelled
spelled_most p fit =
    let r = ranges p fit in
    let e : 10 ^ 5 ≡ 100000 = refl in
    word_most p.levels _ 11 (omega (arith, r.levels.1))
    (word_most p.width _ 9 (omega (arith, r.width.1))
    (word_most p.places _ 7 (omega (arith, r.places.1))
    (word_most p.victim _ 5 (omega (arith, r.victim, r.places.1)) (length-decimal-le 5 p.killstep (omega arith) (omega (arith, r.killstep)) (omega (arith, r.killstep))))))

-- the first line of the first n bytes is no longer than that of all, and the same if it ends in them
line_short : (n : ℕ) (l : List ℕ) → length (first_line (take n l)) ≤ length (first_line l)
unfolding first_line
line_short zero l = omega arith
line_short (suc n) [] = omega arith
line_short (suc n) (b ∷ l) = by_test (eqb b 10) (λ e. rw e (omega arith)) (λ e. rw e (omega (arith, line_short n l)))

line_cut : (n : ℕ) (l : List ℕ) → length (first_line (take n l)) < n → first_line (take n l) ≡ first_line l
unfolding first_line
line_cut zero l h = absurd (omega arith)
line_cut (suc n) [] h = refl
line_cut (suc n) (b ∷ l) h = by_test (eqb b 10)
    (λ e. rw e refl)
    (λ e. rw e (ap (λ (m : List ℕ). b ∷ m) (line_cut n l (omega (arith, rw e at h)))))

-- what is read of the first n bytes, 14 or more, is what is read of all
pub reads_cut : (n : ℕ) (input : List ℕ) (r : Plan) → 14 ≤ n → ReadsAs (take n input) r → ReadsAs input r
reads_cut n input r enough reads = record {
  accepted = λ fit. let e = reads.accepted fit in sym (line_cut n input (omega (arith, ap length e, spelled_most r fit))) ∙ e;
  complete = λ p fit e. reads.complete p fit (line_cut n input (omega (arith, line_short n input, ap length e, spelled_most p fit)) ∙ e);
  refused = reads.refused;
}
