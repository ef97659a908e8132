-- What is read of the first line is what reading means, both ways: a plan that fits is what the line spells, and no other plan is.
use Rattle.std.proofs.Common.{◌≡◌, refl, sym, ap, ◌∙◌, true, List, ◌∷◌, ◌++◌, ℕ, Option, None, Some, option_map, arith}
use Rattle.std.specs.Fmt.{decimal}
use Rattle.plan.specs.declared.Plan.{Plan}
use Rattle.plan.specs.Plan.{fits, first_line, spelled, no_plan, named, ReadsAs}
use Rattle.plan.specs.Reading.{word_of, last_of, numbers_of, plan_of}
use Rattle.plan.proofs.Ranges.{Ranges, ranges}
use Rattle.plan.proofs.Spelling.{by_test, made_of, word_reads, last_reads, word-spelled, last_spelled}

-- ---- a line that is spelled, and one that is read
numbers_read : (p : Plan) → Ranges p → numbers_of (spelled p) ≡ Some p
unfolding numbers_of spelled
numbers_read p r = rw (
  word_reads p.levels _ (omega (arith, r.levels.1)),
  word_reads p.width _ (omega (arith, r.width.1)),
  word_reads p.places _ (omega (arith, r.places.1)),
  word_reads p.victim _ (omega (arith, r.victim, r.places.1)),
  last_reads p.killstep r.killstep,
) refl

numbers_spelled : (m : List ℕ) (p : Plan) → numbers_of m ≡ Some p → m ≡ spelled p
unfolding numbers_of spelled
numbers_spelled m p h =
    let a = made_of (word_of m) _ p h in
    let b = made_of (word_of a.0.1) _ p a.1.1 in
    let c = made_of (word_of b.0.1) _ p b.1.1 in
    let d = made_of (word_of c.0.1) _ p c.1.1 in
    let k = mapped (last_of d.0.1) _ p d.1.1 in
    rw (← k.1.1)
    (word-spelled m a.0 a.1.0
    ∙ ap (after a.0.0) (word-spelled a.0.1 b.0 b.1.0
    ∙ ap (after b.0.0) (word-spelled b.0.1 c.0 c.1.0
    ∙ ap (after c.0.0) (word-spelled c.0.1 d.0 d.1.0
    ∙ ap (after d.0.0) (last_spelled d.0.1 k.0 k.1.0)))))
  where
    after : ℕ → List ℕ → List ℕ
    after n l = decimal n ++ (32 ∷ l)

    mapped : {A B : Type 0} (o : Option A) (f : A → B) (y : B) → option_map f o ≡ Some y → (x : A) × ((o ≡ Some x) × (f x ≡ y))
    mapped None f y e = absurd (cc)
    mapped (Some x) f y e = (x, (refl, cc))

-- ---- the plan of the line
none-fits : fits no_plan ≡ true → ⊥
none-fits e = let r = ranges no_plan e in omega (arith, r.levels.0)

pub reads_as : (input : List ℕ) (o : Option Plan) → o ≡ plan_of (first_line input) → ReadsAs input (named o)
unfolding plan_of
reads_as input o e = go (numbers_of m) refl
  where
    m : List ℕ
    m = first_line input

    go : (q : Option Plan) → numbers_of m ≡ q → ReadsAs input (named o)
    go None h =
        let z : o ≡ None = e ∙ rw h refl in
        rw z (record {
          accepted = λ f. absurd (none-fits f);
          complete = λ p f s. let w : None ≡ Some p = sym h ∙ ap numbers_of s ∙ numbers_read p (ranges p f) in absurd (cc);
          refused = λ f. refl;
        })
    go (Some q) h = by_test (fits q)
        (λ y.
        let z : o ≡ Some q = e ∙ rw (h, y) refl in
        rw z (record {
          accepted = λ f. numbers_spelled m q h;
          complete = λ p f s. let w : Some q ≡ Some p = sym h ∙ ap numbers_of s ∙ numbers_read p (ranges p f) in cc;
          refused = λ f. absurd (cc);
        }))
        (λ y.
        let z : o ≡ None = e ∙ rw (h, y) refl in
        rw z (record {
          accepted = λ f. absurd (none-fits f);
          complete = λ p f s.
              let w : Some q ≡ Some p = sym h ∙ ap numbers_of s ∙ numbers_read p (ranges p f) in
              let v : fits q ≡ fits p = cc in
              absurd (cc);
          refused = λ f. refl;
        }))
