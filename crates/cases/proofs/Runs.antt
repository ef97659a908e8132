-- A Boolean run over the rules, which computes in one pass, and what it shows of the printed run.
use mathlib.Core.Path.{◌≡◌, refl, ap, ◌∙◌}
use mathlib.Core.Bool.{Bool, true, false, false≢true}
use mathlib.Core.List.{List, [], ◌∷◌}
use Prim.Native.Nat.{ℕ, ◌+◌}
use lib.Dec.{eqb}
use borrow.Author.Tests.{eqb-true}
use Rattle.tables.specs.Walks.{every}
use Rattle.rules.specs.Refusals.{answer}
use Rattle.rules.specs.Step.{after}
use Rattle.rules.specs.PrintedRun.{Line, took, short, ends, last_line, before, at_end, run}
use Rattle.cases.specs.Cases.{Shows}

unfoldable pub same_line : Line → Line → Bool
same_line (took n k a) (took n' k' a') = every (eqb n n' ∷ eqb k k' ∷ eqb a a' ∷ [])
same_line (took n k a) (short n') = false
same_line (took n k a) (ends x y z) = false
same_line (short n) (took n' k' a') = false
same_line (short n) (short n') = eqb n n'
same_line (short n) (ends x y z) = false
same_line (ends x y z) (took n' k' a') = false
same_line (ends x y z) (short n') = false
same_line (ends x y z) (ends x' y' z') = every (eqb x x' ∷ eqb y y' ∷ eqb z z' ∷ [])

-- x is the first line of l
unfoldable pub leads : Line → List Line → Bool
leads x [] = false
leads x (y ∷ l) = same_line x y

unfoldable pub rest : List Line → List Line
rest [] = []
rest (y ∷ l) = l

unfoldable pub is_nil : List Line → Bool
is_nil [] = true
is_nil (y ∷ l) = false

-- the lines come, in order, and the facts hold of the tables at the end
unfoldable pub matches : ℕ → List ℕ → List ℕ → List Line → (List ℕ → Bool) → Bool
matches n t [] l facts = every (leads (last_line t) l ∷ is_nil (rest l) ∷ facts t ∷ [])
matches n t (k ∷ []) l facts = false
matches n t (k ∷ a ∷ []) l facts = false
matches n t (k ∷ a ∷ b ∷ []) l facts = false
matches n t (k ∷ a ∷ b ∷ c ∷ s) l facts =
    elim (leads (took n k (answer t (k ∷ a ∷ b ∷ c ∷ []))) l) [
      | true ↦ matches (n + 1) (after t (k ∷ a ∷ b ∷ c ∷ [])) s (rest l) facts
      | false ↦ false
    ]

three : (a b c : Bool) → every (a ∷ b ∷ c ∷ []) ≡ true → (a ≡ true) × ((b ≡ true) × (c ≡ true))
unfolding every
three true true true h = (refl, (refl, refl))
three true true false h = absurd (false≢true h)
three true false c h = absurd (false≢true h)
three false b c h = absurd (false≢true h)

same_line_lem : (x y : Line) → same_line x y ≡ true → x ≡ y
unfolding same_line
same_line_lem (took n k a) (took n' k' a') h =
    let e = three (eqb n n') (eqb k k') (eqb a a') h in
    rw (eqb-true n n' e.0, eqb-true k k' e.1.0, eqb-true a a' e.1.1)
same_line_lem (took n k a) (short n') h = absurd (false≢true h)
same_line_lem (took n k a) (ends x y z) h = absurd (false≢true h)
same_line_lem (short n) (took n' k' a') h = absurd (false≢true h)
same_line_lem (short n) (short n') h = rw (eqb-true n n' h)
same_line_lem (short n) (ends x y z) h = absurd (false≢true h)
same_line_lem (ends x y z) (took n' k' a') h = absurd (false≢true h)
same_line_lem (ends x y z) (short n') h = absurd (false≢true h)
same_line_lem (ends x y z) (ends x' y' z') h =
    let e = three (eqb x x') (eqb y y') (eqb z z') h in
    rw (eqb-true x x' e.0, eqb-true y y' e.1.0, eqb-true z z' e.1.1)

leads_is : (x : Line) (l : List Line) → leads x l ≡ true → x ∷ rest l ≡ l
unfolding leads rest
leads_is x [] h = absurd (false≢true h)
leads_is x (y ∷ l) h = ap (λ (z : Line). z ∷ l) (same_line_lem x y h)

nil_is : (l : List Line) → is_nil l ≡ true → [] ≡ l
unfolding is_nil
nil_is [] h = refl
nil_is (y ∷ l) h = absurd (false≢true h)

pub matches_shows : (n : ℕ) (t s : List ℕ) (l : List Line) (facts : List ℕ → Bool) → matches n t s l facts ≡ true → Shows (run n t s) l facts
unfolding matches run at_end before
matches_shows n t [] l facts h =
    let e = three (leads (last_line t) l) (is_nil (rest l)) (facts t) h in
    record { prints = ap (λ (r : List Line). last_line t ∷ r) (nil_is (rest l) e.1.0) ∙ leads_is (last_line t) l e.0; ends_so = e.1.1 }
matches_shows n t (k ∷ []) l facts h = absurd (false≢true h)
matches_shows n t (k ∷ a ∷ []) l facts h = absurd (false≢true h)
matches_shows n t (k ∷ a ∷ b ∷ []) l facts h = absurd (false≢true h)
matches_shows n t (k ∷ a ∷ b ∷ c ∷ s) l facts h = go (leads x l) refl h (matches_shows (n + 1) u s (rest l) facts)
  where
    u : List ℕ
    u = after t (k ∷ a ∷ b ∷ c ∷ [])

    x : Line
    x = took n k (answer t (k ∷ a ∷ b ∷ c ∷ []))

    go : (v : Bool) → leads x l ≡ v → elim v [ true ↦ matches (n + 1) u s (rest l) facts | false ↦ false ] ≡ true
        → (matches (n + 1) u s (rest l) facts ≡ true → Shows (run (n + 1) u s) (rest l) facts) → Shows (before x (run (n + 1) u s)) l facts
    go true e q shows = record { prints = ap (λ (r : List Line). x ∷ r) (shows q).prints ∙ leads_is x l e; ends_so = (shows q).ends_so }
    go false e q shows = absurd (false≢true q)
