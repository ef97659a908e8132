-- A tree of tasks that grows to L levels and width w: it never passes the whole tree's size, and is below it while a task may spawn.
use Rattle.std.specs.Prelude.{◌≡◌, refl, ℕ, zero, suc, ◌+◌, ◌-◌, ◌*◌, ◌≤◌, ◌<◌, eqb}
use Rattle.std.proofs.Common.{sym, ap, ◌∙◌, suc-mul, arith, eq-eqb, ne_eqb}
use Rattle.std.proofs.Math.Nat.{sub-zero}
use Rattle.model.specs.Base.Cases.{eq_cases}
use Rattle.model.specs.Base.Updates.{upd, upd-cases, on_true, on_false}
use Rattle.model.specs.Base.Sums.{sum, sum-suc, sum_ext, sum_ge, sum_zero, sum-upd}
use Rattle.plan.specs.Tree.{tree_size, level_of, children_of}
use Rattle.growth.specs.Tree.{children_none, tree_suc, level_top, level_child, level_same, children_same, children_more}

-- tasks to come below a task of the level with so many children: a whole tree for each child that it lacks
abbrev pub to_come : ℕ → ℕ → ℕ → ℕ → ℕ
to_come L w level children = (w - children) * tree_size w (L - level)

-- the same below task x + 1
abbrev pub below : ℕ → ℕ → (ℕ → ℕ) → ℕ → ℕ → ℕ
below L w maker made x = to_come L w (level_of maker L (suc x)) (children_of maker made (suc x))

-- a spawner is below its tasks, the tree is within its levels and width, and tasks made and to come are the whole tree's
pub record Grown (L w : ℕ) (maker : ℕ → ℕ) (made : ℕ) : Type 0 where
  pub makers : (x : ℕ) → 0 < x → x ≤ made → maker x < x
  pub depth : (x : ℕ) → 0 < x → x ≤ made → level_of maker L x ≤ L
  pub width : (x : ℕ) → 0 < x → x ≤ made → children_of maker made x ≤ w
  pub size : made + sum made (below L w maker made) ≡ tree_size w L

-- one child more is one task less to come below its spawner, and what is to come below the child
one_less : (L w level children : ℕ) → level < L → children < w
    → to_come L w level children ≡ suc (to_come L w level (suc children) + w * tree_size w (L - suc level))
one_less L w level children l c =
    let a : L - level ≡ suc (L - suc level) = omega arith in
    let b : w - children ≡ suc (w - suc children) = omega arith in
    rw (a, b) (omega (arith, suc-mul (w - suc children) (tree_size w (suc (L - suc level))), tree_suc w (L - suc level)))

-- a task without children
none_yet : (L w level : ℕ) → to_come L w level 0 ≡ w * tree_size w (L - level)
none_yet L w level = rw (sub-zero w) refl

pub grown_first : (L w : ℕ) (maker : ℕ → ℕ) → 1 ≤ L → maker 1 ≡ 0 → Grown L w maker 1
grown_first L w maker l e = record {
  makers = λ x z m. rw (one x z m, e) (omega arith);
  depth = λ x z m. rw (one x z m, top) l;
  width = λ x z m. rw (one x z m, none) (omega arith);
  size = omega (arith, sum-suc 0 (below L w maker 1), sum_zero 0 (below L w maker 1) (λ x n. absurd (omega arith)), first, whole);
}
  where
    one : (x : ℕ) → 0 < x → x ≤ 1 → x ≡ 1
    one x z m = omega arith

    top : level_of maker L 1 ≡ 1
    top = level_top maker L 1 e

    none : children_of maker 1 1 ≡ 0
    none = children_none maker 1 1 (λ x z m q. omega (arith, q, ap maker (one x z m), e))

    first : below L w maker 1 0 ≡ w * tree_size w (L - 1)
    first = rw (top, none) (none_yet L w 1)

    whole : tree_size w L ≡ 1 + w * tree_size w (L - 1)
    whole = ap (tree_size w) (omega arith) ∙ tree_suc w (L - 1)

pub grown_room : {L w : ℕ} {maker : ℕ → ℕ} {made : ℕ} → Grown L w maker made → (k : ℕ) → 0 < k → k ≤ made → level_of maker L k < L → children_of maker made k < w
    → made < tree_size w L
grown_room grown zero z l d c = absurd (omega arith)
grown_room {L} {w} {maker} {made} grown (suc j) z l d c =
    omega (arith, grown.size, sum_ge made (below L w maker made) j (omega arith), one_less L w (level_of maker L (suc j)) (children_of maker made (suc j)) d c)

pub grown_same : {L w : ℕ} {maker maker' : ℕ → ℕ} {made : ℕ} → Grown L w maker made → ((x : ℕ) → 0 < x → x ≤ made → maker' x ≡ maker x) → Grown L w maker' made
grown_same {L} {w} {maker} {maker'} {made} grown agree = record {
  makers = λ x z l. rw (agree x z l) (grown.makers x z l);
  depth = λ x z l. rw (level x z l) (grown.depth x z l);
  width = λ x z l. rw (children x) (grown.width x z l);
  size = omega (arith, grown.size, sum_ext made (below L w maker made) (below L w maker' made) (λ x l. rw (level (suc x) (omega arith) (omega arith), children (suc x))));
}
  where
    level : (x : ℕ) → 0 < x → x ≤ made → level_of maker' L x ≡ level_of maker L x
    level = level_same maker maker' made agree grown.makers L

    children : (x : ℕ) → children_of maker' made x ≡ children_of maker made x
    children x = children_same maker maker' made agree made x (omega arith)

-- task k, above the last level and with fewer children than w, has spawned one more
module _ {L w : ℕ} {maker : ℕ → ℕ} {made : ℕ} (grown : Grown L w maker made) (k : ℕ) (z : 0 < k) (l : k ≤ made)
    (above : level_of maker L k < L) (fewer : children_of maker made k < w)
    (maker' : ℕ → ℕ) (new : maker' (suc made) ≡ k) (agree : (x : ℕ) → 0 < x → x ≤ made → maker' x ≡ maker x) where
  level_old : (x : ℕ) → 0 < x → x ≤ made → level_of maker' L x ≡ level_of maker L x
  level_old = level_same maker maker' made agree grown.makers L

  level_new : level_of maker' L (suc made) ≡ suc (level_of maker L k)
  level_new =
      let e : level_of maker' L (maker' (suc made)) ≡ level_of maker L k = rw new (level_old k z l) in
      omega (arith, e, level_child maker' L (suc made) (omega arith) (omega arith))

  children_at : children_of maker' (suc made) k ≡ suc (children_of maker made k)
  children_at = omega (arith, children_more maker maker' made agree k, on_true (eqb (maker' (suc made)) k) 1 (eq-eqb (maker' (suc made)) k new))

  children_old : (x : ℕ) → (x ≡ k → ⊥) → children_of maker' (suc made) x ≡ children_of maker made x
  children_old x ne = omega (arith, children_more maker maker' made agree x, on_false (eqb (maker' (suc made)) x) 1 (ne_eqb (maker' (suc made)) x (λ e. ne (sym e ∙ new))))

  children_new : children_of maker' (suc made) (suc made) ≡ 0
  children_new = children_old (suc made) (λ e. omega arith)
      ∙ children_none maker made (suc made) (λ x p m e. omega (arith, grown.makers x p m))

  -- k's children are one more
  raised : (j : ℕ) → k ≡ suc j → (x : ℕ) → children_of maker' (suc made) (suc x) ≡ upd (λ y. children_of maker made (suc y)) j (suc (children_of maker made k)) x
  raised j e x = upd-cases (λ y. children_of maker made (suc y)) (λ c. children_of maker' (suc made) (suc x) ≡ c) j (suc (children_of maker made k)) x
      (λ q. rw (q, ← e) children_at)
      (λ ne. children_old (suc x) (λ q. ne (omega arith)))

  -- one task less is to come
  less : (j : ℕ) → k ≡ suc j → suc (sum (suc made) (below L w maker' (suc made))) ≡ sum made (below L w maker made)
  less j e =
      let n : ℕ = suc (children_of maker made k) in
      let f : ℕ → ℕ = λ x. children_of maker made (suc x) in
      let g : ℕ → ℕ → ℕ = λ x c. to_come L w (level_of maker L (suc x)) c in
      let old : sum made (below L w maker' (suc made)) ≡ sum made (λ x. g x (upd f j n x)) =
      sum_ext made (λ x. g x (upd f j n x)) (below L w maker' (suc made)) (λ x m. rw (level_old (suc x) (omega arith) (omega arith), raised j e x) refl) in
      let fresh : below L w maker' (suc made) made ≡ w * tree_size w (L - suc (level_of maker L k)) = rw (level_new, children_new) (none_yet L w (suc (level_of maker L k))) in
      let term : to_come L w (level_of maker L (suc j)) (children_of maker made (suc j)) ≡ suc (to_come L w (level_of maker L (suc j)) n + w * tree_size w (L - suc (level_of maker L k))) =
      rw (← e) (one_less L w (level_of maker L k) (children_of maker made k) above fewer) in
      omega (arith, sum-suc made (below L w maker' (suc made)), old, fresh, term, sum-upd made g f j n (omega arith))

  pub grown_more : Grown L w maker' (suc made)
  grown_more = record {
    makers = λ x p m. eq_cases x (suc made)
        (λ e. rw (e, new) (omega arith))
        (λ ne. rw (agree x p (omega arith)) (grown.makers x p (omega arith)));
    depth = λ x p m. eq_cases x (suc made)
        (λ e. rw (e, level_new) (omega arith))
        (λ ne. rw (level_old x p (omega arith)) (grown.depth x p (omega arith)));
    width = λ x p m. eq_cases x (suc made)
        (λ e. rw (e, children_new) (omega arith))
        (λ ne. eq_cases x k (λ e. rw (e, children_at) (omega arith)) (λ o. rw (children_old x o) (grown.width x p (omega arith))));
    size = omega (arith, grown.size, less (k - 1) (omega arith));
  }
