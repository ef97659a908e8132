-- The tasks of a whole tree, one level more at a time, and their bound.
use mathlib.Core.Path.{◌≡◌, refl, ap, ◌∙◌}
use Prim.Native.Nat.{ℕ, zero, suc, ◌+◌, ◌*◌, ◌^◌, ◌≤◌, ◌<◌}
use native.Mathlib.Nat.{pow-succ', mul-le-mul_right, pow-le-pow_right}
use native.Mathlib.Numerals.{add-one}
use native.Mathlib.Omega.{arith}
use Rattle.plan.specs.Tree.{tree_size}

tree_below : (w h : ℕ) → w ≤ 4 → 3 * tree_size w h < 4 ^ h
unfolding tree_size
tree_below w zero l = omega arith
tree_below w (suc h) l = omega (arith, pow-succ' 4 h, tree_below w h l, mul-le-mul_right (tree_size w h) l)

-- room for one level more
pub tree_room : (w h n s : ℕ) → w ≤ 4 → n ≤ 5 → h < n → s ≡ tree_size w h → w * s ≤ 340
tree_room w h n s l k g e =
    let p : 4 ^ h ≤ 4 ^ 4 = pow-le-pow_right (omega arith) {j = 4} (omega arith) in
    omega (arith, tree_below w h l, mul-le-mul_right s l)
