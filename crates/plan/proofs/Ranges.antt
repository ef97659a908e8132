-- What a plan that fits tells of its numbers.
use mathlib.Core.Path.{◌≡◌}
use mathlib.Core.Bool.{true}
use Prim.Native.Nat.{◌≤◌, ◌<◌}
use borrow.Author.Tests.{leb-true, ltb-true}
use Rattle.tables.proofs.Walks.{every_each}
use Rattle.plan.specs.declared.Plan.{Plan}
use Rattle.plan.specs.Tree.{tree_size}
use Rattle.plan.specs.Plan.{fits}

pub record Ranges (p : Plan) : Type 0 where
  pub levels : (1 ≤ p.levels) × (p.levels ≤ 5)
  pub width : (1 ≤ p.width) × (p.width ≤ 4)
  pub places : (2 ≤ p.places) × (p.places ≤ 8)
  pub victim : p.victim < p.places
  pub killstep : p.killstep ≤ 65535
  pub size : tree_size p.width p.levels ≤ 255

pub ranges : (p : Plan) → fits p ≡ true → Ranges p
unfolding fits
ranges p e =
    let h = every_each _ e in
    record {
      levels = (leb-true _ _ h.0, leb-true _ _ h.1.0);
      width = (leb-true _ _ h.1.1.0, leb-true _ _ h.1.1.1.0);
      places = (leb-true _ _ h.1.1.1.1.0, leb-true _ _ h.1.1.1.1.1.0);
      victim = ltb-true _ _ h.1.1.1.1.1.1.0;
      killstep = leb-true _ _ h.1.1.1.1.1.1.1.0;
      size = leb-true _ _ h.1.1.1.1.1.1.1.1.0;
    }
