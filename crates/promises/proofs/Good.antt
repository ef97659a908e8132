-- Tables that a session comes to: whole, of bytes, of at most 8 places, and seen as a state that meets the invariant; how many
-- places, tasks and finishes there are.
use mathlib.Core.Path.{◌≡◌, refl}
use mathlib.Core.List.{List}
use Prim.Native.Nat.{ℕ, ◌≤◌}
use native.Mathlib.Omega.{arith}
use lib.Dec.{leb}
use borrow.Author.Tests.{leb-true, leb-false}
use Rattle.tables.specs.Layout.{Whole}
use Rattle.rules.specs.Fields.{places}
use Rattle.model.specs.Base.Cases.{bool_cases}
use Rattle.model.specs.Inv.{Inv}
use Rattle.promises.specs.View.{finish_table, view}
use Rattle.promises.proofs.Cells.{cell_out}
use Rattle.promises.proofs.Seen.{Seen, seen}
use Rattle.promises.proofs.Rows.{read_places, read_tasks_made}
use Rattle.promises.proofs.Bytes.{Bytes}

pub record Good (t : List ℕ) : Type 0 where
  pub whole : Whole t
  pub bytes : Bytes t
  pub places_most : places t ≤ 8
  pub inv : Inv (view t)

module _ {t : List ℕ} (good : Good t) where
  pub as_seen : Seen t (view t)
  as_seen = seen t good.whole

  pub places-below : (view t).places ≤ 8
  places-below = omega (arith, good.places_most, read_places as_seen)

  pub tasks_below : (view t).tasks.made ≤ 255
  tasks_below = omega (arith, good.bytes.small 2, read_tasks_made as_seen)

  -- past the table's last row stands no main task
  no_main : (view t).finishes.main 33 ≡ 0
  unfolding view
  no_main = cell_out finish_table t 33 5 refl

  pub finishes_below : (view t).finishes.made ≤ 32
  finishes_below = bool_cases (leb (view t).finishes.made 32) (leb-true (view t).finishes.made 32)
      (λ e. let l = leb-false (view t).finishes.made 32 e in absurd (omega (arith, no_main, (good.inv.finish_ranges 33 (omega arith) (omega arith)).1)))
