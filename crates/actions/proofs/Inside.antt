-- What sound tables say of a task that ends: the local book of its finish at its place is one of the tables'.
use mathlib.Core.Path.{◌≡◌}
use mathlib.Core.Bool.{true, false}
use mathlib.Core.List.{List}
use Prim.Native.Nat.{ℕ, ◌≤◌}
use native.Mathlib.Omega.{arith}
use Rattle.std.proofs.lemmas.Bool.{not-false}
use Rattle.rules.specs.Action.{end}
use Rattle.rules.specs.Fields.{places}
use Rattle.rules.specs.Refusals.{unsound}
use Rattle.rules.specs.Sound.{sound}
use Rattle.sound.proofs.Use.{places_range, finishes_most, task_made_lem, task_ranges}
use Rattle.ending.specs.Inside.{EndsInside}

pub end_inside : (t : List ℕ) (k : ℕ) → unsound t (end k) ≡ false → EndsInside t k
unfolding unsound
end_inside t k passed made =
    let s : sound t ≡ true = not-false _ passed in
    let row = task_ranges t s k (task_made_lem t k made) in
    ((row.finish.0, omega (arith, row.finish.1, finishes_most t s)), omega (arith, row.at, (places_range t s).1))

pub few : (t : List ℕ) → sound t ≡ true → places t ≤ 8
few t s = (places_range t s).1
