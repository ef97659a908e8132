-- The end of a sent task, others of its finish being busy at its place, keeps the invariant.
use Rattle.std.specs.Prelude.{◌≡◌, ℕ, ◌<◌}
use Rattle.std.proofs.Common.{arith}
use Rattle.model.specs.Base.{on_false, is₂, is₂-cases, on-le}
use Rattle.model.specs.State.{State}
use Rattle.model.specs.Guards.{Runs}
use Rattle.model.specs.Effects.End.{end_other}
use Rattle.model.specs.Inv.{Inv}
use Rattle.model.specs.Inv.Locals.{Pending, Unreported}
use Rattle.model.proofs.Steps.OtherEnded.{other_ends}

module _ (s : State) (t : ℕ) (inv : Inv s) (runs : Runs s t) (other : s.tasks.sent t ≡ 0 → ⊥) (some : 1 < s.locals.live (s.tasks.finish t) (s.tasks.at t)) where
  -- the count falls and stays above 0
  left : (f j : ℕ) → 0 < s.locals.live f j → 0 < (end_other s t).locals.live f j
  left f j h = is₂-cases (s.tasks.finish t) (s.tasks.at t) f j
      (λ p q. let m : 1 < s.locals.live f j = rw (p, q) at some in omega (arith, on-le (is₂ (s.tasks.finish t) (s.tasks.at t) f j) 1))
      (λ e. omega (arith, on_false (is₂ (s.tasks.finish t) (s.tasks.at t) f j) 1 e))

  pending : Pending (end_other s t)
  pending f j h = inv.pending f j (omega arith)

  unreported : Unreported (end_other s t)
  unreported f j i h = left f j (inv.unreported f j i h)

  pub ends_other_keeps : Inv (end_other s t)
  ends_other_keeps = let e = other_ends s t inv runs other in search (pending, unreported)
