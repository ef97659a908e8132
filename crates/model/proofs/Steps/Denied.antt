-- The deliver of denied (5) keeps the invariant: the task is dropped, and nothing takes the slot.
use Rattle.std.specs.Prelude.{◌≡◌, false, ℕ, ◌<◌}
use Rattle.std.proofs.Common.{arith}
use Rattle.model.specs.State.{State}
use Rattle.model.specs.Messages.{none}
use Rattle.model.specs.Guards.{Full, MayRun}
use Rattle.model.specs.Effects.Deliver.{deliver_denied}
use Rattle.model.specs.Inv.{Inv}
use Rattle.model.proofs.Steps.Written as W
use Rattle.model.proofs.Steps.SettledTask.{settled_keeps}

module _ (s : State) (k : ℕ) (inv : Inv s) (full : Full s k 5) (from_lives : s.dead (s.slot k).from ≡ false)
    (waits : s.tasks.status (s.slot k).task ≡ 2) (may_run : MayRun s (s.tasks.maker (s.slot k).task)) where
  other_tag : (x : ℕ) → 0 < x → (x ≡ 5 → ⊥) → W.Elsewhere s k none full.range x
  other_tag x z n = ((λ q. n (omega (arith, full.tag))), (λ q. omega arith))

  pub delivers_denied_keeps : Inv (deliver_denied s k)
  delivers_denied_keeps = settled_keeps s k 4 none inv full.range (omega (arith, full.tag)) waits (omega arith) (omega arith)
      (λ h. absurd (omega arith)) (λ h. absurd (omega arith)) (λ h. absurd (omega arith)) (λ e. absurd (omega arith)) (λ e. absurd (omega arith)) (λ h. absurd (omega arith))
      (W.questions s k none full.range (other_tag 6 (omega arith) (λ q. omega arith)) (other_tag 10 (omega arith) (λ q. omega arith)) inv.questions)
      (W.sent_from s k none full.range (other_tag 4 (omega arith) (λ q. omega arith)) (other_tag 6 (omega arith) (λ q. omega arith)) inv.sent_from)
      (W.sent_most s k none full.range (other_tag 6 (omega arith) (λ q. omega arith)) inv.sent_most)
