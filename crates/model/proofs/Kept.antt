-- What a step leaves: places, who is dead, the tasks made and their makers, the finishes made; and an ended task stays ended.
use Rattle.std.specs.Prelude.{◌≡◌, refl, ℕ, ◌<◌}
use Rattle.std.proofs.Common.{◌∙◌, arith}
use Rattle.model.specs.Base.{upd_other, eq_cases}
use Rattle.model.specs.State.{State, Message, Finishes, Books, Locals, with_task_status, with_finishes, with_books, with_locals, with_slot}
use Rattle.model.specs.Effects.End.{wake, wake-none, wake_some}

pub record Kept (s s' : State) : Type 0 where
  pub places : s'.places ≡ s.places
  pub dead : (p : ℕ) → s'.dead p ≡ s.dead p
  pub made : s'.tasks.made ≡ s.tasks.made
  pub maker : (t : ℕ) → s'.tasks.maker t ≡ s.tasks.maker t
  pub finishes : s'.finishes.made ≡ s.finishes.made
  pub ended : (t : ℕ) → s.tasks.status t ≡ 7 → s'.tasks.status t ≡ 7

-- of the tasks, statuses alone are written, and no finish is made
pub keeps : (s : State) (status : ℕ → ℕ) (F : Finishes) (b : Books) (l : Locals) (slot : ℕ → Message) → F.made ≡ s.finishes.made
    → ((t : ℕ) → s.tasks.status t ≡ 7 → status t ≡ 7) → Kept s (with_slot slot (with_locals l (with_books b (with_finishes F (with_task_status status s)))))
keeps s status F b l slot made ended = record { places = refl; dead = λ p. refl; made = refl; maker = λ t. refl; finishes = made; ended = ended }

-- a task about to run has not ended
pub woken : (o : ℕ) (status : ℕ → ℕ) (t : ℕ) → (0 < o → status o ≡ 7 → ⊥) → status t ≡ 7 → wake o status t ≡ 7
woken o status t blocked e = eq_cases o 0
    (λ z. wake-none o status t z ∙ e)
    (λ n. wake_some o status t (omega arith) ∙ upd_other status o 5 t (λ q. blocked (omega arith) (rw q at e)) ∙ e)
