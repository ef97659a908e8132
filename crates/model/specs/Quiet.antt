-- Quiet: no message in flight, no book under repair, no count owed.
use Rattle.std.specs.Prelude.{◌≡◌, true, false, ℕ, ◌<◌}
use Rattle.model.specs.State.{State}
use Rattle.model.specs.Guards.{Repaired}

pub record Quiet (s : State) : Type 0 where
  pub empty : (k : ℕ) → k < s.slots → (s.slot k).tag ≡ 0
  pub repaired : (f : ℕ) → s.books.present f ≡ 1 → Repaired s f
  -- A count is owed when a dead sender and live receiver have a positive cell not yet asked.
  pub asked : (f i j : ℕ) → s.books.present f ≡ 1 → s.dead i ≡ true → j < s.places → s.dead j ≡ false → 0 < s.books.live f i j → s.books.asked f i j ≡ true
