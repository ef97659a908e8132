-- A message that waits for the repair of its book, 3 or 7 from a live place or 9, keeps that book open: no cancel of it closes it.
use Rattle.std.specs.Prelude.{◌≡◌, true, false, ◌⊎◌, ℕ, ◌<◌}
use Rattle.std.proofs.Common.{inl, inr, arith}
use Rattle.model.specs.Base.{on_false, is₂, is₂_same}
use Rattle.model.specs.State.{State}
use Rattle.model.specs.Effects.Closing.{Closes}
use Rattle.model.specs.Effects.Repair.{cancel}
use Rattle.model.specs.Inv.{Inv}
use Rattle.model.proofs.Facts.InFlight.{tallied_ge}
use Rattle.model.proofs.Facts.Closed.{no_transit, no_report}
use Rattle.model.proofs.Steps.Cancel.{cleared}

-- the message in slot k is a 3 or 7 from a live place, or a 9
abbrev pub Waits : State → ℕ → Type 0
Waits s k = ((((s.slot k).tag ≡ 3) ⊎ ((s.slot k).tag ≡ 7)) × (s.dead (s.slot k).from ≡ false)) ⊎ ((s.slot k).tag ≡ 9)

module _ (s : State) (inv : Inv s) (k : ℕ) (in_flight : k < s.slots) (f : ℕ) (is_finish : (s.slot k).finish ≡ f) (present : s.books.present f ≡ 1) (v : ℕ) (died : s.dead v ≡ true) (settled : s.books.due f ≡ 0) where
  -- the ghost that it ends is still in the book
  has_ghost : (s.slot k).tag ≡ 9 → s.books.ghosts f (s.slot k).number ≡ false → ⊥
  has_ghost e none = omega (
    arith,
    inv.ghosts f (s.slot k).number,
    tallied_ge s k 9 (λ m. is₂ m.finish m.number f (s.slot k).number) (λ m. 1) in_flight e (rw is_finish (is₂_same f (s.slot k).number)),
    on_false (s.books.ghosts f (s.slot k).number) 1 none,
  )

  pub stays_open : Waits s k → Closes (cancel s f v) f → ⊥
  stays_open (inl (inl e, lives)) closes = no_transit (cancel s f v) (cleared s f v inv died settled) f present closes k in_flight (omega arith) (omega arith) is_finish lives
  stays_open (inl (inr e, lives)) closes = no_report (cancel s f v) (cleared s f v inv died settled) f present closes k in_flight e is_finish lives
  stays_open (inr e) closes = has_ghost e (closes.1 (s.slot k).number)
