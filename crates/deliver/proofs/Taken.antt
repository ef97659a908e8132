-- A taken deliver: its message fits unless it is discarded, and the two ways that it goes.
use mathlib.Core.Path.{◌≡◌, refl}
use mathlib.Core.Bool.{true, false}
use mathlib.Core.List.{List}
use Prim.Native.Nat.{ℕ}
use Rattle.tables.proofs.Walks.{every_each}
use Rattle.rules.specs.Action.{deliver}
use Rattle.rules.specs.Messages.{Message, none, message_at, send}
use Rattle.rules.specs.Deliver.{discarded, fits, deliver_wanted, delivered, deliver_message, deliver_step}
use Rattle.rules.specs.Refusals.{unwanted, step_answer}
use Rattle.rules.specs.Step.{step}
use Rattle.rules.specs.Sent.{reply_sent, deliver_sent, sent_by}
use Rattle.rules.proofs.Taken.{step-taken, not-not}
use Rattle.tags.proofs.Room.{other}

-- the code holds the message of the slot as x
module _ (t : List ℕ) (s : ℕ) (x : Message) (held : x ≡ message_at t s) where
  -- what is not discarded fits
  pub taken_fits : step_answer t (deliver s) ≡ 0 → discarded t x ≡ false → fits t x ≡ true
  unfolding unwanted deliver_wanted
  taken_fits h e = rw held (every_each _ (other _ _ (not-not _ (step-taken t (deliver s) h).wanted) (rw held at e))).1.0

  pub gone_step : (u : List ℕ) → discarded t x ≡ true → u ≡ send t s none → u ≡ step t (deliver s)
  unfolding step deliver_step deliver_message
  gone_step u e h = rw (← held, e) h

  pub gone_sent : discarded t x ≡ true → 0 ≡ sent_by t (deliver s)
  unfolding sent_by deliver_sent
  gone_sent e = rw (← held, e) refl

  pub kept_step : (u : List ℕ) → discarded t x ≡ false → u ≡ delivered t s x → u ≡ step t (deliver s)
  unfolding step deliver_step deliver_message
  kept_step u e h = rw (← held, e) h

  pub kept_sent : (r : ℕ) → discarded t x ≡ false → r ≡ reply_sent t s x → r ≡ sent_by t (deliver s)
  unfolding sent_by deliver_sent
  kept_sent r e h = rw (← held, e) h
