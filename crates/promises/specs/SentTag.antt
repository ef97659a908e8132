-- Done with what was sent, against the tables: the slot that a step's message takes has the tag that the step is said to send.
use Rattle.std.specs.Prelude.{◌≡◌, List, ℕ, ◌<◌}
use Rattle.tables.specs.Bytes.{byte}
use Rattle.rules.specs.Action.{Action, unknown, spawn, open_finish, end, deliver, kill, adopt, cancel, ask, begin, action_of}
use Rattle.rules.specs.Messages.{slot_place, lowest_empty}
use Rattle.rules.specs.Refusals.{answer}
use Rattle.rules.specs.Sent.{sent_by}
use Rattle.rules.specs.Step.{after}

-- A new message takes the lowest empty slot; one made by a deliver, closing test included, takes the delivered slot.
unfoldable pub slot_of : List ℕ → Action → ℕ
slot_of t unknown = lowest_empty t
slot_of t (spawn k p) = lowest_empty t
slot_of t (open_finish k) = lowest_empty t
slot_of t (end k) = lowest_empty t
slot_of t (deliver s) = s
slot_of t (kill p) = lowest_empty t
slot_of t (adopt f) = lowest_empty t
slot_of t (cancel f v) = lowest_empty t
slot_of t (ask f v j) = lowest_empty t
slot_of t (begin n) = lowest_empty t

-- Done with what was sent: after a record that is done, on any tables of bytes, the tag in that slot is what was sent. Where
-- nothing was sent it is 0: the slot is empty, or is slot 128, past the end, where a byte reads 0.
abbrev pub SentTag : Type 0
SentTag = (t r : List ℕ) → ((q : ℕ) → byte t q < 256) → answer t r ≡ 0
    → byte (after t r) (slot_place (slot_of t (action_of r))) ≡ sent_by t (action_of r)
