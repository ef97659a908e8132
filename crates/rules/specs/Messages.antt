-- Session tables, the slots: the eleven messages with their fields, as 16 bytes and back; where each goes; the lowest empty slot.
use Rattle.std.specs.Prelude.{Bool, cond, List, ◌∷◌, ℕ, ◌*◌, eqb, drop, replicate}
use Rattle.tables.specs.Bytes.{byte, part, write}
use Rattle.tables.specs.Walks.{first_part}
use Rattle.tables.specs.Layout.{place, slot_row}
use Rattle.rules.specs.Fields.{home}

-- Message fields: every tag names its finish (9: the parent, with the ghost in number). 1 and 2 name the waiting task;
-- 3 to 6 the task, its from and its at as to; 7 has the reporter as from; 10 and 11 the dead place as from, the live one as to
-- (their task is 0 from an ask on: reply 11 copies it byte for byte).
pub data Message : Type 0 where
  none : Message
  publish : (finish task : ℕ) → Message
  published : (finish task : ℕ) → Message
  transit : (finish task from to : ℕ) → Message
  granted : (finish task from to : ℕ) → Message
  denied : (finish task from to : ℕ) → Message
  task : (finish task from to : ℕ) → Message
  report : (finish from : ℕ) (counts : List ℕ) → Message
  release : (finish : ℕ) → Message
  ghost_ended : (parent ghost : ℕ) → Message
  count_dropped : (finish task from to number : ℕ) → Message
  dropped : (finish task from to number : ℕ) → Message

-- 2 rows: tag, finish, task, from, to, number; then eight counts by sender.
unfoldable pub message : ℕ → ℕ → ℕ → ℕ → ℕ → ℕ → List ℕ → List ℕ
message tag f k v j n counts = tag ∷ f ∷ k ∷ v ∷ j ∷ n ∷ 0 ∷ 0 ∷ counts

unfoldable pub no_counts : List ℕ
no_counts = replicate 8 0

-- Other fields are 0. A slot emptied is all 0.
unfoldable pub bytes_of : Message → List ℕ
bytes_of none = message 0 0 0 0 0 0 no_counts
bytes_of (publish f k) = message 1 f k 0 0 0 no_counts
bytes_of (published f k) = message 2 f k 0 0 0 no_counts
bytes_of (transit f k v j) = message 3 f k v j 0 no_counts
bytes_of (granted f k v j) = message 4 f k v j 0 no_counts
bytes_of (denied f k v j) = message 5 f k v j 0 no_counts
bytes_of (task f k v j) = message 6 f k v j 0 no_counts
bytes_of (report f v counts) = message 7 f 0 v 0 0 counts
bytes_of (release f) = message 8 f 0 0 0 0 no_counts
bytes_of (ghost_ended q g) = message 9 q 0 0 0 g no_counts
bytes_of (count_dropped f k v j n) = message 10 f k v j n no_counts
bytes_of (dropped f k v j n) = message 11 f k v j n no_counts

-- A deliver reads its message's own fields. Tag 0 is empty.
unfoldable pub tagged : ℕ → ℕ → ℕ → ℕ → ℕ → ℕ → List ℕ → Message
tagged tag f k v j n counts =
    cond (eqb tag 1) (publish f k)
    (cond (eqb tag 2) (published f k)
    (cond (eqb tag 3) (transit f k v j)
    (cond (eqb tag 4) (granted f k v j)
    (cond (eqb tag 5) (denied f k v j)
    (cond (eqb tag 6) (task f k v j)
    (cond (eqb tag 7) (report f v counts)
    (cond (eqb tag 8) (release f)
    (cond (eqb tag 9) (ghost_ended f n)
    (cond (eqb tag 10) (count_dropped f k v j n)
    (cond (eqb tag 11) (dropped f k v j n) none))))))))))

-- the message in the slot that the tables m begin with
unfoldable pub message_in : List ℕ → Message
message_in m = tagged (byte m 0) (byte m 1) (byte m 2) (byte m 3) (byte m 4) (byte m 5) (part m 8 8)

abbrev pub slot_place : ℕ → ℕ
slot_place s = place (slot_row s) 0

-- the tables from slot s on, reached from slot 0
unfoldable pub from_slot : List ℕ → ℕ → List ℕ
from_slot t s = drop (16 * s) (drop (slot_place 0) t)

unfoldable pub message_at : List ℕ → ℕ → Message
message_at t s = message_in (from_slot t s)

-- A new row is written whole.
unfoldable pub send : List ℕ → ℕ → Message → List ℕ
send t s x = write t (slot_place s) (bytes_of x)

-- The store is no place; it is written as the number after the last.
abbrev pub store : ℕ
store = 8

-- Deliver, by tag: goes to. A home is read in the row of the message's finish; from and to are the message's own.
unfoldable pub goes_to : List ℕ → Message → ℕ
goes_to t none = store
goes_to t (publish f k) = store
goes_to t (published f k) = home t f
goes_to t (transit f k v j) = store
goes_to t (granted f k v j) = v
goes_to t (denied f k v j) = v
goes_to t (task f k v j) = j
goes_to t (report f v counts) = store
goes_to t (release f) = home t f
goes_to t (ghost_ended q g) = store
goes_to t (count_dropped f k v j n) = j
goes_to t (dropped f k v j n) = store

-- Tag 0 is empty.
unfoldable pub is_empty : List ℕ → ℕ → Bool
is_empty m s = eqb (byte m 0) 0

-- A new message takes the lowest empty slot; 128 where there is none.
unfoldable pub lowest_empty : List ℕ → ℕ
lowest_empty t = first_part is_empty 16 0 128 (drop (slot_place 0) t)

-- 128 messages already
unfoldable pub slots_full : List ℕ → Bool
slots_full t = eqb (lowest_empty t) 128
