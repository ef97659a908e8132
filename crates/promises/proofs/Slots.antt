-- Slots: a message as the model has it; what a slot reads, what a send does, and the lowest empty slot.
use mathlib.Core.Path.{◌≡◌, refl, sym, ap, ◌∙◌, fun_ext}
use mathlib.Core.Bool.{Bool, true, false}
use mathlib.Core.List.{List, [], ◌∷◌}
use Prim.Native.Nat.{ℕ, suc, ◌+◌, ◌*◌, ◌<◌}
use native.Mathlib.Omega.{arith}
use lib.Dec.{eqb, ltb}
use lib.ListN.{length, drop, length-drop, get_or-eq_default}
use lib.Seq.{get_or-drop, get_or-append-add}
use borrow.Author.Tests.{eqb-true, eqb-false, ltb-true, ltb-false, le-leb}
use Rattle.tables.specs.Bytes.{byte, part}
use Rattle.tables.specs.Layout.{place, slot_row}
use Rattle.tables.proofs.Writes.{byte-part, length_part}
use Rattle.tables.proofs.Walks.{first_range, first-at}
use Rattle.tables.specs.Walks.{first_part}
use Rattle.rules.specs.Messages.{Message, none, publish, published, transit, granted, denied, task, report, release, ghost_ended, count_dropped, dropped, message, no_counts, bytes_of, tagged, message_in, slot_place, from_slot, message_at, send, is_empty, lowest_empty, slots_full}
use Rattle.model.specs.Base.Cases.{bool_cases}
use Rattle.model.specs.Base.Updates.{upd}
use Rattle.model.specs.State
use Rattle.model.specs.State.{State, with_slot}
use Rattle.model.specs.Messages
use Rattle.model.specs.Guards.{Free}
use Rattle.promises.specs.View.{cell, view, view_of, rows, message_of, slot_table}
use Rattle.promises.proofs.Cells.{write_outside, cell_in, cell_out, cell_wide, cell-write, run_row}
use Rattle.promises.proofs.Walks.{zeros_at}
use Rattle.promises.proofs.Areas.{slot_sits, slots_become}
use Rattle.promises.proofs.Seen.{Seen, by_write}

-- a message of the rules, as the model has it
abbrev pub in_model : Message → State.Message
in_model none = Messages.none
in_model (publish f k) = Messages.publish f k
in_model (published f k) = Messages.published f k
in_model (transit f k v j) = Messages.transit f k v j
in_model (granted f k v j) = Messages.granted f k v j
in_model (denied f k v j) = Messages.denied f k v j
in_model (task f k v j) = Messages.task f k v j
in_model (report f v counts) = Messages.report f v (byte counts)
in_model (release f) = Messages.release f
in_model (ghost_ended q g) = Messages.ghost_ended q g
in_model (count_dropped f k v j n) = Messages.count_dropped f k v j n
in_model (dropped f k v j n) = Messages.dropped f k v j n

-- a report has eight counts
abbrev pub Eight : Message → Type 0
Eight none = Unit
Eight (publish f k) = Unit
Eight (published f k) = Unit
Eight (transit f k v j) = Unit
Eight (granted f k v j) = Unit
Eight (denied f k v j) = Unit
Eight (task f k v j) = Unit
Eight (report f v counts) = length counts ≡ 8
Eight (release f) = Unit
Eight (ghost_ended q g) = Unit
Eight (count_dropped f k v j n) = Unit
Eight (dropped f k v j n) = Unit

message-length : (tag f k v j n : ℕ) (counts : List ℕ) → length counts ≡ 8 → length (message tag f k v j n counts) ≡ 16
unfolding message
message-length tag f k v j n counts h = omega arith

message_is : (tag f k v j n : ℕ) (counts : List ℕ)
    → message_of (byte (message tag f k v j n counts)) ≡ record { tag = tag; finish = f; task = k; from = v; to = j; number = n; counts = byte counts }
unfolding message
message_is tag f k v j n counts = λ z. record {
  tag = tag;
  finish = f;
  task = k;
  from = v;
  to = j;
  number = n;
  counts = λ i. get_or-append-add (tag ∷ f ∷ k ∷ v ∷ j ∷ n ∷ 0 ∷ 0 ∷ []) counts i 0 z;
}

bare_is : (tag f k v j n : ℕ) → message_of (byte (message tag f k v j n no_counts)) ≡ record { tag = tag; finish = f; task = k; from = v; to = j; number = n; counts = λ i. 0 }
unfolding no_counts
bare_is tag f k v j n = message_is tag f k v j n no_counts ∙ (λ z. record { tag = tag; finish = f; task = k; from = v; to = j; number = n; counts = λ i. zeros_at 8 i z })

bytes_length : (x : Message) → Eight x → length (bytes_of x) ≡ 16
unfolding bytes_of message no_counts
bytes_length none h = refl
bytes_length (publish f k) h = refl
bytes_length (published f k) h = refl
bytes_length (transit f k v j) h = refl
bytes_length (granted f k v j) h = refl
bytes_length (denied f k v j) h = refl
bytes_length (task f k v j) h = refl
bytes_length (report f v counts) h = message-length 7 f 0 v 0 0 counts h
bytes_length (release f) h = refl
bytes_length (ghost_ended q g) h = refl
bytes_length (count_dropped f k v j n) h = refl
bytes_length (dropped f k v j n) h = refl

bytes_are : (x : Message) → message_of (byte (bytes_of x)) ≡ in_model x
unfolding bytes_of
bytes_are none = bare_is 0 0 0 0 0 0
bytes_are (publish f k) = bare_is 1 f k 0 0 0
bytes_are (published f k) = bare_is 2 f k 0 0 0
bytes_are (transit f k v j) = bare_is 3 f k v j 0
bytes_are (granted f k v j) = bare_is 4 f k v j 0
bytes_are (denied f k v j) = bare_is 5 f k v j 0
bytes_are (task f k v j) = bare_is 6 f k v j 0
bytes_are (report f v counts) = message_is 7 f 0 v 0 0 counts
bytes_are (release f) = bare_is 8 f 0 0 0 0
bytes_are (ghost_ended q g) = bare_is 9 q 0 0 0 g
bytes_are (count_dropped f k v j n) = bare_is 10 f k v j n
bytes_are (dropped f k v j n) = bare_is 11 f k v j n

-- a row written, as a message
slot_row_lem : (m : ℕ → ℕ → ℕ) (s : ℕ) (r : ℕ → ℕ) → (λ (x : ℕ). message_of (upd m s r x)) ≡ upd (λ x. message_of (m x)) s (message_of r)
unfolding upd
slot_row_lem m s r = fun_ext (λ x. bool_cases (eqb x s) (λ e. rw e refl) (λ e. rw e refl))

-- ---- a send; the message in slot k, and its counts
abbrev pub counts_at : List ℕ → ℕ → List ℕ
counts_at t k = part (from_slot t k) 8 8

module _ {t : List ℕ} {a : State} (s : Seen t a) (k : ℕ) (k128 : k < 128) where
  pub seen_send : (x : Message) → Eight x → Seen (send t k x) (with_slot (upd a.slot k (in_model x)) a)
  unfolding send view
  seen_send x h =
      let w = s.whole in
      let l = bytes_length x h in
      by_write (λ y. with_slot (upd y.slot k (in_model x)) y) s (slot_place k) (bytes_of x)
      (ap view_of (slots_become (write_outside t (slot_place k) (bytes_of x) 16 13056 15104 l (omega arith) (omega arith))
      (cell-write slot_table slot_sits t k 0 16 (slot_place k) (bytes_of x) l refl (omega arith) (omega arith) k128 (omega arith)
      ∙ run_row (cell t slot_table) k 16 (byte (bytes_of x)) (λ y j g. cell_wide slot_table t y j g) (λ j g. get_or-eq_default (bytes_of x) 0 (omega arith))))
      ∙ (λ z. with_slot (slot_row_lem (cell t slot_table) k (byte (bytes_of x)) z) (view_of (rows t)))
      ∙ (λ z. with_slot (upd (λ y. message_of (cell t slot_table y)) k (bytes_are x z)) (view_of (rows t))))

  slot_byte : (j : ℕ) → j < 16 → byte (from_slot t k) j ≡ cell t slot_table k j
  unfolding from_slot
  slot_byte j h =
      let p : 13056 + (16 * k + j) ≡ place (slot_row k) j = omega arith in
      get_or-drop (16 * k) (drop (slot_place 0) t) j 0 ∙ get_or-drop (slot_place 0) t (16 * k + j) 0 ∙ ap (byte t) p ∙ sym (cell_in slot_table t k j h (omega arith) k128)

  pub read_message : message_at t k ≡ tagged (a.slot k).tag (a.slot k).finish (a.slot k).task (a.slot k).from (a.slot k).to (a.slot k).number (counts_at t k)
  unfolding message_at message_in view
  read_message =
      rw (slot_byte 0 (omega arith), slot_byte 1 (omega arith), slot_byte 2 (omega arith), slot_byte 3 (omega arith), slot_byte 4 (omega arith), slot_byte 5 (omega arith))
      (ap (λ (y : State). tagged (y.slot k).tag (y.slot k).finish (y.slot k).task (y.slot k).from (y.slot k).to (y.slot k).number (counts_at t k)) s.is)

  pub read_tag : byte (from_slot t k) 0 ≡ (a.slot k).tag
  unfolding view
  read_tag = slot_byte 0 (omega arith) ∙ ap (λ (y : State). (y.slot k).tag) s.is

  pub read_slot_finish : byte (from_slot t k) 1 ≡ (a.slot k).finish
  unfolding view
  read_slot_finish = slot_byte 1 (omega arith) ∙ ap (λ (y : State). (y.slot k).finish) s.is

  pub read_empty : is_empty (from_slot t k) k ≡ eqb (a.slot k).tag 0
  unfolding is_empty
  read_empty = rw read_tag refl

  pub counts-length : length (counts_at t k) ≡ 8
  unfolding from_slot
  counts-length = let w = s.whole in length_part (from_slot t k) 8 8 (rw (length-drop (16 * k) (drop (slot_place 0) t), length-drop (slot_place 0) t) (omega arith))

  pub read_counts : (i : ℕ) → byte (counts_at t k) i ≡ (a.slot k).counts i
  unfolding view
  read_counts i = bool_cases (ltb i 8)
      (λ e. byte-part (from_slot t k) 8 8 i (ltb-true i 8 e) ∙ slot_byte (8 + i) (omega (arith, ltb-true i 8 e)))
      (λ e. get_or-eq_default (counts_at t k) 0 (omega (arith, ltb-false i 8 e, counts-length)) ∙ sym (cell_wide slot_table t k (8 + i) (omega (arith, ltb-false i 8 e))))
      ∙ ap (λ (y : State). (y.slot k).counts i) s.is

-- 128 slots, and no other is full
pub read_slots : {t : List ℕ} {a : State} → Seen t a → a.slots ≡ 128
unfolding view
read_slots s = ap (λ (y : State). y.slots) (sym s.is)

pub slot_range : {t : List ℕ} {a : State} → Seen t a → (k : ℕ) → ((a.slot k).tag ≡ 0 → ⊥) → k < 128
unfolding view
slot_range {t} s k n = bool_cases (ltb k 128)
    (λ l. ltb-true k 128 l)
    (λ l. absurd (n (ap (λ (y : State). (y.slot k).tag) (sym s.is) ∙ cell_out slot_table t k 0 (rw (le-leb 0 k (omega arith), l) refl))))

-- ---- a new message takes the lowest empty slot
module _ {t : List ℕ} {a : State} (s : Seen t a) (room : slots_full t ≡ false) where
  pub lowest_range : lowest_empty t < 128
  unfolding slots_full lowest_empty
  lowest_range = let r = first_range is_empty 16 128 0 (drop (slot_place 0) t) in let n = eqb-false (lowest_empty t) 128 room in omega (arith, r.1)

  lowest_empty_lem : is_empty (drop (13056 + 16 * lowest_empty t) t) (lowest_empty t) ≡ true
  unfolding lowest_empty
  lowest_empty_lem = first-at is_empty 16 0 128 (slot_place 0) t (lowest_empty t) (13056 + 16 * lowest_empty t) (lowest_empty t) refl lowest_range refl (omega arith)

  pub lowest_free : Free a (lowest_empty t)
  unfolding is_empty view
  lowest_free =
      let k = lowest_empty t in
      let p : 13056 + 16 * lowest_empty t + 0 ≡ place (slot_row (lowest_empty t)) 0 = omega arith in
      record {
        range = rw (read_slots s) lowest_range;
        tag =
            ap (λ (y : State). (y.slot k).tag) (sym s.is) ∙ cell_in slot_table t k 0 (omega arith) (omega arith) lowest_range
            ∙ sym (get_or-drop (13056 + 16 * k) t 0 0 ∙ ap (byte t) p) ∙ eqb-true (byte (drop (13056 + 16 * k) t) 0) 0 lowest_empty_lem;
      }

-- where none is empty the first is full
first-here : (p : List ℕ → ℕ → Bool) (w i n : ℕ) (m : List ℕ) → p m i ≡ true → first_part p w i (suc n) m ≡ i
unfolding first_part
first-here p w i n m e = rw e refl

pub first_full : {t : List ℕ} {a : State} → Seen t a → slots_full t ≡ true → (a.slot 0).tag ≡ 0 → ⊥
unfolding slots_full lowest_empty from_slot
first_full {t} s e z =
    let empty : is_empty (from_slot t 0) 0 ≡ true = read_empty s 0 (omega arith) ∙ rw z refl in
    omega (arith, eqb-true (lowest_empty t) 128 e, first-here is_empty 16 0 127 (drop (slot_place 0) t) empty)
