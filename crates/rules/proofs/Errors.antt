-- Laws that one wrong operand in the rules would break: a pair asked twice, a cancel before the adopt, a held or a dead
-- place's report taken, a dropped count other than sent less received, a begin with 9 places.
use mathlib.Core.Path.{◌≡◌, refl, ap, ◌∙◌, subst}
use mathlib.Core.Bool.{Bool, true, false, cond}
use mathlib.Core.List.{List, [], ◌∷◌}
use Prim.Native.Nat.{ℕ, ◌+◌, ◌-◌, ◌<◌}
use native.Mathlib.Omega.{arith}
use lib.Dec.{eqb}
use lib.ListN.{length, set, length-set}
use borrow.Author.Tests.{eq-eqb}
use Rattle.tables.specs.Bytes.{byte, write}
use Rattle.tables.specs.Bits.{marked, with_mark}
use Rattle.tables.specs.Walks.{every, some_of}
use Rattle.tables.specs.Layout.{Whole, place, slot_row}
use Rattle.tables.proofs.Writes.{byte-write_in, length-write}
use Rattle.rules.specs.Fields.{dead_mask, dead, adopt_due, asked_marks, live, received, deny_place, deny_mask}
use Rattle.rules.specs.Action.{Action, deliver, cancel, ask, begin, action_of}
use Rattle.rules.specs.Books.{book_of, column, under_repair}
use Rattle.rules.specs.Messages.{report, count_dropped, dropped, slot_place, message_at, message, bytes_of, send}
use Rattle.rules.specs.Deliver.{book_absent, discarded, waits_for_repair, held, deliver_count_dropped, delivered, deliver_message, deliver_step}
use Rattle.rules.specs.Refusals.{not_there, not_ready, must_wait, answer}
use Rattle.rules.specs.Step.{step, after}
use Rattle.rules.proofs.Unique.{after_done}
use Rattle.rules.proofs.Taken.{taken, whole, is_deliver, slot_there}

some_head : (l : List Bool) → some_of (true ∷ l) ≡ true
unfolding some_of
some_head l = refl

some_tail : (c : Bool) (l : List Bool) → some_of l ≡ true → some_of (c ∷ l) ≡ true
unfolding some_of
some_tail true l h = refl
some_tail false l h = h

-- Asking a pair twice: a pair already asked is refused (4).
pub asked-refused : (t : List ℕ) (f v j : ℕ) → marked (asked_marks t f v) j ≡ true → not_ready t (ask f v j) ≡ true
unfolding not_ready
asked-refused t f v j h =
    some_tail (book_absent t f) _ (some_tail (eqb (live t f v j) 0) _ (ap (λ (c : Bool). some_of (c ∷ [])) h ∙ some_head []))

-- Cancelling before adopting: a cancel while adopt is due is refused (4).
pub due_refused : (t : List ℕ) (f v : ℕ) → adopt_due t f ≡ 1 → not_ready t (cancel f v) ≡ true
unfolding not_ready
due_refused t f v h =
    some_tail (book_absent t f) _
    (ap (λ (c : Bool). some_of (c ∷ eqb (column (book_of t f) v) 0 ∷ [])) (eq-eqb (adopt_due t f) 1 h) ∙ some_head _)

-- A held report is refused (5).
pub report-held : (t : List ℕ) (s f v : ℕ) (counts : List ℕ) → message_at t s ≡ report f v counts → discarded t (report f v counts) ≡ false
    → under_repair (dead_mask t) (book_of t f) ≡ true → must_wait t (deliver s) ≡ true
unfolding must_wait held waits_for_repair
report-held t s f v counts x d u =
    ap (held t) x ∙ ap (λ (c : Bool). cond c false (under_repair (dead_mask t) (book_of t f))) d ∙ u

-- Applying a dead place's report: it is discarded.
pub dead-report-discarded : (t : List ℕ) (f v : ℕ) (counts : List ℕ) → dead t v ≡ true → discarded t (report f v counts) ≡ true
unfolding discarded
dead-report-discarded t f v counts h = ap (λ (c : Bool). some_of (c ∷ book_absent t f ∷ [])) h ∙ some_head _

-- Begin with 9 places is refused (2).
pub nine_refused : (t : List ℕ) → not_there t (begin 9) ≡ true
unfolding not_there every
nine_refused t = refl

-- The rule for tag 10: the reply says sent less received.
module _ (t r : List ℕ) (f k v j x : ℕ) (is-taken : answer t r ≡ 0) (kind : byte r 0 ≡ 4) (asks : message_at t (byte r 1) ≡ count_dropped f k v j x) where
  delivers : action_of r ≡ deliver (byte r 1)
  delivers = is_deliver r kind (taken t r is-taken).action

  pub reply_slot : byte r 1 < 128
  reply_slot = slot_there t (byte r 1) (subst (λ (a : Action). not_there t a ≡ false) delivers (taken t r is-taken).own.there)

  replies : after t r ≡ deliver_count_dropped t (byte r 1) f k v j x
  unfolding step deliver_step deliver_message discarded delivered
  replies = after_done t r is-taken ∙ ap (step t) delivers ∙ ap (deliver_message t (byte r 1)) asks

  denied_there : List ℕ
  denied_there = set t (deny_place f j) (with_mark (deny_mask t f j) v)

  long : length denied_there ≡ 15104
  unfolding denied_there
  long = length-set t (deny_place f j) (with_mark (deny_mask t f j) v) ∙ whole t r (taken t r is-taken).right_length

  reply : List ℕ
  reply = bytes_of (dropped f k v j (x - received t f j v))

  written : after t r ≡ write denied_there (slot_place (byte r 1)) reply
  unfolding deliver_count_dropped send denied_there reply
  written = replies

  pub reply_says : byte (after t r) (place (slot_row (byte r 1)) 5) ≡ x - received t f j v
  unfolding reply bytes_of message
  reply_says =
      let at : place (slot_row (byte r 1)) 5 ≡ slot_place (byte r 1) + 5 = omega arith in
      ap (λ (u : List ℕ). byte u (place (slot_row (byte r 1)) 5)) written
      ∙ ap (byte (write denied_there (slot_place (byte r 1)) reply)) at
      ∙ byte-write_in denied_there (slot_place (byte r 1)) reply 5 (omega arith) (omega (arith, long, reply_slot))

  pub reply_whole : Whole (after t r)
  reply_whole = ap length written ∙ length-write reply denied_there (slot_place (byte r 1)) ∙ long
