-- What a step is said to send stands in the slot that its message takes.
use mathlib.Core.Path.{◌≡◌, refl, sym, ap, ◌∙◌}
use mathlib.Core.Bool.{true, false, cond}
use mathlib.Core.Logic.{inr}
use mathlib.Core.List.{List, [], ◌∷◌}
use Prim.Native.Nat.{ℕ, ◌+◌, ◌-◌, ◌*◌, ◌/◌, ◌%◌, ◌≤◌, ◌<◌}
use native.Mathlib.Omega.{arith}
use lib.Dec.{eqb}
use lib.ListN.{set, length, drop, replicate, length-set, length-replicate, get_or-eq_default}
use lib.Seq.{get_or-drop, get_or-set_other}
use borrow.Author.Tests.{eqb-true, eqb-false, eq-eqb, leb-false}
use Rattle.tables.specs.Bytes.{byte, part, write}
use Rattle.tables.specs.Bits.{marked, with_mark, without_mark}
use Rattle.tables.specs.Walks.{change_parts, some_of, every}
use Rattle.tables.specs.Layout.{Whole, place, task_row, finish_row, book_row}
use Rattle.tables.proofs.Writes.{length-write, length_part, byte-part, byte-write_in, byte-write_out}
use Rattle.tables.proofs.Changes.{Keeps, length_change, byte_change_in, byte_change_out}
use Rattle.tables.proofs.Walks.{every_each, first-at}
use Rattle.rules.specs.Fields.{dead_mask, dead, tasks_made, finishes_made, task_at, task_finish, task_maker, home, opener, is_published, is_adopted, book_place, local_live, deny_mask, is_main, runs, task_made, live_place, live, local_live_place, reported_place, received_place, deny_place, sent_place, asked_place, places, ghost_byte}
use Rattle.rules.specs.Action.{Action, unknown, spawn, open_finish, end, deliver, kill, adopt, cancel, ask, begin, action_of}
use Rattle.rules.specs.Begin.{zero_tables, begin_step}
use Rattle.rules.specs.Books.{book_of, with_book, clear_row, cleared_column, lowered_column}
use Rattle.rules.specs.Closing.{closes, without_book, closed_book, closing_test, closing_sends}
use Rattle.rules.specs.Messages.{Message, none, publish, published, transit, granted, denied, task, report, release, ghost_ended, count_dropped, dropped, message, bytes_of, tagged, message_in, message_at, from_slot, slot_place, send, is_empty, lowest_empty, slots_full, goes_to}
use Rattle.rules.specs.Spawn.{with_sent, first_spawn, later_spawn, is_first, spawn_step}
use Rattle.rules.specs.Open.{opened, open_step}
use Rattle.rules.specs.End.{end_unpublished, end_published, end_main, end_last, end_earlier, end_other, end_step, end_sends, received_row}
use Rattle.rules.specs.Kill.{kill_task, kill_finish, kill_book, kill_local, kill_slot, kill_step}
use Rattle.rules.specs.Adopt.{adopt_book, adopt_step}
use Rattle.rules.specs.Cancel.{cancelled, cancel_step}
use Rattle.rules.specs.Ask.{ask_step}
use Rattle.rules.specs.Deliver.{discarded, deliver_publish, deliver_published, counted, deliver_transit, deliver_granted, deliver_denied, arrived, deliver_task, deliver_report, deliver_release, without_ghost, deliver_ghost_ended, deliver_count_dropped, deliver_dropped, delivered, deliver_message, deliver_step}
use Rattle.rules.specs.Refusals.{no_action, unsound, not_there, not_ready, no_room, answer}
use Rattle.rules.specs.Sent.{closed_sends, closing_sent, reply_sent, deliver_sent, sent_by}
use Rattle.rules.specs.Sound.{sound}
use Rattle.rules.specs.Step.{step, after}
use Rattle.rules.proofs.Taken.{StepTaken, taken, whole, not-not, neither, slot_there}
use Rattle.sound.proofs.Use.{Ranges, task_made_lem, finish_made_lem, places_range, finishes_most, task_ranges, finish_ranges, slot_tag, slot_ranges}
use Rattle.model.specs.Base.Cases.{bool_cases, both}
use Rattle.promises.specs.SentTag.{slot_of, SentTag}
use Rattle.promises.proofs.Walks.{zeros_at}
use Rattle.promises.proofs.Tests.{not_both}
use Rattle.promises.proofs.Keeps.{task_keeps, finish_keeps, book_keeps, local_keeps, slot_keeps, adopt_keeps}
use Rattle.promises.proofs.Seen.{seen}
use Rattle.promises.proofs.Slots.{lowest_range}
use Rattle.promises.proofs.Tags.{by_tag}

-- ---- writes below the slots: the tables are as long as before, and every slot's tag stays
record SameSlots (t u : List ℕ) : Type 0 where
  long : length u ≡ length t
  kept : (s : ℕ) → byte u (slot_place s) ≡ byte t (slot_place s)

same_none : {t : List ℕ} → SameSlots t t
same_none = record { long = refl; kept = λ s. refl }

module _ {t u : List ℕ} (same : SameSlots t u) where
  same_set : (p v : ℕ) → p < 13056 → SameSlots t (set u p v)
  same_set p v l = record {
    long = length-set u p v ∙ same.long;
    kept = λ s. get_or-set_other u p (slot_place s) v 0 (λ e. omega arith) ∙ same.kept s;
  }

  same_write : (p : ℕ) (vs : List ℕ) → p + length vs ≤ 13056 → SameSlots t (write u p vs)
  same_write p vs l = record {
    long = length-write vs u p ∙ same.long;
    kept = λ s. byte-write_out u p vs (slot_place s) (inr (omega arith)) ∙ same.kept s;
  }

  same_change : Whole t → (g : List ℕ → ℕ → List ℕ) (w : ℕ) → Keeps g w → (n i k : ℕ) → k + w * n ≤ 13056 → SameSlots t (change_parts g w i n k u)
  same_change whole g w keeps n i k l =
      let fits : k + w * n ≤ length u = omega (arith, same.long) in
      record {
        long = length_change g w keeps n i k u fits ∙ same.long;
        kept = λ s. byte_change_out g w keeps n i k (slot_place s) u fits (inr (omega arith)) ∙ same.kept s;
      }

  same_runs : (o : ℕ) → o < 256 → SameSlots t (runs u o)
  unfolding runs
  same_runs o l = bool_cases (eqb o 0) (λ e. rw e same) (λ e. rw e (same_set (place (task_row o) 3) 5 (omega arith)))

  same_book : (f : ℕ) → f < 33 → (b : List ℕ) → length b ≡ 144 → SameSlots t (with_book u f b)
  unfolding with_book
  same_book f l b e = same_write (book_place f) b (omega arith)

-- ---- a message sent into tables of 15,104 bytes: its tag stands in the slot
fields_some : (tag f k v j n : ℕ) (counts : List ℕ) → 0 < length (message tag f k v j n counts)
unfolding message
fields_some tag f k v j n counts = omega arith

bytes_some : (x : Message) → 0 < length (bytes_of x)
unfolding bytes_of
bytes_some none = fields_some _ _ _ _ _ _ _
bytes_some (publish f k) = fields_some _ _ _ _ _ _ _
bytes_some (published f k) = fields_some _ _ _ _ _ _ _
bytes_some (transit f k v j) = fields_some _ _ _ _ _ _ _
bytes_some (granted f k v j) = fields_some _ _ _ _ _ _ _
bytes_some (denied f k v j) = fields_some _ _ _ _ _ _ _
bytes_some (task f k v j) = fields_some _ _ _ _ _ _ _
bytes_some (report f v counts) = fields_some _ _ _ _ _ _ _
bytes_some (release f) = fields_some _ _ _ _ _ _ _
bytes_some (ghost_ended q g) = fields_some _ _ _ _ _ _ _
bytes_some (count_dropped f k v j n) = fields_some _ _ _ _ _ _ _
bytes_some (dropped f k v j n) = fields_some _ _ _ _ _ _ _

record Long (u : List ℕ) : Type 0 where
  whole : Whole u

as_long : (u : List ℕ) → Whole u → Long u
as_long u w = record { whole = w }

long_set : {u : List ℕ} → Long u → (p v : ℕ) → Long (set u p v)
long_set {u} h p v = record { whole = length-set u p v ∙ h.whole }

long_write : {u : List ℕ} → Long u → (p : ℕ) (vs : List ℕ) → Long (write u p vs)
long_write {u} h p vs = record { whole = length-write vs u p ∙ h.whole }

sends : {u : List ℕ} → Long u → (s : ℕ) → s < 128 → (x : Message) → byte (send u s x) (slot_place s) ≡ byte (bytes_of x) 0
unfolding send
sends {u} h s l x =
    let w = h.whole in
    let z : slot_place s ≡ slot_place s + 0 = omega arith in
    ap (byte (write u (slot_place s) (bytes_of x))) z ∙ byte-write_in u (slot_place s) (bytes_of x) 0 (bytes_some x) (omega arith)

long_send : {u : List ℕ} → Long u → (s : ℕ) (x : Message) → Long (send u s x)
unfolding send
long_send h s x = long_write h (slot_place s) (bytes_of x)

-- ---- the closing test
module _ (u : List ℕ) (w : Whole u) (f : ℕ) (f33 : f < 33) (s : ℕ) (empty : byte u (slot_place s) ≡ 0) where
  gone : SameSlots u (without_book u f)
  unfolding without_book
  gone = same_book same_none f f33 (replicate 144 0) (length-replicate {A = ℕ} 144 0)

  closing_tag : (closing_sends u f ≡ true → s < 128) → byte (closing_test u f s) (slot_place s) ≡ closing_sent u f
  unfolding closing_test closed_book closing_sent closed_sends closing_sends every some_of bytes_of message
  closing_tag room = bool_cases (closes (book_of u f))
      (λ c. bool_cases (eqb (is_adopted u f) 1)
      (λ a. rw (c, a) (sends (as_long (without_book u f) (gone.long ∙ w)) s (room (rw (c, a) refl)) _))
      (λ a. bool_cases (dead u (home u f))
      (λ d. rw (c, a, d) (gone.kept s ∙ empty))
      (λ d. rw (c, a, d) (sends (as_long (without_book u f) (gone.long ∙ w)) s (room (rw (c, a, d) refl)) _))))
      (λ c. rw c empty)

-- ---- the lowest empty slot
module _ (t : List ℕ) (w : Whole t) where
  lowest_there : slots_full t ≡ false → lowest_empty t < 128
  lowest_there room = lowest_range (seen t w) room

  lowest_empty_lem : lowest_empty t < 128 → byte t (slot_place (lowest_empty t)) ≡ 0
  unfolding lowest_empty is_empty
  lowest_empty_lem l =
      let k = lowest_empty t in
      let p : 13056 + 16 * lowest_empty t + 0 ≡ slot_place (lowest_empty t) = omega arith in
      sym (get_or-drop (13056 + 16 * k) t 0 0 ∙ ap (byte t) p)
      ∙ eqb-true (byte (drop (13056 + 16 * k) t) 0) 0 (first-at is_empty 16 0 128 (slot_place 0) t k (13056 + 16 * k) k refl l refl (omega arith))

  lowest_tag : byte t (slot_place (lowest_empty t)) ≡ 0
  unfolding slots_full
  lowest_tag = bool_cases (slots_full t)
      (λ e. let past = eqb-true (lowest_empty t) 128 e in get_or-eq_default t 0 (omega arith))
      (λ e. lowest_empty_lem (lowest_there e))

  nothing : {u : List ℕ} → SameSlots t u → byte u (slot_place (lowest_empty t)) ≡ 0
  nothing same = same.kept (lowest_empty t) ∙ lowest_tag

-- ---- begin
begin_tag : (n s : ℕ) → byte (begin_step n) (slot_place s) ≡ 0
unfolding begin_step zero_tables
begin_tag n s =
    (same_write (same_write (same_write (same_none {t = zero_tables}) (place 0 0) (n ∷ 0 ∷ 1 ∷ 1 ∷ 0 ∷ 0 ∷ 0 ∷ 0 ∷ []) (omega arith))
    (place (task_row 1) 0) (0 ∷ 0 ∷ 1 ∷ 5 ∷ 0 ∷ 0 ∷ 0 ∷ 0 ∷ []) (omega arith))
    (place (finish_row 1) 0) (0 ∷ 0 ∷ 0 ∷ 1 ∷ 0 ∷ 1 ∷ 0 ∷ 0 ∷ []) (omega arith)).kept s
    ∙ zeros_at 15104 (slot_place s)

-- ---- the other actions
module _ (t : List ℕ) (w : Whole t) (small : (q : ℕ) → byte t q < 256) (ok : sound t ≡ true) where
  finish_below : (f : ℕ) → f ≤ finishes_made t → f < 33
  finish_below f l = omega (arith, finishes_most t ok)

  task-below : (k : ℕ) → k ≤ tasks_made t → k < 256
  task-below k l = omega (arith, small 2)

  spawn_tag : (k p : ℕ) → StepTaken t (spawn k p) → byte (spawn_step t k p) (slot_place (lowest_empty t)) ≡ cond (is_first t k) 1 3
  unfolding no_room spawn_step first_spawn later_spawn with_sent bytes_of message
  spawn_tag k p own =
      let l = lowest_there t w (neither _ _ own.room).1 in
      bool_cases (is_first t k)
      (λ e. rw e (sends (long_set (long_write (long_set (long_set (as_long t w) (place (task_row k) 3) 6) 2 (tasks_made t + 1)) (place (task_row (tasks_made t + 1)) 0) _) (place (finish_row (task_finish t k)) 3) 2) (lowest_empty t) l _))
      (λ e. rw e (sends (long_write (long_set (long_set (as_long t w) (place (task_row k) 3) 6) 2 (tasks_made t + 1)) (place (task_row (tasks_made t + 1)) 0) _) (lowest_empty t) l _))

  open_tag : (k : ℕ) → StepTaken t (open_finish k) → byte (open_step t k) (slot_place (lowest_empty t)) ≡ 0
  unfolding not_there no_room open_step opened
  open_tag k own =
      let k256 = task-below k (task_made_lem t k (not-not (task_made t k) own.there)).1 in
      let room = neither _ _ own.room in
      let n = leb-false 255 (tasks_made t) room.0 in
      let g = leb-false 32 (finishes_made t) room.1 in
      nothing t w (same_write (same_write (same_set (same_set (same_set same_none (place (task_row k) 3) 6 (omega arith)) 2 _ (omega arith)) 3 _ (omega arith))
      (place (task_row (tasks_made t + 1)) 0) _ (omega arith)) (place (finish_row (finishes_made t + 1)) 0) _ (omega arith))

  end_tag : (k : ℕ) → StepTaken t (end k) → byte (end_step t k) (slot_place (lowest_empty t)) ≡ cond (end_sends t k) 7 0
  unfolding not_there no_room end_step end_main end_other end_unpublished end_published end_last end_earlier end_sends bytes_of message
  end_tag k own =
      let made = task_made_lem t k (not-not (task_made t k) own.there) in
      let k256 = task-below k made.1 in
      let fits = task_ranges t ok k made in
      let f = task_finish t k in
      let p = task_at t k in
      let f33 = finish_below f fits.finish.1 in
      let own_finish = finish_ranges t ok f fits.finish in
      let o256 : opener t f < 256 = omega (arith, own_finish.opened, own_finish.main.1, small 2) in
      let p8 : task_at t k < 8 = omega (arith, fits.at, (places_range t ok).1) in
      let room = not_both (end_sends t k) (slots_full t) own.room in
      bool_cases (is_main t k)
      (λ m. bool_cases (eqb (is_published t f) 0)
      (λ e. rw (m, e) (nothing t w (same_runs (same_set (same_set same_none (place (task_row k) 3) 7 (omega arith)) (place (finish_row f) 3) 4 (omega arith)) (opener t f) o256)))
      (λ e. rw (m, e) (sends (long_set (long_set (as_long t w) (place (task_row k) 3) 7) (place (finish_row f) 3) 3) (lowest_empty t) (lowest_there t w (room (rw (m, e) refl))) _)))
      (λ m. bool_cases (eqb (local_live t f p) 1)
      (λ e. rw (m, e) (sends (long_write (long_set (long_set (as_long t w) (place (task_row k) 3) 7) (local_live_place f p) 0) (reported_place f p 0) (received_row t f p)) (lowest_empty t) (lowest_there t w (room (rw (m, e) refl))) _))
      (λ e. rw (m, e) (nothing t w (same_set (same_set same_none (place (task_row k) 3) 7 (omega arith)) (local_live_place f p) _ (omega arith)))))

  adopt_tag : (f : ℕ) → StepTaken t (adopt f) → byte (adopt_step t f) (slot_place (lowest_empty t)) ≡ 0
  unfolding not_there adopt_step
  adopt_tag f own =
      let f33 = finish_below f (finish_made_lem t f (not-not _ own.there)).1 in
      nothing t w (same_set (same_write (same_change same_none w (adopt_book t f) 144 (adopt_keeps t f) 32 1 (book_place 1) (omega arith)) (place (book_row f) 4) _ (omega arith)) (place (book_row f) 2) 0 (omega arith))

  cancel_tag : (f v : ℕ) → StepTaken t (cancel f v) → byte (cancel_step t f v) (slot_place (lowest_empty t)) ≡ closing_sent (cancelled t f v) f
  unfolding not_there no_room cancel_step cancelled book_of cleared_column clear_row
  cancel_tag f v own =
      let there = every_each _ (not-not _ own.there) in
      let f33 = finish_below f (finish_made_lem t f there.0).1 in
      let size : length (book_of t f) ≡ 144 = length_part t (book_place f) 144 (omega arith) in
      let same = same_book (same_none {t = t}) f f33 (cleared_column (book_of t f) v) (length_change (clear_row v) 8 (λ m i l. length-set m v 0 ∙ l) 8 0 8 (book_of t f) (omega arith) ∙ size) in
      closing_tag (cancelled t f v) (same.long ∙ w) f f33 (lowest_empty t) (nothing t w same)
      (λ e. lowest_there t w (not_both (closing_sends (cancelled t f v) f) (slots_full t) own.room e))

  ask_tag : (f v j : ℕ) → StepTaken t (ask f v j) → byte (ask_step t f v j) (slot_place (lowest_empty t)) ≡ 10
  unfolding no_room ask_step bytes_of message
  ask_tag f v j own = sends (long_set (as_long t w) (asked_place f v) _) (lowest_empty t) (lowest_there t w own.room) _

  kill_tag : (p : ℕ) → byte (kill_step t p) (slot_place (lowest_empty t)) ≡ 0
  unfolding kill_step kill_slot slots_full
  kill_tag p =
      let t1 = set t 1 (with_mark (dead_mask t) p) in
      let first : SameSlots t t1 = same_set same_none 1 (with_mark (dead_mask t) p) (omega arith) in
      let w1 : length t1 ≡ 15104 = first.long ∙ w in
      let fits : 13056 + 16 * 128 ≤ length t1 = omega arith in
      let t2 = change_parts (kill_slot t p) 16 0 128 13056 t1 in
      let w2 : length t2 ≡ 15104 = length_change (kill_slot t p) 16 (slot_keeps p t) 128 0 13056 t1 fits ∙ w1 in
      let most = finishes_most t ok in
      let n_small = small 2 in
      let same = same_change (same_change (same_change (same_change (same_none {t = t2}) w2 (kill_local p) 24 (local_keeps p) 256 0 6912 (omega arith))
      w2 (kill_book p) 144 (book_keeps p) 32 1 2304 (omega arith))
      w2 (kill_finish p) 8 (finish_keeps p) (finishes_made t) 1 2048 (omega arith))
      w2 (kill_task p) 8 (task_keeps p) (tasks_made t) 1 8 (omega arith) in
      same.kept (lowest_empty t) ∙ bool_cases (slots_full t)
      (λ e. past t2 w2 e)
      (λ e. emptied p t1 w1 (first.kept (lowest_empty t) ∙ lowest_tag t w) (lowest_there t w e))
    where
      past : (u : List ℕ) → length u ≡ 15104 → slots_full t ≡ true → byte u (slot_place (lowest_empty t)) ≡ 0
      past u size e = let z = eqb-true (lowest_empty t) 128 e in get_or-eq_default u 0 (omega arith)

      emptied : (p : ℕ) (u : List ℕ) → length u ≡ 15104 → byte u (slot_place (lowest_empty t)) ≡ 0 → lowest_empty t < 128
          → byte (change_parts (kill_slot t p) 16 0 128 13056 u) (slot_place (lowest_empty t)) ≡ 0
      emptied p u size e l =
          let k = lowest_empty t in
          let m = part u (13056 + 16 * k) 16 in
          let z : slot_place (lowest_empty t) ≡ 13056 + (16 * lowest_empty t + 0) = omega arith in
          let y : 13056 + 16 * lowest_empty t + 0 ≡ slot_place (lowest_empty t) = omega arith in
          let old : byte (part u (13056 + 16 * lowest_empty t) 16) 0 ≡ 0 = byte-part u (13056 + 16 * k) 16 0 (omega arith) ∙ ap (byte u) y ∙ e in
          ap (byte (change_parts (kill_slot t p) 16 0 128 13056 u)) z
          ∙ byte_change_in (kill_slot t p) 16 (slot_keeps p t) 128 0 13056 k 0 u l (omega arith) (omega arith)
          ∙ bool_cases (eqb (goes_to t (message_in m)) p) (λ c. rw c refl) (λ c. rw c old)

-- ---- deliver: a message stands in a full slot
abbrev Real : Message → Type 0
Real none = ⊥
Real (publish f k) = Unit
Real (published f k) = Unit
Real (transit f k v j) = Unit
Real (granted f k v j) = Unit
Real (denied f k v j) = Unit
Real (task f k v j) = Unit
Real (report f v counts) = Unit
Real (release f) = Unit
Real (ghost_ended q g) = Unit
Real (count_dropped f k v j n) = Unit
Real (dropped f k v j n) = Unit

real_tagged : (tag f k v j n : ℕ) (counts : List ℕ) → tag ≤ 11 → (tag ≡ 0 → ⊥) → Real (tagged tag f k v j n counts)
unfolding tagged
real_tagged tag f k v j n counts most some = by_tag tag most
    (λ e. absurd (some e))
    (λ e. rw e tt) (λ e. rw e tt) (λ e. rw e tt) (λ e. rw e tt) (λ e. rw e tt) (λ e. rw e tt)
    (λ e. rw e tt) (λ e. rw e tt) (λ e. rw e tt) (λ e. rw e tt) (λ e. rw e tt)

module _ (t : List ℕ) (w : Whole t) (small : (q : ℕ) → byte t q < 256) (ok : sound t ≡ true) (s : ℕ) (own : StepTaken t (deliver s)) where
  s128 : s < 128
  s128 = slot_there t s own.there

  real : Real (message_at t s)
  unfolding not_ready is_empty message_at message_in
  real = real_tagged _ _ _ _ _ _ _ (slot_tag t ok s s128) (eqb-false (byte (from_slot t s) 0) 0 own.ready)

  emptied_tag : {u : List ℕ} → Long u → byte (send u s none) (slot_place s) ≡ 0
  unfolding bytes_of message
  emptied_tag h = sends h s s128 none

  made_below : (f : ℕ) → f ≤ finishes_made t → f < 33
  made_below f l = finish_below t w small ok f l

  reply_tag : (x : Message) → Real x → Ranges (places t) (tasks_made t) (finishes_made t) x → byte (delivered t s x) (slot_place s) ≡ reply_sent t s x
  unfolding delivered reply_sent deliver_publish deliver_published deliver_transit counted deliver_granted deliver_denied deliver_task arrived deliver_report deliver_release without_ghost deliver_ghost_ended deliver_count_dropped deliver_dropped with_book bytes_of message
  reply_tag none y r = absurd y
  reply_tag (publish f k) y r = sends (long_write (as_long t w) (book_place f) _) s s128 _
  reply_tag (published f k) y r = sends (long_set (long_set (long_set (as_long t w) (place (finish_row f) 3) 1) (place (finish_row f) 4) 1) (place (task_row k) 3) 2) s s128 _
  reply_tag (transit f k v j) y r = bool_cases (dead t j)
      (λ d. rw d (sends (as_long t w) s s128 _))
      (λ d. rw d (sends (long_set (long_set (as_long t w) (live_place f v j) _) (sent_place f v j) _) s s128 _))
  reply_tag (granted f k v j) y r =
      let k256 = task-below t w small ok k r.0.1.1 in
      let o256 : task_maker t k < 256 = small (place (task_row k) 5) in
      (same_runs (same_set (same_none {t = send t s (cond (dead t j) none (task f k v j))}) (place (task_row k) 3) 3 (omega arith)) (task_maker t k) o256).kept s
      ∙ bool_cases (dead t j) (λ d. rw d (sends (as_long t w) s s128 none)) (λ d. rw d (sends (as_long t w) s s128 (task f k v j)))
  reply_tag (denied f k v j) y r =
      let k256 = task-below t w small ok k r.0.1.1 in
      (same_runs (same_set (same_none {t = send t s none}) (place (task_row k) 3) 4 (omega arith)) (task_maker t k) (small (place (task_row k) 5))).kept s ∙ sends (as_long t w) s s128 none
  reply_tag (task f k v j) y r = bool_cases (marked (deny_mask t f j) v)
      (λ d. rw d (sends (as_long t w) s s128 none))
      (λ d. rw d (sends (long_set (long_set (long_set (as_long t w) (received_place f j v) _) (local_live_place f j) _) (place (task_row k) 3) 5) s s128 none))
  reply_tag (report f v counts) y r =
      let h = long_write (as_long t w) (book_place f) (lowered_column (book_of t f) v counts) in
      closing_tag _ (long_send h s none).whole f (made_below f r.0.1) s (emptied_tag h) (λ e. s128)
  reply_tag (release f) y r =
      let f33 = made_below f r.1 in
      (same_runs (same_set (same_none {t = send t s none}) (place (finish_row f) 3) 4 (omega arith)) (opener t f) (small (place (finish_row f) 1))).kept s ∙ sends (as_long t w) s s128 none
  reply_tag (ghost_ended q g) y r =
      let h = long_set (as_long t w) (place (book_row q) (4 + (g - 1) / 8)) (without_mark (ghost_byte t q ((g - 1) / 8)) ((g - 1) % 8)) in
      closing_tag _ (long_send h s none).whole q (made_below q r.0.1) s (emptied_tag h) (λ e. s128)
  reply_tag (count_dropped f k v j n) y r = sends (long_set (as_long t w) (deny_place f j) _) s s128 _
  reply_tag (dropped f k v j n) y r =
      let h = long_set (as_long t w) (live_place f v j) (live t f v j - n) in
      closing_tag _ (long_send h s none).whole f (made_below f r.0.1) s (emptied_tag h) (λ e. s128)

  deliver_tag : byte (deliver_step t s) (slot_place s) ≡ deliver_sent t s (message_at t s)
  unfolding deliver_step deliver_message deliver_sent
  deliver_tag = bool_cases (discarded t (message_at t s))
      (λ d. rw d (emptied_tag (as_long t w)))
      (λ d. rw d (reply_tag (message_at t s) real (slot_ranges t ok s s128)))

-- ---- every action
action_tag : (t : List ℕ) → Whole t → ((q : ℕ) → byte t q < 256) → (x : Action) → no_action x ≡ false → unsound t x ≡ false → StepTaken t x
    → byte (step t x) (slot_place (slot_of t x)) ≡ sent_by t x
unfolding no_action unsound step slot_of sent_by
action_tag t w small unknown q u own = both refl q
action_tag t w small (spawn k p) q u own = spawn_tag t w small (not-not (sound t) u) k p own
action_tag t w small (open_finish k) q u own = open_tag t w small (not-not (sound t) u) k own
action_tag t w small (end k) q u own = end_tag t w small (not-not (sound t) u) k own
action_tag t w small (deliver s) q u own = deliver_tag t w small (not-not (sound t) u) s own
action_tag t w small (kill p) q u own = kill_tag t w small (not-not (sound t) u) p
action_tag t w small (adopt f) q u own = adopt_tag t w small (not-not (sound t) u) f own
action_tag t w small (cancel f v) q u own = cancel_tag t w small (not-not (sound t) u) f v own
action_tag t w small (ask f v j) q u own = ask_tag t w small (not-not (sound t) u) f v j own
action_tag t w small (begin n) q u own = begin_tag n (lowest_empty t)

pub sent_tag : SentTag
unfolding after
sent_tag t r small e =
    let done = taken t r e in
    rw (eq-eqb (answer t r) 0 e) (action_tag t (whole t r done.right_length) small (action_of r) done.action done.sound done.own)
