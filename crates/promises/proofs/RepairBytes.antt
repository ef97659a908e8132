-- Kill, adopt, the closing test, cancel and ask leave tables of bytes.
use mathlib.Core.Path.{◌≡◌, ◌∙◌}
use mathlib.Core.Bool.{cond, not}
use mathlib.Core.List.{List, [], ◌∷◌}
use Prim.Native.Nat.{ℕ, ◌+◌, ◌*◌, ◌%◌, ◌≤◌, ◌<◌}
use native.Mathlib.Omega.{arith}
use lib.Dec.{eqb}
use lib.ListN.{set, length, length-set}
use Rattle.tables.specs.Bytes.{byte}
use Rattle.tables.specs.Bits.{bit_at, with_mark}
use Rattle.tables.specs.Walks.{every, some_of, change_parts}
use Rattle.tables.specs.Layout.{Whole, place, book_row}
use Rattle.tables.proofs.Bits.{mask_lt}
use Rattle.tables.proofs.Changes.{length_change}
use Rattle.rules.specs.Fields.{dead_mask, dead, tasks_made, finishes_made, home, book_parent, is_adopted, book_place, ghost_byte, sent_count, sent_place, asked_place, asked_marks}
use Rattle.rules.specs.Books.{book_of, column}
use Rattle.rules.specs.Books.{with_book as write_book}
use Rattle.rules.specs.Closing.{closes, closed_book, closing_test}
use Rattle.rules.specs.Closing.{without_book as clear_book}
use Rattle.rules.specs.Messages.{release, ghost_ended, count_dropped, message_in, lowest_empty, goes_to}
use Rattle.rules.specs.Kill.{loses_task, kill_task, loses_finish, kill_finish, kill_book, kill_local, kill_slot, kill_step}
use Rattle.rules.specs.Adopt.{orphan, adopt_book, with_ghosts, adopt_step}
use Rattle.rules.specs.Cancel.{cancelled, cancel_step}
use Rattle.rules.specs.Ask.{ask_step}
use Rattle.promises.proofs.Keeps.{task_keeps, finish_keeps, book_keeps, local_keeps, slot_keeps, adopt_keeps}
use Rattle.promises.proofs.Bytes.{Bytes, bytes_set, bytes_write, bytes_change, bytes_none, bytes_more, bytes_zeros, bytes_cleared}
use Rattle.promises.proofs.MessageBytes.{bytes_send, mark_small, either, bytes_cond}

-- ---- kill
module _ (p : ℕ) where
  task_small : (m : List ℕ) (k : ℕ) → Bytes m → Bytes (kill_task p m k)
  unfolding kill_task
  task_small m k h = bytes_set h 3 (cond (loses_task p (byte m 0) (byte m 1) (byte m 3)) 8 (byte m 3)) (either (loses_task p (byte m 0) (byte m 1) (byte m 3)) 8 (byte m 3) (omega arith) (h.small 3))

  finish_small : (m : List ℕ) (f : ℕ) → Bytes m → Bytes (kill_finish p m f)
  unfolding kill_finish
  finish_small m f h = bytes_set h 3 (cond (loses_finish p (byte m 0) (byte m 3)) 5 (byte m 3)) (either (loses_finish p (byte m 0) (byte m 3)) 5 (byte m 3) (omega arith) (h.small 3))

  book_small : (m : List ℕ) (f : ℕ) → Bytes m → Bytes (kill_book p m f)
  unfolding kill_book
  book_small m f h =
      let c = every (eqb (byte m 0) 1 ∷ not (eqb (column m p) 0) ∷ []) in
      bytes_set h 2 (cond c 1 (byte m 2)) (either c 1 (byte m 2) (omega arith) (h.small 2))

  local_small : (m : List ℕ) (y : ℕ) → Bytes m → Bytes (kill_local p m y)
  unfolding kill_local
  local_small m y h = bytes_cond (eqb (y % 8) p) (bytes_zeros 24) h

  slot_small : (t m : List ℕ) (s : ℕ) → Bytes m → Bytes (kill_slot t p m s)
  unfolding kill_slot
  slot_small t m s h = bytes_cond (eqb (goes_to t (message_in m)) p) (bytes_zeros 16) h

  pub kill_bytes : (t : List ℕ) → Whole t → Bytes t → finishes_made t ≤ 32 → Bytes (kill_step t p)
  unfolding kill_step
  kill_bytes t w h most =
      let n = tasks_made t in
      let n_small = h.small 2 in
      let t1 = set t 1 (with_mark (dead_mask t) p) in
      let w1 : length t1 ≡ 15104 = length-set t 1 (with_mark (dead_mask t) p) ∙ w in
      let t2 = change_parts (kill_slot t p) 16 0 128 13056 t1 in
      let w2 : length t2 ≡ 15104 = length_change (kill_slot t p) 16 (slot_keeps p t) 128 0 13056 t1 (omega arith) ∙ w1 in
      let t3 = change_parts (kill_local p) 24 0 256 6912 t2 in
      let w3 : length t3 ≡ 15104 = length_change (kill_local p) 24 (local_keeps p) 256 0 6912 t2 (omega arith) ∙ w2 in
      let t4 = change_parts (kill_book p) 144 1 32 2304 t3 in
      let w4 : length t4 ≡ 15104 = length_change (kill_book p) 144 (book_keeps p) 32 1 2304 t3 (omega arith) ∙ w3 in
      let t5 = change_parts (kill_finish p) 8 1 (finishes_made t) 2048 t4 in
      let w5 : length t5 ≡ 15104 = length_change (kill_finish p) 8 (finish_keeps p) (finishes_made t) 1 2048 t4 (omega arith) ∙ w4 in
      let b1 : Bytes t1 = bytes_set h 1 (with_mark (dead_mask t) p) (mark_small (dead_mask t) p) in
      let b2 : Bytes t2 = bytes_change (kill_slot t p) 16 128 (slot_keeps p t) (λ q l. omega arith) (slot_small t) 0 13056 (omega arith) b1 in
      let b3 : Bytes t3 = bytes_change (kill_local p) 24 256 (local_keeps p) (λ q l. omega arith) local_small 0 6912 (omega arith) b2 in
      let b4 : Bytes t4 = bytes_change (kill_book p) 144 32 (book_keeps p) (λ q l. omega arith) book_small 1 2304 (omega arith) b3 in
      let b5 : Bytes t5 = bytes_change (kill_finish p) 8 (finishes_made t) (finish_keeps p) (λ q l. omega arith) finish_small 1 2048 (omega arith) b4 in
      bytes_change (kill_task p) 8 n (task_keeps p) (λ q l. omega arith) task_small 1 8 (omega arith) b5

-- ---- adopt
module _ {t : List ℕ} (w : Whole t) (h : Bytes t) (f : ℕ) where
  adopt_small : (m : List ℕ) (g : ℕ) → Bytes m → Bytes (adopt_book t f m g)
  unfolding adopt_book
  adopt_small m g b = bytes_set b 3 (cond (orphan t f m g) 1 (byte m 3)) (either (orphan t f m g) 1 (byte m 3) (omega arith) (b.small 3))

  ghosts_small : (k old : ℕ) → with_ghosts t f k old < 256
  unfolding with_ghosts
  ghosts_small k old = mask_lt 8 (λ j. some_of (bit_at old j ∷ orphan t f (book_of t (8 * k + j + 1)) (8 * k + j + 1) ∷ []))

  pub adopt_bytes : Bytes (adopt_step t f)
  unfolding adopt_step
  adopt_bytes = bytes_set (bytes_write (bytes_change (adopt_book t f) 144 32 (adopt_keeps t f) (λ q l. omega arith) adopt_small 1 2304 (omega arith) h) (place (book_row f) 4)
      (bytes_more (ghosts_small 0 (ghost_byte t f 0)) (bytes_more (ghosts_small 1 (ghost_byte t f 1)) (bytes_more (ghosts_small 2 (ghost_byte t f 2)) (bytes_more (ghosts_small 3 (ghost_byte t f 3)) bytes_none)))))
      (place (book_row f) 2) 0 (omega arith)

-- ---- the closing test, cancel, ask
pub closing_bytes : {t : List ℕ} → Bytes t → (f k : ℕ) → f < 256 → Bytes (closing_test t f k)
unfolding closing_test closed_book clear_book write_book
closing_bytes {t} h f k l =
    let gone = bytes_write h (book_place f) (bytes_zeros 144) in
    bytes_cond (closes (book_of t f)) (bytes_cond (eqb (is_adopted t f) 1) (bytes_send gone k (ghost_ended (book_parent t f) f) (h.small (place (book_row f) 1), l))
    (bytes_cond (dead t (home t f)) gone (bytes_send gone k (release f) l))) h

module _ {t : List ℕ} (w : Whole t) (h : Bytes t) (f : ℕ) (f0 : 0 < f) (f33 : f < 33) where
  pub cancel_bytes : (v : ℕ) → Bytes (cancel_step t f v)
  unfolding cancel_step cancelled
  cancel_bytes v = closing_bytes (bytes_cleared h w f v f0 f33) f (lowest_empty t) (omega arith)

  pub ask_bytes : (v j : ℕ) → v < 256 → j < 256 → Bytes (ask_step t f v j)
  unfolding ask_step
  ask_bytes v j lv lj = bytes_send (bytes_set h (asked_place f v) (with_mark (asked_marks t f v) j) (mark_small (asked_marks t f v) j)) (lowest_empty t) (count_dropped f 0 v j (sent_count t f v j))
      (omega arith, omega arith, lv, lj, h.small (sent_place f v j))
