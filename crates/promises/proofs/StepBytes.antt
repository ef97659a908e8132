-- A taken action leaves tables of bytes.
use mathlib.Core.Path.{◌≡◌, refl}
use mathlib.Core.Bool.{true, false}
use mathlib.Core.List.{List}
use Prim.Native.Nat.{ℕ, ◌<◌}
use native.Mathlib.Omega.{arith}
use borrow.Author.Tests.{leb-false, ltb-true}
use Rattle.tables.specs.Layout.{place, task_row, finish_row}
use Rattle.tables.proofs.Walks.{every_each}
use Rattle.rules.specs.Fields.{places, tasks_made, finishes_made, task_made, in_session}
use Rattle.rules.specs.Action.{Action, unknown, spawn, open_finish, end, deliver, kill, adopt, cancel, ask, begin}
use Rattle.rules.specs.Messages.{report, message_at}
use Rattle.rules.specs.Begin.{zero_tables, begin_step}
use Rattle.rules.specs.Deliver.{discarded, deliver_message, deliver_step}
use Rattle.rules.specs.Refusals.{not_there, no_room}
use Rattle.rules.specs.Step.{step}
use Rattle.rules.specs.Sessions.{is_begin}
use Rattle.rules.proofs.Taken.{StepTaken, not-not, neither}
use Rattle.sound.proofs.Use.{finishes_most}
use Rattle.model.specs.Base.Cases.{bool_cases, both}
use Rattle.model.specs.State.{State}
use Rattle.promises.proofs.Bytes.{Bytes, bytes_write, bytes_none, bytes_more, bytes_zeros, bytes_emptied}
use Rattle.promises.proofs.MessageBytes.{small_message}
use Rattle.promises.proofs.TaskBytes.{spawn_bytes, open_bytes, end_bytes}
use Rattle.promises.proofs.RepairBytes.{kill_bytes, adopt_bytes, cancel_bytes, ask_bytes}
use Rattle.promises.proofs.DeliverBytes.{delivered_bytes}
use Rattle.promises.proofs.Held.{Held, task-fits, finish_fits_lem, task_number, finish_number}
use Rattle.promises.proofs.StepDeliver.{goes, ranges, finish_in}

pub begin_bytes : (n : ℕ) → n < 256 → Bytes (begin_step n)
unfolding begin_step zero_tables
begin_bytes n l =
    let z : 0 < 256 = omega arith in
    bytes_write (bytes_write (bytes_write (bytes_zeros 15104) (place 0 0)
    (bytes_more l (bytes_more z (bytes_more (omega arith) (bytes_more (omega arith) (bytes_more z (bytes_more z (bytes_more z (bytes_more z bytes_none)))))))))
    (place (task_row 1) 0) (bytes_more z (bytes_more z (bytes_more (omega arith) (bytes_more (omega arith) (bytes_more z (bytes_more z (bytes_more z (bytes_more z bytes_none)))))))))
    (place (finish_row 1) 0) (bytes_more z (bytes_more z (bytes_more z (bytes_more (omega arith) (bytes_more z (bytes_more (omega arith) (bytes_more z (bytes_more z bytes_none))))))))

module _ {t : List ℕ} {a : State} (h : Held t a) where
  place_small : (p : ℕ) → in_session t p ≡ true → p < 256
  unfolding in_session
  place_small p e = omega (arith, ltb-true p (places t) e, h.bytes.small 0)

  deliver_bytes : (k : ℕ) → StepTaken t (deliver k) → Bytes (deliver_step t k)
  unfolding deliver_step deliver_message
  deliver_bytes k own = bool_cases (discarded t (message_at t k))
      (λ d. rw d (bytes_emptied h.bytes k))
      (λ d. rw d (delivered_bytes h.seen.whole h.bytes k (message_at t k) (small_message h.bytes k)
      (λ f v c e. let r = finish_in h k own f (ranges h k own (report f v c) e).0 in (r.0, (finish_fits_lem h f r.0 r.1).number)) (goes h k own (message_at t k) refl d).fit))

  pub action_bytes : (x : Action) → is_begin x ≡ false → StepTaken t x → Bytes (step t x)
  unfolding is_begin not_there no_room step
  action_bytes unknown q own = h.bytes
  action_bytes (spawn k p) q own =
      let there = every_each _ (not-not _ own.there) in
      let n = task_number h k there.0 in
      spawn_bytes h.bytes k (task-fits h k n.0 n.1).number p (omega (arith, leb-false 255 (tasks_made t) (neither _ _ own.room).0)) (place_small p there.1.0)
  action_bytes (open_finish k) q own =
      let n = task_number h k (not-not (task_made t k) own.there) in
      let room = neither _ _ own.room in
      open_bytes h.bytes k (task-fits h k n.0 n.1).number (omega (arith, leb-false 255 (tasks_made t) room.0)) (omega (arith, leb-false 32 (finishes_made t) room.1))
  action_bytes (end k) q own = let n = task_number h k (not-not (task_made t k) own.there) in end_bytes h.bytes k (task-fits h k n.0 n.1).number
  action_bytes (deliver k) q own = deliver_bytes k own
  action_bytes (kill p) q own = kill_bytes p t h.seen.whole h.bytes (finishes_most t h.sound)
  action_bytes (adopt f) q own = adopt_bytes h.seen.whole h.bytes f
  action_bytes (cancel f v) q own =
      let there = every_each _ (not-not _ own.there) in
      let n = finish_number h f there.0 in
      cancel_bytes h.seen.whole h.bytes f n.0 (finish_fits_lem h f n.0 n.1).number v
  action_bytes (ask f v j) q own =
      let there = every_each _ (not-not _ own.there) in
      let n = finish_number h f there.0 in
      ask_bytes h.seen.whole h.bytes f n.0 (finish_fits_lem h f n.0 n.1).number v j (place_small v there.1.0) (place_small j there.1.1.0)
  action_bytes (begin n) q own = both refl q
