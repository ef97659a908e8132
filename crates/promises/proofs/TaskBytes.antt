-- Spawn, open and end leave tables of bytes.
use mathlib.Core.List.{List}
use Prim.Native.Nat.{ℕ, ◌+◌, ◌-◌, ◌<◌}
use native.Mathlib.Omega.{arith}
use lib.Dec.{eqb}
use lib.ListN.{set}
use Rattle.tables.specs.Layout.{place, task_row, finish_row}
use Rattle.rules.specs.Fields.{tasks_made, finishes_made, home, local_live, received_place, local_live_place, reported_place}
use Rattle.rules.specs.Messages.{publish, transit, report, no_counts, lowest_empty}
use Rattle.rules.specs.Fields.{task_at, task_finish, is_published, opener, is_main}
use Rattle.rules.specs.Spawn.{with_sent, first_spawn, later_spawn, is_first, spawn_step}
use Rattle.rules.specs.Open.{opened, open_step}
use Rattle.rules.specs.End.{end_unpublished, end_published, end_main, less_each, received_row, reported_row, end_last, end_earlier, end_other, end_step}
use Rattle.rules.proofs.Less.{less_at}
use Rattle.promises.proofs.Bytes.{Bytes, bytes_set, bytes_write, bytes_part, bytes_none, bytes_more, bytes_zeros}
use Rattle.promises.proofs.MessageBytes.{bytes_send, bytes_cond, bytes_runs}

module _ {t : List ℕ} (h : Bytes t) (k : ℕ) (k256 : k < 256) where
  spawned : (n p v : ℕ) → n < 256 → p < 256 → v < 256 → Bytes (with_sent t k n (task_at t k) p (task_finish t k) v)
  unfolding with_sent
  spawned n p v ln lp lv = bytes_write (bytes_set (bytes_set h (place (task_row k) 3) 6 (omega arith)) 2 n ln) (place (task_row n) 0)
      (bytes_more (h.small (place (task_row k) 1)) (bytes_more lp (bytes_more (h.small (place (task_row k) 2)) (bytes_more lv (bytes_more (omega arith) (bytes_more k256 (bytes_more (omega arith) (bytes_more (omega arith) bytes_none))))))))

  pub spawn_bytes : (p : ℕ) → tasks_made t + 1 < 256 → p < 256 → Bytes (spawn_step t k p)
  unfolding spawn_step first_spawn later_spawn
  spawn_bytes p ln lp =
      let f = h.small (place (task_row k) 2) in
      bytes_cond (is_first t k)
      (bytes_send (bytes_set (spawned (tasks_made t + 1) p 1 ln lp (omega arith)) (place (finish_row (task_finish t k)) 3) 2 (omega arith)) (lowest_empty t) (publish (task_finish t k) (tasks_made t + 1)) (f, ln))
      (bytes_send (spawned (tasks_made t + 1) p 2 ln lp (omega arith)) (lowest_empty t) (transit (task_finish t k) (tasks_made t + 1) (task_at t k) p) (f, ln, h.small (place (task_row k) 1), lp))

  pub open_bytes : tasks_made t + 1 < 256 → finishes_made t + 1 < 256 → Bytes (open_step t k)
  unfolding open_step opened
  open_bytes ln lg =
      let v = h.small (place (task_row k) 1) in
      let n = tasks_made t + 1 in
      let g = finishes_made t + 1 in
      bytes_write (bytes_write (bytes_set (bytes_set (bytes_set h (place (task_row k) 3) 6 (omega arith)) 2 n ln) 3 g lg) (place (task_row n) 0)
      (bytes_more v (bytes_more v (bytes_more lg (bytes_more (omega arith) (bytes_more (omega arith) (bytes_more k256 (bytes_more (omega arith) (bytes_more (omega arith) bytes_none)))))))))
      (place (finish_row g) 0)
      (bytes_more v (bytes_more k256 (bytes_more (h.small (place (task_row k) 2)) (bytes_more (omega arith) (bytes_more (omega arith) (bytes_more ln (bytes_more (omega arith) (bytes_more (omega arith) bytes_none))))))))

  pub end_bytes : Bytes (end_step t k)
  unfolding end_step end_main end_other end_unpublished end_published end_last end_earlier no_counts received_row
  end_bytes =
      let f = task_finish t k in
      let p = task_at t k in
      let f_small = h.small (place (task_row k) 2) in
      let p_small = h.small (place (task_row k) 1) in
      let ended = bytes_set h (place (task_row k) 3) 7 (omega arith) in
      let R = bytes_part h (received_place f p 0) 8 in
      bytes_cond (is_main t k)
      (bytes_cond (eqb (is_published t f) 0) (bytes_runs (bytes_set ended (place (finish_row f) 3) 4 (omega arith)) (opener t f))
      (bytes_send (bytes_set ended (place (finish_row f) 3) 3 (omega arith)) (lowest_empty t) (report f (home t f) (set no_counts (home t f) 1))
      (f_small, h.small (place (finish_row f) 0), bytes_set (bytes_zeros 8) (home t f) 1 (omega arith))))
      (bytes_cond (eqb (local_live t f p) 1)
      (bytes_send (bytes_write (bytes_set ended (local_live_place f p) 0 (omega arith)) (reported_place f p 0) R) (lowest_empty t) (report f p (less_each (received_row t f p) (reported_row t f p)))
      (f_small, p_small, record { small = λ i. rw (less_at (received_row t f p) (reported_row t f p) i) (omega (arith, R.small i)) }))
      (bytes_set ended (local_live_place f p) (local_live t f p - 1) (omega (arith, h.small (local_live_place f p)))))
