-- The steps, end: of a main task, and of another task.
use Rattle.std.specs.Prelude.{Bool, true, cond, not, List, [], ◌∷◌, ℕ, ◌-◌, eqb, leb, set}
use Rattle.tables.specs.Bytes.{byte, part, write}
use Rattle.tables.specs.Walks.{every, every_below}
use Rattle.rules.specs.Fields.{task_at, task_finish, home, opener, finish_status, is_published, with_task_status, with_finish_status, ended, active, waits_for_release, released, received_place, reported_place, local_live_place, local_live, is_main, may_run, runs}
use Rattle.rules.specs.Messages.{no_counts, report, send, lowest_empty}

-- End, main task: unpublished, the finish is released and its opener, if any, runs.
unfoldable pub end_unpublished : List ℕ → ℕ → ℕ → List ℕ
end_unpublished t k f = runs (with_finish_status (with_task_status t k ended) f released) (opener t f)

-- Published, it waits for release and sends a report (7) from its home, count 1 for its home.
unfoldable pub end_published : List ℕ → ℕ → ℕ → ℕ → ℕ → List ℕ
end_published t k f h s = send (with_finish_status (with_task_status t k ended) f waits_for_release) s (report f h (set no_counts h 1))

unfoldable pub end_main : List ℕ → ℕ → ℕ → List ℕ
end_main t k f = cond (eqb (is_published t f) 0) (end_unpublished t k f) (end_published t k f (home t f) (lowest_empty t))

-- received less reported, for each sender
unfoldable pub less_each : List ℕ → List ℕ → List ℕ
less_each [] ys = []
less_each (x ∷ xs) [] = x ∷ less_each xs []
less_each (x ∷ xs) (y ∷ ys) = (x - y) ∷ less_each xs ys

unfoldable pub received_row : List ℕ → ℕ → ℕ → List ℕ
received_row t f p = part t (received_place f p 0) 8

unfoldable pub reported_row : List ℕ → ℕ → ℕ → List ℕ
reported_row t f p = part t (reported_place f p 0) 8

-- At 0 a report carries received less reported for each sender, and reported becomes received.
unfoldable pub end_last : List ℕ → ℕ → ℕ → ℕ → ℕ → List ℕ
end_last t k f p s =
    send (write (set (with_task_status t k ended) (local_live_place f p) 0) (reported_place f p 0) (received_row t f p)) s
    (report f p (less_each (received_row t f p) (reported_row t f p)))

-- End, other task: local live count down by one.
unfoldable pub end_earlier : List ℕ → ℕ → ℕ → ℕ → List ℕ
end_earlier t k f p = set (with_task_status t k ended) (local_live_place f p) (local_live t f p - 1)

unfoldable pub end_other : List ℕ → ℕ → ℕ → ℕ → List ℕ
end_other t k f p = cond (eqb (local_live t f p) 1) (end_last t k f p (lowest_empty t)) (end_earlier t k f p)

unfoldable pub end_step : List ℕ → ℕ → List ℕ
end_step t k = cond (is_main t k) (end_main t k (task_finish t k)) (end_other t k (task_finish t k) (task_at t k))

-- One more message is needed: by a main task where its finish is published, by another where its local live count is 1.
unfoldable pub end_sends : List ℕ → ℕ → Bool
end_sends t k =
    cond (is_main t k) (not (eqb (is_published t (task_finish t k)) 0)) (eqb (local_live t (task_finish t k) (task_at t k)) 1)

-- Wanted: for a main task's end, its finish active; an opener about to run, blocked.
unfoldable pub end_main_wanted : List ℕ → ℕ → Bool
end_main_wanted t f = every (eqb (finish_status t f) active ∷ cond (eqb (is_published t f) 0) (may_run t (opener t f)) true ∷ [])

-- each count of xs is at most that of ys
unfoldable pub each_at_most : List ℕ → List ℕ → Bool
each_at_most xs ys = every_below (λ i. leb (byte xs i) (byte ys i)) 8

-- No count leaves 0 to 255: the local live count, and received less reported where it is reported.
unfoldable pub end_other_wanted : List ℕ → ℕ → ℕ → Bool
end_other_wanted t f p =
    every (leb 1 (local_live t f p) ∷ cond (eqb (local_live t f p) 1) (each_at_most (reported_row t f p) (received_row t f p)) true ∷ [])

unfoldable pub end_wanted : List ℕ → ℕ → Bool
end_wanted t k = cond (is_main t k) (end_main_wanted t (task_finish t k)) (end_other_wanted t (task_finish t k) (task_at t k))
