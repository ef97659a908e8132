-- Row 0, tasks and finishes: what each field reads, and what each write does, in the state that the tables are seen as.
use mathlib.Core.Path.{◌≡◌, refl, sym, ap, ◌∙◌}
use mathlib.Core.Bool.{Bool, true, false, cond, ◌||◌}
use mathlib.Core.List.{List, [], ◌∷◌}
use Prim.Native.Nat.{ℕ, zero, suc, ◌<◌}
use native.Mathlib.Omega.{arith}
use lib.Dec.{eqb}
use lib.ListN.{set}
use borrow.Author.Tests.{ne_eqb}
use Rattle.tables.specs.Bytes.{write}
use Rattle.tables.specs.Bits.{marked, with_mark}
use Rattle.tables.specs.Layout.{Whole, place, task_row, finish_row}
use Rattle.tables.proofs.Bits.{with_mark_lem}
use Rattle.rules.specs.Fields.{places, dead_mask, dead, tasks_made, finishes_made, task_from, task_at, task_finish, task_status, task_sent, task_maker, home, opener, parent, finish_status, is_published, main_task, runs}
use Rattle.rules.specs.Fields.{with_task_status as write_task_status, with_finish_status as write_finish_status, with_published as write_published}
use Rattle.model.specs.Base.Updates.{upd}
use Rattle.model.specs.State.{State, with_dead, with_tasks, with_finishes, with_task_status, with_finish_status, with_published}
use Rattle.model.specs.Effects.End.{wake, wake_some}
use Rattle.promises.specs.View.{cell, view, view_of, rows, head_table, task_table, finish_table}
use Rattle.promises.proofs.Cells.{upd_cell, set_outside, write_outside, cell_in, cell_set, cell-write}
use Rattle.promises.proofs.Areas.{head_sits, task_sits, finish_sits, with_head_rows, with_task_rows, with_finish_rows, head_becomes, tasks_become, finishes_become}
use Rattle.promises.proofs.Seen.{Seen, same, by_set, by_write, read_cell}

-- ---- reads
module _ {t : List ℕ} {a : State} (s : Seen t a) where
  pub read_places : places t ≡ a.places
  unfolding view
  read_places = read_cell s head_table 0 0 (λ x. x.places) (omega arith) (omega arith) refl

  pub read_tasks_made : tasks_made t ≡ a.tasks.made
  unfolding view
  read_tasks_made = read_cell s head_table 0 2 (λ x. x.tasks.made) (omega arith) (omega arith) refl

  pub read_finishes_made : finishes_made t ≡ a.finishes.made
  unfolding view
  read_finishes_made = read_cell s head_table 0 3 (λ x. x.finishes.made) (omega arith) (omega arith) refl

  pub read_task_from : (k : ℕ) → 0 < k → k < 256 → task_from t k ≡ a.tasks.from k
  unfolding view
  read_task_from k p q = read_cell s task_table k 0 (λ x. x.tasks.from k) (omega arith) (p, q) refl

  pub read_task_at : (k : ℕ) → 0 < k → k < 256 → task_at t k ≡ a.tasks.at k
  unfolding view
  read_task_at k p q = read_cell s task_table k 1 (λ x. x.tasks.at k) (omega arith) (p, q) refl

  pub read_task_finish : (k : ℕ) → 0 < k → k < 256 → task_finish t k ≡ a.tasks.finish k
  unfolding view
  read_task_finish k p q = read_cell s task_table k 2 (λ x. x.tasks.finish k) (omega arith) (p, q) refl

  pub read_task_status : (k : ℕ) → 0 < k → k < 256 → task_status t k ≡ a.tasks.status k
  unfolding view
  read_task_status k p q = read_cell s task_table k 3 (λ x. x.tasks.status k) (omega arith) (p, q) refl

  pub read_task_sent : (k : ℕ) → 0 < k → k < 256 → task_sent t k ≡ a.tasks.sent k
  unfolding view
  read_task_sent k p q = read_cell s task_table k 4 (λ x. x.tasks.sent k) (omega arith) (p, q) refl

  pub read_task_maker : (k : ℕ) → 0 < k → k < 256 → task_maker t k ≡ a.tasks.maker k
  unfolding view
  read_task_maker k p q = read_cell s task_table k 5 (λ x. x.tasks.maker k) (omega arith) (p, q) refl

  pub read_home : (f : ℕ) → 0 < f → f < 33 → home t f ≡ a.finishes.home f
  unfolding view
  read_home f p q = read_cell s finish_table f 0 (λ x. x.finishes.home f) (omega arith) (p, q) refl

  pub read_opener : (f : ℕ) → 0 < f → f < 33 → opener t f ≡ a.finishes.opener f
  unfolding view
  read_opener f p q = read_cell s finish_table f 1 (λ x. x.finishes.opener f) (omega arith) (p, q) refl

  pub read_parent : (f : ℕ) → 0 < f → f < 33 → parent t f ≡ a.finishes.parent f
  unfolding view
  read_parent f p q = read_cell s finish_table f 2 (λ x. x.finishes.parent f) (omega arith) (p, q) refl

  pub read_finish_status : (f : ℕ) → 0 < f → f < 33 → finish_status t f ≡ a.finishes.status f
  unfolding view
  read_finish_status f p q = read_cell s finish_table f 3 (λ x. x.finishes.status f) (omega arith) (p, q) refl

  pub read_published : (f : ℕ) → 0 < f → f < 33 → is_published t f ≡ a.finishes.published f
  unfolding view
  read_published f p q = read_cell s finish_table f 4 (λ x. x.finishes.published f) (omega arith) (p, q) refl

  pub read_main : (f : ℕ) → 0 < f → f < 33 → main_task t f ≡ a.finishes.main f
  unfolding view
  read_main f p q = read_cell s finish_table f 5 (λ x. x.finishes.main f) (omega arith) (p, q) refl

  pub read_dead : (p : ℕ) → dead t p ≡ a.dead p
  unfolding view
  read_dead p = ap (λ (m : ℕ). marked m p) (sym (cell_in head_table t 0 1 (omega arith) (omega arith) (omega arith))) ∙ ap (λ (x : State). x.dead p) s.is

-- ---- setters of what the model has none for
abbrev pub with_tasks_made : ℕ → State → State
with_tasks_made n s = let t = s.tasks in with_tasks (record { made = n; from = t.from; at = t.at; finish = t.finish; status = t.status; sent = t.sent; maker = t.maker }) s

abbrev pub with_task_row : ℕ → ℕ → ℕ → ℕ → ℕ → ℕ → ℕ → State → State
with_task_row k v p f status sent maker s =
    let t = s.tasks in
    with_tasks (record {
      made = t.made;
      from = upd t.from k v;
      at = upd t.at k p;
      finish = upd t.finish k f;
      status = upd t.status k status;
      sent = upd t.sent k sent;
      maker = upd t.maker k maker;
    }) s

abbrev pub with_finishes_made : ℕ → State → State
with_finishes_made n s = let t = s.finishes in with_finishes (record { made = n; home = t.home; opener = t.opener; parent = t.parent; status = t.status; published = t.published; main = t.main }) s

abbrev pub with_finish_row : ℕ → ℕ → ℕ → ℕ → ℕ → ℕ → ℕ → State → State
with_finish_row f h k q status shown n s =
    let t = s.finishes in
    with_finishes (record {
      made = t.made;
      home = upd t.home f h;
      opener = upd t.opener f k;
      parent = upd t.parent f q;
      status = upd t.status f status;
      published = upd t.published f shown;
      main = upd t.main f n;
    }) s

-- ---- writes, by rows
module _ (t : List ℕ) (whole : Whole t) where
  set_head : (j v : ℕ) → j < 8 → rows (set t j v) ≡ with_head_rows (upd_cell (cell t head_table) 0 j v) (rows t)
  set_head j v h = head_becomes (set_outside t j v 0 8 (omega arith) (omega arith)) (cell_set head_table head_sits t 0 j v j (omega arith) h (omega arith) (omega arith) (omega arith))

  module _ (k : ℕ) (k0 : 0 < k) (k256 : k < 256) where
    set-task : (j v : ℕ) → j < 8 → rows (set t (place (task_row k) j) v) ≡ with_task_rows (upd_cell (cell t task_table) k j v) (rows t)
    set-task j v h = tasks_become (set_outside t (place (task_row k) j) v 8 2048 (omega arith) (omega arith)) (cell_set task_table task_sits t k j v (place (task_row k) j) refl h k0 k256 (omega arith))

  module _ (f : ℕ) (f0 : 0 < f) (f33 : f < 33) where
    set_finish : (j v : ℕ) → j < 8 → rows (set t (place (finish_row f) j) v) ≡ with_finish_rows (upd_cell (cell t finish_table) f j v) (rows t)
    set_finish j v h = finishes_become (set_outside t (place (finish_row f) j) v 2048 2304 (omega arith) (omega arith)) (cell_set finish_table finish_sits t f j v (place (finish_row f) j) refl h f0 f33 (omega arith))

-- ---- writes
module _ {t : List ℕ} {a : State} (s : Seen t a) where
  pub seen_tasks_made : (n : ℕ) → Seen (set t 2 n) (with_tasks_made n a)
  unfolding view upd
  seen_tasks_made n = by_set (with_tasks_made n) s 2 n (ap view_of (set_head t s.whole 2 n (omega arith)))

  pub seen_finishes_made : (n : ℕ) → Seen (set t 3 n) (with_finishes_made n a)
  unfolding view upd
  seen_finishes_made n = by_set (with_finishes_made n) s 3 n (ap view_of (set_head t s.whole 3 n (omega arith)))

  -- a place is dead from now on
  pub seen_dead : (p : ℕ) → p < 8 → Seen (set t 1 (with_mark (dead_mask t) p)) (with_dead (upd a.dead p true) a)
  unfolding view upd
  seen_dead p h = by_set (λ x. with_dead (upd x.dead p true) x) s 1 (with_mark (dead_mask t) p)
      (ap view_of (set_head t s.whole 1 (with_mark (dead_mask t) p) (omega arith)) ∙ (λ z. with_dead (λ j. marks j z) (view_of (rows t))))
    where
      or_cond : (b c : Bool) → (b || c) ≡ cond b true c
      or_cond true c = refl
      or_cond false c = refl

      marks : (j : ℕ) → marked (with_mark (dead_mask t) p) j ≡ cond (eqb j p) true (marked (cell t head_table 0 1) j)
      marks j = with_mark_lem (dead_mask t) p j h ∙ rw (cell_in head_table t 0 1 (omega arith) (omega arith) (omega arith)) (or_cond (eqb j p) (marked (dead_mask t) j))

  pub seen_task_status : (k v : ℕ) → 0 < k → k < 256 → Seen (write_task_status t k v) (with_task_status (upd a.tasks.status k v) a)
  unfolding view
  seen_task_status k v p q = by_set (λ x. with_task_status (upd x.tasks.status k v) x) s (place (task_row k) 3) v (ap view_of (set-task t s.whole k p q 3 v (omega arith)))

  pub seen_task_row : (k v p f status sent maker : ℕ) → 0 < k → k < 256
      → Seen (write t (place (task_row k) 0) (v ∷ p ∷ f ∷ status ∷ sent ∷ maker ∷ 0 ∷ 0 ∷ [])) (with_task_row k v p f status sent maker a)
  unfolding view
  seen_task_row k v p f status sent maker k0 k256 =
      let w = s.whole in
      let vs = v ∷ p ∷ f ∷ status ∷ sent ∷ maker ∷ 0 ∷ 0 ∷ [] in
      by_write (with_task_row k v p f status sent maker) s (place (task_row k) 0) vs
      (ap view_of (tasks_become (write_outside t (place (task_row k) 0) vs 8 8 2048 refl (omega arith) (omega arith))
      (cell-write task_table task_sits t k 0 8 (place (task_row k) 0) vs refl refl (omega arith) k0 k256 (omega arith))))

  pub seen_finish_status : (f v : ℕ) → 0 < f → f < 33 → Seen (write_finish_status t f v) (with_finish_status (upd a.finishes.status f v) a)
  unfolding view
  seen_finish_status f v p q = by_set (λ x. with_finish_status (upd x.finishes.status f v) x) s (place (finish_row f) 3) v (ap view_of (set_finish t s.whole f p q 3 v (omega arith)))

  pub seen_published : (f : ℕ) → 0 < f → f < 33 → Seen (write_published t f) (with_published (upd a.finishes.published f 1) a)
  unfolding view
  seen_published f p q = by_set (λ x. with_published (upd x.finishes.published f 1) x) s (place (finish_row f) 4) 1 (ap view_of (set_finish t s.whole f p q 4 1 (omega arith)))

  pub seen_finish_row : (f h k q status shown n : ℕ) → 0 < f → f < 33
      → Seen (write t (place (finish_row f) 0) (h ∷ k ∷ q ∷ status ∷ shown ∷ n ∷ 0 ∷ 0 ∷ [])) (with_finish_row f h k q status shown n a)
  unfolding view
  seen_finish_row f h k q status shown n f0 f33 =
      let w = s.whole in
      let vs = h ∷ k ∷ q ∷ status ∷ shown ∷ n ∷ 0 ∷ 0 ∷ [] in
      by_write (with_finish_row f h k q status shown n) s (place (finish_row f) 0) vs
      (ap view_of (finishes_become (write_outside t (place (finish_row f) 0) vs 8 2048 2304 refl (omega arith) (omega arith))
      (cell-write finish_table finish_sits t f 0 8 (place (finish_row f) 0) vs refl refl (omega arith) f0 f33 (omega arith))))

  -- an opener or spawner runs, if there is one
  pub seen_runs : (o : ℕ) → o < 256 → Seen (runs t o) (with_task_status (wake o a.tasks.status) a)
  unfolding runs wake
  seen_runs zero h = s
  seen_runs (suc o) h =
      rw (ne_eqb (suc o) 0 (λ q. omega arith))
      (same (seen_task_status (suc o) 5 (omega arith) h) (sym (λ z. with_task_status (λ x. wake_some (suc o) a.tasks.status x (omega arith) z) a)))
