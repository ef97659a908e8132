-- A taken end is a move of the model.
use mathlib.Core.Path.{◌≡◌, refl, sym, ◌∙◌}
use mathlib.Core.Bool.{true, false}
use mathlib.Core.List.{List}
use Prim.Native.Nat.{ℕ, ◌≤◌, ◌<◌}
use native.Mathlib.Omega.{arith}
use lib.Dec.{eqb, ltb, leb}
use lib.ListN.{get_or-eq_default}
use borrow.Author.Tests.{eqb-true, eqb-false, leb-true, ltb-true, ltb-false}
use Rattle.tables.specs.Bytes.{byte}
use Rattle.tables.proofs.Walks.{every_each}
use Rattle.rules.specs.Fields.{task_at, task_finish, task_sent, task_made, is_published, finish_status, local_live, is_main}
use Rattle.rules.specs.Action.{end}
use Rattle.rules.specs.Messages.{lowest_empty, slots_full}
use Rattle.rules.specs.End
use Rattle.rules.specs.End.{end_main, end_step, received_row, reported_row, end_sends, end_main_wanted, each_at_most, end_other_wanted, end_wanted}
use Rattle.rules.specs.Refusals.{not_there, not_ready, no_room, unwanted}
use Rattle.rules.proofs.Taken.{StepTaken, not-not}
use Rattle.model.specs.Base.Cases.{bool_cases}
use Rattle.model.specs.State.{State}
use Rattle.model.specs.Effects.End.{end_unpublished, end_published, end_other, end_last}
use Rattle.model.specs.Step
use Rattle.model.specs.Step.{ends_unpublished, ends_published, ends_other, ends_last}
use Rattle.promises.proofs.Tests.{not_both, below_all}
use Rattle.promises.proofs.Rows.{read_task_at, read_task_finish, read_task_sent, read_published, read_finish_status, read_home, read_opener}
use Rattle.promises.proofs.Slots.{lowest_range, lowest_free}
use Rattle.promises.proofs.LocalCells.{read_local_live, read_received_row, read_reported_row, reported_row_length}
use Rattle.promises.proofs.Held.{Held, task-fits, finish_fits_lem}
use Rattle.promises.proofs.Moved.{Moved, task-runs, may_run_lem}
use Rattle.promises.proofs.TieEnd.{tie_end_unpublished, tie_end_published, tie_end_earlier, tie_end_last}

module _ {t : List ℕ} {a : State} (h : Held t a) (k : ℕ) (taken : StepTaken t (end k)) where
  pub end_moves : Moved (Step.End a k) (end_step t k)
  unfolding not_there not_ready no_room unwanted end_step end_main End.end_other end_sends end_wanted end_main_wanted end_other_wanted each_at_most is_main
  end_moves =
      let s = h.seen in
      let runs = task-runs h k (not-not (task_made t k) taken.there) taken.ready in
      let k0 = runs.low in
      let fits = task-fits h k k0 runs.high in
      let k256 = fits.number in
      let f = a.tasks.finish k in
      let f0 = fits.finish_low in
      let own = finish_fits_lem h f f0 fits.finish_high in
      let f33 = own.number in
      let p = a.tasks.at k in
      let p8 = fits.at in
      let is_finish : task_finish t k ≡ a.tasks.finish k = read_task_finish s k k0 k256 in
      let is_at : task_at t k ≡ a.tasks.at k = read_task_at s k k0 k256 in
      let is_sent : task_sent t k ≡ a.tasks.sent k = read_task_sent s k k0 k256 in
      let is_shown : is_published t f ≡ a.finishes.published f = read_published s f f0 f33 in
      let is_live : local_live t f p ≡ a.locals.live f p = read_local_live s f p f0 f33 p8 in
      let i = lowest_empty t in
      let wanted = rw (is_finish, is_at) at (not-not (end_wanted t k) taken.wanted) in
      let room = rw (is_finish, is_at) at taken.room in
      rw (is_finish, is_at) (bool_cases (is_main t k)
      (λ m. let main : a.tasks.sent k ≡ 0 = sym is_sent ∙ eqb-true (task_sent t k) 0 m in
      let w = every_each _ (rw m at wanted) in
      let active : a.finishes.status f ≡ 1 = sym (read_finish_status s f f0 f33) ∙ eqb-true (finish_status t f) 1 w.0 in
      bool_cases (eqb (is_published t f) 0)
      (λ e. let may = may_run_lem s (a.finishes.opener f) own.opener (rw (read_opener s f f0 f33) at (rw e at w.1.0)) in
      rw (m, e) (end_unpublished a k, tie_end_unpublished s k f k0 k256 refl f0 f33 own.opener, ends_unpublished runs main (sym is_shown ∙ eqb-true (is_published t f) 0 e) active may))
      (λ e. let full : slots_full t ≡ false = not_both _ _ room (rw (m, e) refl) in
      rw (m, e, read_home s f f0 f33) (
        end_published a k i,
        tie_end_published s k f k0 k256 refl f0 f33 i (lowest_range s full) own.home,
        ends_published i runs main (λ z. eqb-false (is_published t f) 0 e (is_shown ∙ z)) active (lowest_free s full),
      )))
      (λ m. let other : a.tasks.sent k ≡ 0 → ⊥ = λ z. eqb-false (task_sent t k) 0 m (is_sent ∙ z) in
      let w = every_each _ (rw m at wanted) in
      let some : 1 ≤ local_live t f p = leb-true 1 (local_live t f p) w.0 in
      bool_cases (eqb (local_live t f p) 1)
      (λ e. let full : slots_full t ≡ false = not_both _ _ room (rw (m, e) refl) in
      let one : a.locals.live f p ≡ 1 = sym is_live ∙ eqb-true (local_live t f p) 1 e in
      rw (m, e) (
        end_last a k i,
        tie_end_last s k f k0 k256 refl f0 f33 p refl p8 i (lowest_range s full) one,
        ends_last i runs other one (lowest_free s full) (at_most f p f0 f33 p8 (rw e at w.1.0)),
      ))
      (λ e. let n = eqb-false (local_live t f p) 1 e in
      rw (m, e) (end_other a k, tie_end_earlier s k f k0 k256 refl f0 f33 p refl p8, ends_other runs other (omega arith)))))
    where
      at_most : (f p : ℕ) → 0 < f → f < 33 → p < 8 → each_at_most (reported_row t f p) (received_row t f p) ≡ true → (i : ℕ) → a.locals.reported f p i ≤ a.locals.received f p i
      at_most f p f0 f33 p8 e i =
          let s = h.seen in
          let P = reported_row t f p in
          let R = received_row t f p in
          let q = read_reported_row s f p f0 f33 p8 i in
          bool_cases (ltb i 8)
          (λ l. omega (arith, leb-true (byte P i) (byte R i) (below_all (λ i. leb (byte P i) (byte R i)) 8 e i (ltb-true i 8 l)), read_received_row s f p f0 f33 p8 i))
          (λ l. let z : byte P i ≡ 0 = get_or-eq_default P 0 (omega (arith, ltb-false i 8 l, reported_row_length s f p f0 f33 p8)) in omega arith)
