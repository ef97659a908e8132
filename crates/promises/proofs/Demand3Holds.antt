-- Demand 3 holds: the model's promises, read on the bytes of a session's tables.
use mathlib.Core.Path.{◌≡◌, refl, sym, ap, subst, ◌∙◌}
use mathlib.Core.Bool.{true, false}
use mathlib.Core.List.{List}
use Prim.Native.Nat.{ℕ, ◌+◌, ◌-◌, ◌*◌, ◌≤◌, ◌<◌}
use native.Mathlib.Omega.{arith}
use lib.Dec.{eqb}
use lib.ListN.{drop}
use lib.Seq.{drop-drop, get_or-drop}
use borrow.Author.Tests.{eqb-true, eqb-false}
use Rattle.tables.specs.Bytes.{byte}
use Rattle.tables.specs.Layout.{place, task_row}
use Rattle.tables.proofs.Walks.{every_each}
use Rattle.rules.specs.Fields.{tasks_made, task_status, task_finish, finish_status, task_made, finish_made}
use Rattle.rules.specs.Step.{after}
use Rattle.rules.specs.Quiet.{is_running, running_tasks}
use Rattle.rules.specs.Sessions.{is_busy, is_released, LiesIn, itself, nested}
use Rattle.model.specs.Base.Cases.{bool_cases}
use Rattle.model.specs.Nesting.{Under, here, up}
use Rattle.model.proofs.Promises.Release.{released_idle}
use Rattle.promises.specs.View.{view}
use Rattle.promises.specs.Demand3.{Session, comes_to, Release, Demand3}
use Rattle.promises.proofs.Tests.{one_of}
use Rattle.promises.proofs.Seen.{Seen}
use Rattle.promises.proofs.Rows.{read_tasks_made, read_task_finish, read_task_status, read_parent, read_finish_status}
use Rattle.promises.proofs.Quiet.{count_none}
use Rattle.promises.proofs.Held.{Held, task-fits, finish_fits_lem, task_number, finish_number}
use Rattle.promises.proofs.Good.{Good}
use Rattle.promises.proofs.SoundTables.{good_held}
use Rattle.promises.proofs.QuietCells.{quiet-cell}
use Rattle.promises.proofs.ActsTaken.{rest_released}
use Rattle.promises.proofs.Never.{good_never}
use Rattle.promises.proofs.Session.{begun_good, all_follow, played_later, no_begin_first, no_begin_later}

module _ {t : List ℕ} (good : Good t) where
  h : Held t (view t)
  h = good_held t good

  s : Seen t (view t)
  s = h.seen

  -- a made finish is one of 32
  finish_there : (f : ℕ) → finish_made t f ≡ true → (0 < f) × (f < 33) × (f ≤ (view t).finishes.made)
  finish_there f e = let r = finish_number h f e in (r.0, (finish_fits_lem h f r.0 r.1).number, r.1)

  -- ---- release
  lies_under : {f g : ℕ} → LiesIn t f g → Under (view t).finishes.parent f g
  lies_under itself = here
  lies_under {f} (nested {g} m l) = let r = finish_there g m in up (subst (Under (view t).finishes.parent f) (read_parent s g r.0 r.1) (lies_under l))

  released_is : (f : ℕ) → is_released t f ≡ true → (view t).finishes.status f ≡ 4
  unfolding is_released
  released_is f e =
      let w = every_each _ e in
      let r = finish_there f w.0 in
      sym (read_finish_status s f r.0 r.1) ∙ eqb-true (finish_status t f) 4 w.1.0

  idle : (f k : ℕ) → (view t).finishes.status f ≡ 4 → LiesIn t f (task_finish t k) → is_busy t k ≡ false
  unfolding is_busy
  idle f k e l = bool_cases (is_busy t k) (λ b. absurd (
      let w = every_each _ b in
      let n = task_number h k w.0 in
      let k256 = (task-fits h k n.0 n.1).number in
      let is = read_task_status s k n.0 k256 in
      let under = subst (Under (view t).finishes.parent f) (read_task_finish s k n.0 k256) (lies_under l) in
      one_of (eqb (task_status t k) 5) (eqb (task_status t k) 6) w.1.0
      (λ q. let v = eqb-true (task_status t k) 5 q in released_idle (view t) good.inv f ((view t).tasks.finish k) k e under refl (omega arith) (omega arith))
      (λ q. let v = eqb-true (task_status t k) 6 q in released_idle (view t) good.inv f ((view t).tasks.finish k) k e under refl (omega arith) (omega arith)))) (λ b. b)

  -- ---- progress
  none-running : running_tasks t ≡ 0 → (k : ℕ) → task_made t k ≡ true → task_status t k ≡ 5 → ⊥
  unfolding running_tasks is_running
  none-running z k made e =
      let n = task_number h k made in
      let c = count_none is_running 8 (tasks_made t) 1 (drop (place (task_row 1) 0) t) z (k - 1) (omega (arith, n.0, n.1, read_tasks_made s)) in
      let g = get_or-drop (8 + 8 * (k - 1)) t 3 0 in
      let at : 8 + 8 * (k - 1) + 3 ≡ place (task_row k) 3 = omega (arith, n.0) in
      let is : byte (drop (8 * (k - 1)) (drop 8 t)) 3 ≡ task_status t k = ap (λ (m : List ℕ). byte m 3) (drop-drop (8 * (k - 1)) 8 t) ∙ g ∙ ap (byte t) at in
      eqb-false (byte (drop (8 * (k - 1)) (drop 8 t)) 3) 5 c (is ∙ e)

-- ---- the tables that a session comes to
pub session_good : {t b : List ℕ} {rs : List (List ℕ)} → Session t b rs → Good (comes_to t b rs)
unfolding comes_to
session_good {t} {b} {rs} s = (all_follow (begun_good t b s.begun) rs s.alone).good

release_holds : Release
unfolding comes_to
release_holds t b rs later s f k e =
    let u = after t b in
    let first = all_follow (begun_good t b s.begun) rs (no_begin_first u rs later s.alone) in
    let last = all_follow first.good later (no_begin_later u rs later s.alone) in
    rw (played_later u rs later) (idle last.good f k (last.released f (released_is first.good f e)))

pub demand3 : Demand3
demand3 = record {
  release = release_holds;
  quiet_books = λ t b rs s calm f i j opened receives i8. quiet-cell (session_good s) f i j opened receives calm i8;
  progress = λ t b rs s calm z. let good = session_good s in rest_released good calm (none-running good z);
  never_unsound = λ t b rs s r. good_never (comes_to t b rs) r (session_good s);
}
