-- On good tables 9 is never given: every wanted status is found, and no count leaves 0 to 255.
use mathlib.Core.Path.{◌≡◌, refl, ap, ◌∙◌}
use mathlib.Core.Bool.{Bool, true, false, cond, not}
use mathlib.Core.List.{List, [], ◌∷◌}
use Prim.Native.Nat.{ℕ, ◌<◌}
use native.Mathlib.Omega.{arith}
use lib.Dec.{eqb, leb}
use borrow.Author.Tests.{eq-eqb, ne_eqb, le-leb}
use Rattle.tables.specs.Bytes.{byte}
use Rattle.tables.specs.Walks.{every}
use Rattle.tables.proofs.Walks.{every_each, each_every}
use Rattle.rules.specs.Fields.{task_status, finish_status, is_published, opener, local_live, task_made, in_session, is_main, may_run}
use Rattle.rules.specs.Action.{Action, unknown, spawn, open_finish, end, deliver, kill, adopt, cancel, ask, begin}
use Rattle.rules.specs.Spawn.{spawn_wanted}
use Rattle.rules.specs.End.{received_row, reported_row, each_at_most, end_main_wanted, end_other_wanted, end_wanted}
use Rattle.rules.specs.Refusals.{not_there, not_ready, unwanted}
use Rattle.rules.proofs.Taken.{not-not, slot_there}
use Rattle.model.specs.Base.Cases.{eq_cases}
use Rattle.model.specs.Guards.{Runs}
use Rattle.model.specs.Inv.{Inv}
use Rattle.model.proofs.Promises.Wanted
use Rattle.promises.specs.View.{view}
use Rattle.promises.proofs.Seen.{Seen}
use Rattle.promises.proofs.Rows.{read_task_at, read_task_finish, read_task_sent, read_opener, read_finish_status}
use Rattle.promises.proofs.LocalCells.{read_local_live, read_received_row, read_reported_row}
use Rattle.promises.proofs.Held.{Held, TaskFits, FinishFits, task-fits, finish_fits_lem}
use Rattle.promises.proofs.Moved.{task-runs}
use Rattle.promises.proofs.Good.{Good}
use Rattle.promises.proofs.SoundTables.{good_held}
use Rattle.promises.proofs.WantedDeliver.{every-below, blocked-runs, deliver_finds}

-- what is asked only in one case
if_so : (b c : Bool) → c ≡ true → cond b c true ≡ true
if_so true c e = e
if_so false c e = refl

module _ (t : List ℕ) (good : Good t) where
  h : Held t (view t)
  h = good_held t good

  s : Seen t (view t)
  s = h.seen

  inv : Inv (view t)
  inv = good.inv

  -- a running task k, its finish f and its place p
  module _ (k : ℕ) (made : task_made t k ≡ true) (ready : not (eqb (task_status t k) 5) ≡ false) where
    abbrev f : ℕ
    f = (view t).tasks.finish k

    abbrev p : ℕ
    p = (view t).tasks.at k

    runs : Runs (view t) k
    runs = task-runs h k made ready

    ranges : TaskFits (view t) k
    ranges = task-fits h k runs.low runs.high

    f0 : 0 < f
    f0 = ranges.finish_low

    own : FinishFits (view t) f
    own = finish_fits_lem h f f0 ranges.finish_high

    f33 : f < 33
    f33 = own.number

    p8 : p < 8
    p8 = ranges.at

    main_is : is_main t k ≡ eqb ((view t).tasks.sent k) 0
    unfolding is_main
    main_is = ap (λ (n : ℕ). eqb n 0) (read_task_sent s k runs.low ranges.number)

    main_active : (view t).tasks.sent k ≡ 0 → eqb (finish_status t f) 1 ≡ true
    main_active e = eq-eqb (finish_status t f) 1 (read_finish_status s f f0 f33 ∙ Wanted.main_wanted (view t) inv k runs e)

    spawn_finds : spawn_wanted t k ≡ true
    unfolding spawn_wanted
    spawn_finds = rw (main_is, read_task_finish s k runs.low ranges.number) (eq_cases ((view t).tasks.sent k) 0
        (λ e. rw (eq-eqb ((view t).tasks.sent k) 0 e) (main_active e))
        (λ n. rw (ne_eqb ((view t).tasks.sent k) 0 n) refl))

    end_main_finds : (view t).tasks.sent k ≡ 0 → end_main_wanted t f ≡ true
    unfolding end_main_wanted
    end_main_finds e =
        let o = blocked-runs s ((view t).finishes.opener f) own.opener (Wanted.end_wanted (view t) inv k runs e) in
        each_every (eqb (finish_status t f) 1 ∷ cond (eqb (is_published t f) 0) (may_run t (opener t f)) true ∷ [])
        (main_active e, (if_so (eqb (is_published t f) 0) (may_run t (opener t f)) (rw (read_opener s f f0 f33) o), tt))

    end_other_finds : ((view t).tasks.sent k ≡ 0 → ⊥) → end_other_wanted t f p ≡ true
    unfolding end_other_wanted each_at_most
    end_other_finds n =
        let l = Wanted.end_counts (view t) inv k runs n in
        let each = each_at_most (reported_row t f p) (received_row t f p) in
        each_every (leb 1 (local_live t f p) ∷ cond (eqb (local_live t f p) 1) each true ∷ []) (
          le-leb 1 (local_live t f p) (omega (arith, read_local_live s f p f0 f33 p8)),
          (
            if_so (eqb (local_live t f p) 1) each (every-below (λ i. leb (byte (reported_row t f p) i) (byte (received_row t f p) i)) 8 (λ i h.
                le-leb (byte (reported_row t f p) i) (byte (received_row t f p) i)
                (omega (arith, read_reported_row s f p f0 f33 p8 i, read_received_row s f p f0 f33 p8 i, inv.reported_most f p i)))),
            tt,
          ),
        )

    end_finds : end_wanted t k ≡ true
    unfolding end_wanted
    end_finds =
        let k0 = runs.low in
        let k256 = ranges.number in
        rw (main_is, read_task_finish s k k0 k256, read_task_at s k k0 k256) (eq_cases ((view t).tasks.sent k) 0
        (λ e. rw (eq-eqb ((view t).tasks.sent k) 0 e) (end_main_finds e))
        (λ n. rw (ne_eqb ((view t).tasks.sent k) 0 n) (end_other_finds n)))

  -- where 2 and 4 do not apply, neither does 9
  pub good_wanted : (x : Action) → not_there t x ≡ false → not_ready t x ≡ false → unwanted t x ≡ false
  unfolding not_there not_ready unwanted
  good_wanted unknown there ready = refl
  good_wanted (spawn k p) there ready =
      ap not (spawn_finds k (every_each (task_made t k ∷ in_session t p ∷ []) (not-not (every (task_made t k ∷ in_session t p ∷ [])) there)).0 ready)
  good_wanted (open_finish k) there ready = refl
  good_wanted (end k) there ready = ap not (end_finds k (not-not (task_made t k) there) ready)
  good_wanted (deliver k) there ready = ap not (deliver_finds t good k (slot_there t k there))
  good_wanted (kill p) there ready = refl
  good_wanted (adopt g) there ready = refl
  good_wanted (cancel g v) there ready = refl
  good_wanted (ask g v j) there ready = refl
  good_wanted (begin n) there ready = refl
