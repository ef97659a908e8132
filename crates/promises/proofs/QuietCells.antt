-- In a quiet session an open book's cell at a surviving receiver is received less reported, and the main task until it ended.
use mathlib.Core.Path.{◌≡◌, sym, ◌∙◌}
use mathlib.Core.Bool.{Bool, true, false, cond, not}
use mathlib.Core.List.{List, [], ◌∷◌}
use Prim.Native.Nat.{ℕ, ◌+◌, ◌-◌, ◌≤◌, ◌<◌}
use native.Mathlib.Omega.{arith}
use lib.Dec.{eqb}
use borrow.Author.Tests.{eqb-true, eqb-false, ne_eqb, ltb-true}
use Rattle.tables.specs.Walks.{every}
use Rattle.tables.proofs.Walks.{every_each}
use Rattle.rules.specs.Fields.{places, dead, task_status, home, main_task, present, live, received, reported, in_session}
use Rattle.rules.specs.Quiet.{quiet}
use Rattle.rules.specs.Sessions.{is_open, survives, main_left}
use Rattle.model.specs.Base.Cases.{bool_cases, eq_cases}
use Rattle.model.specs.Base.Updates.{on_true, on_false, is₂, is₂_same, is₂_false}
use Rattle.model.specs.Weights.{mainly, ended, weigh_in, weigh_out, weigh_off}
use Rattle.model.proofs.Facts.{unreleased}
use Rattle.model.proofs.Promises.Quiet.{quiet_cells}
use Rattle.promises.specs.View.{view}
use Rattle.promises.proofs.Tests.{not_true}
use Rattle.promises.proofs.Seen.{Seen}
use Rattle.promises.proofs.Rows.{read_dead, read_task_status, read_home, read_main}
use Rattle.promises.proofs.BookCells.{read_present, read_live}
use Rattle.promises.proofs.LocalCells.{read_received, read_reported}
use Rattle.promises.proofs.Quiet.{quiet_state}
use Rattle.promises.proofs.Held.{Held, finish_fits_lem, finish_number, tasks_most}
use Rattle.promises.proofs.Good.{Good}
use Rattle.promises.proofs.SoundTables.{good_held}

module _ {t : List ℕ} (good : Good t) where
  h : Held t (view t)
  h = good_held t good

  s : Seen t (view t)
  s = h.seen

  module _ (f i j : ℕ) (opened : is_open t f ≡ true) (receives : survives t j ≡ true) where
    made : (0 < f) × (f < 33) × (f ≤ (view t).finishes.made)
    unfolding is_open
    made = let r = finish_number h f (every_each _ opened).0 in (r.0, (finish_fits_lem h f r.0 r.1).number, r.1)

    has_book : (view t).books.present f ≡ 1
    unfolding is_open
    has_book = sym (read_present s f made.0 made.1) ∙ eqb-true (present t f) 1 (every_each _ opened).1.0

    receiver : j < 8
    unfolding survives in_session
    receiver = omega (arith, ltb-true j (places t) (every_each _ receives).0, good.places_most)

    lives : (view t).dead j ≡ false
    unfolding survives
    lives = sym (read_dead s j) ∙ not_true (dead t j) (every_each _ receives).1.0

    is_home : home t f ≡ (view t).finishes.home f
    is_home = read_home s f made.0 made.1

    is_main_status : task_status t (main_task t f) ≡ (view t).tasks.status ((view t).finishes.main f)
    is_main_status =
        let r = good.inv.finish_ranges f made.0 made.2 in
        rw (read_main s f made.0 made.1) (read_task_status s ((view t).finishes.main f) (omega (arith, r.1)) (omega (arith, r.3, tasks_most h)))

    -- in the home's own cell
    abbrev own : Bool
    own = is₂ ((view t).finishes.home f) ((view t).finishes.home f) i j

    none : own ≡ false → 0 + ended (view t) f i j ≡ mainly (view t) f i j
    none e = omega (arith, weigh_off own 3 5 ((view t).finishes.status f) e, on_false own 1 e)

    busy : ((view t).finishes.status f ≡ 3 → ⊥) → 1 ≤ (view t).finishes.status f → (view t).finishes.status f ≤ 3 → (view t).tasks.status ((view t).finishes.main f) ≡ 7 → ⊥
    busy n l m z = eq_cases ((view t).finishes.status f) 1
        (λ e. omega (arith, (good.inv.active f e).2))
        (λ d. omega (arith, (good.inv.publishing f (omega arith)).2))

    own_cell : eqb i ((view t).finishes.home f) ≡ true → eqb j ((view t).finishes.home f) ≡ true
        → cond (every (eqb i ((view t).finishes.home f) ∷ eqb j ((view t).finishes.home f) ∷ not (eqb ((view t).tasks.status ((view t).finishes.main f)) 7) ∷ [])) 1 0 + ended (view t) f i j ≡ mainly (view t) f i j
    unfolding every
    own_cell a b =
        let p = (view t).finishes.home f in
        let v = (view t).finishes.status f in
        let q : j ≡ (view t).finishes.home f = eqb-true j p b in
        let is : own ≡ true = rw (eqb-true i p a, q) (is₂_same p p) in
        let u = unreleased (view t) good.inv f made.0 made.2 (rw q at lives) (good.inv.book_unreleased f has_book) in
        eq_cases v 3
        (λ e. rw (a, b, (good.inv.waiting f e).2) (omega (arith, weigh_in own 3 5 v (omega arith) (omega arith))))
        (λ n. rw (a, b, ne_eqb ((view t).tasks.status ((view t).finishes.main f)) 7 (busy n u.0 u.1)) (omega (arith, on_true own 1 is, weigh_out own 3 5 v (λ l _. n (omega arith)))))

    -- the main task's count, until it ended
    main_count : main_left t f i j + ended (view t) f i j ≡ mainly (view t) f i j
    unfolding main_left every
    main_count =
        let p = (view t).finishes.home f in
        rw (is_home, is_main_status) (bool_cases (eqb i ((view t).finishes.home f))
        (λ a. bool_cases (eqb j ((view t).finishes.home f))
        (λ b. own_cell a b)
        (λ b. rw (a, b) (none (is₂_false p p i j (λ x y. eqb-false j p b (sym y))))))
        (λ a. rw a (none (is₂_false p p i j (λ x y. eqb-false i p a (sym x))))))

    pub quiet-cell : quiet t ≡ true → i < 8 → live t f i j ≡ received t f j i - reported t f j i + main_left t f i j
    quiet-cell calm i8 =
        omega (
          arith,
          quiet_cells (view t) good.inv (quiet_state h calm) f i j has_book lives,
          main_count,
          good.inv.reported_most f j i,
          read_live s f made.0 made.1 i j i8 receiver,
          read_received s f j made.0 made.1 receiver i i8,
          read_reported s f j made.0 made.1 receiver i i8,
        )
