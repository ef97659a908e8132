-- The begin of a run is taken, and its tables are those of a run after one step.
use mathlib.Core.Path.{◌≡◌, refl, sym, ap, subst, ◌∙◌}
use mathlib.Core.Bool.{true, false, not}
use mathlib.Core.List.{List, [], ◌∷◌}
use Prim.Native.Nat.{ℕ, ◌≤◌}
use native.Mathlib.Omega.{arith}
use borrow.Author.Tests.{le-leb, eq-eqb}
use Rattle.tables.specs.Layout.{Whole}
use Rattle.tables.specs.Walks.{every, some_of}
use Rattle.tables.proofs.Walks.{each_every}
use Rattle.rules.specs.Action.{only0, action_named, action_of}
use Rattle.rules.specs.Begin.{begin_step}
use Rattle.rules.specs.Refusals.{wrong_length, no_action, unsound, not_there, wrong_place, not_ready, must_wait, no_room, unwanted, first_of, step_refusals, refusals, answer}
use Rattle.rules.specs.Step.{step, after}
use Rattle.rules.specs.Sessions.{is_begin, takes_begin}
use Rattle.model.specs.Base.Updates.{on, on-le, upd}
use Rattle.model.specs.Base.Sums.{sum, sum-suc, sum_zero}
use Rattle.model.specs.Effects.Begin.{begun}
use Rattle.model.specs.Work.{way, unasked, fresh, book_work, work}
use Rattle.promises.specs.View.{view}
use Rattle.promises.proofs.TieBegin.{tie_begin}
use Rattle.promises.proofs.Session.{begun_good}
use Rattle.growth.specs.Grown.{grown_first}
use Rattle.plan.specs.declared.Plan.{Plan}
use Rattle.plan.specs.Plan.{fits}
use Rattle.plan.proofs.Ranges.{Ranges, ranges}
use Rattle.run.proofs.Lives.{Lives, steps_left}
use Rattle.run.proofs.Alive.{Goes}

-- nothing is asked where nobody is dead
none-asked : (n : ℕ) → unasked n (λ i. false) (λ i j. false) ≡ 0
unfolding unasked on
none-asked n = sum_zero n (λ i. sum n (λ j. 0)) (λ i _. sum_zero n (λ j. 0) (λ j _. refl))

-- finish 1 may yet get a book
begun-work : (n m : ℕ) → work (begun n m) ≡ 1
unfolding work book_work way fresh upd
begun-work n m =
    omega (
      arith,
      sum_zero m (λ k. 0) (λ k _. refl),
      sum-suc 1 (book_work (begun n m)),
      sum-suc 0 (book_work (begun n m)),
      sum_zero 0 (book_work (begun n m)) (λ f l. absurd (omega arith)),
      none-asked n,
    )

begun_lives : (p : Plan) → Ranges p → Lives p 1 (begun p.places 128)
unfolding steps_left
begun_lives p fit = record {
  places = refl;
  finishes = refl;
  grown = grown_first p.levels p.width (λ t. 0) fit.levels.0 refl;
  budget = omega (arith, begun-work p.places 128, fit.size, on-le (not ((begun p.places 128).dead p.victim)) 53);
}

module _ (t : List ℕ) (whole : Whole t) (n : ℕ) (two : 2 ≤ n) (most : n ≤ 8) where
  begin_taken : answer t (9 ∷ n ∷ 0 ∷ 0 ∷ []) ≡ 0
  unfolding answer refusals step_refusals first_of wrong_length no_action unsound not_there wrong_place not_ready must_wait no_room unwanted action_of action_named only0 every some_of
  begin_taken = rw (whole, le-leb 2 n two, le-leb n 8 most) refl

  begin_after : after t (9 ∷ n ∷ 0 ∷ 0 ∷ []) ≡ begin_step n
  unfolding after step action_of action_named only0
  begin_after = rw begin_taken refl

  begin_takes : takes_begin t (9 ∷ n ∷ 0 ∷ 0 ∷ []) ≡ true
  unfolding takes_begin is_begin action_of action_named only0
  begin_takes = each_every _ (refl, (eq-eqb (answer t (9 ∷ n ∷ 0 ∷ 0 ∷ [])) 0 begin_taken, tt))

pub alive_first : {p : Plan} {t : List ℕ} → fits p ≡ true → Whole t → Goes p 0 t (9 ∷ p.places ∷ 0 ∷ 0 ∷ [])
alive_first {p} {t} fit whole =
    let r = ranges p fit in
    let b : List ℕ = 9 ∷ p.places ∷ 0 ∷ 0 ∷ [] in
    let is : view (after t b) ≡ begun p.places 128 =
    ap view (begin_after t whole p.places r.places.0 r.places.1) ∙ (tie_begin p.places).is in
    record {
      taken = begin_taken t whole p.places r.places.0 r.places.1;
      alive = record {
        good = begun_good t b (begin_takes t whole p.places r.places.0 r.places.1);
        lives = subst (Lives p 1) (sym is) (begun_lives p r);
      };
    }
