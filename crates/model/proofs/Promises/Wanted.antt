-- Every wanted status is found, and no count that falls leaves 0: what a step's rule asks beyond its refusals 1 to 6 follows from the invariant.
use Rattle.std.specs.Prelude.{◌≡◌, refl, false, ℕ, ◌≤◌, ◌<◌, eqb}
use Rattle.std.proofs.Common.{arith, eq-eqb}
use Rattle.model.specs.Base.{is₂, is₃, is₂_same, is₃_same, bool_cases, eq_cases}
use Rattle.model.specs.State.{State}
use Rattle.model.specs.Weights.{weigh-le}
use Rattle.model.specs.Guards.{Runs, Full, MayRun}
use Rattle.model.specs.Inv.{Inv}
use Rattle.model.proofs.Facts.{opener-blocked, spawner-blocked, busy_counted, busy_main}
use Rattle.model.proofs.Facts.InFlight.{tallied_ge}

module _ (s : State) (inv : Inv s) where
  -- spawn and end of a main task: its finish is active
  pub main_wanted : (t : ℕ) → Runs s t → s.tasks.sent t ≡ 0 → s.finishes.status (s.tasks.finish t) ≡ 1
  main_wanted t runs e =
      let f = s.tasks.finish t in
      let b = busy_main s inv t e (omega (arith, runs.running)) (omega (arith, runs.running)) in
      let is_main = (inv.main_tasks t runs.low runs.high e).2 in
      eq_cases (s.finishes.status f) 2
      (λ q. absurd (omega (arith, rw is_main at (inv.publishing f q).2, runs.running)))
      (λ n. omega (arith, b.1, b.2))

  -- end of a main task: its opener, if any, is blocked
  pub end_wanted : (t : ℕ) → Runs s t → s.tasks.sent t ≡ 0 → MayRun s (s.finishes.opener (s.tasks.finish t))
  end_wanted t runs e = let a = main_wanted t runs e in opener-blocked s inv (s.tasks.finish t) (omega arith) (omega arith)

  -- end of another task: its local live count is above 0, and no more is reported than was received
  pub end_counts : (t : ℕ) → Runs s t → (s.tasks.sent t ≡ 0 → ⊥)
      → (0 < s.locals.live (s.tasks.finish t) (s.tasks.at t))
      × ((i : ℕ) → s.locals.reported (s.tasks.finish t) (s.tasks.at t) i ≤ s.locals.received (s.tasks.finish t) (s.tasks.at t) i)
  end_counts t runs n =
      let one : s.tasks.sent t ≡ 1 = omega (arith, inv.task_ranges t runs.low runs.high) in
      (busy_counted s inv t one (omega (arith, runs.running)) (omega (arith, runs.running)), inv.reported_most (s.tasks.finish t) (s.tasks.at t))

  module _ (k : ℕ) where
    -- 1: publishing, no book
    pub publish_wanted : Full s k 1 → s.dead (s.finishes.home (s.slot k).finish) ≡ false
        → (s.finishes.status (s.slot k).finish ≡ 2) × (s.books.present (s.slot k).finish ≡ 0)
    publish_wanted full a = let r = inv.publishes k full.range full.tag in ((r.2 a).0, r.0)

    -- 2: home alive, publishing, task status 1
    pub published_wanted : Full s k 2
        → (s.dead (s.finishes.home (s.slot k).finish) ≡ false) × (s.finishes.status (s.slot k).finish ≡ 2) × (s.tasks.status (s.slot k).task ≡ 1)
    published_wanted full = let r = inv.published k full.range full.tag in (r.1, r.2, r.3)

    -- 4 and 5: from alive, task status 2, its spawner blocked
    pub answer_wanted : (n : ℕ) → 4 ≤ n → n ≤ 5 → Full s k n
        → (s.dead (s.slot k).from ≡ false) × (s.tasks.status (s.slot k).task ≡ 2) × MayRun s (s.tasks.maker (s.slot k).task)
    answer_wanted n l h full =
        let t = (s.slot k).task in
        let low : 3 ≤ (s.slot k).tag = omega (arith, full.tag) in
        let high : (s.slot k).tag ≤ 5 = omega (arith, full.tag) in
        let lives : s.dead (s.slot k).from ≡ false = bool_cases (s.dead (s.slot k).from) (λ d. absurd (omega (arith, (inv.lost_transits k full.range low high d).0, full.tag))) (λ a. a) in
        let r = inv.transits k full.range low high lives in
        (lives, r.0, λ _. spawner-blocked s inv t (inv.names_task k full.range (omega arith) (omega arith)).2 (omega (arith, r.0)) (omega (arith, r.0)))

    -- 6: to alive, task status 3
    pub task_wanted : Full s k 6 → (s.dead (s.slot k).to ≡ false) × (s.tasks.status (s.slot k).task ≡ 3)
    task_wanted full = let r = inv.on_wire k full.range full.tag in (r.1, r.0)

    -- 7: no count below 0
    pub report_wanted : Full s k 7 → s.dead (s.slot k).from ≡ false → s.books.present (s.slot k).finish ≡ 1
        → (i : ℕ) → (s.slot k).counts i ≤ s.books.live (s.slot k).finish i (s.slot k).from
    report_wanted full a p i =
        let f = (s.slot k).finish in
        let j = (s.slot k).from in
        let carried = tallied_ge s k 7 (λ m. is₂ m.finish m.from f j) (λ m. m.counts i) full.range full.tag (is₂_same f j) in
        let most = weigh-le (is₂ (s.finishes.home f) (s.finishes.home f) i j) 3 5 (s.finishes.status f) in
        bool_cases (s.locals.denied f j i)
        (λ d. omega (arith, inv.counted_denied f i j p a d, inv.reported_most f j i, carried, most))
        (λ d. omega (arith, inv.counted f i j p a d, inv.sent_most f i j p a, inv.reported_most f j i, carried, most))

    -- 8: home alive, waits for release, its opener blocked
    pub release_wanted : Full s k 8
        → (s.dead (s.finishes.home (s.slot k).finish) ≡ false) × (s.finishes.status (s.slot k).finish ≡ 3) × MayRun s (s.finishes.opener (s.slot k).finish)
    release_wanted full =
        let f = (s.slot k).finish in
        let waits : s.finishes.status f ≡ 3 = eq_cases (s.finishes.status f) 3 (λ e. e)
        (λ n. absurd (omega (arith, inv.release_none f n, tallied_ge s k 8 (λ m. eqb m.finish f) (λ m. 1) full.range full.tag (eq-eqb f f refl)))) in
        ((inv.waiting f waits).0, waits, opener-blocked s inv f (omega arith) (omega arith))

    -- 10: to alive, number not below received
    pub count_dropped_wanted : Full s k 10
        → (s.dead (s.slot k).to ≡ false) × (s.locals.received (s.slot k).finish (s.slot k).to (s.slot k).from ≤ (s.slot k).number)
    count_dropped_wanted full = let r = inv.questions k full.range full.tag in (r.0, omega (arith, r.1))

    -- 11: no count below 0
    pub dropped_wanted : Full s k 11 → s.dead (s.slot k).to ≡ false → s.books.present (s.slot k).finish ≡ 1
        → (s.slot k).number ≤ s.books.live (s.slot k).finish (s.slot k).from (s.slot k).to
    dropped_wanted full a p =
        let f = (s.slot k).finish in
        let i = (s.slot k).from in
        let j = (s.slot k).to in
        let carried = tallied_ge s k 11 (λ m. is₃ m.finish m.from m.to f i j) (λ m. m.number) full.range full.tag (is₃_same f i j) in
        let most = weigh-le (is₂ (s.finishes.home f) (s.finishes.home f) i j) 3 5 (s.finishes.status f) in
        bool_cases (s.locals.denied f j i)
        (λ d. omega (arith, inv.counted_denied f i j p a d, inv.reported_most f j i, carried, most))
        (λ d. omega (arith, inv.no_answer f i j p a d, carried))
