-- A present book whose column of a live place is all 0 has nothing left there: no busy task, no report, no answer, no task message but of a denied sender.
use Rattle.std.specs.Prelude.{◌≡◌, false, ℕ, ◌+◌, ◌≤◌, ◌<◌}
use Rattle.std.proofs.Common.{sym, ap, ◌∙◌, arith}
use Rattle.model.specs.Base.{on_true, is₂, is₂_same, bool_cases, eq_cases}
use Rattle.model.specs.State.{State}
use Rattle.model.specs.Messages.{between, reports}
use Rattle.model.specs.Weights.{mainly, ended, weigh-le, weigh_out}
use Rattle.model.specs.Inv.{InvBut}
use Rattle.model.proofs.Facts.{busy_counted, busy_main}

module _ {c : ℕ} (s : State) (inv : InvBut c s) (f : ℕ) (present : s.books.present f ≡ 1) (j : ℕ) (lives : s.dead j ≡ false)
    (column : (i : ℕ) → s.books.live f i j ≡ 0) where
  ended-le : (i : ℕ) → ended s f i j ≤ mainly s f i j
  ended-le i = weigh-le (is₂ (s.finishes.home f) (s.finishes.home f) i j) 3 5 (s.finishes.status f)

  -- all that was received is reported, and a main task there has ended
  pub settled : (i : ℕ) → (s.locals.received f j i + mainly s f i j ≤ s.locals.reported f j i + ended s f i j) × (reports s f i j ≡ 0)
  settled i = bool_cases (s.locals.denied f j i)
      (λ d. omega (arith, inv.counted_denied f i j present lives d, column i, inv.reported_most f j i, ended-le i))
      (λ d. omega (arith, inv.counted f i j present lives d, inv.sent_most f i j present lives, column i, inv.reported_most f j i, ended-le i))

  pub no_flight : (i : ℕ) → s.locals.denied f j i ≡ false → between s 6 f i j ≡ 0
  no_flight i d = omega (arith, inv.counted f i j present lives d, inv.sent_most f i j present lives, column i, inv.reported_most f j i, ended-le i)

  pub no_busy : (t : ℕ) → 5 ≤ s.tasks.status t → s.tasks.status t ≤ 6 → s.tasks.finish t ≡ f → s.tasks.at t ≡ j → ⊥
  no_busy t l h e q = eq_cases (s.tasks.sent t) 0 main_there sent_there
    where
      main_there : s.tasks.sent t ≡ 0 → ⊥
      main_there z =
          let b = inv.status_made t (omega arith) in
          let k = busy_main s inv t z l h in
          let home : s.finishes.home f ≡ j = ap s.finishes.home (sym e) ∙ sym (inv.main_tasks t b.0 b.1 z).1 ∙ q in
          let low : s.finishes.status f ≤ 2 = rw e at k.2 in
          let one : mainly s f j j ≡ 1 = rw home (on_true (is₂ j j j j) 1 (is₂_same j j)) in
          let none = weigh_out (is₂ (s.finishes.home f) (s.finishes.home f) j j) 3 5 (s.finishes.status f) (λ m _. omega arith) in
          omega (arith, (settled j).0, inv.reported_most f j j)

      sent_there : (s.tasks.sent t ≡ 0 → ⊥) → ⊥
      sent_there n =
          let b = inv.status_made t (omega arith) in
          let one : s.tasks.sent t ≡ 1 = omega (arith, inv.task_ranges t b.0 b.1) in
          let live : 0 < s.locals.live f j = rw (e, q) at (busy_counted s inv t one l h) in
          let r = inv.pending f j live in
          omega (arith, (settled r.0).0, ended-le r.0, r.1)
