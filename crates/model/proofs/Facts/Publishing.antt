-- While a finish is publishing, its main task is blocked by the task that waits for publish, and so by no finish that it opened.
use Rattle.std.specs.Prelude.{◌≡◌, refl, true, ℕ, suc, ◌≤◌, ◌<◌, eqb}
use Rattle.std.proofs.Common.{ap, ◌∙◌, arith, eqb-true, eq-eqb}
use Rattle.model.specs.Base.{on_true, is₂, is₂_same, sum_ge, eq_cases}
use Rattle.model.specs.State.{State}
use Rattle.model.specs.Messages.{of_finish}
use Rattle.model.specs.Weights.{weigh, weigh_in, weigh-le}
use Rattle.model.specs.Inv.{InvBut}
use Rattle.model.proofs.Facts.InFlight.{tallied_some}

module _ {c : ℕ} (s : State) (inv : InvBut c s) (g : ℕ) (publishing : s.finishes.status g ≡ 2) where
  named_by : (k : ℕ) → k < s.slots → 1 ≤ (s.slot k).tag → (s.slot k).tag ≤ 2 → (s.slot k).finish ≡ g
      → (t : ℕ) × (s.tasks.sent t ≡ 1) × (s.tasks.status t ≡ 1) × (s.tasks.maker t ≡ s.finishes.main g)
  named_by k h l m q =
      let r = inv.names_task k h l (omega arith) in
      let of_g = r.3 ∙ q in
      let w = inv.first_task (s.slot k).task r.2 (ap s.finishes.published of_g ∙ (inv.publishing g publishing).1) (λ p. omega (arith, ap s.finishes.status of_g)) in
      ((s.slot k).task, r.2, w.1, w.2 ∙ ap s.finishes.main of_g)

  first_waits : (t : ℕ) × (s.tasks.sent t ≡ 1) × (s.tasks.status t ≡ 1) × (s.tasks.maker t ≡ s.finishes.main g)
  first_waits = eq_cases (of_finish s 1 g) 0
      (λ z. let r = tallied_some s 2 (λ m. eqb m.finish g) (λ m. 1) (omega (arith, inv.publish_some g publishing)) in named_by r.0 r.1 (omega (arith, r.2)) (omega (arith, r.2)) (eqb-true (s.slot r.0).finish g r.3))
      (λ n. let r = tallied_some s 1 (λ m. eqb m.finish g) (λ m. 1) (omega arith) in named_by r.0 r.1 (omega (arith, r.2)) (omega (arith, r.2)) (eqb-true (s.slot r.0).finish g r.3))

  pub opens_none : (f : ℕ) → 1 ≤ s.finishes.status f → s.finishes.status f ≤ 3 → 0 < s.finishes.opener f → s.finishes.main g ≡ s.finishes.opener f → ⊥
  opens_none f l h z q =
      let o = s.finishes.opener f in
      let w = first_waits in
      let t = w.0 in
      omega (
        arith,
        inv.blocked o z,
        weigh-le true 6 6 (s.tasks.status o),
        on_true true 1 refl,
        sum_ge (suc s.finishes.made) (λ f. weigh (eqb (s.finishes.opener f) o) 1 3 (s.finishes.status f)) f (omega (arith, inv.finish_made f (omega arith))),
        weigh_in (eqb o o) 1 3 (s.finishes.status f) l h,
        on_true (eqb o o) 1 (eq-eqb o o refl),
        sum_ge (suc s.tasks.made) (λ x. weigh (is₂ (s.tasks.sent x) (s.tasks.maker x) 1 o) 1 2 (s.tasks.status x)) t (omega (arith, inv.sent_made t (omega (arith, w.1)))),
        weigh_in (is₂ (s.tasks.sent t) (s.tasks.maker t) 1 o) 1 2 (s.tasks.status t) (omega (arith, w.2)) (omega (arith, w.2)),
        on_true (is₂ (s.tasks.sent t) (s.tasks.maker t) 1 o) 1 (rw (w.1, w.3 ∙ q) (is₂_same 1 o)),
      )
