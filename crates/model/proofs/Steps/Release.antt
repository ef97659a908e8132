-- The deliver of a release (8) keeps the invariant: the finish that waited has no book, and its opener was blocked by it alone.
use Rattle.std.specs.Prelude.{◌≡◌, refl, ℕ, ◌≤◌, ◌<◌, eqb}
use Rattle.std.proofs.Common.{sym, ap, ◌∙◌, arith, eq-eqb, ne_eqb}
use Rattle.model.specs.Base.{upd, upd-cases, on_true, is₂, eq_cases}
use Rattle.model.specs.State.{State, with_task_status, with_finish_status}
use Rattle.model.specs.Messages.{none, tally_is, tally_away, of_finish}
use Rattle.model.specs.Weights.{weigh, weigh_in, ended}
use Rattle.model.specs.Guards.{Full, MayRun}
use Rattle.model.specs.Effects.End.{wake, wake-none, wake_some}
use Rattle.model.specs.Effects.Deliver.{deliver_release}
use Rattle.model.specs.Inv.{Inv}
use Rattle.model.specs.Inv.Messages as M
use Rattle.model.specs.Inv.Cells as C
use Rattle.model.proofs.Facts.InFlight.{tallied_ge}
use Rattle.model.proofs.Steps.Written as W
use Rattle.model.proofs.Steps.FinishTurned.{FinishTurned, Rows, turns}
use Rattle.model.proofs.Steps.Emptied as D

module _ (s : State) (k : ℕ) (inv : Inv s) (full : Full s k 8) (waits : s.finishes.status (s.slot k).finish ≡ 3) (may_run : MayRun s (s.finishes.opener (s.slot k).finish)) where
  -- the finish, its opener
  abbrev f₀ : ℕ
  f₀ = (s.slot k).finish

  abbrev o : ℕ
  o = s.finishes.opener f₀

  abbrev s' : State
  s' = deliver_release s k

  -- before the slot is emptied
  abbrev s₁ : State
  s₁ = with_finish_status (upd s.finishes.status f₀ 4) (with_task_status (wake o s.tasks.status) s)

  other_tag : (x : ℕ) → 0 < x → (x ≡ 8 → ⊥) → W.Elsewhere s k none full.range x
  other_tag x z n = ((λ q. n (sym q ∙ full.tag)), (λ q. omega arith))

  -- no book, and no other release
  alone : (of_finish s 8 f₀ ≡ 1) × (s.books.present f₀ ≡ 0)
  alone = omega (arith, inv.release_some f₀ waits, tallied_ge s k 8 (λ m. eqb m.finish f₀) (λ m. 1) full.range full.tag (eq-eqb f₀ f₀ refl))

  -- the opener, if any, runs; every other task is as it was
  by_row : (P : ℕ → Type 0) (x : ℕ) → (0 < o → x ≡ o → s.tasks.status x ≡ 6 → P 5) → ((0 < o → x ≡ o → ⊥) → P (s.tasks.status x)) → P (s'.tasks.status x)
  by_row P x a b = eq_cases o 0
      (λ e. rw (wake-none o s.tasks.status x e) (b (λ z _. omega arith)))
      (λ n. rw (wake_some o s.tasks.status x (omega arith))
      (upd-cases s.tasks.status P o 5 x (λ q. a (omega arith) q (ap s.tasks.status q ∙ may_run (omega arith))) (λ ne. b (λ _. ne))))

  rows : Rows s (s.finishes.main f₀) o s₁.tasks.status
  rows P x a b c = by_row P x b (λ n. eq_cases x (s.finishes.main f₀) (λ q. rw (ap s.tasks.status q ∙ (inv.waiting f₀ waits).2) (a q)) (λ ne. c ne n))

  turned : FinishTurned s₁
  turned = turns s f₀ 3 4 o s₁.tasks.status inv waits (omega arith) (λ q. omega arith) (omega arith) (omega arith) (omega arith)
      (λ e. absurd (omega arith)) (λ e. absurd (omega arith)) (λ _. (alone.1, refl)) rows

  by_finish : (P : ℕ → Type 0) (g : ℕ) → (g ≡ f₀ → P 4) → ((g ≡ f₀ → ⊥) → P (s.finishes.status g)) → P (s'.finishes.status g)
  by_finish P g a b = upd-cases s.finishes.status P f₀ 4 g a b

  finish_was : (g v : ℕ) → s'.finishes.status g ≡ v → (v ≡ 4 → ⊥) → (s.finishes.status g ≡ v) × (g ≡ f₀ → ⊥)
  finish_was g v e n = by_finish (λ w. w ≡ v → (s.finishes.status g ≡ v) × (g ≡ f₀ → ⊥)) g (λ _ q. absurd (n (sym q))) (λ ne q. (q, ne)) e

  publish_some : M.PublishSome s'
  publish_some = W.publish_some s₁ k none full.range (other_tag 1 (omega arith) (λ q. omega arith)) (other_tag 2 (omega arith) (λ q. omega arith)) turned.publish_some

  named_publish : M.NamedPublish s'
  named_publish = W.named_publish s₁ k none full.range (other_tag 1 (omega arith) (λ q. omega arith)) (other_tag 2 (omega arith) (λ q. omega arith)) turned.named_publish

  named_transit : M.NamedTransit s'
  named_transit = W.named_transit s₁ k none full.range (other_tag 3 (omega arith) (λ q. omega arith)) (other_tag 4 (omega arith) (λ q. omega arith)) (other_tag 5 (omega arith) (λ q. omega arith)) turned.named_transit

  -- the releases of g after this one
  releases : (g : ℕ) → of_finish s' 8 g ≤ of_finish s 8 g
  releases g = omega (arith, D.falls s k full.range 8 (λ m. eqb m.finish g) (λ m. 1) (omega arith))

  release_some : M.ReleaseSome s'
  release_some g e =
      let w = finish_was g 3 e (λ q. omega arith) in
      omega (
        arith,
        inv.release_some g w.0,
        D.falls s k full.range 8 (λ m. eqb m.finish g) (λ m. 1) (omega arith),
        tally_away 8 (s.slot k) (eqb f₀ g) 1 (ne_eqb f₀ g (λ q. w.1 (sym q))),
      )

  release_none : M.ReleaseNone s'
  release_none g = by_finish (λ w. (w ≡ 3 → ⊥) → of_finish s' 8 g ≡ 0) g
      (λ q _. rw q (omega (arith, alone, D.falls s k full.range 8 (λ m. eqb m.finish f₀) (λ m. 1) (omega arith), tally_is 8 (s.slot k) (eqb f₀ f₀) 1 full.tag, on_true (eqb f₀ f₀) 1 (eq-eqb f₀ f₀ refl))))
      (λ _ n. omega (arith, inv.release_none g n, releases g))

  -- a main task that ended stays ended
  ended_same : (g i j : ℕ) → ended s' g i j ≡ ended s g i j
  ended_same g i j =
      let b = is₂ (s.finishes.home g) (s.finishes.home g) i j in
      by_finish (λ w. weigh b 3 5 w ≡ weigh b 3 5 (s.finishes.status g)) g
      (λ q. weigh_in b 3 5 4 (omega arith) (omega arith) ∙ sym (weigh_in b 3 5 (s.finishes.status g) (omega (arith, ap s.finishes.status q)) (omega (arith, ap s.finishes.status q))))
      (λ _. refl)

  counted : C.Counted s'
  counted = W.counted s₁ k none full.range (other_tag 7 (omega arith) (λ q. omega arith)) (λ g i j p a d. omega (arith, inv.counted g i j p a d, ended_same g i j))

  counted_denied : C.CountedDenied s'
  counted_denied = W.counted_denied s₁ k none full.range (other_tag 7 (omega arith) (λ q. omega arith)) (other_tag 11 (omega arith) (λ q. omega arith))
      (λ g i j p a d. omega (arith, inv.counted_denied g i j p a d, ended_same g i j))

  pub delivers_release_keeps : Inv (deliver_release s k)
  delivers_release_keeps = let r = turned in search (
    publish_some,
    named_publish,
    named_transit,
    release_some,
    release_none,
    counted,
    counted_denied,
    D.lasts s₁ k full.range (search r),
    W.ghosts s k none full.range (other_tag 9 (omega arith) (λ q. omega arith)) inv.ghosts,
    W.marked s k none full.range (other_tag 10 (omega arith) (λ q. omega arith)) inv.marked,
    W.sent_from s k none full.range (other_tag 4 (omega arith) (λ q. omega arith)) (other_tag 6 (omega arith) (λ q. omega arith)) inv.sent_from,
  )
