-- The end of a main task whose finish is unpublished keeps the invariant: the finish has no book, and its opener was blocked by it alone.
use Rattle.std.specs.Prelude.{◌≡◌, refl, ℕ, ◌+◌}
use Rattle.std.proofs.Common.{ap, ◌∙◌, arith}
use Rattle.model.specs.Base.{upd, upd_other, upd-cases, eq_cases}
use Rattle.model.specs.State.{State}
use Rattle.model.specs.Guards.{Runs, MayRun}
use Rattle.model.specs.Effects.End.{wake-none, wake_some, end_unpublished}
use Rattle.model.specs.Messages.{of_finish}
use Rattle.model.specs.Inv.{Inv}
use Rattle.model.specs.Inv.Messages as M
use Rattle.model.specs.Inv.Cells.{Counted, CountedDenied}
use Rattle.model.proofs.Steps.FinishTurned.{FinishTurned, Rows, turns}

module _ (s : State) (t : ℕ) (inv : Inv s) (runs : Runs s t) (is_main : s.tasks.sent t ≡ 0) (unpublished : s.finishes.published (s.tasks.finish t) ≡ 0)
    (is-active : s.finishes.status (s.tasks.finish t) ≡ 1) (may_run : MayRun s (s.finishes.opener (s.tasks.finish t))) where
  -- the finish, its opener
  abbrev f₀ : ℕ
  f₀ = s.tasks.finish t

  abbrev o : ℕ
  o = s.finishes.opener f₀

  abbrev s' : State
  s' = end_unpublished s t

  by_row : Rows s t o s'.tasks.status
  by_row P x a b c = eq_cases o 0
      (λ e. rw (wake-none o (upd s.tasks.status t 7) x e) (upd-cases s.tasks.status P t 7 x a (λ n. c n (λ z _. omega arith))))
      (λ ne. rw (wake_some o (upd s.tasks.status t 7) x (omega arith)) (upd-cases (upd s.tasks.status t 7) P o 5 x
      (λ q. b (omega arith) q (ap s.tasks.status q ∙ may_run (omega arith)))
      (λ n₁. upd-cases s.tasks.status P t 7 x a (λ n₂. c n₂ (λ _. n₁)))))

  main_is : s.finishes.main f₀ ≡ t
  main_is = (inv.main_tasks t runs.low runs.high is_main).2

  no_book : s.books.present f₀ ≡ 0
  no_book = inv.active_book f₀ is-active ∙ unpublished

  ends : FinishTurned s'
  ends = turns s f₀ 1 4 o s'.tasks.status inv is-active (omega arith) (λ q. omega arith) (omega arith) (omega arith) (omega arith)
      (λ _. rw main_is runs.running) (λ e. absurd (omega arith)) (λ _. (no_book, refl)) (rw main_is by_row)

  release_some : M.ReleaseSome s'
  release_some g = upd-cases s.finishes.status (λ w. w ≡ 3 → of_finish s 8 g + s.books.present g ≡ 1) f₀ 4 g (λ _ e. absurd (omega arith)) (λ _. inv.release_some g)

  release_none : M.ReleaseNone s'
  release_none g = upd-cases s.finishes.status (λ w. (w ≡ 3 → ⊥) → of_finish s 8 g ≡ 0) f₀ 4 g (λ q _. inv.release_none g (λ e. omega (arith, ap s.finishes.status q))) (λ _. inv.release_none g)

  -- a book is of another finish
  other : (f : ℕ) → s.books.present f ≡ 1 → s'.finishes.status f ≡ s.finishes.status f
  other f p = upd_other s.finishes.status f₀ 4 f (λ q. omega (arith, no_book, ap s.books.present q))

  counted : Counted s'
  counted f i j p a d = rw (other f p) (inv.counted f i j p a d)

  counted_denied : CountedDenied s'
  counted_denied f i j p a d = rw (other f p) (inv.counted_denied f i j p a d)

  pub ends_unpublished_keeps : Inv (end_unpublished s t)
  ends_unpublished_keeps = let e = ends in search (release_some, release_none, counted, counted_denied)
