-- The end of a main task whose finish is published, with the report from its home, keeps the invariant.
use Rattle.std.specs.Prelude.{◌≡◌, refl, Bool, true, false, cond, ◌&&◌, ℕ, ◌+◌, ◌≤◌, ◌<◌, eqb}
use Rattle.std.proofs.Common.{sym, ap, ◌∙◌, eq-eqb, ne_eqb}
use native.Mathlib.Omega.{arith}
use Rattle.model.specs.Base.{upd, upd_same, upd_other, upd-cases, on, on_true, on_false, on_zero, is₂, is₂-cases, is₂_false, eq_cases}
use Rattle.model.specs.State.{State, Message, with_task_status, with_finish_status}
use Rattle.model.specs.Messages.{reports, of_finish}
use Rattle.model.specs.Weights.{weigh_in, weigh_out, ended}
use Rattle.model.specs.Guards.{Runs, Free}
use Rattle.model.specs.Effects.End.{home_report, end_published}
use Rattle.model.specs.Inv.{Inv}
use Rattle.model.specs.Inv.Messages as M
use Rattle.model.specs.Inv.Cells as C
use Rattle.model.specs.Inv.Locals as L
use Rattle.model.proofs.Steps.Written as W
use Rattle.model.proofs.Steps.Sent.{Aside, NoTask, other_tag, rises, aside, no_task}
use Rattle.model.proofs.Steps.FinishTurned.{FinishTurned, Rows, turns}

-- a report of f from its home, count 1 for its home, speaks of the home's own cell
own_cell : (f h i j : ℕ) → on (is₂ f h f j) (on (eqb h i) 1) ≡ on (is₂ h h i j) 1
unfolding is₂ on
own_cell f h i j = rw (eq-eqb f f refl) (go (eqb h i) (eqb h j))
  where
    go : (c b : Bool) → ◌≡◌ {A = ℕ} (cond b (cond c 1 0) 0) (cond (c && b) 1 0)
    go true b = refl
    go false true = refl
    go false false = refl

module _ (s : State) (t k : ℕ) (inv : Inv s) (runs : Runs s t) (is_main : s.tasks.sent t ≡ 0) (not-fresh : s.finishes.published (s.tasks.finish t) ≡ 0 → ⊥)
    (is-active : s.finishes.status (s.tasks.finish t) ≡ 1) (free : Free s k) where
  -- the finish, its home, the report
  abbrev f₀ : ℕ
  f₀ = s.tasks.finish t

  abbrev h₀ : ℕ
  h₀ = s.finishes.home f₀

  abbrev m₀ : Message
  m₀ = home_report f₀ h₀

  abbrev s' : State
  s' = end_published s t k

  -- before the report is sent
  abbrev s₁ : State
  s₁ = with_finish_status (upd s.finishes.status f₀ 3) (with_task_status (upd s.tasks.status t 7) s)

  made : (0 < f₀) × (f₀ ≤ s.finishes.made)
  made = inv.finish_made f₀ (omega arith)

  is_published : s.finishes.published f₀ ≡ 1
  is_published = eq_cases (s.finishes.published f₀) 0 (λ e. absurd (not-fresh e)) (λ n. omega (arith, inv.published_mark f₀))

  by_row : Rows s t 0 s₁.tasks.status
  by_row P x a b c = upd-cases s.tasks.status P t 7 x a (λ n. c n (λ z _. omega arith))

  main_is : s.finishes.main f₀ ≡ t
  main_is = (inv.main_tasks t runs.low runs.high is_main).2

  ends : FinishTurned s₁
  ends = turns s f₀ 1 3 0 s₁.tasks.status inv is-active (omega arith) (λ q. omega arith) (omega arith) (omega arith) (omega arith)
      (λ _. rw main_is runs.running) (λ _. (is_published, refl)) (λ e. absurd (omega arith)) (rw main_is by_row)

  -- no release of an active finish is on its way
  no_release : (g : ℕ) → g ≡ f₀ → of_finish s 8 g ≡ 0
  no_release g q = inv.release_none g (λ e. omega (arith, ap s.finishes.status q))

  release_some : M.ReleaseSome s₁
  release_some g = upd-cases s.finishes.status (λ w. w ≡ 3 → of_finish s 8 g + s.books.present g ≡ 1) f₀ 3 g
      (λ q _. omega (arith, no_release g q, inv.active_book f₀ is-active, is_published, ap s.books.present q))
      (λ _. inv.release_some g)

  release_none : M.ReleaseNone s₁
  release_none g = upd-cases s.finishes.status (λ w. (w ≡ 3 → ⊥) → of_finish s 8 g ≡ 0) f₀ 3 g (λ q _. no_release g q) (λ _. inv.release_none g)

  rest : Aside s'
  rest = let e = ends in aside s₁ k m₀ free.range free.tag (λ q. omega arith) (λ q. omega arith) (λ q. omega arith) (omega arith) (search (release_some, release_none))

  tasks : NoTask s'
  tasks = let e = ends in no_task s₁ k m₀ free.range free.tag (omega arith) (search e)

  tag : (x : ℕ) → 0 < x → (x ≡ 7 → ⊥) → W.Elsewhere s₁ k m₀ free.range x
  tag x z n = other_tag s₁ k m₀ free.range free.tag x z (λ q. n (sym q))

  names_finish : M.NamesFinish s'
  names_finish = W.each s₁ k m₀ free.range (M.NamesFinishOf s₁) inv.names_finish (λ _. made)

  names_places : M.NamesPlaces s'
  names_places = W.each s₁ k m₀ free.range (M.NamesPlacesOf s₁) inv.names_places (λ _. ((inv.finish_ranges f₀ made.0 made.1).0, omega (arith, inv.places)))

  report_counts : M.ReportCounts s'
  report_counts = W.each s₁ k m₀ free.range (M.ReportCountsOf s₁) inv.report_counts (λ _. (h₀, omega (arith, on_true (eqb h₀ h₀) 1 (eq-eqb h₀ h₀ refl))))

  report_book : M.ReportBook s'
  report_book = W.each s₁ k m₀ free.range (M.ReportBookOf s₁) inv.report_book (λ _ _. inv.active_book f₀ is-active ∙ is_published)

  fresh_messages : M.FreshMessages s'
  fresh_messages = W.each s₁ k m₀ free.range (M.FreshMessagesOf s₁) inv.fresh_messages (λ _ _. is_published)

  -- what the report says
  says : ℕ → ℕ → ℕ → ℕ
  says f i j = on (is₂ f₀ h₀ f j) (on (eqb h₀ i) 1)

  reports_rise : (f i j : ℕ) → reports s' f i j ≡ reports s f i j + says f i j
  unfolding says
  reports_rise f i j = rises s₁ k m₀ free.range free.tag (λ m. is₂ m.finish m.from f j) (λ m. m.counts i) (omega arith)

  -- the main task has ended
  ended_rises : (f i j : ℕ) → ended s' f i j ≡ ended s f i j + says f i j
  unfolding says
  ended_rises f i j = eq_cases f f₀
      (λ q. rw (q, upd_same) (omega (
        arith,
        weigh_in (is₂ h₀ h₀ i j) 3 5 3 (omega arith) (omega arith),
        weigh_out (is₂ h₀ h₀ i j) 3 5 (s.finishes.status f₀) (λ l _. omega arith),
        own_cell f₀ h₀ i j,
      )))
      (λ ne. rw (upd_other s.finishes.status f₀ 3 f ne) (omega (arith, on_false (is₂ f₀ h₀ f j) (on (eqb h₀ i) 1) (is₂_false f₀ h₀ f j (λ p _. ne (sym p))))))

  counted : C.Counted s'
  counted f i j p l d = omega (arith, inv.counted f i j p l d, ended_rises f i j, reports_rise f i j)

  counted_denied : C.CountedDenied s'
  counted_denied f i j p l d = omega (arith, inv.counted_denied f i j p l d, ended_rises f i j, reports_rise f i j, W.answered_same s₁ k m₀ free.range f i j (tag 11 (omega arith) (λ q. omega arith)))

  -- its own home's only
  own : (f i j : ℕ) → (i ≡ j → ⊥) → says f i j ≡ 0
  unfolding says
  own f i j n = is₂-cases f₀ h₀ f j
      (λ _ q. rw (on_false (eqb h₀ i) 1 (ne_eqb h₀ i (λ r. n (sym r ∙ q)))) (on_zero (is₂ f₀ h₀ f j)))
      (λ e. on_false (is₂ f₀ h₀ f j) (on (eqb h₀ i) 1) e)

  reports_most : L.ReportsMost s'
  reports_most f i j l n = omega (arith, inv.reports_most f i j l n, reports_rise f i j, own f i j n)

  pub ends_published_keeps : Inv (end_published s t k)
  ends_published_keeps = let e = ends in let r = rest in let n = tasks in search (
    names_finish,
    names_places,
    report_counts,
    report_book,
    fresh_messages,
    counted,
    counted_denied,
    reports_most,
  )
