-- The end of the last busy task of a finish at a place, with its report, keeps the invariant.
use Rattle.std.specs.Prelude.{◌≡◌, false, ℕ, ◌+◌, ◌-◌, ◌≤◌, ◌<◌}
use Rattle.std.proofs.Common.{arith}
use Rattle.model.specs.Base.{on, on_true, on_false, on-is₂, cond_raise, cond_cases, is₂, is₂_true, bool_cases, eq_cases}
use Rattle.model.specs.State.{State, Message, with_reported}
use Rattle.model.specs.Messages.{reports}
use Rattle.model.specs.Guards.{Runs, Free}
use Rattle.model.specs.Effects.End.{end_other, end_last, local_report}
use Rattle.model.specs.Inv.{Inv}
use Rattle.model.specs.Inv.Messages as M
use Rattle.model.specs.Inv.Cells as C
use Rattle.model.specs.Inv.Locals as L
use Rattle.model.proofs.Steps.OtherEnded.{OtherEnded, other_ends}
use Rattle.model.proofs.Steps.Sent.{Aside, NoTask, other_tag, rises, aside, no_task}
use Rattle.model.proofs.Steps.Written as W

module _ (s : State) (t k : ℕ) (inv : Inv s) (runs : Runs s t) (other : s.tasks.sent t ≡ 0 → ⊥)
    (last : s.locals.live (s.tasks.finish t) (s.tasks.at t) ≡ 1) (free : Free s k) where
  abbrev s' : State
  s' = end_last s t k

  abbrev f₀ : ℕ
  f₀ = s.tasks.finish t

  abbrev j₀ : ℕ
  j₀ = s.tasks.at t

  abbrev m₀ : Message
  m₀ = local_report s f₀ j₀

  -- before the report is sent
  abbrev s₁ : State
  s₁ = with_reported s'.locals.reported (end_other s t)

  ends : OtherEnded (end_other s t)
  ends = other_ends s t inv runs other

  rest : Aside s'
  rest = let e = ends in aside s₁ k m₀ free.range free.tag (λ q. omega arith) (λ q. omega arith) (λ q. omega arith) (omega arith) (search e)

  tasks : NoTask s'
  tasks = let e = ends in no_task s₁ k m₀ free.range free.tag (omega arith) (search e)

  finish_made : (0 < f₀) × (f₀ ≤ s.finishes.made)
  finish_made = omega (arith, inv.task_ranges t runs.low runs.high)

  is_published : s.finishes.published f₀ ≡ 1
  is_published = eq_cases (s.finishes.published f₀) 0
      (λ e. absurd (omega (arith, (inv.fresh_locals f₀ j₀ 0 e).2)))
      (λ n. omega (arith, inv.published_mark f₀))

  names_finish : M.NamesFinish s'
  names_finish = W.each s₁ k m₀ free.range (M.NamesFinishOf s₁) inv.names_finish (λ _. finish_made)

  names_places : M.NamesPlaces s'
  names_places = W.each s₁ k m₀ free.range (M.NamesPlacesOf s₁) inv.names_places (λ _. ((inv.task_ranges t runs.low runs.high).1, omega (arith, inv.places)))

  report_counts : M.ReportCounts s'
  report_counts = W.each s₁ k m₀ free.range (M.ReportCountsOf s₁) inv.report_counts
      (λ _. let r = inv.pending f₀ j₀ (omega arith) in (r.0, omega (arith, r.1)))

  report_book : M.ReportBook s'
  report_book = W.each s₁ k m₀ free.range (M.ReportBookOf s₁) inv.report_book (λ _ _. inv.local_book f₀ j₀ (omega arith))

  fresh_messages : M.FreshMessages s'
  fresh_messages = W.each s₁ k m₀ free.range (M.FreshMessagesOf s₁) inv.fresh_messages (λ _ _. is_published)

  -- what is reported rises by what the report says, and so do the reports in flight
  rise : ℕ → ℕ → ℕ → ℕ
  rise f i j = on (is₂ f₀ j₀ f j) (s.locals.received f₀ j₀ i - s.locals.reported f₀ j₀ i)

  reported_rises : (f i j : ℕ) → s'.locals.reported f j i ≡ s.locals.reported f j i + rise f i j
  unfolding rise
  reported_rises f i j = rw (
    cond_raise (is₂ f₀ j₀ f j) (s.locals.reported f j i) (s.locals.received f j i) (inv.reported_most f j i),
    on-is₂ (λ f j. s.locals.received f j i - s.locals.reported f j i) f₀ j₀ f j,
  )

  reports_rise : (f i j : ℕ) → reports s' f i j ≡ reports s f i j + rise f i j
  unfolding rise
  reports_rise f i j = rises s₁ k m₀ free.range free.tag (λ m. is₂ m.finish m.from f j) (λ m. m.counts i) (omega arith)

  counted : C.Counted s'
  counted f i j p l d = omega (arith, inv.counted f i j p l d, reported_rises f i j, reports_rise f i j)

  counted_denied : C.CountedDenied s'
  counted_denied f i j p l d = omega (arith, inv.counted_denied f i j p l d, reported_rises f i j, reports_rise f i j, W.answered_same s₁ k m₀ free.range f i j (other_tag s₁ k m₀ free.range free.tag 11 (omega arith) (λ q. omega arith)))

  reports_most : L.ReportsMost s'
  reports_most f i j l n = omega (arith, inv.reports_most f i j l n, reported_rises f i j, reports_rise f i j)

  reported_most : L.ReportedMost s'
  reported_most f j i = cond_cases (λ w. w ≤ s.locals.received f j i) (is₂ f₀ j₀ f j) (s.locals.received f j i) (s.locals.reported f j i) (λ _. omega arith) (λ _. inv.reported_most f j i)

  fresh_locals : M.FreshLocals s'
  fresh_locals f j i e =
      let r = ends.fresh_locals f j i e in
      (r.0, cond_cases (λ w. w ≡ 0) (is₂ f₀ j₀ f j) (s.locals.received f j i) (s.locals.reported f j i) (λ _. r.0) (λ _. r.1), r.2, r.3)

  elsewhere : (f j i : ℕ) → is₂ f₀ j₀ f j ≡ false → s'.locals.reported f j i ≡ s.locals.reported f j i
  elsewhere f j i e = rw e

  -- at the place itself the count is 0 now, and all that was received is reported
  pending : L.Pending s'
  pending f j h = bool_cases (is₂ f₀ j₀ f j)
      (λ e. absurd (let q = is₂_true f₀ j₀ f j e in let z : s.locals.live f j ≡ 1 = rw (q.0, q.1) at last in omega (arith, on_true (is₂ f₀ j₀ f j) 1 e)))
      (λ e. let r = inv.pending f j (omega arith) in (r.0, omega (arith, r.1, elsewhere f j r.0 e)))

  unreported : L.Unreported s'
  unreported f j i h = bool_cases (is₂ f₀ j₀ f j)
      (λ e. absurd (omega (arith, rw e at h)))
      (λ e. omega (arith, inv.unreported f j i (rw e at h), on_false (is₂ f₀ j₀ f j) 1 e))

  pub ends_last_keeps : Inv (end_last s t k)
  ends_last_keeps = let e = ends in let r = rest in let n = tasks in search (
    names_finish,
    names_places,
    report_counts,
    report_book,
    fresh_messages,
    fresh_locals,
    counted,
    counted_denied,
    reported_most,
    pending,
    unreported,
    reports_most,
  )
