-- A book that passes the closing test leaves nothing behind: no busy task, no book below it, and of its messages only those of dead or denied senders.
use Rattle.std.specs.Prelude.{◌≡◌, refl, true, false, ℕ, ◌≤◌, ◌<◌}
use Rattle.std.proofs.Common.{sym, ap, ◌∙◌, arith}
use Rattle.model.specs.Base.{on_true, on_false, is₂, is₃, is₂_same, is₃_same, bool_cases, eq_cases}
use Rattle.model.specs.State.{State}
use Rattle.model.specs.Effects.Closing.{Closes}
use Rattle.model.specs.Inv.{InvBut}
use Rattle.model.proofs.Facts.{counted_busy, spawner-blocked}
use Rattle.model.proofs.Facts.InFlight.{tallied_ge}
use Rattle.model.proofs.Facts.Settled.{settled, no_flight, no_busy}
use Rattle.model.proofs.Facts.Openers.{held-parent}

module _ {c : ℕ} (s : State) (inv : InvBut c s) (f : ℕ) (present : s.books.present f ≡ 1) (closes : Closes s f) where
  idle : (t : ℕ) → 5 ≤ s.tasks.status t → s.tasks.status t ≤ 6 → s.tasks.finish t ≡ f → ⊥
  idle t l h e = no_busy s inv f present (s.tasks.at t) (inv.busy t l h) (λ i. closes.0 i (s.tasks.at t)) t l h e refl

  pub no_live : (j : ℕ) → 0 < s.locals.live f j → ⊥
  no_live j h = let r = counted_busy s inv f j h in idle r.0 r.2 r.3 r.4

  -- its main task is over: it waits for release, or is lost
  pub over : 3 ≤ s.finishes.status f
  over =
      let m = inv.book_made f present in
      let mine = (inv.mains f m.0 m.1).0 in
      eq_cases (s.finishes.status f) 1
      (λ e. let a = inv.active f e in absurd (idle (s.finishes.main f) a.1 a.2 mine))
      (λ n₁. eq_cases (s.finishes.status f) 2
      (λ e. let a = inv.publishing f e in absurd (idle (s.finishes.main f) (omega (arith, a.2)) (omega (arith, a.2)) mine))
      (λ n₂. omega (arith, inv.finish_statuses f m.0 m.1)))

  -- no book has this one for its parent
  pub no_child : (g : ℕ) → s.books.present g ≡ 1 → s.books.parent g ≡ f → ⊥
  no_child g p e =
      let pos : 0 < s.books.parent g = omega (arith, inv.book_made f present) in
      bool_cases (s.dead (s.finishes.home g))
      (λ d. eq_cases (s.books.adopted g) 0
      (λ z.
      let due : s.books.due f ≡ 1 = rw e at ((inv.orphans g p d).1 z) in
      let v = inv.due_column f present due in
      omega (arith, closes.0 v.1 v.0, v.3))
      (λ n.
      let one : s.books.adopted g ≡ 1 = omega (arith, inv.adopted_mark g) in
      let key : is₃ (s.books.present g) (s.books.adopted g) (s.books.parent g) 1 1 f ≡ true = rw (p, one, e) (is₃_same 1 1 f) in
      omega (arith, inv.ghosts f g, on_true (is₃ (s.books.present g) (s.books.adopted g) (s.books.parent g) 1 1 f) 1 key, on_false (s.books.ghosts f g) 1 (closes.1 g))))
      (λ a. let x = held-parent s inv g p pos a in idle x.task (omega (arith, x.status)) (omega (arith, x.status)) (x.finish ∙ e))

  -- its messages
  pub no_transit : (k : ℕ) → k < s.slots → 3 ≤ (s.slot k).tag → (s.slot k).tag ≤ 5 → (s.slot k).finish ≡ f → s.dead (s.slot k).from ≡ false → ⊥
  no_transit k h l m e a =
      let r = inv.transits k h l m a in
      let q = inv.names_task k h (omega arith) (omega arith) in
      let w = inv.sent_tasks (s.slot k).task q.2 in
      let b = spawner-blocked s inv (s.slot k).task q.2 (omega (arith, r.0)) (omega (arith, r.0)) in
      idle (s.tasks.maker (s.slot k).task) (omega arith) (omega arith) (sym w.2 ∙ q.3 ∙ e)

  pub no_published : (k : ℕ) → k < s.slots → (s.slot k).tag ≡ 2 → (s.slot k).finish ≡ f → ⊥
  no_published k h e q = let r = inv.published k h e in omega (arith, over, ap s.finishes.status q, r.2)

  pub no_report : (k : ℕ) → k < s.slots → (s.slot k).tag ≡ 7 → (s.slot k).finish ≡ f → s.dead (s.slot k).from ≡ false → ⊥
  no_report k h e q a =
      let j = (s.slot k).from in
      let c = inv.report_counts k h e in
      omega (
        arith,
        (settled s inv f present j a (λ i. closes.0 i j) c.0).1,
        tallied_ge s k 7 (λ m. is₂ m.finish m.from f j) (λ m. m.counts c.0) h e (rw q (is₂_same f j)),
        c.1,
      )

  pub late_denied : (k : ℕ) → k < s.slots → (s.slot k).tag ≡ 6 → (s.slot k).finish ≡ f → s.locals.denied f (s.slot k).to (s.slot k).from ≡ true
  late_denied k h e q =
      let i = (s.slot k).from in
      let j = (s.slot k).to in
      bool_cases (s.locals.denied f j i) (λ d. d)
      (λ d. absurd (omega (
        arith,
        no_flight s inv f present j (inv.on_wire k h e).1 (λ i. closes.0 i j) i d,
        tallied_ge s k 6 (λ m. is₃ m.finish m.from m.to f i j) (λ m. 1) h e (rw q (is₃_same f i j)),
      )))
