-- A kill keeps the invariant: the cells of the dead place are in no equation any more, and every book that loses a child has a count in its column.
use Rattle.std.specs.Prelude.{◌≡◌, refl, true, false, ℕ, ◌≤◌, ◌<◌, eqb}
use Rattle.std.proofs.Common.{sym, ap, ◌∙◌, inl, inr, arith, eq-eqb, ne_eqb}
use Rattle.model.specs.Base.{is₂, is₂_false, is₃, sum, sum_ge, sum_some, eq_cases, both, cond_cases, strong}
use Rattle.model.specs.State.{State}
use Rattle.model.specs.Nesting.{Under, here, up}
use Rattle.model.specs.Weights.{weigh_off, ended}
use Rattle.model.specs.Effects.Kill.{kill}
use Rattle.model.specs.Inv.{Inv}
use Rattle.model.specs.Inv.Books as B
use Rattle.model.specs.Inv.Cells as C
use Rattle.model.specs.Inv.Locals as L
use Rattle.model.proofs.Facts.{parent_low}
use Rattle.model.proofs.Facts.Openers.{column_left}
use Rattle.model.proofs.Steps.Losses as D
use Rattle.model.proofs.Steps.KillRows.{Lives}
use Rattle.model.proofs.Steps.KillRows as K
use Rattle.model.proofs.Steps.KillMessages as M

module _ {s : State} {p : ℕ} (inv : Inv s) (place : Lives s p) where
  abbrev s' : State
  s' = kill s p

  due_mark : B.DueMark s'
  due_mark f = D.due_most s.places (s.books.present f) (s.books.live f) (s.books.due f) p (inv.due_mark f)

  book_unreleased : B.BookUnreleased s'
  book_unreleased f b e = inv.book_unreleased f b (K.finish_was inv place f 4 e (λ q. omega arith))

  active_book : B.ActiveBook s'
  active_book f e = inv.active_book f (K.finish_was inv place f 1 e (λ q. omega arith))

  due_column : B.DueColumn s'
  due_column f b e = D.due_cases s.places (s.books.present f) (s.books.live f) (s.books.due f) p e
      (λ w. let r = inv.due_column f b w in (r.0, r.1, K.dead_stays inv place r.0 r.2, r.3))
      (λ i l. (p, i, K.dead-here inv place p refl, l))

  adopted_dead : B.AdoptedDead s'
  adopted_dead f a = K.dead_stays inv place (s.finishes.home f) (inv.adopted_dead f a)

  -- finish 1 is above every finish, and is homed at 0; so a book with no parent is of a finish homed at 0
  root_above : (g : ℕ) → 0 < g → g ≤ s.finishes.made → Under s.finishes.parent 1 g
  root_above = strong (λ g. 0 < g → g ≤ s.finishes.made → Under s.finishes.parent 1 g) (λ g ih z l. eq_cases g 1
      (λ e. rw e here)
      (λ n. let q = parent_low s inv g (omega arith) l in up {g = g} (ih (s.finishes.parent g) q.1 q.0 (omega arith))))

  top_home : (g : ℕ) → s.books.present g ≡ 1 → s.books.parent g ≡ 0 → s.finishes.home g ≡ 0
  top_home g b e = eq_cases g 1
      (λ q. rw q inv.root.1)
      (λ n.
      let m = inv.book_made g b in
      let top : Under s.finishes.parent (s.books.parent g) 1 = rw e (up {g = 1} (rw inv.root.3 here)) in
      sym (inv.skipped g 1 b (root_above g m.0 m.1) top (λ q. omega arith) (λ q. n (sym q))).0 ∙ inv.root.1)

  -- a book whose home dies has a parent, with a count in that column, and so with adopt due
  orphaned : (g : ℕ) → s.books.present g ≡ 1 → s.finishes.home g ≡ p → (0 < s.books.parent g) × (s'.books.due (s.books.parent g) ≡ 1)
  orphaned g b q =
      let r = s.books.parent g in
      let z : 0 < r = eq_cases r 0 (λ e. absurd (omega (arith, place.above, top_home g b e))) (λ n. omega arith) in
      let column : ℕ → ℕ = λ i. s.books.live r i p in
      let some : 0 < sum s.places column = eq_cases (sum s.places column) 0
      (λ e. absurd (column_left s inv g b z (rw q place.alive) (λ i. eq_cases (s.books.live r i (s.finishes.home g)) 0 (λ w. w)
      (λ n. absurd (omega (arith, ap (s.books.live r i) q, sum_ge s.places column i (inv.cell_places r i (s.finishes.home g) (omega arith)).0))))))
      (λ n. omega arith) in
      let c = sum_some s.places column some in
      (z, D.due_column s.places (s.books.present r) (s.books.live r) (s.books.due r) p ((inv.book_parent g b).1 z) c.0 c.1 c.2)

  orphans : B.Orphans s'
  orphans g b d = eq_cases (s.finishes.home g) p
      (λ q. let r = orphaned g b q in (r.0, (λ _. r.1)))
      (λ n.
      let r = inv.orphans g b (K.dead_was inv place (s.finishes.home g) d n) in
      let q = s.books.parent g in
      (r.0, (λ a. D.due_stays s.places (s.books.present q) (s.books.live q) (s.books.due q) p (r.1 a))))

  skipped : B.Skipped s'
  skipped f x b u v n₁ n₂ =
      let r = inv.skipped f x b u v n₁ n₂ in
      let h = s.finishes.home f in (
        r.0,
        r.1,
        r.2,
        (λ a. let w = K.alive_was inv place h a in K.finish_kept inv place x (λ q. w.0 (sym r.0 ∙ q)) ∙ r.3 w.1),
        (λ d. eq_cases h p
            (λ q. K.finish_gone inv place x (r.0 ∙ q) (λ w. omega (arith, r.3 (rw q place.alive))))
            (λ n. K.lost_stays inv place x (r.4 (K.dead_was inv place h d n)))),
      )

  -- local books elsewhere are as they were
  received_same : (f j i : ℕ) → (j ≡ p → ⊥) → s'.locals.received f j i ≡ s.locals.received f j i
  received_same f j i n = rw (ne_eqb j p n)

  reported_same : (f j i : ℕ) → (j ≡ p → ⊥) → s'.locals.reported f j i ≡ s.locals.reported f j i
  reported_same f j i n = rw (ne_eqb j p n)

  denied_same : (f j i : ℕ) → (j ≡ p → ⊥) → s'.locals.denied f j i ≡ s.locals.denied f j i
  denied_same f j i n = rw (ne_eqb j p n)

  -- the home's own cell is lost with the home
  ended_same : (f i j : ℕ) → (j ≡ p → ⊥) → ended s' f i j ≡ ended s f i j
  ended_same f i j n =
      let h = s.finishes.home f in
      eq_cases h p
      (λ q.
      let off = is₂_false h h i j (λ _ e. n (sym e ∙ q)) in
      weigh_off (is₂ h h i j) 3 5 (s'.finishes.status f) off ∙ sym (weigh_off (is₂ h h i j) 3 5 (s.finishes.status f) off))
      (λ k. rw (K.finish_kept inv place f k) refl)

  counted : C.Counted s'
  counted f i j b a d =
      let w = K.alive_was inv place j a in
      omega (arith, inv.counted f i j b w.1 (sym (denied_same f j i w.0) ∙ d), reported_same f j i w.0, ended_same f i j w.0, M.reports_same inv place f i j)

  counted_denied : C.CountedDenied s'
  counted_denied f i j b a d =
      let w = K.alive_was inv place j a in
      omega (
        arith,
        inv.counted_denied f i j b w.1 (sym (denied_same f j i w.0) ∙ d),
        reported_same f j i w.0,
        received_same f j i w.0,
        ended_same f i j w.0,
        M.reports_same inv place f i j,
        M.answered_same inv place f i j,
      )

  no_answer : C.NoAnswer s'
  no_answer f i j b a d =
      let w = K.alive_was inv place j a in
      M.answered_same inv place f i j ∙ inv.no_answer f i j b w.1 (sym (denied_same f j i w.0) ∙ d)

  marked : C.Marked s'
  marked f i j b a =
      let w = K.alive_was inv place j a in
      rw (denied_same f j i w.0) (omega (arith, inv.marked f i j b w.1, M.to_same inv place 10 f i j (inr refl) w.0))

  asked_dead : C.AskedDead s'
  asked_dead f i j e = K.dead_stays inv place i (inv.asked_dead f i j e)

  sent_from : C.SentFrom s'
  sent_from f i j b a c =
      let w = K.alive_was inv place j a in
      let v = K.alive_was inv place i c in
      omega (arith, inv.sent_from f i j b w.1 v.1, received_same f j i w.0, M.granted_same inv place f i j v.0, M.to_same inv place 6 f i j (inl refl) w.0)

  sent_most : C.SentMost s'
  sent_most f i j b a =
      let w = K.alive_was inv place j a in
      omega (arith, inv.sent_most f i j b w.1, received_same f j i w.0, M.to_same inv place 6 f i j (inl refl) w.0)

  not_from_self : C.NotFromSelf s'
  not_from_self f j = cond_cases (λ w. w ≡ 0) (eqb j p) 0 (s.locals.received f j j) (λ _. refl) (λ _. inv.not_from_self f j)

  sent_tasks_most : C.SentTasksMost s'
  sent_tasks_most f i j n = omega (
    arith,
    inv.sent_tasks_most f i j n,
    M.transits_same inv place f i j,
    K.sent_stay inv place (λ t. is₃ (s.tasks.finish t) (s.tasks.from t) (s.tasks.at t) f i j),
  )

  -- what is counted at a place, it is not p
  pending : L.Pending s'
  pending f j h = eq_cases j p
      (λ q. absurd (omega (arith, rw (eq-eqb j p q) at h)))
      (λ n. let r = inv.pending f j (rw (ne_eqb j p n) at h) in (r.0, omega (arith, r.1, received_same f j r.0 n, reported_same f j r.0 n)))

  unreported : L.Unreported s'
  unreported f j i h = eq_cases j p
      (λ q. absurd (omega (arith, rw (eq-eqb j p q) at h)))
      (λ n. rw (ne_eqb j p n) (inv.unreported f j i (rw (ne_eqb j p n) at h)))

  reported_most : L.ReportedMost s'
  reported_most f j i = eq_cases j p
      (λ q. rw (eq-eqb j p q) (omega arith))
      (λ n. rw (ne_eqb j p n) (inv.reported_most f j i))

  reports_most : L.ReportsMost s'
  reports_most f i j a n =
      let w = K.alive_was inv place j a in
      omega (arith, inv.reports_most f i j w.1 n, reported_same f j i w.0, M.reports_same inv place f i j)

  denied_dead : L.DeniedDead s'
  denied_dead f j i = cond_cases (λ w. w ≡ true → s'.dead i ≡ true) (eqb j p) false (s.locals.denied f j i) (λ _ e. both e refl) (λ _ e. K.dead_stays inv place i (inv.denied_dead f j i e))

  local_book : L.LocalBook s'
  local_book f j = cond_cases (λ w. 0 < w → s.books.present f ≡ 1) (eqb j p) 0 (s.locals.live f j) (λ _ h. absurd (omega arith)) (λ _. inv.local_book f j)

  killed : Inv s'
  killed = let r = K.kill-rows inv place in let m = M.kill_messages inv place in search (
    due_mark,
    book_unreleased,
    active_book,
    due_column,
    adopted_dead,
    orphans,
    skipped,
    counted,
    counted_denied,
    no_answer,
    marked,
    asked_dead,
    sent_from,
    sent_most,
    not_from_self,
    sent_tasks_most,
    pending,
    unreported,
    reported_most,
    reports_most,
    denied_dead,
    local_book,
  )

pub kills_keeps : (s : State) (p : ℕ) → Inv s → 0 < p → p < s.places → s.dead p ≡ false → Inv (kill s p)
kills_keeps s p inv above in_session alive = killed inv (record { above = above; in_session = in_session; alive = alive })
