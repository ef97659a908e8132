-- A book that passes the closing test is cleared: the conjuncts that read store books, but for what the closing then sends.
use Rattle.std.specs.Prelude.{◌≡◌, refl, Bool, true, false, ℕ, ◌+◌, ◌≤◌, ◌<◌}
use Rattle.std.proofs.Common.{ap, ◌∙◌, arith}
use Rattle.model.specs.Base.{upd_same, upd_other, upd-cases, is₃, eq_cases, both}
use Rattle.model.specs.State.{State}
use Rattle.model.specs.Messages.{between}
use Rattle.model.specs.Weights.{tasks_with}
use Rattle.model.specs.Effects.Closing.{Closes, without_book}
use Rattle.model.specs.Inv.{InvBut}
use Rattle.model.specs.Inv.Messages as M
use Rattle.model.specs.Inv.Books as B
use Rattle.model.specs.Inv.Cells as C
use Rattle.model.specs.Inv.Locals as L
use Rattle.model.proofs.Facts.Closed.{over, no_live, no_child, no_transit, no_published, no_report, late_denied}

-- what is shown
pub record Cleared (s : State) : Type 0 where
  pub publishes : M.Publishes s
  pub published : M.Published s
  pub transits : M.Transits s
  pub late : M.Late s
  pub report_book : M.ReportBook s
  pub ghost_made : M.GhostMade s
  pub ghost_ends : M.GhostEnds s
  pub asks : M.Asks s
  pub questions : M.Questions s
  pub fresh_book : M.FreshBook s
  pub present_mark : B.PresentMark s
  pub due_mark : B.DueMark s
  pub adopted_mark : B.AdoptedMark s
  pub book_made : B.BookMade s
  pub book_unreleased : B.BookUnreleased s
  pub active_book : B.ActiveBook s
  pub book_counts : B.BookCountsBut 0 s
  pub due_column : B.DueColumn s
  pub book_parent : B.BookParent s
  pub adopted_dead : B.AdoptedDead s
  pub orphans : B.Orphans s
  pub book_above : B.BookAbove s
  pub skipped : B.Skipped s
  pub cell_places : C.CellPlaces s
  pub counted : C.Counted s
  pub counted_denied : C.CountedDenied s
  pub no_answer : C.NoAnswer s
  pub marked : C.Marked s
  pub asked_dead : C.AskedDead s
  pub sent_from : C.SentFrom s
  pub sent_most : C.SentMost s
  pub sent_book : C.SentBook s
  pub sent_tasks_most : C.SentTasksMost s
  pub local_book : L.LocalBook s

module _ (s : State) (f : ℕ) (inv : InvBut f s) (present : s.books.present f ≡ 1) (closes : Closes s f) where
  abbrev s' : State
  s' = without_book f s

  -- a book that is present is another, and was
  left : (g : ℕ) → s'.books.present g ≡ 1 → (g ≡ f → ⊥) × (s.books.present g ≡ 1)
  left g p = eq_cases g f
      (λ q. absurd (omega (arith, ap s'.books.present q, upd_same s.books.present f 0)))
      (λ ne. (ne, rw (upd_other s.books.present f 0 g ne) at p))

  -- a book that another conjunct says is present stays, if it is another
  stays : (g : ℕ) → (g ≡ f → ⊥) → s.books.present g ≡ 1 → s'.books.present g ≡ 1
  stays g ne p = rw (upd_other s.books.present f 0 g ne) p

  absent : (g : ℕ) → s.books.present g ≡ 0 → s'.books.present g ≡ 0
  absent g z = upd-cases s.books.present (λ w. w ≡ 0) f 0 g (λ _. refl) (λ _. z)

  -- the squares and the ghosts of another book
  live_same : (g : ℕ) → (g ≡ f → ⊥) → s'.books.live g ≡ s.books.live g
  live_same g ne = upd_other s.books.live f (λ i j. 0) g ne

  sent_same : (g : ℕ) → (g ≡ f → ⊥) → s'.books.sent g ≡ s.books.sent g
  sent_same g ne = upd_other s.books.sent f (λ i j. 0) g ne

  asked_same : (g : ℕ) → (g ≡ f → ⊥) → s'.books.asked g ≡ s.books.asked g
  asked_same g ne = upd_other s.books.asked f (λ i j. false) g ne

  ghosts_same : (g : ℕ) → (g ≡ f → ⊥) → s'.books.ghosts g ≡ s.books.ghosts g
  ghosts_same g ne = upd_other s.books.ghosts f (λ g. false) g ne

  publishes : M.Publishes s'
  publishes k h e = let r = inv.publishes k h e in (absent (s.slot k).finish r.0, r.1, r.2, r.3)

  published : M.Published s'
  published k h e = let r = inv.published k h e in (stays (s.slot k).finish (no_published s inv f present closes k h e) r.0, r.1, r.2, r.3)

  transits : M.Transits s'
  transits k h l m a = let r = inv.transits k h l m a in (r.0, stays (s.slot k).finish (λ q. no_transit s inv f present closes k h l m q a) r.1)

  late : M.Late s'
  late k h e p = eq_cases (s.slot k).finish f
      (λ q. rw q (late_denied s inv f present closes k h e q))
      (λ ne. inv.late k h e (rw (upd_other s.books.present f 0 (s.slot k).finish ne) at p))

  report_book : M.ReportBook s'
  report_book k h e a = stays (s.slot k).finish (λ q. no_report s inv f present closes k h e q a) (inv.report_book k h e a)

  ghost_made : M.GhostMade s'
  ghost_made q g e = eq_cases q f
      (λ x. both e (ap (λ y. s'.books.ghosts y g) x ∙ ap (λ (h : ℕ → Bool). h g) (upd_same s.books.ghosts f (λ g. false))))
      (λ ne.
      let r = inv.ghost_made q g (rw (upd_other s.books.ghosts f (λ g. false) q ne) at e) in
      (r.0, r.1, stays q ne r.2))

  ghost_ends : M.GhostEnds s'
  ghost_ends k h e = let r = inv.ghost_ends k h e in (r.0, absent (s.slot k).number r.1)

  asks : M.Asks s'
  asks k h l =
      let r = inv.asks k h l in
      (r.0, λ p. let o = left (s.slot k).finish p in rw (asked_same (s.slot k).finish o.0) (r.1 o.1))

  questions : M.Questions s'
  questions k h e =
      let r = inv.questions k h e in
      (r.0, r.1, λ p. let o = left (s.slot k).finish p in rw (sent_same (s.slot k).finish o.0) (r.2 o.1))

  fresh_book : M.FreshBook s'
  fresh_book g i j e p = let o = left g p in rw (sent_same g o.0, live_same g o.0, asked_same g o.0) (inv.fresh_book g i j e o.1)

  present_mark : B.PresentMark s'
  present_mark g = upd-cases s.books.present (λ w. w ≤ 1) f 0 g (λ _. omega arith) (λ _. inv.present_mark g)

  due_mark : B.DueMark s'
  due_mark g = upd-cases s.books.due (λ w. w ≤ 1) f 0 g (λ _. omega arith) (λ _. inv.due_mark g)

  adopted_mark : B.AdoptedMark s'
  adopted_mark g = upd-cases s.books.adopted (λ w. w ≤ 1) f 0 g (λ _. omega arith) (λ _. inv.adopted_mark g)

  book_made : B.BookMade s'
  book_made g p = inv.book_made g (left g p).1

  book_unreleased : B.BookUnreleased s'
  book_unreleased g p = inv.book_unreleased g (left g p).1

  active_book : B.ActiveBook s'
  active_book g e = upd_other s.books.present f 0 g (λ q. omega (arith, over s inv f present closes, ap s.finishes.status q)) ∙ inv.active_book g e

  book_counts : B.BookCountsBut 0 s'
  book_counts g _ p = let o = left g p in rw (live_same g o.0, ghosts_same g o.0) (inv.book_counts g o.0 o.1)

  due_column : B.DueColumn s'
  due_column g p e = let o = left g p in rw (live_same g o.0) (inv.due_column g o.1 (rw (upd_other s.books.due f 0 g o.0) at e))

  book_parent : B.BookParent s'
  book_parent g p =
      let o = left g p in
      let ne = o.0 in
      let r = inv.book_parent g o.1 in
      let child = no_child s inv f present closes g o.1 in
      rw (upd_other s.books.parent f 0 g ne) (r.0, λ z. stays (s.books.parent g) child (r.1 z))

  adopted_dead : B.AdoptedDead s'
  adopted_dead g = upd-cases s.books.adopted (λ w. w ≡ 1 → s.dead (s.finishes.home g) ≡ true) f 0 g (λ _ e. absurd (omega arith)) (λ _. inv.adopted_dead g)

  orphans : B.Orphans s'
  orphans g p d =
      let o = left g p in
      let ne = o.0 in
      let r = inv.orphans g o.1 d in
      let child = no_child s inv f present closes g o.1 in
      simp upd_other r

  book_above : B.BookAbove s'
  book_above g p = let o = left g p in let ne = o.0 in rw (upd_other s.books.parent f 0 g ne) (inv.book_above g o.1)

  skipped : B.Skipped s'
  skipped g x p u v n₁ n₂ =
      let o = left g p in
      let q = upd_other s.books.parent f 0 g o.0 in
      let r = inv.skipped g x o.1 u (rw q at v) (rw q at n₁) n₂ in
      (r.0, r.1, absent x r.2, r.3, r.4)

  cell_places : C.CellPlaces s'
  cell_places g i j = upd-cases s.books.live (λ l. 0 < l i j → (i < s.places) × (j < s.places)) f (λ i j. 0) g (λ _ h. absurd (omega arith)) (λ _. inv.cell_places g i j)

  counted : C.Counted s'
  counted g i j p a d = let o = left g p in rw (live_same g o.0, sent_same g o.0) (inv.counted g i j o.1 a d)

  counted_denied : C.CountedDenied s'
  counted_denied g i j p a d = let o = left g p in rw (live_same g o.0) (inv.counted_denied g i j o.1 a d)

  no_answer : C.NoAnswer s'
  no_answer g i j p a d = inv.no_answer g i j (left g p).1 a d

  marked : C.Marked s'
  marked g i j p a = let o = left g p in rw (asked_same g o.0) (inv.marked g i j o.1 a)

  asked_dead : C.AskedDead s'
  asked_dead g i j = upd-cases s.books.asked (λ a. a i j ≡ true → s.dead i ≡ true) f (λ i j. false) g (λ _ e. both e refl) (λ _. inv.asked_dead g i j)

  sent_from : C.SentFrom s'
  sent_from g i j p a b = let o = left g p in rw (sent_same g o.0) (inv.sent_from g i j o.1 a b)

  sent_most : C.SentMost s'
  sent_most g i j p a = let o = left g p in rw (sent_same g o.0) (inv.sent_most g i j o.1 a)

  sent_book : C.SentBook s'
  sent_book g i j h = eq_cases g f
      (λ q. absurd (omega (arith, ap (λ x. s'.books.sent x i j) q, ap (λ (h : ℕ → ℕ → ℕ). h i j) (upd_same s.books.sent f (λ i j. 0)))))
      (λ ne. stays g ne (inv.sent_book g i j (rw (upd_other s.books.sent f (λ i j. 0) g ne) at h)))

  sent_tasks_most : C.SentTasksMost s'
  sent_tasks_most g i j n = upd-cases s.books.sent (λ w. w i j + between s 3 g i j ≤ tasks_with s (λ t. is₃ (s.tasks.finish t) (s.tasks.from t) (s.tasks.at t) g i j) 2 8) f (λ i j. 0) g (λ _. omega (arith, inv.sent_tasks_most g i j n)) (λ _. inv.sent_tasks_most g i j n)

  local_book : L.LocalBook s'
  local_book g j h = stays g (λ q. no_live s inv f present closes j (rw q at h)) (inv.local_book g j h)

  pub clears : Cleared s'
  clears = search (
    publishes,
    published,
    transits,
    late,
    report_book,
    ghost_made,
    ghost_ends,
    asks,
    questions,
    fresh_book,
    present_mark,
    due_mark,
    adopted_mark,
    book_made,
    book_unreleased,
    active_book,
    book_counts,
    due_column,
    book_parent,
    adopted_dead,
    orphans,
    book_above,
    skipped,
    cell_places,
    counted,
    counted_denied,
    no_answer,
    marked,
    asked_dead,
    sent_from,
    sent_most,
    sent_book,
    sent_tasks_most,
    local_book,
  )
