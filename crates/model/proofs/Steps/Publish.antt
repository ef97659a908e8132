-- The deliver of publish (1) keeps the invariant: a book with the main task's count, under the nearest ancestor's; nothing was counted before.
use Rattle.std.specs.Prelude.{◌≡◌, refl, Bool, true, false, ℕ, ◌+◌, ◌≤◌, ◌<◌, eqb}
use Rattle.std.proofs.Common.{sym, ap, ◌∙◌, inl, inr, arith}
use Rattle.model.specs.Base.{upd, upd_same, upd_other, upd-cases, on, on_true, on_false, on-cases, is₂, is₃, is₂_same, is₂_true, is₂_false, is₃_false, is₃_true, sum_zero, eq_cases, bool_cases, both}
use Rattle.model.specs.State.{State, Message, with_slot}
use Rattle.model.specs.Weights.{weigh_out, mainly, ended}
use Rattle.model.specs.Messages.{published, tally, tally_is, tally_else, tally_away, tallied, tallied_moves, of_finish, between, reports, answered}
use Rattle.model.specs.Nesting.{Under, up, nearest-present, nearest_above, strictly_above, under_le}
use Rattle.model.specs.Guards.{Full, NearestBook}
use Rattle.model.specs.Effects.Closing.{Counts}
use Rattle.model.specs.Effects.Deliver.{deliver_publish}
use Rattle.model.proofs.Facts.{parent-le}
use Rattle.model.specs.Inv.{Inv}
use Rattle.model.specs.Inv.Messages as M
use Rattle.model.specs.Inv.Books as B
use Rattle.model.specs.Inv.Cells as C
use Rattle.model.specs.Inv.Locals as L
use Rattle.model.proofs.Facts.Alone.{alone_publish}
use Rattle.model.proofs.Facts.Climb.{passed}
use Rattle.model.proofs.Steps.Written as W
use Rattle.model.proofs.Steps.Reply.{Copies, Replied, named_same, replies}

module _ (s : State) (k q : ℕ) (inv : Inv s) (full : Full s k 1) (home_lives : s.dead (s.finishes.home (s.slot k).finish) ≡ false)
    (is-publishing : s.finishes.status (s.slot k).finish ≡ 2) (no_book : s.books.present (s.slot k).finish ≡ 0)
    (nearest : NearestBook s (s.slot k).finish q) where
  abbrev s' : State
  s' = deliver_publish s k q

  abbrev f₀ : ℕ
  f₀ = (s.slot k).finish

  abbrev h : ℕ
  h = s.finishes.home f₀

  abbrev m : Message
  m = published f₀ (s.slot k).task

  copies : Copies s k m
  copies _ = (omega arith, omega (arith, full.tag), omega (arith, full.tag), refl, refl)

  old_low : (s.slot k).tag ≤ 6
  old_low = omega (arith, full.tag)

  replied : Replied (with_slot (upd s.slot k m) s)
  replied = replies s k m inv full.range copies old_low

  other_tag : (x : ℕ) → 2 < x → W.Elsewhere s k m full.range x
  other_tag x l = ((λ e. omega (arith, full.tag)), (λ e. omega arith))

  made : (0 < f₀) × (f₀ ≤ s.finishes.made)
  made = inv.names_finish k full.range (omega (arith, full.tag))

  unpublished : s.finishes.published f₀ ≡ 0
  unpublished = (inv.publishing f₀ is-publishing).1

  -- a book of before is another, and is there still
  other_book : (f : ℕ) → s.books.present f ≡ 1 → f ≡ f₀ → ⊥
  other_book f p e = omega (arith, no_book, ap s.books.present e)

  keeps_book : (f : ℕ) → s.books.present f ≡ 1 → s'.books.present f ≡ 1
  keeps_book f p = upd-cases s.books.present (λ w. w ≡ 1) f₀ 1 f (λ _. refl) (λ _. p)

  no_book_before : (f : ℕ) → s'.books.present f ≡ 0 → s.books.present f ≡ 0
  no_book_before f = upd-cases s.books.present (λ w. w ≡ 0 → s.books.present f ≡ 0) f₀ 1 f (λ _ e. absurd (omega arith)) (λ _ e. e)

  -- what is to be shown of each present book
  by_book : (P : ℕ → Type 0) (f : ℕ) → s'.books.present f ≡ 1 → P f₀ → ((f ≡ f₀ → ⊥) → s.books.present f ≡ 1 → P f) → P f
  by_book P f p a b = eq_cases f f₀ (λ e. rw e a) (λ ne. b ne (rw (upd_other s.books.present f₀ 1 f ne) at p))

  -- the new book: 1 in the home's own cell, nothing asked, no ghost
  live-new : (i j : ℕ) → s'.books.live f₀ i j ≡ on (is₂ h h i j) 1
  live-new i j = rw (upd_same s.books.live)

  sent_new : (i j : ℕ) → s'.books.sent f₀ i j ≡ on (is₂ h h i j) 1
  sent_new i j = rw (upd_same s.books.sent)

  asked-new : (i j : ℕ) → s'.books.asked f₀ i j ≡ false
  asked-new i j = rw (upd_same s.books.asked)

  -- the others
  live_old : (f i j : ℕ) → (f ≡ f₀ → ⊥) → s'.books.live f i j ≡ s.books.live f i j
  live_old f i j ne = rw (upd_other s.books.live f₀ (λ i j. on (is₂ h h i j) 1) f ne)

  sent_old : (f i j : ℕ) → (f ≡ f₀ → ⊥) → s'.books.sent f i j ≡ s.books.sent f i j
  sent_old f i j ne = rw (upd_other s.books.sent f₀ (λ i j. on (is₂ h h i j) 1) f ne)

  asked_old : (f i j : ℕ) → (f ≡ f₀ → ⊥) → s'.books.asked f i j ≡ s.books.asked f i j
  asked_old f i j ne = rw (upd_other s.books.asked f₀ (λ i j. false) f ne)

  ghosts_same : (p g : ℕ) → s'.books.ghosts p g ≡ s.books.ghosts p g
  ghosts_same p g = eq_cases p f₀
      (λ e. rw (e, upd_same s.books.ghosts) (bool_cases (s.books.ghosts f₀ g) (λ t. absurd (omega (arith, no_book, (inv.ghost_made f₀ g t).2))) sym))
      (λ ne. rw (upd_other s.books.ghosts f₀ (λ g. false) p ne))

  -- an unpublished finish has no message of a tag above 2 but 9
  other_finish : (l : ℕ) → l < s.slots → 3 ≤ (s.slot l).tag → ((s.slot l).tag ≡ 9 → ⊥) → (s.slot l).finish ≡ f₀ → ⊥
  other_finish l b a n₉ e = omega (arith, unpublished, inv.fresh_messages l b a n₉, ap s.finishes.published e)

  silent : (t : ℕ) (b : Message → Bool) (n : Message → ℕ) → 3 ≤ t → (t ≡ 9 → ⊥) → ((l : ℕ) → b (s.slot l) ≡ true → (s.slot l).finish ≡ f₀) → tallied s t b n ≡ 0
  silent t b n a n₉ key = sum_zero s.slots (λ l. tally t (s.slot l) (b (s.slot l)) (n (s.slot l)))
      (λ l r. eq_cases (s.slot l).tag t
      (λ e. tally_away t (s.slot l) (b (s.slot l)) (n (s.slot l)) (bool_cases (b (s.slot l)) (λ d. absurd (other_finish l r (omega arith) (λ q. n₉ (sym e ∙ q)) (key l d))) (λ d. d)))
      (λ ne. tally_else t (s.slot l) (b (s.slot l)) (n (s.slot l)) ne))

  silent_between : (t i j : ℕ) → 3 ≤ t → (t ≡ 9 → ⊥) → between s' t f₀ i j ≡ 0
  silent_between t i j a n₉ = W.between_same s k m full.range t f₀ i j (other_tag t a)
      ∙ silent t (λ m. is₃ m.finish m.from m.to f₀ i j) (λ m. 1) a n₉ (λ l e. (is₃_true (s.slot l).finish (s.slot l).from (s.slot l).to f₀ i j e).0)

  silent_reports : (i j : ℕ) → reports s' f₀ i j ≡ 0
  silent_reports i j = W.reports_same s k m full.range f₀ i j (other_tag 7 (omega arith))
      ∙ silent 7 (λ m. is₂ m.finish m.from f₀ j) (λ m. m.counts i) (omega arith) (λ q. omega arith) (λ l e. (is₂_true (s.slot l).finish (s.slot l).from f₀ j e).0)

  silent_answers : (i j : ℕ) → answered s' f₀ i j ≡ 0
  silent_answers i j = W.answered_same s k m full.range f₀ i j (other_tag 11 (omega arith))
      ∙ silent 11 (λ m. is₃ m.finish m.from m.to f₀ i j) (λ m. m.number) (omega arith) (λ q. omega arith) (λ l e. (is₃_true (s.slot l).finish (s.slot l).from (s.slot l).to f₀ i j e).0)

  -- Messages
  names_pair : M.NamesPair s'
  names_pair = W.each s k m full.range (M.NamesPairOf s) inv.names_pair (λ a. absurd (omega arith))

  publishes : M.Publishes s'
  publishes l b = upd-cases s.slot (M.PublishesOf s') k m l (λ _ e. absurd (omega arith))
      (λ ne e.
      let r = inv.publishes l b e in
      let other = alone_publish s inv.publish_once k l full.range b ne (omega (arith, full.tag)) (omega (arith, full.tag)) (omega arith) (omega arith) in
      (upd_other s.books.present f₀ 1 (s.slot l).finish other ∙ r.0, r.1, r.2, r.3))

  new-published : M.PublishedOf s' m
  new-published _ = (upd_same s.books.present f₀ 1, home_lives, is-publishing, ((inv.publishes k full.range full.tag).2 home_lives).1)

  published_kept : M.Published s'
  published_kept = W.each s k m full.range (M.PublishedOf s') (λ l b e. let r = inv.published l b e in (keeps_book (s.slot l).finish r.0, r.1, r.2, r.3)) new-published

  -- one message of tag 2 in the stead of one of tag 1
  of_same : (f : ℕ) → of_finish s' 1 f + of_finish s' 2 f ≡ of_finish s 1 f + of_finish s 2 f
  of_same f = omega (
    arith,
    tallied_moves s k m full.range 1 (λ m. eqb m.finish f) (λ m. 1),
    tally_is 1 (s.slot k) (eqb f₀ f) 1 full.tag,
    tally_else 1 m (eqb f₀ f) 1 (λ e. omega arith),
    tallied_moves s k m full.range 2 (λ m. eqb m.finish f) (λ m. 1),
    tally_else 2 (s.slot k) (eqb f₀ f) 1 (λ e. omega (arith, full.tag)),
    tally_is 2 m (eqb f₀ f) 1 refl,
  )

  publish_once : M.PublishOnce s'
  publish_once f = omega (arith, inv.publish_once f, of_same f)

  publish_some : M.PublishSome s'
  publish_some f e = omega (arith, inv.publish_some f e, of_same f)

  named_publish : M.NamedPublish s'
  named_publish x e = omega (
    arith,
    inv.named_publish x e,
    named_same s k m inv full.range copies old_low (omega arith) x,
    W.naming_same s k m full.range 3 x (other_tag 3 (omega arith)),
    W.naming_same s k m full.range 4 x (other_tag 4 (omega arith)),
    W.naming_same s k m full.range 5 x (other_tag 5 (omega arith)),
    W.naming_same s k m full.range 6 x (other_tag 6 (omega arith)),
  )

  named_transit : M.NamedTransit s'
  named_transit = W.named_transit s k m full.range (other_tag 3 (omega arith)) (other_tag 4 (omega arith)) (other_tag 5 (omega arith)) inv.named_transit

  transits : M.Transits s'
  transits = W.each s k m full.range (M.TransitsOf s') (λ l b a c d. let r = inv.transits l b a c d in (r.0, keeps_book (s.slot l).finish r.1)) (λ a. absurd (omega arith))

  lost_transits : M.LostTransits s'
  lost_transits = W.each s k m full.range (M.LostTransitsOf s) inv.lost_transits (λ a. absurd (omega arith))

  on_wire : M.OnWire s'
  on_wire = W.each s k m full.range (M.OnWireOf s) inv.on_wire (λ e. absurd (omega arith))

  late : M.Late s'
  late = W.each s k m full.range (M.LateOf s') (λ l b e p. inv.late l b e (no_book_before (s.slot l).finish p)) (λ e. absurd (omega arith))

  report_book : M.ReportBook s'
  report_book = W.each s k m full.range (M.ReportBookOf s') (λ l b e d. keeps_book (s.slot l).finish (inv.report_book l b e d)) (λ e. absurd (omega arith))

  release_some : M.ReleaseSome s'
  release_some f e = rw (upd_other s.books.present f₀ 1 f (λ p. omega (arith, ap s.finishes.status p))) (replied.release_some f e)

  -- no book of f₀ was or is adopted
  adopts_same : (p g : ℕ) → on (is₃ (s'.books.present g) (s'.books.adopted g) (s'.books.parent g) 1 1 p) 1 ≡ on (is₃ (s.books.present g) (s.books.adopted g) (s.books.parent g) 1 1 p) 1
  adopts_same p g = eq_cases g f₀
      (λ e. rw e (
      on_false (is₃ (s'.books.present f₀) (s'.books.adopted f₀) (s'.books.parent f₀) 1 1 p) 1
      (is₃_false (s'.books.present f₀) (s'.books.adopted f₀) (s'.books.parent f₀) 1 1 p (λ _ a _. omega (arith, upd_same s.books.adopted f₀ 0)))
      ∙ sym (on_false (is₃ (s.books.present f₀) (s.books.adopted f₀) (s.books.parent f₀) 1 1 p) 1
      (is₃_false (s.books.present f₀) (s.books.adopted f₀) (s.books.parent f₀) 1 1 p (λ a _ _. omega (arith, no_book))))))
      (λ ne. rw (upd_other s.books.present f₀ 1 g ne, upd_other s.books.adopted f₀ 0 g ne, upd_other s.books.parent f₀ q g ne))

  ghosts : M.Ghosts s'
  ghosts p g = rw (ghosts_same p g) (omega (arith, replied.ghosts p g, adopts_same p g))

  ghost_made : M.GhostMade s'
  ghost_made p g e = let r = inv.ghost_made p g (sym (ghosts_same p g) ∙ e) in (r.0, r.1, keeps_book p r.2)

  ghost_ends : M.GhostEnds s'
  ghost_ends = W.each s k m full.range (M.GhostEndsOf s')
      (λ l b e.
      let r = inv.ghost_ends l b e in
      (r.0, upd_other s.books.present f₀ 1 (s.slot l).number (λ p. both r.0 (rw p home_lives)) ∙ r.1))
      (λ e. absurd (omega arith))

  asks : M.Asks s'
  asks = W.each s k m full.range (M.AsksOf s')
      (λ l b a.
      let r = inv.asks l b a in
      let ne = other_finish l b (omega arith) (λ q. omega arith) in
      (r.0, λ p. asked_old (s.slot l).finish (s.slot l).from (s.slot l).to ne ∙ r.1 (sym (upd_other s.books.present f₀ 1 (s.slot l).finish ne) ∙ p)))
      (λ a. absurd (omega arith))

  questions : M.Questions s'
  questions l b = upd-cases s.slot (M.QuestionsOf s') k m l (λ _ e. absurd (omega arith))
      (λ _ e.
      let r = inv.questions l b e in
      let ne = other_finish l b (omega arith) (λ q. omega arith) in (
        r.0,
        omega (arith, r.1, W.between_same s k m full.range 6 (s.slot l).finish (s.slot l).from (s.slot l).to (other_tag 6 (omega arith))),
        λ p. r.2 (sym (upd_other s.books.present f₀ 1 (s.slot l).finish ne) ∙ p) ∙ sym (sent_old (s.slot l).finish (s.slot l).from (s.slot l).to ne),
      ))

  fresh_messages : M.FreshMessages s'
  fresh_messages = W.each s k m full.range (M.FreshMessagesOf s) inv.fresh_messages (λ a. absurd (omega arith))

  fresh_book : M.FreshBook s'
  fresh_book f i j e p = by_book (λ f. (s'.books.sent f i j ≡ mainly s f i j) × (s'.books.live f i j ≤ mainly s f i j) × (s'.books.asked f i j ≡ false)) f p
      (sent_new i j, omega (arith, live-new i j), asked-new i j)
      (λ ne p₀. let r = inv.fresh_book f i j e p₀ in (sent_old f i j ne ∙ r.0, omega (arith, live_old f i j ne, r.1), asked_old f i j ne ∙ r.2))

  -- Books
  present_mark : B.PresentMark s'
  present_mark f = upd-cases s.books.present (λ w. w ≤ 1) f₀ 1 f (λ _. omega arith) (λ _. inv.present_mark f)

  due_mark : B.DueMark s'
  due_mark f = upd-cases s.books.due (λ w. w ≤ 1) f₀ 0 f (λ _. omega arith) (λ _. inv.due_mark f)

  adopted_mark : B.AdoptedMark s'
  adopted_mark f = upd-cases s.books.adopted (λ w. w ≤ 1) f₀ 0 f (λ _. omega arith) (λ _. inv.adopted_mark f)

  book_made : B.BookMade s'
  book_made f p = by_book (λ f. (0 < f) × (f ≤ s.finishes.made)) f p made (λ _. inv.book_made f)

  book_unreleased : B.BookUnreleased s'
  book_unreleased f p = by_book (λ f. s.finishes.status f ≡ 4 → ⊥) f p (λ e. omega arith) (λ _. inv.book_unreleased f)

  active_book : B.ActiveBook s'
  active_book f e = upd_other s.books.present f₀ 1 f (λ q. omega (arith, ap s.finishes.status q)) ∙ inv.active_book f e

  book_counts : B.BookCountsBut 0 s'
  book_counts f n p = by_book (Counts s') f p
      (inl (h, h, omega (arith, live-new h h, on_true (is₂ h h h h) 1 (is₂_same h h))))
      (λ ne p₀. more ne (inv.book_counts f n p₀))
    where
      more : (f ≡ f₀ → ⊥) → Counts s f → Counts s' f
      more ne (inl (i, j, c)) = inl (i, j, omega (arith, live_old f i j ne))
      more ne (inr (g, c)) = inr (g, ghosts_same f g ∙ c)

  due_column : B.DueColumn s'
  due_column f p d = eq_cases f f₀
      (λ e. absurd (omega (arith, upd_same s.books.due f₀ 0, rw e at d)))
      (λ ne.
      let r = inv.due_column f (rw (upd_other s.books.present f₀ 1 f ne) at p) (rw (upd_other s.books.due f₀ 0 f ne) at d) in
      (r.0, r.1, r.2, omega (arith, r.3, live_old f r.1 r.0 ne)))

  parent-new : s'.books.parent f₀ ≡ q
  parent-new = upd_same s.books.parent f₀ q

  parent_old : (f : ℕ) → (f ≡ f₀ → ⊥) → s'.books.parent f ≡ s.books.parent f
  parent_old f ne = upd_other s.books.parent f₀ q f ne

  q_below : q < f₀
  q_below = omega (arith, under_le (parent-le s inv) (nearest_above nearest), inv.finish_ranges f₀ made.0 made.1)

  book_parent : B.BookParent s'
  book_parent f p = by_book (λ f. (s'.books.parent f < f) × (0 < s'.books.parent f → s'.books.present (s'.books.parent f) ≡ 1)) f p
      (rw parent-new (q_below, λ z. keeps_book q (nearest-present nearest z)))
      (λ ne p₀. let r = inv.book_parent f p₀ in rw (parent_old f ne) (r.0, λ z. keeps_book (s.books.parent f) (r.1 z)))

  adopted_dead : B.AdoptedDead s'
  adopted_dead f a = eq_cases f f₀
      (λ e. absurd (omega (arith, upd_same s.books.adopted f₀ 0, rw e at a)))
      (λ ne. inv.adopted_dead f (rw (upd_other s.books.adopted f₀ 0 f ne) at a))

  orphans : B.Orphans s'
  orphans f p d = eq_cases f f₀
      (λ e. both (rw e at d) home_lives)
      (λ ne.
      let p₀ : s.books.present f ≡ 1 = rw (upd_other s.books.present f₀ 1 f ne) at p in
      let r = inv.orphans f p₀ d in
      rw (parent_old f ne, upd_other s.books.adopted f₀ 0 f ne, upd_other s.books.due f₀ 0 (s.books.parent f) (other_book (s.books.parent f) ((inv.book_parent f p₀).1 r.0))) r)

  book_above : B.BookAbove s'
  book_above f p = by_book (λ f. Under s.finishes.parent (s'.books.parent f) f) f p
      (rw parent-new (up (nearest_above nearest)))
      (λ ne p₀. rw (parent_old f ne) (inv.book_above f p₀))

  -- f₀ is publishing, and so is not skipped
  not_skipped : (f x : ℕ) → (s.dead (s.finishes.home f) ≡ false → s.finishes.status x ≡ 1) → (s.dead (s.finishes.home f) ≡ true → s.finishes.status x ≡ 5) → x ≡ f₀ → ⊥
  not_skipped f x a b e = bool_cases (s.dead (s.finishes.home f))
      (λ d. omega (arith, b d, ap s.finishes.status e))
      (λ d. omega (arith, a d, ap s.finishes.status e))

  skipped : B.Skipped s'
  skipped f x p u v n₁ n₂ = eq_cases f f₀
      (λ e.
      let ne : x ≡ f₀ → ⊥ = λ c. n₂ (c ∙ sym e) in
      let b = passed s inv h f₀ refl (record { low = omega arith; high = omega arith; home = refl }) nearest (strictly_above (rw e at u) ne) (rw (e, parent-new) at v) (λ c. n₁ (c ∙ sym (ap s'.books.parent e ∙ parent-new))) in
      rw (e, upd_other s.books.present f₀ 1 x ne) (b.home, b.published, b.absent, (λ _. b.active), λ d. both d home_lives))
      (λ ne.
      let r = inv.skipped f x (rw (upd_other s.books.present f₀ 1 f ne) at p) u (rw (parent_old f ne) at v) (λ c. n₁ (c ∙ sym (parent_old f ne))) n₂ in
      rw (upd_other s.books.present f₀ 1 x (not_skipped f x r.3 r.4)) r)

  -- Cells
  cell_places : C.CellPlaces s'
  cell_places f i j c = eq_cases f f₀
      (λ e. on-cases (is₂ h h i j) 1 (omega (arith, live-new i j, rw e at c))
      (λ d _. let r = is₂_true h h i j d in omega (arith, r.0, r.1, inv.finish_ranges f₀ made.0 made.1)))
      (λ ne. inv.cell_places f i j (omega (arith, live_old f i j ne)))

  counted : C.Counted s'
  counted f i j p l d = by_book (λ f. s.locals.denied f j i ≡ false → s'.books.live f i j + s.locals.reported f j i + ended s f i j ≡ s'.books.sent f i j + reports s' f i j) f p
      (λ _. omega (
        arith,
        live-new i j,
        sent_new i j,
        silent_reports i j,
        (inv.fresh_locals f₀ j i unpublished).1,
        weigh_out (is₂ h h i j) 3 5 (s.finishes.status f₀) (λ a _. omega arith),
      ))
      (λ ne p₀ d₀. omega (arith, replied.counted f i j p₀ l d₀, live_old f i j ne, sent_old f i j ne))
      d

  counted_denied : C.CountedDenied s'
  counted_denied f i j p l d = eq_cases f f₀
      (λ e. both (rw e at d) (inv.fresh_locals f₀ j i unpublished).3)
      (λ ne. omega (arith, replied.counted_denied f i j (rw (upd_other s.books.present f₀ 1 f ne) at p) l d, live_old f i j ne))

  no_answer : C.NoAnswer s'
  no_answer f i j p l d = eq_cases f f₀
      (λ e. rw e (silent_answers i j))
      (λ ne. replied.no_answer f i j (rw (upd_other s.books.present f₀ 1 f ne) at p) l d)

  marked : C.Marked s'
  marked f i j p l = by_book (λ f. on (s'.books.asked f i j) 1 ≡ between s' 10 f i j + on (s.locals.denied f j i) 1) f p
      (omega (
        arith,
        silent_between 10 i j (omega arith) (λ q. omega arith),
        on_false (s'.books.asked f₀ i j) 1 (asked-new i j),
        on_false (s.locals.denied f₀ j i) 1 (inv.fresh_locals f₀ j i unpublished).3,
      ))
      (λ ne p₀. rw (asked_old f i j ne) (replied.marked f i j p₀ l))

  asked_dead : C.AskedDead s'
  asked_dead f i j a = eq_cases f f₀
      (λ e. both (rw e at a) (asked-new i j))
      (λ ne. inv.asked_dead f i j (sym (asked_old f i j ne) ∙ a))

  sent_from : C.SentFrom s'
  sent_from f i j p a b = by_book (λ f. s'.books.sent f i j ≡ s.locals.received f j i + mainly s f i j + between s' 4 f i j + between s' 6 f i j) f p
      (omega (arith, sent_new i j, silent_between 4 i j (omega arith) (λ q. omega arith), silent_between 6 i j (omega arith) (λ q. omega arith), (inv.fresh_locals f₀ j i unpublished).0))
      (λ ne p₀. omega (arith, W.sent_from s k m full.range (other_tag 4 (omega arith)) (other_tag 6 (omega arith)) inv.sent_from f i j p₀ a b, sent_old f i j ne))

  sent_most : C.SentMost s'
  sent_most f i j p a = by_book (λ f. s.locals.received f j i + mainly s f i j + between s' 6 f i j ≤ s'.books.sent f i j) f p
      (omega (arith, sent_new i j, silent_between 6 i j (omega arith) (λ q. omega arith), (inv.fresh_locals f₀ j i unpublished).0))
      (λ ne p₀. omega (arith, W.sent_most s k m full.range (other_tag 6 (omega arith)) inv.sent_most f i j p₀ a, sent_old f i j ne))

  sent_book : C.SentBook s'
  sent_book f i j c = eq_cases f f₀
      (λ e. rw e (upd_same s.books.present f₀ 1))
      (λ ne. keeps_book f (inv.sent_book f i j (omega (arith, sent_old f i j ne))))

  sent_tasks_most : C.SentTasksMost s'
  sent_tasks_most f i j n =
      let r = W.sent_tasks_most s k m full.range (other_tag 3 (omega arith)) inv.sent_tasks_most f i j n in
      eq_cases f f₀
      (λ e. omega (arith, r, sent_new i j, ap (λ f. s'.books.sent f i j) e, on_false (is₂ h h i j) 1 (is₂_false h h i j (λ a b. n (sym a ∙ b)))))
      (λ ne. omega (arith, r, sent_old f i j ne))

  local_book : L.LocalBook s'
  local_book f j c = keeps_book f (inv.local_book f j c)

  pub delivers_publish_keeps : Inv (deliver_publish s k q)
  delivers_publish_keeps = let r = replied in search (
    names_pair,
    publishes,
    published_kept,
    publish_once,
    publish_some,
    transits,
    lost_transits,
    on_wire,
    late,
    named_publish,
    named_transit,
    report_book,
    release_some,
    ghosts,
    ghost_made,
    ghost_ends,
    asks,
    questions,
    fresh_messages,
    fresh_book,
    present_mark,
    due_mark,
    adopted_mark,
    book_made,
    book_unreleased,
    active_book,
    book_counts,
    due_column,
    book_parent,
    adopted_dead,
    orphans,
    book_above,
    skipped,
    cell_places,
    counted,
    counted_denied,
    no_answer,
    marked,
    asked_dead,
    sent_from,
    sent_most,
    sent_book,
    sent_tasks_most,
    local_book,
  )
