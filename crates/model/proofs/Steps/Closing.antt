-- The closing test keeps the invariant: what held but for the book of f holds whole.
use Rattle.std.specs.Prelude.{◌≡◌, refl, Bool, true, false, ℕ, ◌+◌, ◌≤◌, ◌<◌, eqb}
use Rattle.std.proofs.Common.{sym, ap, ◌∙◌, arith, eq-eqb, ne_eqb}
use Rattle.model.specs.Base.{upd, upd_same, upd_other, on, on_true, on_false, is₂, is₃, is₂_same, is₃_same, is₂_false, is₃_false, eq_cases, both}
use Rattle.model.specs.State.{State, Message, with_slot}
use Rattle.model.specs.Messages.{release, ghost_ended, of_finish, tallied, tally_is, tally_else, tallied_moves}
use Rattle.model.specs.Effects.Closing.{Closes, Counts, Closing, without_book, stays, ends_ghost, releases, vanishes}
use Rattle.model.specs.Inv.{Inv, InvBut}
use Rattle.model.specs.Inv.Messages as M
use Rattle.model.specs.Inv.Books.{BookCountsBut}
use Rattle.model.specs.Inv.Cells as C
use Rattle.model.proofs.Facts.{unreleased}
use Rattle.model.proofs.Facts.Closed.{over}
use Rattle.model.proofs.Steps.WithoutBook.{Cleared, clears}
use Rattle.model.proofs.Steps.Sent.{NoTask, NoReport, other_tag, no_task, no_report}
use Rattle.model.proofs.Steps.Written as W

module _ (s : State) (f : ℕ) (inv : InvBut f s) (present : s.books.present f ≡ 1) (closes : Closes s f) where
  abbrev s₁ : State
  s₁ = without_book f s

  cleared : Cleared s₁
  cleared = clears s f inv present closes

  -- the right side of M9 is as it was
  ghost_bit : (q g : ℕ) → on (s₁.books.ghosts q g) 1 ≡ on (s.books.ghosts q g) 1
  ghost_bit q g = eq_cases q f
      (λ e. rw (e, upd_same s.books.ghosts f (λ g. false), closes.1 g) refl)
      (λ ne. rw (upd_other s.books.ghosts f (λ g. false) q ne) refl)

  -- a child of q: another book is as it was, and f's is no child now
  child_same : (q g : ℕ) → (g ≡ f → ⊥) → on (is₃ (s₁.books.present g) (s₁.books.adopted g) (s₁.books.parent g) 1 1 q) 1 ≡ on (is₃ (s.books.present g) (s.books.adopted g) (s.books.parent g) 1 1 q) 1
  child_same q g ne = simp upd_other

  child_gone : (q g : ℕ) → g ≡ f → on (is₃ (s₁.books.present g) (s₁.books.adopted g) (s₁.books.parent g) 1 1 q) 1 ≡ 0
  child_gone q g e = on_false (is₃ (s₁.books.present g) (s₁.books.adopted g) (s₁.books.parent g) 1 1 q) 1
      (is₃_false (s₁.books.present g) (s₁.books.adopted g) (s₁.books.parent g) 1 1 q (λ p _ _. omega (arith, ap s₁.books.present e, upd_same s.books.present f 0)))

  -- not adopted: no child before either
  ghosts_unadopted : s.books.adopted f ≡ 0 → M.Ghosts s₁
  ghosts_unadopted a q g = eq_cases g f
      (λ e. omega (
        arith,
        inv.ghosts q g,
        ghost_bit q g,
        child_gone q g e,
        on_false (is₃ (s.books.present g) (s.books.adopted g) (s.books.parent g) 1 1 q) 1 (is₃_false (s.books.present g) (s.books.adopted g) (s.books.parent g) 1 1 q (λ _ p _. omega (arith, ap s.books.adopted e))),
      ))
      (λ ne. omega (arith, inv.ghosts q g, ghost_bit q g, child_same q g ne))

  -- M8, of another finish
  release_other : (g : ℕ) → (g ≡ f → ⊥) → s.finishes.status g ≡ 3 → of_finish s₁ 8 g + s₁.books.present g ≡ 1
  release_other g ne e = rw (upd_other s.books.present f 0 g ne) (inv.release_some g e)

  -- the home is dead: the finish is lost, and nothing is sent
  vanishes_keeps : s.books.adopted f ≡ 0 → s.dead (s.finishes.home f) ≡ true → Inv (without_book f s)
  vanishes_keeps a d = let c = cleared in search (release_some, ghosts_unadopted a)
    where
      release_some : M.ReleaseSome (without_book f s)
      release_some g e = eq_cases g f
          (λ q. both d (inv.waiting f (ap s.finishes.status (sym q) ∙ e)).0)
          (λ ne. release_other g ne e)

  -- a message of tag 8 or 9 in slot k
  module _ (k : ℕ) (in-range : k < s.slots) (free : (s.slot k).tag ≡ 0) (m : Message) (low : 8 ≤ m.tag) (high : m.tag ≤ 9)
      (named : (0 < m.finish) × (m.finish ≤ s.finishes.made)) (placeless : (m.from ≡ 0) × (m.to ≡ 0))
      (published : (m.tag ≡ 9 → ⊥) → s.finishes.published m.finish ≡ 1) (ends : M.GhostEndsOf s₁ m) (ghosts : M.Ghosts (with_slot (upd s.slot k m) s₁))
      (release_some : M.ReleaseSome (with_slot (upd s.slot k m) s₁)) (release_none : M.ReleaseNone (with_slot (upd s.slot k m) s₁)) where
    abbrev s₂ : State
    s₂ = with_slot (upd s.slot k m) s₁

    tasks : NoTask s₂
    tasks = let c = cleared in no_task s₁ k m in-range free (omega arith) (search c)

    reports : NoReport s₂
    reports = let c = cleared in no_report s₁ k m in-range free (λ q. omega arith) (λ q. omega arith) (search c)

    tags : M.Tags s₂
    tags = W.each s₁ k m in-range (M.TagsOf s₁) inv.tags (omega arith)

    names_finish : M.NamesFinish s₂
    names_finish = W.each s₁ k m in-range (M.NamesFinishOf s₁) inv.names_finish (λ _. named)

    names_places : M.NamesPlaces s₂
    names_places = W.each s₁ k m in-range (M.NamesPlacesOf s₁) inv.names_places (λ _. omega (arith, inv.places, placeless))

    ghost_ends : M.GhostEnds s₂
    ghost_ends = W.each s₁ k m in-range (M.GhostEndsOf s₁) cleared.ghost_ends ends

    asks : M.Asks s₂
    asks = W.each s₁ k m in-range (M.AsksOf s₁) cleared.asks (λ h. absurd (omega arith))

    fresh_messages : M.FreshMessages s₂
    fresh_messages = W.each s₁ k m in-range (M.FreshMessagesOf s₁) inv.fresh_messages (λ _. published)

    questions : M.Questions s₂
    questions = W.questions s₁ k m in-range (other_tag s₁ k m in-range free 6 (omega arith) (λ q. omega arith)) (other_tag s₁ k m in-range free 10 (omega arith) (λ q. omega arith)) cleared.questions

    marked : C.Marked s₂
    marked = W.marked s₁ k m in-range (other_tag s₁ k m in-range free 10 (omega arith) (λ q. omega arith)) cleared.marked

    sends_keeps : Inv (with_slot (upd s.slot k m) (without_book f s))
    sends_keeps = let c = cleared in let n = tasks in let r = reports in search (
      tags,
      names_finish,
      names_places,
      release_some,
      release_none,
      ghosts,
      ghost_ends,
      asks,
      questions,
      fresh_messages,
      marked,
    )

  -- what a message of tag t in the free slot k counts for
  module _ (k : ℕ) (in-range : k < s.slots) (free : (s.slot k).tag ≡ 0) where
    adds : (m : Message) (t : ℕ) (b : Message → Bool) → 0 < t → m.tag ≡ t → tallied (with_slot (upd s.slot k m) s₁) t b (λ m. 1) ≡ tallied s t b (λ m. 1) + on (b m) 1
    adds m t b z e = omega (arith, tallied_moves s k m in-range t b (λ m. 1), tally_else t (s.slot k) (b (s.slot k)) 1 (λ q. omega arith), tally_is t m (b m) 1 e)

    module _ (unadopted : s.books.adopted f ≡ 0) (lives : s.dead (s.finishes.home f) ≡ false) where
      waits : s.finishes.status f ≡ 3
      waits =
          let m = inv.book_made f present in
          omega (arith, over s inv f present closes, unreleased s inv f m.0 m.1 lives (inv.book_unreleased f present))

      released : (g : ℕ) → of_finish (with_slot (upd s.slot k (release f)) s₁) 8 g ≡ of_finish s 8 g + on (eqb f g) 1
      released g = adds (release f) 8 (λ m. eqb m.finish g) (omega arith) refl

      releases_keeps : Inv (with_slot (upd s.slot k (release f)) (without_book f s))
      releases_keeps = sends_keeps k in-range free (release f) (omega arith) (omega arith) (inv.book_made f present) (refl, refl) (λ _. (inv.waiting f waits).1)
          (λ e. absurd (omega arith))
          (W.ghosts s₁ k (release f) in-range ((λ q. omega arith), (λ q. omega arith)) (ghosts_unadopted unadopted))
          (λ g e. eq_cases g f
          (λ q. omega (arith, released g, inv.release_some f waits, on_true (eqb f g) 1 (eq-eqb f g (sym q)), ap s₁.books.present q, upd_same s.books.present f 0, ap (λ x. of_finish s 8 x) q))
          (λ ne. omega (arith, released g, release_other g ne e, on_false (eqb f g) 1 (ne_eqb f g (λ q. ne (sym q))))))
          (λ g n. omega (arith, released g, inv.release_none g n, on_false (eqb f g) 1 (ne_eqb f g (λ q. n (ap s.finishes.status (sym q) ∙ waits)))))

    module _ (adopted : s.books.adopted f ≡ 1) where
      abbrev q₀ : ℕ
      q₀ = s.books.parent f

      dead_home : s.dead (s.finishes.home f) ≡ true
      dead_home = inv.adopted_dead f adopted

      child : (q g : ℕ) → g ≡ f → on (is₃ (s.books.present g) (s.books.adopted g) (s.books.parent g) 1 1 q) 1 ≡ on (is₂ q₀ f q g) 1
      child q g e = rw (e, present, adopted) (eq_cases q₀ q
          (λ p. rw p (on_true (is₃ 1 1 q 1 1 q) 1 (is₃_same 1 1 q) ∙ sym (on_true (is₂ q f q f) 1 (is₂_same q f))))
          (λ n. on_false (is₃ 1 1 q₀ 1 1 q) 1 (is₃_false 1 1 q₀ 1 1 q (λ _ _ p. n p)) ∙ sym (on_false (is₂ q₀ f q f) 1 (is₂_false q₀ f q f (λ p _. n p)))))

      ends_ghost_keeps : Inv (with_slot (upd s.slot k (ghost_ended q₀ f)) (without_book f s))
      ends_ghost_keeps = sends_keeps k in-range free (ghost_ended q₀ f) (omega arith) (omega arith)
          (omega (arith, (inv.orphans f present dead_home).0, (inv.book_parent f present).0, inv.book_made f present)) (refl, refl) (λ n. absurd (n refl))
          (λ _. (dead_home, upd_same s.books.present f 0))
          (λ q g. eq_cases g f
          (λ e. omega (arith, adds (ghost_ended q₀ f) 9 (λ m. is₂ m.finish m.number q g) (omega arith) refl, inv.ghosts q g, ghost_bit q g, child_gone q g e, child q g e))
          (λ ne. omega (arith, adds (ghost_ended q₀ f) 9 (λ m. is₂ m.finish m.number q g) (omega arith) refl, inv.ghosts q g, ghost_bit q g, child_same q g ne, on_false (is₂ q₀ f q g) 1 (is₂_false q₀ f q g (λ _ p. ne (sym p))))))
          (λ g e. eq_cases g f
          (λ q. both dead_home (inv.waiting f (ap s.finishes.status (sym q) ∙ e)).0)
          (λ ne. omega (arith, release_other g ne e, W.of_same s₁ k (ghost_ended q₀ f) in-range 8 g ((λ q. omega arith), (λ q. omega arith)))))
          (λ g n. omega (arith, inv.release_none g n, W.of_same s₁ k (ghost_ended q₀ f) in-range 8 g ((λ q. omega arith), (λ q. omega arith))))

-- a count or a ghost is left
stays_keeps : (s : State) (f : ℕ) → InvBut f s → Counts s f → Inv s
stays_keeps s f inv c = search book_counts
  where
    book_counts : BookCountsBut 0 s
    book_counts g _ p = eq_cases g f (λ q. rw q c) (λ ne. inv.book_counts g ne p)

-- the closing test of a present book
pub closing_keeps : {f k : ℕ} {s s' : State} → InvBut f s → s.books.present f ≡ 1 → Closing s f k s' → Inv s'
closing_keeps {f} {s = s} inv present (stays c) = stays_keeps s f inv c
closing_keeps {f} {k} {s = s} inv present (ends_ghost c a l e) = ends_ghost_keeps s f inv present c k l e a
closing_keeps {f} {k} {s = s} inv present (releases c a h l e) = releases_keeps s f inv present c k l e a h
closing_keeps {f} {s = s} inv present (vanishes c a h) = vanishes_keeps s f inv present c a h
