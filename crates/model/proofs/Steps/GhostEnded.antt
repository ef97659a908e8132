-- Deliver of a ghost's end (9): the ghost removed keeps the invariant but for the closing test, and with it the whole.
use Rattle.std.specs.Prelude.{◌≡◌, refl, Bool, true, false, ℕ, ◌+◌, ◌<◌}
use Rattle.std.proofs.Common.{sym, ◌∙◌, inl, inr, arith}
use Rattle.model.specs.Base.{on, on_true, on_false, on-le, is₂, is₂_false, cond_cases, bool_cases, both}
use Rattle.model.specs.State.{State, with_ghosts}
use Rattle.model.specs.Messages.{none, tally_is, tally_else, tallied_moves, endings}
use Rattle.model.specs.Guards.{Full}
use Rattle.model.specs.Effects.Closing.{Closing, Counts}
use Rattle.model.specs.Effects.Deliver.{deliver_ghost_ended}
use Rattle.model.specs.Inv.{Inv, InvBut}
use Rattle.model.specs.Inv.Messages as M
use Rattle.model.specs.Inv.Books as B
use Rattle.model.proofs.Steps.Written as W
use Rattle.model.proofs.Steps.Emptied as D
use Rattle.model.proofs.Steps.Closing.{closing_keeps}

module _ (s : State) (k : ℕ) (inv : Inv s) (full : Full s k 9) where
  abbrev s' : State
  s' = deliver_ghost_ended s k

  abbrev q₀ : ℕ
  q₀ = (s.slot k).finish

  abbrev key : ℕ → ℕ → Bool
  key q g = is₂ (s.slot k).finish (s.slot k).number q g

  -- before the slot is emptied
  abbrev s₁ : State
  s₁ = with_ghosts s'.books.ghosts s

  other_tag : (t : ℕ) → 0 < t → (t ≡ 9 → ⊥) → W.Elsewhere s₁ k none full.range t
  other_tag t z n = ((λ q. n (sym q ∙ full.tag)), (λ q. omega arith))

  endings_fall : (q g : ℕ) → endings s' q g + on (key q g) 1 ≡ endings s q g
  endings_fall q g = omega (
    arith,
    tallied_moves s k none full.range 9 (λ m. is₂ m.finish m.number q g) (λ m. 1),
    tally_is 9 (s.slot k) (key q g) 1 full.tag,
    tally_else 9 none (is₂ 0 0 q g) 1 (λ q. omega arith),
  )

  -- the message and the bit go together
  ghosts : M.Ghosts s'
  ghosts q g = bool_cases (key q g)
      (λ e. rw e (omega (arith, inv.ghosts q g, endings_fall q g, on_true (key q g) 1 e, on-le (s.books.ghosts q g) 1, on_false false 1 refl)))
      (λ e. rw e (omega (arith, inv.ghosts q g, endings_fall q g, on_false (key q g) 1 e)))

  -- a ghost that is left was one
  left : (q g : ℕ) → s'.books.ghosts q g ≡ true → s.books.ghosts q g ≡ true
  left q g = cond_cases (λ b. b ≡ true → s.books.ghosts q g ≡ true) (key q g) false (s.books.ghosts q g) (λ _ e. both e refl) (λ _ e. e)

  ghost_made : M.GhostMade s'
  ghost_made q g e = inv.ghost_made q g (left q g e)

  book_counts : B.BookCountsBut q₀ s'
  book_counts f n p = go (inv.book_counts f (λ z. omega (arith, inv.book_made f p)) p)
    where
      go : Counts s f → Counts s' f
      go (inl c) = inl c
      go (inr c) = inr (c.0, rw (is₂_false q₀ (s.slot k).number f c.0 (λ q _. n (sym q))) c.1)

  pub removed : InvBut q₀ (deliver_ghost_ended s k)
  removed = search (
    ghosts,
    ghost_made,
    book_counts,
    D.lasts s₁ k full.range (search inv),
    D.release_none s₁ k full.range inv.release_none,
    D.places s₁ k full.range (omega (arith, full.tag)) (λ q. omega (arith, full.tag)) (λ q. omega (arith, full.tag)) (search inv),
    W.counted s₁ k none full.range (other_tag 7 (omega arith) (λ q. omega arith)) inv.counted,
    W.counted_denied s₁ k none full.range (other_tag 7 (omega arith) (λ q. omega arith)) (other_tag 11 (omega arith) (λ q. omega arith)) inv.counted_denied,
  )

  pub delivers_ghost_ended_keeps : {t : State} → s.books.present q₀ ≡ 1 → Closing (deliver_ghost_ended s k) q₀ k t → Inv t
  delivers_ghost_ended_keeps p c = closing_keeps removed p c
