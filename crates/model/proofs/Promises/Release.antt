-- Release: once a finish is released, no task of it or of a finish nested in it, at any depth, is running or blocked, then or later.
use Rattle.std.specs.Prelude.{◌≡◌, ◌⊎◌, true, false, ℕ, ◌≤◌, ◌<◌}
use Rattle.std.proofs.Common.{ap, ◌∙◌, inl, inr, arith}
use Rattle.model.specs.Base.{eq_cases, bool_cases, strong}
use Rattle.model.specs.State.{State}
use Rattle.model.specs.Nesting.{Under, here, up, in_line, under_zero}
use Rattle.model.specs.Inv.{Inv}
use Rattle.model.proofs.Facts.{Open, parent_zero, parent_low, opener_made, opener-blocked, unreleased, busy_open}

module _ (s : State) (inv : Inv s) where
  -- what is open has nothing released above it
  abbrev Clear : ℕ → Type 0
  Clear g = g ≤ s.finishes.made → 0 < g → Open s g → (f : ℕ) → Under s.finishes.parent f g → s.finishes.status f ≡ 4 → ⊥

  no_zero : (f : ℕ) → f ≡ 0 → s.finishes.status f ≡ 4 → ⊥
  no_zero f e r = omega (arith, inv.finish_made f (omega arith))

  module _ (g : ℕ) (ih : (h : ℕ) → h < g → Clear h) (m : g ≤ s.finishes.made) where
    -- its home lives: the opener is a busy task of the parent
    lives : 1 < g → s.dead (s.finishes.home g) ≡ false → (s.finishes.status g ≡ 4 → ⊥) → (f : ℕ) → Under s.finishes.parent f (s.finishes.parent g) → s.finishes.status f ≡ 4 → ⊥
    lives h a n f u r =
        let w = unreleased s inv g (omega arith) m a n in
        let b = opener-blocked s inv g w.0 w.1 (opener_made s inv g h m).0 in
        let q = parent_low s inv g h m in
        let o = busy_open s inv (s.finishes.opener g) (omega arith) (omega arith) in
        ih (s.finishes.parent g) q.1 (omega arith) q.0 (rw (← (inv.opened g h m).2) at o) f u r

    -- its home is dead: it goes on at the book of its parent, and nothing between is released
    died : s.books.present g ≡ 1 → s.dead (s.finishes.home g) ≡ true → (f : ℕ) → Under s.finishes.parent f g → s.finishes.status f ≡ 4 → ⊥
    died p d f u r = go (in_line u (inv.book_above g p))
      where
        present : s.books.present (s.books.parent g) ≡ 1
        present = (inv.book_parent g p).1 (inv.orphans g p d).0

        go : Under s.finishes.parent f (s.books.parent g) ⊎ Under s.finishes.parent (s.books.parent g) f → ⊥
        go (inl v) = ih (s.books.parent g) (inv.book_parent g p).0 (omega (arith, m, (inv.book_parent g p).0)) (inv.orphans g p d).0 (inr present) f v r
        go (inr v) = eq_cases f (s.books.parent g)
            (λ e. inv.book_unreleased (s.books.parent g) present (rw e at r))
            (λ n. eq_cases f g (λ e. inv.book_unreleased g p (rw e at r)) (λ k. omega (arith, (inv.skipped g f p u v n k).4 d)))

    clear_one : 0 < g → Open s g → (f : ℕ) → Under s.finishes.parent f g → s.finishes.status f ≡ 4 → ⊥
    clear_one z (inl a) f here r = a.1 r
    clear_one z (inl a) f (up u) r = eq_cases g 1
        (λ e. no_zero f (under_zero (parent_zero s inv) (ap s.finishes.parent e ∙ inv.root.3) u) r)
        (λ n. lives (omega arith) a.0 a.1 f u r)
    clear_one z (inr p) f here r = inv.book_unreleased g p r
    clear_one z (inr p) f (up u) r = eq_cases g 1
        (λ e. no_zero f (under_zero (parent_zero s inv) (ap s.finishes.parent e ∙ inv.root.3) u) r)
        (λ n. bool_cases (s.dead (s.finishes.home g))
        (λ d. died p d f (up u) r)
        (λ a. lives (omega arith) a (inv.book_unreleased g p) f u r))

  clear : (g : ℕ) → Clear g
  clear = strong Clear clear_one

  -- in a released finish, and in any nested in it, no task is running or blocked
  pub released_idle : (f g t : ℕ) → s.finishes.status f ≡ 4 → Under s.finishes.parent f g → s.tasks.finish t ≡ g
      → 5 ≤ s.tasks.status t → s.tasks.status t ≤ 6 → ⊥
  released_idle f g t r u e l h =
      let b = inv.status_made t (omega arith) in
      let k = inv.task_ranges t b.0 b.1 in
      clear (s.tasks.finish t) k.3 k.2 (busy_open s inv t l h) f (rw (← e) at u) r
