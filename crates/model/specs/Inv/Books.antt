-- Store books: their marks, their parents, and the finishes between.
use Rattle.std.specs.Prelude.{◌≡◌, true, false, ℕ, ◌≤◌, ◌<◌}
use Rattle.model.specs.State.{State}
use Rattle.model.specs.Nesting.{Under}
use Rattle.model.specs.Effects.Closing.{Counts}

-- Marks are 0 or 1.
abbrev pub PresentMark : State → Type 0
PresentMark s = (f : ℕ) → s.books.present f ≤ 1

abbrev pub DueMark : State → Type 0
DueMark s = (f : ℕ) → s.books.due f ≤ 1

abbrev pub AdoptedMark : State → Type 0
AdoptedMark s = (f : ℕ) → s.books.adopted f ≤ 1

-- K1: a present book's finish is made and not released.
abbrev pub BookMade : State → Type 0
BookMade s = (f : ℕ) → s.books.present f ≡ 1 → (0 < f) × (f ≤ s.finishes.made)

abbrev pub BookUnreleased : State → Type 0
BookUnreleased s = (f : ℕ) → s.books.present f ≡ 1 → s.finishes.status f ≡ 4 → ⊥

-- K1: an active finish has a book exactly when it is published.
abbrev pub ActiveBook : State → Type 0
ActiveBook s = (f : ℕ) → s.finishes.status f ≡ 1 → s.books.present f ≡ s.finishes.published f

-- K2: total > 0 or some ghost; but for the book of x, whose closing test is still to be made.
abbrev pub BookCountsBut : ℕ → State → Type 0
BookCountsBut x s = (f : ℕ) → (f ≡ x → ⊥) → s.books.present f ≡ 1 → Counts s f

-- K3: due → some dead place's column is not all 0.
abbrev pub DueColumn : State → Type 0
DueColumn s = (f : ℕ) → s.books.present f ≡ 1 → s.books.due f ≡ 1 → (v : ℕ) × (i : ℕ) × (s.dead v ≡ true) × (0 < s.books.live f i v)

-- K4: the book's parent is below it, and has a book if it is not 0.
abbrev pub BookParent : State → Type 0
BookParent s = (f : ℕ) → s.books.present f ≡ 1
    → (s.books.parent f < f) × (0 < s.books.parent f → s.books.present (s.books.parent f) ≡ 1)

-- K4: home alive: not adopted.
abbrev pub AdoptedDead : State → Type 0
AdoptedDead s = (f : ℕ) → s.books.adopted f ≡ 1 → s.dead (s.finishes.home f) ≡ true

-- K4: home dead: the parent is not 0, and either adopted (and, by M9, in its ghosts), or the parent's adopt is due.
abbrev pub Orphans : State → Type 0
Orphans s = (f : ℕ) → s.books.present f ≡ 1 → s.dead (s.finishes.home f) ≡ true
    → (0 < s.books.parent f) × (s.books.adopted f ≡ 0 → s.books.due (s.books.parent f) ≡ 1)

-- K5: the book's parent is above its finish (0 is above all).
abbrev pub BookAbove : State → Type 0
BookAbove s = (f : ℕ) → s.books.present f ≡ 1 → Under s.finishes.parent (s.books.parent f) f

-- K5: every finish strictly between f and its book's parent has f's home, is unpublished with no book, and has status 1 (home alive) or 5 (dead).
abbrev pub Skipped : State → Type 0
Skipped s = (f x : ℕ) → s.books.present f ≡ 1 → Under s.finishes.parent x f → Under s.finishes.parent (s.books.parent f) x
    → (x ≡ s.books.parent f → ⊥) → (x ≡ f → ⊥)
    → (s.finishes.home x ≡ s.finishes.home f) × (s.finishes.published x ≡ 0) × (s.books.present x ≡ 0)
    × (s.dead (s.finishes.home f) ≡ false → s.finishes.status x ≡ 1) × (s.dead (s.finishes.home f) ≡ true → s.finishes.status x ≡ 5)
