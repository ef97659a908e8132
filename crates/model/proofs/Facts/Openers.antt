-- A finish between a book with a live home and its parent, or that parent, has a blocked task at that home: the openers between stand at one place.
use Rattle.std.specs.Prelude.{◌≡◌, refl, false, ℕ, ◌≤◌, ◌<◌}
use Rattle.std.proofs.Common.{sym, ap, ◌∙◌, arith}
use Rattle.model.specs.Base.{eq_cases}
use Rattle.model.specs.State.{State}
use Rattle.model.specs.Nesting.{Under, here, up, under_le, under_trans}
use Rattle.model.specs.Inv.{InvBut}
use Rattle.model.proofs.Facts.{parent-le, opener-blocked, unreleased, busy_counted}
use Rattle.model.proofs.Facts.Settled.{no_busy}

module _ {c : ℕ} (s : State) (inv : InvBut c s) (g : ℕ) (present : s.books.present g ≡ 1) (lives : s.dead (s.finishes.home g) ≡ false)
    (x : ℕ) (pos : 0 < x) (below : Under s.finishes.parent (s.books.parent g) x) where
  -- a blocked task of x at the book's home
  pub record Held : Type 0 where
    pub task : ℕ
    pub status : s.tasks.status task ≡ 6
    pub finish : s.tasks.finish task ≡ x
    pub at : s.tasks.at task ≡ s.finishes.home g

  -- what the climb carries: y is g or between g and x, homed as g is, unreleased
  abbrev Climbing : ℕ → Type 0
  Climbing y = Under s.finishes.parent y g → (y ≡ x → ⊥) → s.finishes.home y ≡ s.finishes.home g → 1 ≤ s.finishes.status y → s.finishes.status y ≤ 3 → Held

  one_up : (y : ℕ) → Under s.finishes.parent x (s.finishes.parent y) → Climbing (s.finishes.parent y) → Climbing y
  one_up y u rest v n e l h =
      let made : y ≤ s.finishes.made = omega (arith, under_le (parent-le s inv) v, inv.book_made g present) in
      let big : 1 < y = omega (arith, under_le (parent-le s inv) u, parent-le s inv y) in
      let o = inv.opened y big made in
      let b = opener-blocked s inv y l h o.0 in
      let a : s.tasks.at (s.finishes.opener y) ≡ s.finishes.home g = sym o.1 ∙ e in
      let up_one = under_trans (up here) v in
      let low = inv.finish_ranges y (omega arith) made in
      eq_cases (s.finishes.parent y) x
      (λ q. record { task = s.finishes.opener y; status = b; finish = sym o.2 ∙ q; at = a })
      (λ ne.
      let k = inv.skipped g (s.finishes.parent y) present up_one (under_trans below u)
      (λ q. ne (omega (arith, under_le (parent-le s inv) u, under_le (parent-le s inv) below)))
      (λ q. omega (arith, low.2, under_le (parent-le s inv) v)) in
      let st = k.3 lives in
      rest up_one ne k.0 (omega arith) (omega arith))

  climb : (y : ℕ) → Under s.finishes.parent x y → Climbing y
  climb y here = λ v n e l h. absurd (n refl)
  climb y (up u) = one_up y u (climb (s.finishes.parent y) u)

  -- x is g's book's parent, or a finish between
  pub held : Under s.finishes.parent x g → (x ≡ g → ⊥) → Held
  held above n =
      let m = inv.book_made g present in
      let w = unreleased s inv g m.0 m.1 lives (inv.book_unreleased g present) in
      climb g above here (λ q. n (sym q)) refl w.0 w.1

module _ {c : ℕ} (s : State) (inv : InvBut c s) (g : ℕ) (present : s.books.present g ≡ 1) (pos : 0 < s.books.parent g)
    (lives : s.dead (s.finishes.home g) ≡ false) where
  pub held-parent : Held s inv g present lives (s.books.parent g) pos here
  held-parent = held s inv g present lives (s.books.parent g) pos here (inv.book_above g present) (λ q. omega (arith, (inv.book_parent g present).0))

  -- K6: q not 0 and h(f) alive → column h(f) of q's book is not all 0
  pub column_left : ((i : ℕ) → s.books.live (s.books.parent g) i (s.finishes.home g) ≡ 0) → ⊥
  column_left z =
      let x = held-parent in
      no_busy s inv (s.books.parent g) ((inv.book_parent g present).1 pos) (s.finishes.home g) lives z
      x.task (omega (arith, x.status)) (omega (arith, x.status)) x.finish x.at

-- a finish whose main task runs and that is unpublished stands between no book with a live home and its parent
pub not_skipped : {c : ℕ} (s : State) (inv : InvBut c s) (g x : ℕ) → s.books.present g ≡ 1 → s.dead (s.finishes.home g) ≡ false
    → Under s.finishes.parent x g → Under s.finishes.parent (s.books.parent g) x → (x ≡ s.books.parent g → ⊥) → (x ≡ g → ⊥)
    → 0 < x → s.tasks.status (s.finishes.main x) ≡ 5 → ⊥
not_skipped s inv g x present lives above below n₁ n₂ pos runs =
    let w = held s inv g present lives x pos below above n₂ in
    let k = inv.skipped g x present above below n₁ n₂ in
    eq_cases (s.tasks.sent w.task) 0
    (λ z.
    let b = inv.status_made w.task (omega (arith, w.status)) in
    let m = inv.main_tasks w.task b.0 b.1 z in
    omega (arith, w.status, ap s.tasks.status (sym (ap s.finishes.main w.finish) ∙ m.2)))
    (λ n.
    let b = inv.status_made w.task (omega (arith, w.status)) in
    let one : s.tasks.sent w.task ≡ 1 = omega (arith, inv.task_ranges w.task b.0 b.1) in
    let r = busy_counted s inv w.task one (omega (arith, w.status)) (omega (arith, w.status)) in
    omega (arith, k.2, inv.local_book (s.tasks.finish w.task) (s.tasks.at w.task) r, ap s.books.present w.finish))
