-- The climb from an open finish to the nearest ancestor with a store book: every finish on the way has its home, is unpublished and active.
use Rattle.std.specs.Prelude.{◌≡◌, refl, ℕ, ◌≤◌, ◌<◌}
use Rattle.std.proofs.Common.{sym, ap, ◌∙◌, arith}
use Rattle.model.specs.Base.{eq_cases}
use Rattle.model.specs.State.{State}
use Rattle.model.specs.Nesting.{Under, here, up, Nearest, none_above, found, higher, under_zero, under_le}
use Rattle.model.specs.Inv.{Inv}
use Rattle.model.proofs.Facts.{parent-le, parent_zero, opener-blocked, busy_counted, busy_main}
use Rattle.model.proofs.Facts.Publishing.{opens_none}

module _ (s : State) (inv : Inv s) where
  -- a blocked task of a finish with no book is its main task
  not_sent : (o y : ℕ) → s.tasks.finish o ≡ y → s.tasks.status o ≡ 6 → s.books.present y ≡ 0 → s.tasks.sent o ≡ 0
  not_sent o y of bl absent = eq_cases (s.tasks.sent o) 0 (λ e. e)
      (λ n.
      let made = inv.status_made o (omega arith) in
      let c = busy_counted s inv o (omega (arith, inv.task_ranges o made.0 made.1)) (omega arith) (omega arith) in
      absurd (omega (arith, inv.local_book (s.tasks.finish o) (s.tasks.at o) c, ap s.books.present of)))

  module _ (h : ℕ) where
    -- an open finish of home h
    pub record Link (g : ℕ) : Type 0 where
      pub low : 1 ≤ s.finishes.status g
      pub high : s.finishes.status g ≤ 3
      pub home : s.finishes.home g ≡ h

    -- a finish that the climb passes
    pub record Passed (y : ℕ) : Type 0 where
      pub home : s.finishes.home y ≡ h
      pub published : s.finishes.published y ≡ 0
      pub absent : s.books.present y ≡ 0
      pub active : s.finishes.status y ≡ 1

    one_up : (g y : ℕ) → y ≡ s.finishes.parent g → Link g → 0 < y → s.books.present y ≡ 0 → Passed y
    one_up g y e w z absent =
        let b = inv.finish_made g (omega (arith, w.low)) in
        let big : 1 < g = eq_cases g 1 (λ q. absurd (omega (arith, inv.root.3, ap s.finishes.parent q))) (λ n. omega (arith, b.0)) in
        let o = s.finishes.opener g in
        let op = inv.opened g big b.1 in
        let bl = opener-blocked s inv g w.low w.high op.0 in
        let of : s.tasks.finish o ≡ y = sym op.2 ∙ sym e in
        let made = inv.status_made o (omega (arith, bl)) in
        let is_main : s.tasks.sent o ≡ 0 = not_sent o y of bl absent in
        let k = inv.main_tasks o made.0 made.1 is_main in
        let r = busy_main s inv o is_main (omega (arith, bl)) (omega (arith, bl)) in
        let main_y : s.finishes.main y ≡ o = ap s.finishes.main (sym of) ∙ k.2 in
        let act : s.finishes.status y ≡ 1 = eq_cases (s.finishes.status y) 2
        (λ q. absurd (opens_none s inv y q g w.low w.high op.0 main_y))
        (λ n. omega (arith, r.1, r.2, ap s.finishes.status of)) in
        record {
          home = ap s.finishes.home (sym of) ∙ sym k.1 ∙ sym op.1 ∙ w.home;
          published = sym (inv.active_book y act) ∙ absent;
          absent = absent;
          active = act;
        }

    pub passed : {y q x : ℕ} (g : ℕ) → y ≡ s.finishes.parent g → Link g → Nearest s.finishes.parent s.books.present y q
        → Under s.finishes.parent x y → Under s.finishes.parent q x → (x ≡ q → ⊥) → Passed x
    passed g e w none_above u v ne = absurd (ne (under_zero (parent_zero s inv) refl u))
    passed g e w (found z p) u v ne = absurd (ne (omega (arith, under_le (parent-le s inv) u, under_le (parent-le s inv) v)))
    passed g e w (higher z p n) here v ne = one_up g _ e w z p
    passed g e w (higher {f} z p n) (up u) v ne = let b = one_up g f e w z p in passed f refl (record { low = omega (arith, b.active); high = omega (arith, b.active); home = b.home }) n u v ne
