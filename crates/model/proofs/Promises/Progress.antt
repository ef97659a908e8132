-- Progress: in a quiet session with no running task finish 1 is released.
use Rattle.std.specs.Prelude.{◌≡◌, refl, true, false, ℕ, suc, ◌+◌, ◌-◌, ◌≤◌, ◌<◌, eqb, ltb}
use Rattle.std.proofs.Common.{ap, ◌∙◌, inl, inr, arith, eqb-true, ltb-true, ltb-false}
use Rattle.model.specs.Base.{on_true, on_false, on-cases, is₂, is₃, is₂-cases, is₃_true, sum_some, sum_zero, bool_cases, eq_cases, strong}
use Rattle.model.specs.State.{State}
use Rattle.model.specs.Messages.{of_finish, naming, tallied-none}
use Rattle.model.specs.Weights.{weigh, weigh_in, weigh_out, weigh_some}
use Rattle.model.specs.Effects.Closing.{Counts}
use Rattle.model.specs.Inv.{Inv}
use Rattle.model.proofs.Facts.{Open, parent_low, unreleased, counted_busy}
use Rattle.model.specs.Quiet.{Quiet}
use Rattle.model.proofs.Promises.Quiet.{quiet_cells}

module _ (s : State) (inv : Inv s) (quiet : Quiet s) (still : (t : ℕ) → s.tasks.status t ≡ 5 → ⊥) where
  no_message : (t f : ℕ) → 0 < t → of_finish s t f ≡ 0
  no_message t f h = tallied-none s quiet.empty t (λ m. eqb m.finish f) (λ m. 1) h

  no_name : (t x : ℕ) → 0 < t → naming s t x ≡ 0
  no_name t x h = tallied-none s quiet.empty t (λ m. eqb m.task x) (λ m. 1) h

  -- no task waits
  no_waiter : (t : ℕ) → 1 ≤ s.tasks.status t → s.tasks.status t ≤ 2 → ⊥
  no_waiter t l h = eq_cases (s.tasks.status t) 1
      (λ e. omega (arith, inv.named_publish t e, no_name 1 t (omega arith), no_name 2 t (omega arith)))
      (λ n. omega (arith, inv.named_transit t (omega arith), no_name 3 t (omega arith), no_name 4 t (omega arith), no_name 5 t (omega arith)))

  no_publishing : (g : ℕ) → s.finishes.status g ≡ 2 → ⊥
  no_publishing g e = omega (arith, inv.publish_some g e, no_message 1 g (omega arith), no_message 2 g (omega arith))

  -- nothing with a number from g on is open: by what is left above it
  abbrev Shut : ℕ → Type 0
  Shut n = (g : ℕ) → 0 < g → g ≤ s.finishes.made → s.finishes.made < g + n → Open s g → ⊥

  module _ (n : ℕ) (ih : (m : ℕ) → m < n → Shut m) (g : ℕ) (pos : 0 < g) (l : g ≤ s.finishes.made) (near : s.finishes.made < g + n) where
    above : (c : ℕ) → g < c → c ≤ s.finishes.made → Open s c → ⊥
    above c h k o = ih (n - 1) (omega arith) c (omega arith) k (omega arith) o

    -- a blocked task of g holds an open finish above g
    no_blocked : (t : ℕ) → s.tasks.status t ≡ 6 → s.tasks.finish t ≡ g → ⊥
    no_blocked t e f =
        let m = inv.status_made t (omega arith) in
        let none = sum_zero (suc s.tasks.made) (λ x. weigh (is₂ (s.tasks.sent x) (s.tasks.maker x) 1 t) 1 2 (s.tasks.status x))
        (λ x _. weigh_out (is₂ (s.tasks.sent x) (s.tasks.maker x) 1 t) 1 2 (s.tasks.status x) (no_waiter x)) in
        let r = sum_some (suc s.finishes.made) (λ c. weigh (eqb (s.finishes.opener c) t) 1 3 (s.finishes.status c))
        (omega (arith, inv.blocked t m.0, none, weigh_in true 6 6 (s.tasks.status t) (omega arith) (omega arith), on_true true 1 refl)) in
        held r.0 (weigh_some (eqb (s.finishes.opener r.0) t) 1 3 (s.finishes.status r.0) r.2)
      where
        held : (c : ℕ) → (eqb (s.finishes.opener c) t ≡ true) × (1 ≤ s.finishes.status c) × (s.finishes.status c ≤ 3) → ⊥
        held c w =
            let o = eqb-true (s.finishes.opener c) t w.0 in
            let b = inv.finish_made c (omega (arith, w.1)) in
            let m = inv.status_made t (omega arith) in
            eq_cases c 1
            (λ q. omega (arith, inv.root.2, ap s.finishes.opener q))
            (λ q.
            let one : 1 < c = omega arith in
            let p : s.finishes.parent c ≡ g = (inv.opened c one b.1).2 ∙ ap s.tasks.finish o ∙ f in
            above c (omega (arith, parent_low s inv c one b.1)) b.1
            (inl (home_alive c w.1 w.2, λ q. omega (arith, w.2))))
          where
            home_alive : (c : ℕ) → 1 ≤ s.finishes.status c → s.finishes.status c ≤ 3 → s.dead (s.finishes.home c) ≡ false
            home_alive c a b = eq_cases (s.finishes.status c) 1 (λ e. (inv.active c e).0) (λ x. eq_cases (s.finishes.status c) 2 (λ e. (inv.publishing c e).0) (λ y. (inv.waiting c (omega arith)).0))

    no_busy : (t : ℕ) → 5 ≤ s.tasks.status t → s.tasks.status t ≤ 6 → s.tasks.finish t ≡ g → ⊥
    no_busy t a b f = eq_cases (s.tasks.status t) 5 (still t) (λ x. no_blocked t (omega arith) f)

    no_active : s.finishes.status g ≡ 1 → ⊥
    no_active e = let a = inv.active g e in no_busy (s.finishes.main g) a.1 a.2 (inv.mains g pos l).0

    -- a cell that is left at a live place
    no_cell : (i j : ℕ) → s.books.present g ≡ 1 → s.dead j ≡ false → 0 < s.books.live g i j → ⊥
    no_cell i j p a v = bool_cases (ltb (s.locals.reported g j i) (s.locals.received g j i))
        (λ t. let b = counted_busy s inv g j (inv.unreported g j i (ltb-true (s.locals.reported g j i) (s.locals.received g j i) t)) in no_busy b.0 b.2 b.3 b.4)
        (λ t. at_home (ltb-false (s.locals.reported g j i) (s.locals.received g j i) t))
      where
        at_home : s.locals.received g j i ≤ s.locals.reported g j i → ⊥
        at_home u = is₂-cases (s.finishes.home g) (s.finishes.home g) i j
            (λ _ q.
            let w = unreleased s inv g pos l (rw q a) (inv.book_unreleased g p) in
            eq_cases (s.finishes.status g) 1 no_active (λ n₁.
            eq_cases (s.finishes.status g) 2 (no_publishing g) (λ n₂.
            omega (arith, quiet_cells s inv quiet g i j p a, weigh_in (is₂ (s.finishes.home g) (s.finishes.home g) i j) 3 5 (s.finishes.status g) (omega arith) (omega arith)))))
            (λ e. omega (arith, quiet_cells s inv quiet g i j p a, on_false (is₂ (s.finishes.home g) (s.finishes.home g) i j) 1 e))

    no_book : s.books.present g ≡ 1 → ⊥
    no_book p = go (inv.book_counts g (λ e. omega arith) p)
      where
        go : Counts s g → ⊥
        go (inl c) = bool_cases (s.dead c.1)
            (λ d. omega (arith, (quiet.repaired g p).columns c.1 c.0 d, c.2))
            (λ a. no_cell c.0 c.1 p a c.2)
        go (inr c) =
            let k = inv.ghost_made g c.0 c.1 in
            above c.0 k.0 k.1 (inr (on-cases (is₃ (s.books.present c.0) (s.books.adopted c.0) (s.books.parent c.0) 1 1 g) 1
            (omega (arith, inv.ghosts g c.0, on_true (s.books.ghosts g c.0) 1 c.1, tallied-none s quiet.empty 9 (λ m. is₂ m.finish m.number g c.0) (λ m. 1) (omega arith)))
            (λ t _. (is₃_true (s.books.present c.0) (s.books.adopted c.0) (s.books.parent c.0) 1 1 g t).0)))

    no_open : Open s g → ⊥
    no_open (inl a) =
        let r = unreleased s inv g pos l a.0 a.1 in
        eq_cases (s.finishes.status g) 1 no_active (λ n₁.
        eq_cases (s.finishes.status g) 2 (no_publishing g) (λ n₂.
        no_book (omega (arith, inv.release_some g (omega arith), no_message 8 g (omega arith)))))
    no_open (inr p) = no_book p

  shut : (n : ℕ) → Shut n
  shut = strong Shut no_open

  pub quiet-released : s.finishes.status 1 ≡ 4
  quiet-released = eq_cases (s.finishes.status 1) 4 (λ e. e)
      (λ n. absurd (shut s.finishes.made 1 (omega arith) inv.root.0 (omega arith) (inl (home_alive, n))))
    where
      home_alive : s.dead (s.finishes.home 1) ≡ false
      home_alive = bool_cases (s.dead (s.finishes.home 1)) (λ d. absurd (omega (arith, inv.dead_places (s.finishes.home 1) d, inv.root.1))) (λ a. a)
