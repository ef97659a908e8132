-- What follows from the invariant at once: parents fall, who is blocked by what, and where a busy task's finish stands.
pub mod Settled
pub mod Openers
pub mod Closed
pub mod InFlight
pub mod Publishing
pub mod Alone
pub mod Climb
use Rattle.std.specs.Prelude.{◌≡◌, refl, ◌⊎◌, true, false, ℕ, suc, ◌≤◌, ◌<◌, eqb, leb}
use Rattle.std.proofs.Common.{ap, inl, inr, arith, eq-eqb, leb-true, leb-false}
use Rattle.model.specs.Base.{on_true, is₂, is₃, is₂_same, is₃_same, is₃_true, sum_ge, sum_some, eq_cases, bool_cases, both}
use Rattle.model.specs.State.{State}
use Rattle.model.specs.Weights.{weigh, weigh_in, weigh_some}
use Rattle.model.specs.Inv.{InvBut}

module _ {c : ℕ} (s : State) (inv : InvBut c s) where
  -- parent numbers fall
  pub parent-le : (x : ℕ) → s.finishes.parent x ≤ x
  parent-le x = bool_cases (leb 1 x)
      (λ e. bool_cases (leb x s.finishes.made)
      (λ d. omega (arith, inv.finish_ranges x (leb-true 1 x e) (leb-true x s.finishes.made d)))
      (λ d. omega (arith, inv.blank_finishes x (λ _ m. omega (arith, leb-false x s.finishes.made d)))))
      (λ e. omega (arith, inv.blank_finishes x (λ l _. omega (arith, leb-false 1 x e))))

  pub parent_zero : s.finishes.parent 0 ≡ 0
  parent_zero = omega (arith, parent-le 0)

  -- an opened finish has an opener that is made, and a parent that is made and below it
  pub opener_made : (g : ℕ) → 1 < g → g ≤ s.finishes.made → (0 < s.finishes.opener g) × (s.finishes.opener g ≤ s.tasks.made)
  opener_made g h m = omega (arith, inv.opened g h m, inv.finish_ranges g (omega arith) m)

  pub parent_low : (g : ℕ) → 1 < g → g ≤ s.finishes.made → (0 < s.finishes.parent g) × (s.finishes.parent g < g)
  parent_low g h m =
      let o = opener_made g h m in
      omega (arith, inv.opened g h m, inv.task_ranges (s.finishes.opener g) o.0 o.1, inv.finish_ranges g (omega arith) m)

  -- an unreleased finish with a live home has status 1, 2 or 3
  pub unreleased : (g : ℕ) → 0 < g → g ≤ s.finishes.made → s.dead (s.finishes.home g) ≡ false → (s.finishes.status g ≡ 4 → ⊥) → (1 ≤ s.finishes.status g) × (s.finishes.status g ≤ 3)
  unreleased g l m a n = eq_cases (s.finishes.status g) 5
      (λ e. both (inv.lost g e).0 a)
      (λ k. omega (arith, inv.finish_statuses g l m))

  -- B, read from its right side: the opener of an unreleased finish is blocked, and so is the spawner of a waiting task
  one_reason : (b : ℕ) → 0 < weigh true 6 6 (s.tasks.status b) → s.tasks.status b ≡ 6
  one_reason b h = omega (arith, weigh_some true 6 6 (s.tasks.status b) h)

  pub opener-blocked : (g : ℕ) → 1 ≤ s.finishes.status g → s.finishes.status g ≤ 3 → 0 < s.finishes.opener g → s.tasks.status (s.finishes.opener g) ≡ 6
  opener-blocked g l h o =
      let b = s.finishes.opener g in
      one_reason b (omega (
        arith,
        inv.blocked b o,
        sum_ge (suc s.finishes.made) (λ f. weigh (eqb (s.finishes.opener f) b) 1 3 (s.finishes.status f)) g (omega (arith, inv.finish_made g (omega arith))),
        weigh_in (eqb b b) 1 3 (s.finishes.status g) l h,
        on_true (eqb b b) 1 (eq-eqb b b refl),
      ))

  pub spawner-blocked : (t : ℕ) → s.tasks.sent t ≡ 1 → 1 ≤ s.tasks.status t → s.tasks.status t ≤ 2 → s.tasks.status (s.tasks.maker t) ≡ 6
  spawner-blocked t e l h =
      let b = s.tasks.maker t in
      one_reason b (omega (
        arith,
        inv.blocked b (inv.sent_tasks t e).0,
        sum_ge (suc s.tasks.made) (λ x. weigh (is₂ (s.tasks.sent x) (s.tasks.maker x) 1 b) 1 2 (s.tasks.status x)) t (omega (arith, inv.sent_made t (omega arith))),
        weigh_in (is₂ (s.tasks.sent t) b 1 b) 1 2 (s.tasks.status t) l h,
        on_true (is₂ (s.tasks.sent t) b 1 b) 1 (rw e (is₂_same 1 b)),
      ))

  -- a busy sent task is counted in its local book, and so its finish has a store book
  pub busy_counted : (t : ℕ) → s.tasks.sent t ≡ 1 → 5 ≤ s.tasks.status t → s.tasks.status t ≤ 6 → 0 < s.locals.live (s.tasks.finish t) (s.tasks.at t)
  busy_counted t e l h =
      let f = s.tasks.finish t in
      let j = s.tasks.at t in
      omega (
        arith,
        inv.local_live f j,
        sum_ge (suc s.tasks.made) (λ x. weigh (is₃ (s.tasks.sent x) (s.tasks.finish x) (s.tasks.at x) 1 f j) 5 6 (s.tasks.status x)) t (omega (arith, inv.sent_made t (omega arith))),
        weigh_in (is₃ (s.tasks.sent t) f j 1 f j) 5 6 (s.tasks.status t) l h,
        on_true (is₃ (s.tasks.sent t) f j 1 f j) 1 (rw e (is₃_same 1 f j)),
      )

  -- what a local book counts is a busy sent task
  pub counted_busy : (f j : ℕ) → 0 < s.locals.live f j
      → (t : ℕ) × (t ≤ s.tasks.made) × (5 ≤ s.tasks.status t) × (s.tasks.status t ≤ 6) × (s.tasks.finish t ≡ f) × (s.tasks.at t ≡ j)
  counted_busy f j h =
      let r = sum_some (suc s.tasks.made) (λ x. weigh (is₃ (s.tasks.sent x) (s.tasks.finish x) (s.tasks.at x) 1 f j) 5 6 (s.tasks.status x)) (omega (arith, inv.local_live f j)) in
      let t = r.0 in
      let w = weigh_some (is₃ (s.tasks.sent t) (s.tasks.finish t) (s.tasks.at t) 1 f j) 5 6 (s.tasks.status t) r.2 in
      let k = is₃_true (s.tasks.sent t) (s.tasks.finish t) (s.tasks.at t) 1 f j w.0 in
      (t, omega (arith, r.1), w.1, w.2, k.1, k.2)

  -- a busy main task is at the live home of its finish, which is active or publishing
  pub busy_main : (t : ℕ) → s.tasks.sent t ≡ 0 → 5 ≤ s.tasks.status t → s.tasks.status t ≤ 6
      → (s.dead (s.finishes.home (s.tasks.finish t)) ≡ false) × (1 ≤ s.finishes.status (s.tasks.finish t)) × (s.finishes.status (s.tasks.finish t) ≤ 2)
  busy_main t e l h =
      let b = inv.status_made t (omega arith) in
      let k = inv.main_tasks t b.0 b.1 e in
      let f = s.tasks.finish t in
      let r = inv.task_ranges t b.0 b.1 in
      let is : s.tasks.status (s.finishes.main f) ≡ s.tasks.status t = ap s.tasks.status k.2 in
      let a : s.dead (s.finishes.home f) ≡ false = rw k.1 at (inv.busy t l h) in
      eq_cases (s.finishes.status f) 3
      (λ q. absurd (omega (arith, (inv.waiting f q).2)))
      (λ n. eq_cases (s.finishes.status f) 4
      (λ q. absurd (omega (arith, inv.released f q)))
      (λ n'. let w = unreleased f r.2 r.3 a n' in (a, w.0, omega (arith, w.1))))

-- not over yet: its home lives and has not seen it released, or it has a store book
abbrev pub Open : State → ℕ → Type 0
Open s g = ((s.dead (s.finishes.home g) ≡ false) × (s.finishes.status g ≡ 4 → ⊥)) ⊎ (s.books.present g ≡ 1)

-- a busy task's finish is not over
pub busy_open : {c : ℕ} (s : State) → InvBut c s → (t : ℕ) → 5 ≤ s.tasks.status t → s.tasks.status t ≤ 6 → Open s (s.tasks.finish t)
busy_open s inv t l h = eq_cases (s.tasks.sent t) 0
    (λ e. let r = busy_main s inv t e l h in inl (r.0, λ q. omega (arith, r.2)))
    (λ n.
    let b = inv.status_made t (omega arith) in
    let e : s.tasks.sent t ≡ 1 = omega (arith, inv.task_ranges t b.0 b.1) in
    inr (inv.local_book (s.tasks.finish t) (s.tasks.at t) (busy_counted s inv t e l h)))
