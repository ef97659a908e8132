-- What the tests of a kill say: which tasks and finishes are lost, which books have adopt due, which messages vanish.
use Rattle.std.specs.Prelude.{◌≡◌, ◌⊎◌, Bool, ◌&&◌, ◌||◌, ℕ, ◌≤◌, ◌<◌}
use Rattle.std.proofs.Math.Path.{refl}
use Rattle.std.proofs.Common.{inl, inr}
use Rattle.std.proofs.Math.Bool.{true, false, cond, not}
use native.Mathlib.Omega.{arith}
use Rattle.std.proofs.Math.Dec.{eqb}
use borrow.Author.Tests.{eqb-true, eq-eqb, ne_eqb}
use Rattle.model.specs.Base.{sum, sum_ge, sum_some, eq_cases, both, and_left, and_right, or_cases, cond_cases}
use Rattle.model.specs.State.{Message}
use Rattle.model.specs.Messages.{goes_to}
use Rattle.model.specs.Effects.Kill.{loses_task, loses_finish, empty_column, due_after}

module _ (p from at status : ℕ) where
  -- a task that is lost was busy at the place, or waited and is from it
  pub loses_cases : {P : Type 0} → loses_task p from at status ≡ true → (5 ≤ status → status ≤ 6 → at ≡ p → P) → (1 ≤ status → status ≤ 2 → from ≡ p → P) → P
  unfolding loses_task
  loses_cases {P} e busy waits = or_cases ((eqb status 5 || eqb status 6) && eqb at p) ((eqb status 1 || eqb status 2) && eqb from p) e
      (λ b.
      let q = eqb-true at p (and_right (eqb status 5 || eqb status 6) (eqb at p) b) in
      or_cases (eqb status 5) (eqb status 6) (and_left (eqb status 5 || eqb status 6) (eqb at p) b)
      (λ v. let w = eqb-true status 5 v in busy (omega arith) (omega arith) q)
      (λ v. let w = eqb-true status 6 v in busy (omega arith) (omega arith) q))
      (λ b.
      let q = eqb-true from p (and_right (eqb status 1 || eqb status 2) (eqb from p) b) in
      or_cases (eqb status 1) (eqb status 2) (and_left (eqb status 1 || eqb status 2) (eqb from p) b)
      (λ v. let w = eqb-true status 1 v in waits (omega arith) (omega arith) q)
      (λ v. let w = eqb-true status 2 v in waits (omega arith) (omega arith) q))

  pub loses_busy : 5 ≤ status → status ≤ 6 → at ≡ p → loses_task p from at status ≡ true
  unfolding loses_task
  loses_busy l h q = eq_cases status 5
      (λ e. rw (e, eq-eqb at p q))
      (λ n. let e : status ≡ 6 = omega arith in rw (e, eq-eqb at p q))

  pub loses_waiting : 1 ≤ status → status ≤ 2 → from ≡ p → loses_task p from at status ≡ true
  unfolding loses_task
  loses_waiting l h q = eq_cases status 1
      (λ e. rw (e, eq-eqb from p q))
      (λ n. let e : status ≡ 2 = omega arith in rw (e, eq-eqb from p q))

module _ (p home status : ℕ) where
  pub loses_home : loses_finish p home status ≡ true → (home ≡ p) × (status ≡ 4 → ⊥)
  unfolding loses_finish
  loses_home e = (eqb-true home p (and_left (eqb home p) (not (eqb status 4)) e), λ q. both (and_right (eqb home p) (not (eqb status 4)) e) (rw (eq-eqb status 4 q)))

  pub loses_unreleased : home ≡ p → (status ≡ 4 → ⊥) → loses_finish p home status ≡ true
  unfolding loses_finish
  loses_unreleased q n = rw (eq-eqb home p q, ne_eqb status 4 n)

module _ (n present : ℕ) (live : ℕ → ℕ → ℕ) (due p : ℕ) where
  -- due after the kill was due before, or has a count in the column
  pub due_cases : {P : Type 0} → due_after n present live due p ≡ 1 → (due ≡ 1 → P) → ((i : ℕ) → 0 < live i p → P) → P
  unfolding due_after empty_column
  due_cases {P} e was new = cond_cases (λ w. w ≡ 1 → P) (eqb present 1 && not (eqb (sum n (λ i. live i p)) 0)) 1 due
      (λ b _. eq_cases (sum n (λ i. live i p)) 0
      (λ z. both (and_right (eqb present 1) (not (eqb (sum n (λ i. live i p)) 0)) b) (rw (eq-eqb (sum n (λ i. live i p)) 0 z)))
      (λ k. let r = sum_some n (λ i. live i p) (omega arith) in new r.0 r.2))
      (λ _ q. was q) e

  pub due_column : present ≡ 1 → (i : ℕ) → i < n → 0 < live i p → due_after n present live due p ≡ 1
  unfolding due_after empty_column
  due_column q i h l = rw (eq-eqb present 1 q, ne_eqb (sum n (λ i. live i p)) 0 (λ z. omega (arith, sum_ge n (λ i. live i p) i h)))

  pub due_stays : due ≡ 1 → due_after n present live due p ≡ 1
  unfolding due_after
  due_stays e = cond_cases (λ w. w ≡ 1) (eqb present 1 && not (empty_column n live p)) 1 due (λ _. refl) (λ _. e)

  pub due_most : due ≤ 1 → due_after n present live due p ≤ 1
  unfolding due_after
  due_most h = cond_cases (λ w. w ≤ 1) (eqb present 1 && not (empty_column n live p)) 1 due (λ _. omega arith) (λ _. h)

module _ (home : ℕ → ℕ) (m : Message) (p : ℕ) where
  -- a message that vanishes goes to the place
  goes-cases : {P : Type 0} → goes_to home m p ≡ true
      → (m.tag ≡ 2 → home m.finish ≡ p → P) → (m.tag ≡ 8 → home m.finish ≡ p → P) → (4 ≤ m.tag → m.tag ≤ 5 → m.from ≡ p → P)
      → (m.tag ≡ 6 → m.to ≡ p → P) → (m.tag ≡ 10 → m.to ≡ p → P) → P
  unfolding goes_to
  goes-cases {P} e two eight four six ten = go (eqb m.tag 2) refl (eqb m.tag 8) refl (eqb m.tag 4) refl (eqb m.tag 5) refl (eqb m.tag 6) refl (eqb m.tag 10) refl e
    where
      go : (a : Bool) → eqb m.tag 2 ≡ a → (b : Bool) → eqb m.tag 8 ≡ b → (c : Bool) → eqb m.tag 4 ≡ c → (d : Bool) → eqb m.tag 5 ≡ d
          → (g : Bool) → eqb m.tag 6 ≡ g → (h : Bool) → eqb m.tag 10 ≡ h
          → cond (a || b) (eqb (home m.finish) p) (cond (c || d) (eqb m.from p) (cond (g || h) (eqb m.to p) false)) ≡ true → P
      go true ea b eb c ec d ed g eg h eh q = two (eqb-true m.tag 2 ea) (eqb-true (home m.finish) p q)
      go false ea true eb c ec d ed g eg h eh q = eight (eqb-true m.tag 8 eb) (eqb-true (home m.finish) p q)
      go false ea false eb true ec d ed g eg h eh q = four (omega (arith, eqb-true m.tag 4 ec)) (omega (arith, eqb-true m.tag 4 ec)) (eqb-true m.from p q)
      go false ea false eb false ec true ed g eg h eh q = four (omega (arith, eqb-true m.tag 5 ed)) (omega (arith, eqb-true m.tag 5 ed)) (eqb-true m.from p q)
      go false ea false eb false ec false ed true eg h eh q = six (eqb-true m.tag 6 eg) (eqb-true m.to p q)
      go false ea false eb false ec false ed false eg true eh q = ten (eqb-true m.tag 10 eh) (eqb-true m.to p q)
      go false ea false eb false ec false ed false eg false eh q = both q refl

  -- by its tag: to its finish's home, its from, its to; or to the store, which is no place
  pub going_home : goes_to home m p ≡ true → (4 ≤ m.tag → m.tag ≤ 6 → ⊥) → (m.tag ≡ 10 → ⊥) → home m.finish ≡ p
  going_home g n k = goes-cases g (λ _ q. q) (λ _ q. q) (λ l h _. absurd (n l (omega arith))) (λ e _. absurd (n (omega arith) (omega arith))) (λ e _. absurd (k e))

  pub going_from : goes_to home m p ≡ true → 4 ≤ m.tag → m.tag ≤ 5 → m.from ≡ p
  going_from g l h = goes-cases g (λ e _. absurd (omega arith)) (λ e _. absurd (omega arith)) (λ _ _ q. q) (λ e _. absurd (omega arith)) (λ e _. absurd (omega arith))

  pub going_to : goes_to home m p ≡ true → (m.tag ≡ 6) ⊎ (m.tag ≡ 10) → m.to ≡ p
  going_to g (inl t) = goes-cases g (λ e _. absurd (omega arith)) (λ e _. absurd (omega arith)) (λ _ h _. absurd (omega arith)) (λ _ q. q) (λ _ q. q)
  going_to g (inr t) = goes-cases g (λ e _. absurd (omega arith)) (λ e _. absurd (omega arith)) (λ _ h _. absurd (omega arith)) (λ _ q. q) (λ _ q. q)

  pub stored : goes_to home m p ≡ true → (m.tag ≡ 2 → ⊥) → (m.tag ≡ 8 → ⊥) → (4 ≤ m.tag → m.tag ≤ 6 → ⊥) → (m.tag ≡ 10 → ⊥) → ⊥
  stored g a b c d = goes-cases g (λ e _. a e) (λ e _. b e) (λ l h _. c l (omega arith)) (λ e _. c (omega arith) (omega arith)) (λ e _. d e)

  pub goes-home : (m.tag ≡ 2) ⊎ (m.tag ≡ 8) → home m.finish ≡ p → goes_to home m p ≡ true
  unfolding goes_to
  goes-home (inl e) q = rw (e, eq-eqb (home m.finish) p q)
  goes-home (inr e) q = rw (e, eq-eqb (home m.finish) p q)

  pub goes_from : 4 ≤ m.tag → m.tag ≤ 5 → m.from ≡ p → goes_to home m p ≡ true
  unfolding goes_to
  goes_from l h q = eq_cases m.tag 4
      (λ e. rw (e, eq-eqb m.from p q))
      (λ n. let e : m.tag ≡ 5 = omega arith in rw (e, eq-eqb m.from p q))

  pub goes_to_lem : (m.tag ≡ 6) ⊎ (m.tag ≡ 10) → m.to ≡ p → goes_to home m p ≡ true
  unfolding goes_to
  goes_to_lem (inl e) q = rw (e, eq-eqb m.to p q)
  goes_to_lem (inr e) q = rw (e, eq-eqb m.to p q)
