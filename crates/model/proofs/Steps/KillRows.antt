-- A kill keeps what the invariant says of rows and statuses: what was busy at the place, waited from it or was homed there is lost.
use Rattle.std.specs.Prelude.{◌≡◌, refl, Bool, true, false, ℕ, suc, ◌≤◌, ◌<◌, eqb, leb}
use Rattle.std.proofs.Common.{sym, ap, ◌∙◌, arith, eqb-true, eq-eqb, ne_eqb, leb-true, leb-false}
use Rattle.model.specs.Base.{upd_same, upd_other, upd-cases, alive_after, is₂, is₂-cases, is₃, is₃-cases, sum_ext, sum_mono, sum_zero, eq_cases, bool_cases, both, cond_cases}
use Rattle.model.specs.State.{State}
use Rattle.model.specs.Weights.{weigh, weigh_in, weigh_out, weigh_off, weigh-le, tasks_with}
use Rattle.model.specs.Effects.Kill.{kill, loses_task, loses_finish}
use Rattle.model.specs.Inv.{Inv}
use Rattle.model.specs.Inv.Rows.{DeadPlaces, TaskStatuses, MainStatuses, StatusMade, FinishStatuses, FinishMade}
use Rattle.model.specs.Inv.Statuses.{Active, Publishing, Waiting, Released, Lost, DeadHome, Busy, Waiters, LostTasks, FirstTask, FirstLost, Blocked}
use Rattle.model.specs.Inv.Locals.{LocalLive}
use Rattle.model.proofs.Steps.Losses.{loses_cases, loses_busy, loses_waiting, loses_home, loses_unreleased}

-- what is shown
pub record KilledRows (s : State) : Type 0 where
  pub dead_places : DeadPlaces s
  pub task_statuses : TaskStatuses s
  pub main_statuses : MainStatuses s
  pub status_made : StatusMade s
  pub finish_statuses : FinishStatuses s
  pub finish_made : FinishMade s
  pub active : Active s
  pub publishing : Publishing s
  pub waiting : Waiting s
  pub released : Released s
  pub lost : Lost s
  pub dead_home : DeadHome s
  pub busy : Busy s
  pub waiters : Waiters s
  pub lost_tasks : LostTasks s
  pub first_task : FirstTask s
  pub first_lost : FirstLost s
  pub blocked : Blocked s
  pub local_live : LocalLive s

-- a live place above 0
pub record Lives (s : State) (p : ℕ) : Type 0 where
  pub above : 0 < p
  pub in_session : p < s.places
  pub alive : s.dead p ≡ false

module _ {s : State} {p : ℕ} (inv : Inv s) (place : Lives s p) where
  abbrev s' : State
  s' = kill s p

  -- places: p is dead besides
  pub dead_stays : (x : ℕ) → s.dead x ≡ true → s'.dead x ≡ true
  dead_stays x d = upd-cases s.dead (λ w. w ≡ true) p true x (λ _. refl) (λ _. d)

  pub dead-here : (x : ℕ) → x ≡ p → s'.dead x ≡ true
  dead-here x q = rw q (upd_same s.dead p true)

  pub dead_was : (x : ℕ) → s'.dead x ≡ true → (x ≡ p → ⊥) → s.dead x ≡ true
  dead_was x d n = rw (upd_other s.dead p true x n) at d

  pub alive_was : (x : ℕ) → s'.dead x ≡ false → (x ≡ p → ⊥) × (s.dead x ≡ false)
  alive_was x a = alive_after s.dead p x a

  pub alive_stays : (x : ℕ) → (x ≡ p → ⊥) → s.dead x ≡ false → s'.dead x ≡ false
  alive_stays x n a = rw (upd_other s.dead p true x n) a

  -- tasks
  loses : ℕ → Bool
  loses t = loses_task p (s.tasks.from t) (s.tasks.at t) (s.tasks.status t)

  by_task : (P : ℕ → Type 0) (t : ℕ) → (loses t ≡ true → P 8) → (loses t ≡ false → P (s.tasks.status t)) → P (s'.tasks.status t)
  unfolding loses
  by_task P t a b = cond_cases P (loses_task p (s.tasks.from t) (s.tasks.at t) (s.tasks.status t)) 8 (s.tasks.status t) a b

  lost-cases : {P : Type 0} (t : ℕ) → loses t ≡ true
      → (5 ≤ s.tasks.status t → s.tasks.status t ≤ 6 → s.tasks.at t ≡ p → P) → (1 ≤ s.tasks.status t → s.tasks.status t ≤ 2 → s.tasks.from t ≡ p → P) → P
  unfolding loses
  lost-cases t e a b = loses_cases p (s.tasks.from t) (s.tasks.at t) (s.tasks.status t) e a b

  busy_other : (t : ℕ) → loses t ≡ false → 5 ≤ s.tasks.status t → s.tasks.status t ≤ 6 → s.tasks.at t ≡ p → ⊥
  unfolding loses
  busy_other t e l h q = both (loses_busy p (s.tasks.from t) (s.tasks.at t) (s.tasks.status t) l h q) e

  waiting_other : (t : ℕ) → loses t ≡ false → 1 ≤ s.tasks.status t → s.tasks.status t ≤ 2 → s.tasks.from t ≡ p → ⊥
  unfolding loses
  waiting_other t e l h q = both (loses_waiting p (s.tasks.from t) (s.tasks.at t) (s.tasks.status t) l h q) e

  pub kept : (t : ℕ) → (5 ≤ s.tasks.status t → s.tasks.status t ≤ 6 → s.tasks.at t ≡ p → ⊥) → (1 ≤ s.tasks.status t → s.tasks.status t ≤ 2 → s.tasks.from t ≡ p → ⊥)
      → s'.tasks.status t ≡ s.tasks.status t
  kept t a b = by_task (λ w. w ≡ s.tasks.status t) t (λ e. lost-cases t e (λ l h q. absurd (a l h q)) (λ l h q. absurd (b l h q))) (λ _. refl)

  pub gone_waiting : (t : ℕ) → 1 ≤ s.tasks.status t → s.tasks.status t ≤ 2 → s.tasks.from t ≡ p → s'.tasks.status t ≡ 8
  gone_waiting t l h q = by_task (λ w. w ≡ 8) t (λ _. refl) (λ e. absurd (waiting_other t e l h q))

  pub waiting_was : (t v : ℕ) → s'.tasks.status t ≡ v → 1 ≤ v → v ≤ 2 → (s.tasks.status t ≡ v) × (s.tasks.from t ≡ p → ⊥)
  waiting_was t v e l h = by_task (λ w. w ≡ v → (s.tasks.status t ≡ v) × (s.tasks.from t ≡ p → ⊥)) t
      (λ _ q. absurd (omega arith))
      (λ n q. (q, waiting_other t n (omega arith) (omega arith))) e

  pub ended_kept : (t v : ℕ) → s.tasks.status t ≡ v → 7 ≤ v → s'.tasks.status t ≡ v
  ended_kept t v e h = kept t (λ _ l _. omega arith) (λ _ l _. omega arith) ∙ e

  pub wire_kept : (t : ℕ) → s.tasks.status t ≡ 3 → s'.tasks.status t ≡ 3
  wire_kept t e = kept t (λ l _ _. omega arith) (λ _ l _. omega arith) ∙ e

  -- finishes
  abbrev loses_f : ℕ → Bool
  loses_f f = loses_finish p (s.finishes.home f) (s.finishes.status f)

  by_finish : (P : ℕ → Type 0) (f : ℕ) → (s.finishes.home f ≡ p → (s.finishes.status f ≡ 4 → ⊥) → P 5) → ((s.finishes.home f ≡ p → s.finishes.status f ≡ 4) → P (s.finishes.status f)) → P (s'.finishes.status f)
  by_finish P f a b = cond_cases P (loses_f f) 5 (s.finishes.status f)
      (λ e. let r = loses_home p (s.finishes.home f) (s.finishes.status f) e in a r.0 r.1)
      (λ e. b (λ q. eq_cases (s.finishes.status f) 4 (λ y. y) (λ n. both (loses_unreleased p (s.finishes.home f) (s.finishes.status f) q n) e)))

  -- one that is not lost has its status, and lives elsewhere unless it is released
  pub finish_was : (f v : ℕ) → s'.finishes.status f ≡ v → (v ≡ 5 → ⊥) → s.finishes.status f ≡ v
  finish_was f v e n = by_finish (λ w. w ≡ v → s.finishes.status f ≡ v) f (λ _ _ q. absurd (n (sym q))) (λ _ q. q) e

  pub home_other : (f v : ℕ) → s'.finishes.status f ≡ v → (v ≡ 5 → ⊥) → (v ≡ 4 → ⊥) → s.finishes.home f ≡ p → ⊥
  home_other f v e n m = by_finish (λ w. w ≡ v → s.finishes.home f ≡ p → ⊥) f (λ _ _ q _. n (sym q)) (λ k q h. m (sym q ∙ k h)) e

  pub finish_kept : (f : ℕ) → (s.finishes.home f ≡ p → ⊥) → s'.finishes.status f ≡ s.finishes.status f
  finish_kept f n = by_finish (λ w. w ≡ s.finishes.status f) f (λ q _. absurd (n q)) (λ _. refl)

  pub finish_gone : (f : ℕ) → s.finishes.home f ≡ p → (s.finishes.status f ≡ 4 → ⊥) → s'.finishes.status f ≡ 5
  finish_gone f q n = by_finish (λ w. w ≡ 5) f (λ _ _. refl) (λ k. absurd (n (k q)))

  pub lost_stays : (f : ℕ) → s.finishes.status f ≡ 5 → s'.finishes.status f ≡ 5
  lost_stays f e = by_finish (λ w. w ≡ 5) f (λ _ _. refl) (λ _. e)

  -- a finish homed at p is made
  home_made : (f : ℕ) → s.finishes.home f ≡ p → (0 < f) × (f ≤ s.finishes.made)
  home_made f q = bool_cases (leb 1 f)
      (λ e. bool_cases (leb f s.finishes.made)
      (λ d. (leb-true 1 f e, leb-true f s.finishes.made d))
      (λ d. absurd (omega (arith, inv.blank_finishes f (λ _ m. omega (arith, leb-false f s.finishes.made d))))))
      (λ e. absurd (omega (arith, inv.blank_finishes f (λ l _. omega (arith, leb-false 1 f e)))))

  -- main tasks are at home, and so is who spawned the first task of an unpublished finish
  main_at : (f : ℕ) → 0 < f → f ≤ s.finishes.made → s.tasks.at (s.finishes.main f) ≡ s.finishes.home f
  main_at f z l =
      let m = s.finishes.main f in
      let r = inv.finish_ranges f z l in
      let k = inv.mains f z l in
      rw k.0 at (inv.main_tasks m (omega (arith, r.1)) r.3 k.1).1

  pub first_from : (t : ℕ) → s.tasks.sent t ≡ 1 → s.finishes.published (s.tasks.finish t) ≡ 0 → (s.finishes.status (s.tasks.finish t) ≡ 5 → ⊥)
      → s.tasks.from t ≡ s.finishes.home (s.tasks.finish t)
  first_from t e u n =
      let m = inv.sent_made t (omega arith) in
      let r = inv.task_ranges t m.0 m.1 in
      (inv.sent_tasks t e).1 ∙ ap s.tasks.at (inv.first_task t e u n).2 ∙ main_at (s.tasks.finish t) r.2 r.3

  dead_places : DeadPlaces s'
  dead_places x = upd-cases s.dead (λ w. w ≡ true → (0 < x) × (x < s.places)) p true x (λ q _. omega arith) (λ _ d. inv.dead_places x d)

  task_statuses : TaskStatuses s'
  task_statuses t z l = by_task (λ w. (0 < w) × (w ≤ 8)) t (λ _. omega arith) (λ _. inv.task_statuses t z l)

  main_statuses : MainStatuses s'
  main_statuses t z l e = by_task (λ w. 5 ≤ w) t (λ _. omega arith) (λ _. inv.main_statuses t z l e)

  status_made : StatusMade s'
  status_made t = by_task (λ w. 0 < w → (0 < t) × (t ≤ s.tasks.made)) t
      (λ e _. lost-cases t e (λ l _ _. inv.status_made t (omega arith)) (λ l _ _. inv.status_made t (omega arith)))
      (λ _ h. inv.status_made t h)

  finish_statuses : FinishStatuses s'
  finish_statuses f z l = by_finish (λ w. (0 < w) × (w ≤ 5)) f (λ _ _. omega arith) (λ _. inv.finish_statuses f z l)

  finish_made : FinishMade s'
  finish_made f = by_finish (λ w. 0 < w → (0 < f) × (f ≤ s.finishes.made)) f (λ q _ _. home_made f q) (λ _ h. inv.finish_made f h)

  -- the main task of a finish that is homed elsewhere
  main_kept : (f : ℕ) → 0 < s.finishes.status f → (s.finishes.home f ≡ p → ⊥) → 5 ≤ s.tasks.status (s.finishes.main f) → s'.tasks.status (s.finishes.main f) ≡ s.tasks.status (s.finishes.main f)
  main_kept f z n l =
      let b = inv.finish_made f z in
      kept (s.finishes.main f) (λ _ _ q. n (sym (main_at f b.0 b.1) ∙ q)) (λ _ h _. omega arith)

  active : Active s'
  active f e =
      let k = inv.active f (finish_was f 1 e (λ q. omega arith)) in
      let n = home_other f 1 e (λ q. omega arith) (λ q. omega arith) in
      rw (main_kept f (omega (arith, finish_was f 1 e (λ q. omega arith))) n k.1) (alive_stays (s.finishes.home f) n k.0, k.1, k.2)

  publishing : Publishing s'
  publishing f e =
      let w = finish_was f 2 e (λ q. omega arith) in
      let k = inv.publishing f w in
      let n = home_other f 2 e (λ q. omega arith) (λ q. omega arith) in
      rw (main_kept f (omega arith) n (omega (arith, k.2))) (alive_stays (s.finishes.home f) n k.0, k.1, k.2)

  waiting : Waiting s'
  waiting f e =
      let k = inv.waiting f (finish_was f 3 e (λ q. omega arith)) in
      let n = home_other f 3 e (λ q. omega arith) (λ q. omega arith) in
      (alive_stays (s.finishes.home f) n k.0, k.1, ended_kept (s.finishes.main f) 7 k.2 (omega arith))

  released : Released s'
  released f e = ended_kept (s.finishes.main f) 7 (inv.released f (finish_was f 4 e (λ q. omega arith))) (omega arith)

  -- the main task of a finish homed at p has ended or is lost
  main_over : (f : ℕ) → s.finishes.home f ≡ p → 7 ≤ s'.tasks.status (s.finishes.main f)
  main_over f q =
      let b = home_made f q in
      let m = s.finishes.main f in
      let r = inv.finish_ranges f b.0 b.1 in
      let l = inv.main_statuses m (omega (arith, r.1)) r.3 (inv.mains f b.0 b.1).1 in
      by_task (λ w. 7 ≤ w) m (λ _. omega arith) (λ e. bool_cases (leb (s.tasks.status m) 6)
      (λ h. absurd (busy_other m e l (leb-true (s.tasks.status m) 6 h) (main_at f b.0 b.1 ∙ q)))
      (λ h. omega (arith, leb-false (s.tasks.status m) 6 h)))

  lost : Lost s'
  lost f e = eq_cases (s.finishes.home f) p
      (λ q. (dead-here (s.finishes.home f) q, main_over f q))
      (λ n.
      let k = inv.lost f (sym (finish_kept f n) ∙ e) in
      (dead_stays (s.finishes.home f) k.0, omega (arith, k.1, ended_kept (s.finishes.main f) (s.tasks.status (s.finishes.main f)) refl k.1)))

  dead_home : DeadHome s'
  dead_home f z l d = by_finish (λ w. 4 ≤ w) f (λ _ _. omega arith) (λ k. eq_cases (s.finishes.home f) p
      (λ q. omega (arith, k q))
      (λ n. inv.dead_home f z l (dead_was (s.finishes.home f) d n)))

  busy : Busy s'
  busy t = by_task (λ w. 5 ≤ w → w ≤ 6 → s'.dead (s.tasks.at t) ≡ false) t
      (λ _ _ h. absurd (omega arith))
      (λ e l h. alive_stays (s.tasks.at t) (busy_other t e l h) (inv.busy t l h))

  waiters : Waiters s'
  waiters t = by_task (λ w. 1 ≤ w → w ≤ 2 → s'.dead (s.tasks.from t) ≡ false) t
      (λ _ _ h. absurd (omega arith))
      (λ e l h. alive_stays (s.tasks.from t) (waiting_other t e l h) (inv.waiters t l h))

  lost_tasks : LostTasks s'
  lost_tasks t e a = by_task (λ w. w ≡ 8 → s'.dead (s.tasks.at t) ≡ true) t
      (λ y _. lost-cases t y
      (λ _ _ q. dead-here (s.tasks.at t) q)
      (λ _ _ q. absurd ((alive_was (s.tasks.from t) a).0 q)))
      (λ _ w. dead_stays (s.tasks.at t) (inv.lost_tasks t w (alive_was (s.tasks.from t) a).1)) e

  first_task : FirstTask s'
  first_task t e u n =
      let f = s.tasks.finish t in
      let n₀ : s.finishes.status f ≡ 5 → ⊥ = λ q. n (lost_stays f q) in
      let k = inv.first_task t e u n₀ in
      let away : s.finishes.home f ≡ p → ⊥ = λ q. n (finish_gone f q (λ w. omega (arith, k.0))) in
      (finish_kept f away ∙ k.0, kept t (λ l _ _. omega (arith, k.1)) (λ _ _ q. away (sym (first_from t e u n₀) ∙ q)) ∙ k.1, k.2)

  first_lost : FirstLost s'
  first_lost t e u q₅ =
      let f = s.tasks.finish t in
      eq_cases (s.finishes.status f) 5
      (λ w. ended_kept t 8 (inv.first_lost t e u w) (omega arith))
      (λ n.
      let k = inv.first_task t e u n in
      eq_cases (s.finishes.home f) p
      (λ q. gone_waiting t (omega (arith, k.1)) (omega (arith, k.1)) (first_from t e u n ∙ q))
      (λ away. absurd (n (sym (finish_kept f away) ∙ q₅))))

  -- B: who is made by b is from the place of b, and what is opened by b is homed there
  waiting_same : (b t : ℕ) → (s.tasks.at b ≡ p → ⊥)
      → weigh (is₂ (s.tasks.sent t) (s.tasks.maker t) 1 b) 1 2 (s'.tasks.status t) ≡ weigh (is₂ (s.tasks.sent t) (s.tasks.maker t) 1 b) 1 2 (s.tasks.status t)
  waiting_same b t n =
      let key = is₂ (s.tasks.sent t) (s.tasks.maker t) 1 b in
      is₂-cases (s.tasks.sent t) (s.tasks.maker t) 1 b
      (λ e m. by_task (λ w. weigh key 1 2 w ≡ weigh key 1 2 (s.tasks.status t)) t
      (λ y. lost-cases t y
      (λ l _ _. weigh_out key 1 2 8 (λ _ h. omega arith) ∙ sym (weigh_out key 1 2 (s.tasks.status t) (λ _ h. omega arith)))
      (λ _ _ q. absurd (n (ap s.tasks.at (sym m) ∙ sym (inv.sent_tasks t e).1 ∙ q))))
      (λ _. refl))
      (λ off. weigh_off key 1 2 (s'.tasks.status t) off ∙ sym (weigh_off key 1 2 (s.tasks.status t) off))

  waiting_none : (b t : ℕ) → s.tasks.at b ≡ p → weigh (is₂ (s.tasks.sent t) (s.tasks.maker t) 1 b) 1 2 (s'.tasks.status t) ≡ 0
  waiting_none b t q =
      let key = is₂ (s.tasks.sent t) (s.tasks.maker t) 1 b in
      is₂-cases (s.tasks.sent t) (s.tasks.maker t) 1 b
      (λ e m. by_task (λ w. weigh key 1 2 w ≡ 0) t
      (λ _. weigh_out key 1 2 8 (λ _ h. omega arith))
      (λ y. weigh_out key 1 2 (s.tasks.status t) (λ l h. waiting_other t y l h ((inv.sent_tasks t e).1 ∙ ap s.tasks.at m ∙ q))))
      (λ off. weigh_off key 1 2 (s'.tasks.status t) off)

  -- a finish that b opened is homed at the place of b
  opened-at : (b f : ℕ) → 0 < b → f ≤ s.finishes.made → s.finishes.opener f ≡ b → 0 < f → s.finishes.home f ≡ s.tasks.at b
  opened-at b f z l e h = eq_cases f 1
      (λ q. absurd (omega (arith, inv.root, ap s.finishes.opener q)))
      (λ n. (inv.opened f (omega arith) l).1 ∙ ap s.tasks.at e)

  opened_same : (b f : ℕ) → 0 < b → f ≤ s.finishes.made → (s.tasks.at b ≡ p → ⊥)
      → weigh (eqb (s.finishes.opener f) b) 1 3 (s'.finishes.status f) ≡ weigh (eqb (s.finishes.opener f) b) 1 3 (s.finishes.status f)
  opened_same b f z l n = bool_cases (eqb (s.finishes.opener f) b)
      (λ e. rw (finish_kept f (λ q. n (sym (opened-at b f z l (eqb-true (s.finishes.opener f) b e) (home_made f q).0) ∙ q))) refl)
      (λ off. weigh_off (eqb (s.finishes.opener f) b) 1 3 (s'.finishes.status f) off ∙ sym (weigh_off (eqb (s.finishes.opener f) b) 1 3 (s.finishes.status f) off))

  opened-none : (b f : ℕ) → 0 < b → f ≤ s.finishes.made → s.tasks.at b ≡ p → weigh (eqb (s.finishes.opener f) b) 1 3 (s'.finishes.status f) ≡ 0
  opened-none b f z l q =
      let key = eqb (s.finishes.opener f) b in
      bool_cases key
      (λ e. by_finish (λ w. weigh key 1 3 w ≡ 0) f
      (λ _ _. weigh_out key 1 3 5 (λ _ h. omega arith))
      (λ k. weigh_out key 1 3 (s.finishes.status f) (λ a h. omega (arith, k (opened-at b f z l (eqb-true (s.finishes.opener f) b e) (inv.finish_made f (omega arith)).0 ∙ q)))))
      (λ off. weigh_off key 1 3 (s'.finishes.status f) off)

  blocked : Blocked s'
  blocked b z = eq_cases (s.tasks.at b) p
      (λ q. omega (
        arith,
        by_task (λ w. weigh true 6 6 w ≡ 0) b (λ _. weigh_out true 6 6 8 (λ _ h. omega arith)) (λ e. weigh_out true 6 6 (s.tasks.status b) (λ l h. busy_other b e (omega arith) h q)),
        sum_zero (suc s.tasks.made) (λ t. weigh (is₂ (s.tasks.sent t) (s.tasks.maker t) 1 b) 1 2 (s'.tasks.status t)) (λ t _. waiting_none b t q),
        sum_zero (suc s.finishes.made) (λ f. weigh (eqb (s.finishes.opener f) b) 1 3 (s'.finishes.status f)) (λ f h. opened-none b f z (omega arith) q),
      ))
      (λ n. omega (
        arith,
        inv.blocked b z,
        by_task (λ w. weigh true 6 6 w ≡ weigh true 6 6 (s.tasks.status b)) b
            (λ e. lost-cases b e
            (λ _ _ q. absurd (n q))
            (λ _ h _. weigh_out true 6 6 8 (λ _ h. omega arith) ∙ sym (weigh_out true 6 6 (s.tasks.status b) (λ l _. omega arith))))
            (λ _. refl),
        sum_ext (suc s.tasks.made) (λ t. weigh (is₂ (s.tasks.sent t) (s.tasks.maker t) 1 b) 1 2 (s.tasks.status t)) (λ t. weigh (is₂ (s.tasks.sent t) (s.tasks.maker t) 1 b) 1 2 (s'.tasks.status t)) (λ t _. waiting_same b t n),
        sum_ext (suc s.finishes.made) (λ f. weigh (eqb (s.finishes.opener f) b) 1 3 (s.finishes.status f)) (λ f. weigh (eqb (s.finishes.opener f) b) 1 3 (s'.finishes.status f)) (λ f h. opened_same b f z (omega arith) n),
      ))

  -- L1: at p nothing is busy, elsewhere all is as it was
  busy_same : (f j t : ℕ) → (j ≡ p → ⊥)
      → weigh (is₃ (s.tasks.sent t) (s.tasks.finish t) (s.tasks.at t) 1 f j) 5 6 (s'.tasks.status t) ≡ weigh (is₃ (s.tasks.sent t) (s.tasks.finish t) (s.tasks.at t) 1 f j) 5 6 (s.tasks.status t)
  busy_same f j t n =
      let key = is₃ (s.tasks.sent t) (s.tasks.finish t) (s.tasks.at t) 1 f j in
      is₃-cases (s.tasks.sent t) (s.tasks.finish t) (s.tasks.at t) 1 f j
      (λ _ _ a. by_task (λ w. weigh key 5 6 w ≡ weigh key 5 6 (s.tasks.status t)) t
      (λ y. lost-cases t y
      (λ _ _ q. absurd (n (sym a ∙ q)))
      (λ _ h _. weigh_out key 5 6 8 (λ _ l. omega arith) ∙ sym (weigh_out key 5 6 (s.tasks.status t) (λ l _. omega arith))))
      (λ _. refl))
      (λ off. weigh_off key 5 6 (s'.tasks.status t) off ∙ sym (weigh_off key 5 6 (s.tasks.status t) off))

  busy_none : (f j t : ℕ) → j ≡ p → weigh (is₃ (s.tasks.sent t) (s.tasks.finish t) (s.tasks.at t) 1 f j) 5 6 (s'.tasks.status t) ≡ 0
  busy_none f j t q =
      let key = is₃ (s.tasks.sent t) (s.tasks.finish t) (s.tasks.at t) 1 f j in
      is₃-cases (s.tasks.sent t) (s.tasks.finish t) (s.tasks.at t) 1 f j
      (λ _ _ a. by_task (λ w. weigh key 5 6 w ≡ 0) t
      (λ _. weigh_out key 5 6 8 (λ _ h. omega arith))
      (λ y. weigh_out key 5 6 (s.tasks.status t) (λ l h. busy_other t y l h (a ∙ q))))
      (λ off. weigh_off key 5 6 (s'.tasks.status t) off)

  local_live : LocalLive s'
  local_live f j = eq_cases j p
      (λ q. rw (eq-eqb j p q) (sym (sum_zero (suc s.tasks.made) (λ t. weigh (is₃ (s.tasks.sent t) (s.tasks.finish t) (s.tasks.at t) 1 f j) 5 6 (s'.tasks.status t)) (λ t _. busy_none f j t q))))
      (λ n. rw (ne_eqb j p n) (inv.local_live f j ∙ sym (sum_ext (suc s.tasks.made) (λ t. weigh (is₃ (s.tasks.sent t) (s.tasks.finish t) (s.tasks.at t) 1 f j) 5 6 (s.tasks.status t))
      (λ t. weigh (is₃ (s.tasks.sent t) (s.tasks.finish t) (s.tasks.at t) 1 f j) 5 6 (s'.tasks.status t)) (λ t _. busy_same f j t n))))

  -- a lost task still counts among those that were sent
  pub sent_stay : (b : ℕ → Bool) → tasks_with s b 2 8 ≤ tasks_with s' b 2 8
  sent_stay b = sum_mono (suc s.tasks.made) (λ t. weigh (b t) 2 8 (s.tasks.status t)) (λ t. weigh (b t) 2 8 (s'.tasks.status t))
      (λ t _. by_task (λ w. weigh (b t) 2 8 (s.tasks.status t) ≤ weigh (b t) 2 8 w) t
      (λ _. omega (arith, weigh_in (b t) 2 8 8 (omega arith) (omega arith), weigh-le (b t) 2 8 (s.tasks.status t)))
      (λ _. omega arith))

  pub kill-rows : KilledRows s'
  kill-rows = search (
    dead_places,
    task_statuses,
    main_statuses,
    status_made,
    finish_statuses,
    finish_made,
    active,
    publishing,
    waiting,
    released,
    lost,
    dead_home,
    busy,
    waiters,
    lost_tasks,
    first_task,
    first_lost,
    blocked,
    local_live,
  )
