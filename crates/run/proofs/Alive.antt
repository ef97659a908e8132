-- The tables after n steps of a run are good and seen as a run's state; a kill, a deliver, adopt, cancel or ask, and a running task's next act
-- lead to such tables again.
use mathlib.Core.Path.{◌≡◌, refl, sym, ap, subst}
use mathlib.Core.Bool.{true, false}
use mathlib.Core.List.{List, [], ◌∷◌}
use Prim.Native.Nat.{ℕ, suc, ◌+◌, ◌%◌, ◌≤◌, ◌<◌}
use native.Mathlib.Nat.{mod-lt, mod-eq_of_lt, mod_self}
use native.Mathlib.Omega.{arith}
use Rattle.rules.specs.Fields.{places, tasks_made, task_at, task_status, task_made}
use Rattle.rules.specs.Action.{Action, unknown, spawn, open_finish, end, deliver, kill, adopt, cancel, ask, begin}
use Rattle.rules.specs.Refusals.{answer}
use Rattle.rules.specs.Step.{after}
use Rattle.rules.specs.Quiet.{quiet}
use Rattle.rules.specs.Sessions.{is_begin}
use Rattle.model.specs.Base.Cases.{bool_cases, eq_cases, cond_cases, both}
use Rattle.model.specs.State.{State}
use Rattle.promises.specs.View.{view}
use Rattle.promises.specs.Settling.{record_of, is_settling}
use Rattle.promises.proofs.Moved.{Moved}
use Rattle.promises.proofs.Rows.{read_places, read_tasks_made, read_task_at}
use Rattle.promises.proofs.Held.{task_number}
use Rattle.promises.proofs.Good.{Good, as_seen, tasks_below}
use Rattle.promises.proofs.SoundTables.{good_held}
use Rattle.promises.proofs.ActsMove.{good_next, good_settles, good_spawns, good_ends, good_kills}
use Rattle.promises.proofs.ActsTaken.{spawn_taken, end_taken}
use Rattle.promises.proofs.Stirs.{good_stirs}
use Rattle.growth.specs.Grown.{grown_room}
use Rattle.plan.specs.declared.Plan.{Plan}
use Rattle.acts.specs.Acts.{spawns_more, next_act}
use Rattle.plan.proofs.Ranges.{Ranges}
use Rattle.run.proofs.Cover.{Still}
use Rattle.run.proofs.Levels.{spawns_below}
use Rattle.run.proofs.Lives.{Lives, settle_lives, end_lives, kill_lives, spawn_lives}

pub record Alive (p : Plan) (n : ℕ) (u : List ℕ) : Type 0 where
  pub good : Good u
  pub lives : Lives p n (view u)

-- the record is taken, and leads to tables of one step more
pub record Goes (p : Plan) (n : ℕ) (u r : List ℕ) : Type 0 where
  pub taken : answer u r ≡ 0
  pub alive : Alive p (suc n) (after u r)

settling_other : (x : Action) → is_settling x ≡ true → is_begin x ≡ false
unfolding is_settling is_begin
settling_other unknown e = refl
settling_other (spawn k p) e = refl
settling_other (open_finish k) e = refl
settling_other (end k) e = refl
settling_other (deliver s) e = refl
settling_other (kill p) e = refl
settling_other (adopt f) e = refl
settling_other (cancel f v) e = refl
settling_other (ask f v j) e = refl
settling_other (begin n) e = both e refl

-- where nothing settles, the session is quiet
pub still_quiet : {u : List ℕ} → Good u → Still u → quiet u ≡ true
still_quiet {u} good still = bool_cases (quiet u) (λ e. e) (λ e. let x = good_stirs good e in absurd (still x.0 x.1 x.2))

-- the next place of 2 or more is another
next_place : (at n : ℕ) → 2 ≤ n → at < n → at ≡ (at + 1) % n → ⊥
next_place at n two l e = eq_cases (at + 1) n
    (λ q. omega (arith, ap (λ x. x % n) q, mod_self n))
    (λ ne. omega (arith, mod-eq_of_lt {n = at + 1} {m = n} (omega arith)))

module _ {p : Plan} (fit : Ranges p) {n : ℕ} {u : List ℕ} (alive : Alive p n u) where
  -- a taken action whose move leads to a run's state
  goes : {R : State → Type 0} (x : Action) → is_begin x ≡ false → answer u (record_of x) ≡ 0 → Moved R (after u (record_of x))
      → ((s' : State) → R s' → Lives p (suc n) s') → Goes p n u (record_of x)
  goes x other e m lives = record {
    taken = e;
    alive = record { good = (good_next u alive.good x other).good; lives = subst (Lives p (suc n)) (sym m.1.is) (lives m.0 m.2) };
  }

  pub kill-goes : answer u (record_of (kill p.victim)) ≡ 0 → Goes p n u (record_of (kill p.victim))
  unfolding is_begin
  kill-goes e = goes (kill p.victim) refl e (good_kills u alive.good p.victim e) (λ _ m. kill_lives alive.lives fit.places.1 m)

  pub settle_goes : (x : Action) → is_settling x ≡ true → answer u (record_of x) ≡ 0 → Goes p n u (record_of x)
  settle_goes x settling e = goes x (settling_other x settling) e (good_settles u alive.good x settling e) (λ _ m. settle_lives alive.lives alive.good.inv m)

  -- the next act of a running task, where nothing settles
  module _ (still : Still u) (k : ℕ) (made : task_made u k ≡ true) (runs : task_status u k ≡ 5) where
    calm : quiet u ≡ true
    calm = still_quiet alive.good still

    number : (0 < k) × (k ≤ (view u).tasks.made)
    number = task_number (good_held u alive.good) k made

    end_goes : Goes p n u (3 ∷ k ∷ 0 ∷ 0 ∷ [])
    unfolding record_of is_begin
    end_goes =
        let e = end_taken alive.good calm k made runs in
        goes (end k) refl e (good_ends u alive.good k e) (λ _ m. end_lives alive.lives alive.good.inv m)

    spawn_goes : spawns_more p u k ≡ true → Goes p n u (1 ∷ k ∷ (task_at u k + 1) % p.places ∷ 0 ∷ [])
    unfolding record_of is_begin
    spawn_goes more =
        let s = as_seen alive.good in
        let below = spawns_below alive.good p k number.0 number.1 more in
        let room = grown_room alive.lives.grown k number.0 number.1 below.0 below.1 in
        let next : ℕ = (task_at u k + 1) % p.places in
        let inside : next < places u = omega (arith, read_places s, alive.lives.places, mod-lt (task_at u k + 1) {m = p.places} (omega (arith, fit.places.0))) in
        let at = read_task_at s k number.0 (omega (arith, number.1, tasks_below alive.good)) in
        let here : task_at u k < p.places = omega (arith, at, (alive.good.inv.task_ranges k number.0 number.1).1, alive.lives.places) in
        let few : tasks_made u < 255 = omega (arith, read_tasks_made s, room, fit.size) in
        let e = spawn_taken alive.good calm k next made runs inside (next_place (task_at u k) p.places fit.places.0 here) few in
        goes (spawn k next) refl e (good_spawns u alive.good k next e) (λ _ m. spawn_lives alive.lives below.0 below.1 m)

    pub act-goes : Goes p n u (next_act p u k)
    unfolding next_act
    act-goes = cond_cases (Goes p n u) (spawns_more p u k) (1 ∷ k ∷ (task_at u k + 1) % p.places ∷ 0 ∷ []) (3 ∷ k ∷ 0 ∷ 0 ∷ []) spawn_goes (λ _. end_goes)
