-- What spawn, end and kill do to the tasks: what is ended stays ended, an end adds one, and no more than the tasks made have ended.
use Rattle.std.specs.Prelude.{◌≡◌, refl, true, cond, ℕ, suc, ◌≤◌, ◌<◌, eqb}
use Rattle.std.proofs.Common.{ap, ◌∙◌, arith, eq-eqb, ne_eqb}
use Rattle.model.specs.Base.{sum_strict, upd, upd_same, upd_other, upd-below, upd-cases, on, on_true, on_false, on-le, sum, sum-suc, sum_mono, sum_most, eq_cases}
use Rattle.model.specs.State.{State, Message, with_finish_status, with_slot}
use Rattle.model.specs.Guards.{Runs, MayRun}
use Rattle.model.specs.Effects.Spawn.{with_spawned}
use Rattle.model.specs.Effects.Kill.{loses_task, kill}
use Rattle.model.specs.Step.{Spawn, spawns_first, spawns_later, End, ends_unpublished, ends_published, ends_other, ends_last, Kill, kills}
use Rattle.model.specs.Inv.{Inv}
use Rattle.model.specs.Work.{ended_tasks}
use Rattle.model.proofs.Kept.{Kept, keeps, woken}

-- what a task of status v counts for
ended_is : (v : ℕ) → v ≡ 7 → on (eqb v 7) 1 ≡ 1
ended_is v e = on_true (eqb v 7) 1 (eq-eqb v 7 e)

ended-not : (v : ℕ) → (v ≡ 7 → ⊥) → on (eqb v 7) 1 ≡ 0
ended-not v n = on_false (eqb v 7) 1 (ne_eqb v 7 n)

ended-le : (v w : ℕ) → (v ≡ 7 → w ≡ 7) → on (eqb v 7) 1 ≤ on (eqb w 7) 1
ended-le v w h = eq_cases v 7
    (λ e. omega (arith, on-le (eqb v 7) 1, ended_is w (h e)))
    (λ n. omega (arith, ended-not v n))

-- rows whose ended tasks stay ended
rows-ended : (n : ℕ) (v w : ℕ → ℕ) → ((t : ℕ) → t < n → v t ≡ 7 → w t ≡ 7) → sum n (λ t. on (eqb (v t) 7) 1) ≤ sum n (λ t. on (eqb (w t) 7) 1)
rows-ended n v w h = sum_mono n (λ t. on (eqb (v t) 7) 1) (λ t. on (eqb (w t) 7) 1) (λ t l. ended-le (v t) (w t) (h t l))

pub kept_ended : {s s' : State} → Kept s s' → ended_tasks s ≤ ended_tasks s'
unfolding ended_tasks
kept_ended {s} {s'} k = rw k.made (rows-ended (suc s.tasks.made) s.tasks.status s'.tasks.status (λ t _. k.ended t))

-- task 0 is none
pub ended_most : {s : State} → Inv s → ended_tasks s ≤ s.tasks.made
unfolding ended_tasks
ended_most {s} inv =
    let n = suc s.tasks.made in
    let none : s.tasks.status 0 ≡ 7 → ⊥ = λ e. omega (arith, inv.status_made 0 (omega arith)) in
    omega (
      arith,
      sum_strict n (λ t. on (eqb (s.tasks.status t) 7) 1) (λ _. 1) 0 (omega arith) (omega (arith, ended-not (s.tasks.status 0) none)) (λ t _. on-le (eqb (s.tasks.status t) 7) 1),
      sum_most n (λ _. 1) (λ _ _. omega arith),
    )

-- End: the task was running, and no task that has ended runs again
stays : (status : ℕ → ℕ) (t x : ℕ) → status x ≡ 7 → upd status t 7 x ≡ 7
stays status t x e = upd-cases status (λ w. w ≡ 7) t 7 x (λ _. refl) (λ _. e)

-- the opener of its finish is another task
opener-blocked : (s : State) (t o : ℕ) → Runs s t → MayRun s o → 0 < o → upd s.tasks.status t 7 o ≡ 7 → ⊥
opener-blocked s t o runs may z e = omega (
  arith,
  may z,
  upd_other s.tasks.status t 7 o (λ q. omega (arith, may z, runs.running, ap s.tasks.status q)),
)

end_runs : {s : State} {t : ℕ} {s' : State} → End s t s' → Runs s t
end_runs (ends_unpublished a b c d e) = a
end_runs (ends_published k a b c d e) = a
end_runs (ends_other a b c) = a
end_runs (ends_last k a b c d e) = a

end_now : {s : State} {t : ℕ} {s' : State} → End s t s' → s'.tasks.status t ≡ 7
end_now {s} {t = t} (ends_unpublished a b c d e) =
    let o = s.finishes.opener (s.tasks.finish t) in
    woken o (upd s.tasks.status t 7) t (opener-blocked s t o a e) (upd_same s.tasks.status t 7)
end_now {s} {t = t} (ends_published k a b c d e) = upd_same s.tasks.status t 7
end_now {s} {t = t} (ends_other a b c) = upd_same s.tasks.status t 7
end_now {s} {t = t} (ends_last k a b c d e) = upd_same s.tasks.status t 7

pub end_kept : {s : State} {t : ℕ} {s' : State} → End s t s' → Kept s s'
end_kept {s} {t = t} (ends_unpublished a b c d e) =
    let o = s.finishes.opener (s.tasks.finish t) in
    keeps s _ _ _ _ _ refl (λ x h. woken o (upd s.tasks.status t 7) x (opener-blocked s t o a e) (stays s.tasks.status t x h))
end_kept {s} {t = t} (ends_published k a b c d e) = keeps s _ _ _ _ _ refl (stays s.tasks.status t)
end_kept {s} {t = t} (ends_other a b c) = keeps s _ _ _ _ _ refl (stays s.tasks.status t)
end_kept {s} {t = t} (ends_last k a b c d e) = keeps s _ _ _ _ _ refl (stays s.tasks.status t)

pub end_ended : {s : State} {t : ℕ} {s' : State} → End s t s' → ended_tasks s < ended_tasks s'
unfolding ended_tasks
end_ended {s} {t} {s'} m =
    let kept = end_kept m in
    let runs = end_runs m in
    let was = ended-not (s.tasks.status t) (λ e. omega (arith, runs.running)) in
    let now = ended_is (s'.tasks.status t) (end_now m) in
    rw kept.made (sum_strict (suc s.tasks.made) (λ x. on (eqb (s.tasks.status x) 7) 1) (λ x. on (eqb (s'.tasks.status x) 7) 1) t
    (omega (arith, runs.high)) (omega arith) (λ x _. ended-le (s.tasks.status x) (s'.tasks.status x) (kept.ended x)))

-- Spawn: one task more, made by t
pub record TaskSpawned (s : State) (t : ℕ) (s' : State) : Type 0 where
  pub places : s'.places ≡ s.places
  pub dead : (p : ℕ) → s'.dead p ≡ s.dead p
  pub made : s'.tasks.made ≡ suc s.tasks.made
  pub new_maker : s'.tasks.maker (suc s.tasks.made) ≡ t
  pub maker : (x : ℕ) → (x ≡ suc s.tasks.made → ⊥) → s'.tasks.maker x ≡ s.tasks.maker x
  pub finishes : s'.finishes.made ≡ s.finishes.made
  pub ended : ended_tasks s ≤ ended_tasks s'

-- the spawner, which blocks, had not ended
spawned_ended : (s : State) (t v : ℕ) → Runs s t → ended_tasks s ≤ sum (suc (suc s.tasks.made)) (λ x. on (eqb (upd (upd s.tasks.status t 6) (suc s.tasks.made) v x) 7) 1)
unfolding ended_tasks
spawned_ended s t v runs =
    let n = suc s.tasks.made in
    let status = upd (upd s.tasks.status t 6) n v in
    omega (
      arith,
      sum-suc n (λ x. on (eqb (status x) 7) 1),
      rows-ended n s.tasks.status status (λ x l e. upd-below (upd s.tasks.status t 6) n v x l ∙ upd_other s.tasks.status t 6 x (λ q. omega (arith, runs.running, ap s.tasks.status q)) ∙ e),
    )

spawned : (s : State) (t p v : ℕ) (finish-status : ℕ → ℕ) (slot : ℕ → Message) → Runs s t → TaskSpawned s t (with_slot slot (with_finish_status finish-status (with_spawned t p v s)))
unfolding ended_tasks
spawned s t p v finish-status slot runs =
    let n = suc s.tasks.made in
    record {
      places = refl;
      dead = λ _. refl;
      made = refl;
      new_maker = upd_same s.tasks.maker n t;
      maker = upd_other s.tasks.maker n t;
      finishes = refl;
      ended = spawned_ended s t v runs;
    }

pub spawn_tasks : {s : State} {t p : ℕ} {s' : State} → Spawn s t p s' → TaskSpawned s t s'
spawn_tasks {s} {t = t} {p = p} (spawns_first k runs b c d e g h) = spawned s t p 1 _ _ runs
spawn_tasks {s} {t = t} {p = p} (spawns_later k runs b c d e) = spawned s t p 2 _ _ runs

-- Kill: p is dead, and no task that has ended is lost
pub record TasksKilled (s : State) (p : ℕ) (s' : State) : Type 0 where
  pub places : s'.places ≡ s.places
  pub dead : s'.dead p ≡ true
  pub made : s'.tasks.made ≡ s.tasks.made
  pub maker : (t : ℕ) → s'.tasks.maker t ≡ s.tasks.maker t
  pub finishes : s'.finishes.made ≡ s.finishes.made
  pub ended : ended_tasks s ≤ ended_tasks s'

spared : (p from at v : ℕ) → v ≡ 7 → cond (loses_task p from at v) 8 v ≡ 7
unfolding loses_task
spared p from at v e = rw e refl

pub kill_tasks : {s : State} {p : ℕ} {s' : State} → Kill s p s' → TasksKilled s p s'
unfolding ended_tasks
kill_tasks {s} {p = p} (kills a b c) = record {
  places = refl;
  dead = upd_same s.dead p true;
  made = refl;
  maker = λ _. refl;
  finishes = refl;
  ended = rows-ended (suc s.tasks.made) s.tasks.status (kill s p).tasks.status (λ t _. spared p (s.tasks.from t) (s.tasks.at t) (s.tasks.status t));
}
