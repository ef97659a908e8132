-- A run's state after n steps of a plan: the plan's places, one finish, a tree of tasks within its levels and width; and the steps taken and
-- those that may still be taken are at most 2,089, since every step lowers the latter.
use mathlib.Core.Path.{◌≡◌, ap, ◌∙◌}
use mathlib.Core.Bool.{false, not}
use Prim.Native.Nat.{ℕ, suc, ◌+◌, ◌-◌, ◌*◌, ◌≤◌, ◌<◌}
use native.Mathlib.Omega.{arith}
use Rattle.model.specs.Base.Updates.{on, on_true, on_false}
use Rattle.model.specs.State.{State}
use Rattle.model.specs.Step.{Spawn, spawns_first, spawns_later, End, Kill, kills, Settle, ends}
use Rattle.model.specs.Guards.{Runs}
use Rattle.model.specs.Inv.{Inv}
use Rattle.model.proofs.Keeps.{move_keeps}
use Rattle.model.specs.Work.{work, ended_tasks}
use Rattle.model.proofs.Kept.{Kept}
use Rattle.model.proofs.Falls.{settle_falls}
use Rattle.model.proofs.Falls.Kept.{settle_kept}
use Rattle.model.proofs.Adds.Acts.{spawn_adds, end_adds}
use Rattle.model.proofs.Adds.Kill.{kill_adds}
use Rattle.model.proofs.Adds.Tasks.{kept_ended, ended_most, end_kept, end_ended, spawn_tasks, kill_tasks}
use Rattle.plan.specs.Tree.{level_of, children_of, tree_size}
use Rattle.growth.specs.Grown.{Grown, grown_room, grown_same, grown_more}
use Rattle.plan.specs.declared.Plan.{Plan}

-- Steps that may still be taken: the work left; 8 for a task to come (its spawn, 5 of work that this adds, 2 once it is made); 2 for a task
-- made and not ended (its end, 1 of work); 53 while the victim lives (its kill, 52 of work: 26 at 8 places, for rows 0 and 1 of finishes).
unfoldable pub steps_left : Plan → State → ℕ
steps_left p s =
    work s + 8 * (tree_size p.width p.levels - s.tasks.made) + 2 * (s.tasks.made - ended_tasks s) + on (not (s.dead p.victim)) 53

pub record Lives (p : Plan) (n : ℕ) (s : State) : Type 0 where
  pub places : s.places ≡ p.places
  pub finishes : s.finishes.made ≡ 1
  pub grown : Grown p.levels p.width s.tasks.maker s.tasks.made
  pub budget : n + steps_left p s ≤ 2089

killed_lived : {s : State} {v : ℕ} {s' : State} → Kill s v s' → s.dead v ≡ false
killed_lived (kills a b c) = c

spawner-runs : {s : State} {k v : ℕ} {s' : State} → Spawn s k v s' → Runs s k
spawner-runs (spawns_first k a b c d e g h) = a
spawner-runs (spawns_later k a b c d e) = a

module _ {p : Plan} {n : ℕ} {s : State} (lives : Lives p n s) where
  -- the same tasks
  kept_lives : {s' : State} → Kept s s' → steps_left p s' < steps_left p s → Lives p (suc n) s'
  kept_lives {s'} kept falls = record {
    places = kept.places ∙ lives.places;
    finishes = kept.finishes ∙ lives.finishes;
    grown = rw kept.made (grown_same lives.grown (λ x _ _. kept.maker x));
    budget = omega (arith, lives.budget);
  }

  pub settle_lives : {s' : State} → Inv s → Settle s s' → Lives p (suc n) s'
  unfolding steps_left
  settle_lives {s'} inv m =
      let kept = settle_kept m in
      kept_lives kept (omega (arith, settle_falls inv m, kept.made, kept_ended kept, ap (λ b. on (not b) 53) (kept.dead p.victim)))

  pub end_lives : {s' : State} {k : ℕ} → Inv s → End s k s' → Lives p (suc n) s'
  unfolding steps_left
  end_lives {s'} {k} inv m =
      let kept = end_kept m in
      kept_lives kept (omega (arith, end_adds m, kept.made, end_ended m, ended_most (move_keeps inv (ends k m)), ap (λ b. on (not b) 53) (kept.dead p.victim)))

  pub kill_lives : {s' : State} → p.places ≤ 8 → Kill s p.victim s' → Lives p (suc n) s'
  unfolding steps_left
  kill_lives {s'} most m =
      let killed = kill_tasks m in
      let one : suc s.finishes.made * (2 + 3 * s.places) ≡ 2 * (2 + 3 * s.places) = ap (λ f. suc f * (2 + 3 * s.places)) lives.finishes in
      record {
        places = killed.places ∙ lives.places;
        finishes = killed.finishes ∙ lives.finishes;
        grown = rw killed.made (grown_same lives.grown (λ x _ _. killed.maker x));
        budget = omega (
          arith,
          lives.budget,
          kill_adds m,
          one,
          lives.places,
          killed.made,
          killed.ended,
          on_true (not (s.dead p.victim)) 53 (ap not (killed_lived m)),
          on_false (not (s'.dead p.victim)) 53 (ap not killed.dead),
        );
      }

  -- a spawn by a task above the last level, with fewer children than the width
  pub spawn_lives : {s' : State} {k v : ℕ} → level_of s.tasks.maker p.levels k < p.levels → children_of s.tasks.maker s.tasks.made k < p.width
      → Spawn s k v s' → Lives p (suc n) s'
  unfolding steps_left
  spawn_lives {s'} {k} above fewer m =
      let spawned = spawn_tasks m in
      let runs = spawner-runs m in
      record {
        places = spawned.places ∙ lives.places;
        finishes = spawned.finishes ∙ lives.finishes;
        grown = rw spawned.made (grown_more lives.grown k runs.low runs.high above fewer s'.tasks.maker spawned.new_maker (λ x _ l. spawned.maker x (λ e. omega arith)));
        budget = omega (
          arith,
          lives.budget,
          spawn_adds m,
          spawned.made,
          spawned.ended,
          grown_room lives.grown k runs.low runs.high above fewer,
          ap (λ b. on (not b) 53) (spawned.dead p.victim),
        );
      }
