-- What a turn's record is: the kill, if that is due; else a deliver, adopt, cancel or ask that is taken; else a running task's next
-- act; else none.
use mathlib.Core.Path.{◌≡◌, refl}
use mathlib.Core.Bool.{Bool, true}
use mathlib.Core.List.{List, []}
use Prim.Native.Nat.{ℕ, suc, ◌*◌, ◌/◌, ◌%◌}
use native.Mathlib.Omega.{arith}
use lib.Dec.{eqb, leb}
use borrow.Author.Tests.{eqb-true, eq-eqb, leb-true, leb-false, le-leb}
use Rattle.tables.proofs.Walks.{every_each, each_every}
use Rattle.rules.specs.Fields.{tasks_made, finishes_made, task_status, task_made}
use Rattle.rules.specs.Action.{Action, deliver, kill, adopt, cancel, ask}
use Rattle.rules.specs.Refusals.{answer}
use Rattle.model.specs.Base.Cases.{cond_cases, both}
use Rattle.promises.specs.Settling.{record_of, is_settling}
use Rattle.plan.specs.declared.Plan.{Plan}
use Rattle.acts.specs.First.{first_from}
use Rattle.turns.specs.Choice.{taken_or}
use Rattle.acts.specs.Acts.{next_act, lowest_running, act_of}
use Rattle.turns.specs.Turn.{adopt_record, cancel_record, ask_record, deliver_record, kill_record, kill_due, repair_or, turn_record}
use Rattle.turns.proofs.First.{first_low, first_holds, first-none, taken_or_lem}
use Rattle.run.proofs.Cover.{Still, none_settles}

pub data TurnOf (p : Plan) (t : List ℕ) : List ℕ → Type 0 where
  kills : answer t (record_of (kill p.victim)) ≡ 0 → TurnOf p t (record_of (kill p.victim))
  settles : (x : Action) → is_settling x ≡ true → answer t (record_of x) ≡ 0 → TurnOf p t (record_of x)
  acts : Still t → (k : ℕ) → task_made t k ≡ true → task_status t k ≡ 5 → TurnOf p t (next_act p t k)
  rests : Still t → ((k : ℕ) → task_made t k ≡ true → task_status t k ≡ 5 → ⊥) → TurnOf p t []

module _ (p : Plan) (t : List ℕ) where
  act_of_lem : Still t → TurnOf p t (act_of p t)
  unfolding act_of lowest_running task_made
  act_of_lem still =
      let made : ℕ = tasks_made t in
      let runs : ℕ → Bool = λ k. eqb (task_status t k) 5 in
      let k : ℕ = first_from runs 1 made in
      cond_cases (TurnOf p t) (leb k made) (next_act p t k) []
      (λ e. let l = leb-true k made e in
      acts still k (each_every _ (le-leb 1 k (first_low runs made 1), (e, tt))) (eqb-true (task_status t k) 5 (first_holds runs made 1 (omega arith))))
      (λ e. let l = leb-false k made e in
      rests still (λ x m s. let r = every_each _ m in
      both (eq-eqb (task_status t x) 5 s) (first-none runs made 1 x (leb-true 1 x r.0) (omega (arith, leb-true x made r.1.0)))))

  pub turn_of : (n : ℕ) → TurnOf p t (turn_record p n t)
  unfolding turn_record repair_or kill_due kill_record adopt_record cancel_record ask_record deliver_record record_of is_settling
  turn_of n =
      let act : List ℕ = act_of p t in
      let delivers : List ℕ = taken_or t deliver_record 128 act in
      let asks : List ℕ = taken_or t ask_record (64 * finishes_made t) delivers in
      let cancels : List ℕ = taken_or t cancel_record (8 * finishes_made t) asks in
      cond_cases (TurnOf p t) (kill_due p n t) (kill_record p) (repair_or t delivers)
      (λ e. kills (eqb-true (answer t (kill_record p)) 0 (every_each _ e).1.1.1.0))
      (λ _. taken_or_lem (TurnOf p t) t adopt_record (finishes_made t) cancels (λ i _ e _. settles (adopt (suc i)) refl e)
      (λ a. taken_or_lem (TurnOf p t) t cancel_record (8 * finishes_made t) asks (λ i _ e _. settles (cancel (suc (i / 8)) (i % 8)) refl e)
      (λ b. taken_or_lem (TurnOf p t) t ask_record (64 * finishes_made t) delivers (λ i _ e _. settles (ask (suc (i / 64)) (i / 8 % 8) (i % 8)) refl e)
      (λ c. taken_or_lem (TurnOf p t) t deliver_record 128 act (λ i _ e _. settles (deliver i) refl e)
      (λ d. act_of_lem (none_settles t a b c d))))))
