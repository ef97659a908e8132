-- A taken action that is no begin is a move of the model: the tables after it are seen as a state that a move leads to.
use mathlib.Core.Path.{◌≡◌, refl, sym, ◌∙◌}
use mathlib.Core.Bool.{false}
use mathlib.Core.List.{List}
use Prim.Native.Nat.{ℕ}
use native.Mathlib.Omega.{arith}
use borrow.Author.Tests.{eqb-false}
use Rattle.rules.specs.Action.{Action, unknown, spawn, open_finish, end, deliver, kill, adopt, cancel, ask, begin}
use Rattle.rules.specs.Messages.{tagged}
use Rattle.rules.specs.Deliver.{deliver_step}
use Rattle.rules.specs.Refusals.{no_action, not_ready}
use Rattle.rules.specs.Step.{step}
use Rattle.rules.specs.Sessions.{is_begin}
use Rattle.rules.proofs.Taken.{StepTaken}
use Rattle.sound.proofs.Use.{slot_tag}
use Rattle.model.specs.Base.Cases.{both}
use Rattle.model.specs.State.{State}
use Rattle.model.specs.Step.{Settle, Move, spawns, ends, loses, settles}
use Rattle.model.specs.Inv.{Inv}
use Rattle.promises.proofs.Tags.{by_tag}
use Rattle.promises.proofs.Slots.{read_tag, read_empty}
use Rattle.promises.proofs.Held.{Held}
use Rattle.promises.proofs.Moved.{Moved, moved_by}
use Rattle.promises.proofs.StepSpawn.{spawn_moves, open_moves}
use Rattle.promises.proofs.StepEnd.{end_moves}
use Rattle.promises.proofs.StepRepair.{kill_moves, adopt_moves, cancel_moves, ask_moves}
use Rattle.promises.proofs.StepDeliver.{k_there, message_by, ranges, published_moves, granted_moves, denied_moves, task_moves, release_moves, count_dropped_moves}
use Rattle.promises.proofs.StepStore.{publish_moves, transit_moves, report_moves, ghost_ended_moves, dropped_moves}

-- deliver, by the message's tag
pub deliver_moves : {t : List ℕ} {a : State} → Held t a → (k : ℕ) → StepTaken t (deliver k) → Moved (Settle a) (deliver_step t k)
unfolding not_ready tagged
deliver_moves {t} {a} h k own =
    let s = h.seen in
    let l = k_there h k own in
    by_tag (a.slot k).tag (omega (arith, slot_tag t h.sound k l, read_tag s k l))
    (λ e. absurd (eqb-false (a.slot k).tag 0 (sym (read_empty s k l) ∙ own.ready) e))
    (λ e. let m = message_by h k own 1 e in publish_moves h k own _ _ 0 0 0 (ranges h k own _ m).0 refl e refl m)
    (λ e. published_moves h k own _ _ 0 0 0 e (message_by h k own 2 e) refl refl)
    (λ e. let m = message_by h k own 3 e in transit_moves h k own _ _ _ _ 0 (ranges h k own _ m).0.0 refl e refl refl refl m)
    (λ e. granted_moves h k own _ _ _ _ 0 refl refl refl refl e (message_by h k own 4 e))
    (λ e. denied_moves h k own _ _ _ _ 0 refl refl refl refl e (message_by h k own 5 e))
    (λ e. task_moves h k own _ _ _ _ 0 refl refl refl refl e (message_by h k own 6 e))
    (λ e. let m = message_by h k own 7 e in report_moves h k own _ 0 _ 0 0 (ranges h k own _ m).0 refl e refl m)
    (λ e. release_moves h k own _ 0 0 0 0 e (message_by h k own 8 e) refl)
    (λ e. let m = message_by h k own 9 e in ghost_ended_moves h k own _ 0 0 0 0 (ranges h k own _ m).0 refl _ e refl m)
    (λ e. count_dropped_moves h k own _ _ _ _ _ refl refl refl refl e refl (message_by h k own 10 e))
    (λ e. let m = message_by h k own 11 e in dropped_moves h k own _ _ _ _ _ (ranges h k own _ m).0 refl e refl refl refl m)

-- every action but begin
module _ {t : List ℕ} {a : State} (h : Held t a) (inv : Inv a) where
  pub action_moves : (x : Action) → no_action x ≡ false → is_begin x ≡ false → StepTaken t x → Moved (Move a) (step t x)
  unfolding no_action is_begin step
  action_moves unknown q n own = both refl q
  action_moves (spawn k p) q n own = moved_by (λ _ m. spawns k p m) (spawn_moves h k p own)
  action_moves (open_finish k) q n own = open_moves h k own
  action_moves (end k) q n own = moved_by (λ _ m. ends k m) (end_moves h k own)
  action_moves (deliver k) q n own = moved_by (λ _ m. settles m) (deliver_moves h k own)
  action_moves (kill p) q n own = moved_by (λ _ m. loses p m) (kill_moves h p own inv.status_made inv.blank_finishes inv.cell_places)
  action_moves (adopt f) q n own = moved_by (λ _ m. settles m) (adopt_moves h f own)
  action_moves (cancel f v) q n own = moved_by (λ _ m. settles m) (cancel_moves h f v own)
  action_moves (ask f v j) q n own = moved_by (λ _ m. settles m) (ask_moves h f v j own)
  action_moves (begin m) q n own = both refl n
