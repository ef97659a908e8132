-- In a quiet session a running task's spawn and end are taken, and where no task runs finish 1 is released.
use mathlib.Core.Path.{◌≡◌, refl, ◌∙◌}
use mathlib.Core.Bool.{true, false}
use mathlib.Core.List.{List, [], ◌∷◌}
use Prim.Native.Nat.{ℕ, ◌<◌}
use native.Mathlib.Omega.{arith}
use borrow.Author.Tests.{eq-eqb, ne_eqb, lt-ltb, le-leb, lt-leb}
use Rattle.tables.specs.Walks.{every, some_of}
use Rattle.tables.proofs.Walks.{each_every}
use Rattle.rules.specs.Fields.{places, tasks_made, finishes_made, task_at, task_status, finish_status, task_made, finish_made, in_session}
use Rattle.rules.specs.Action.{spawn, end}
use Rattle.rules.specs.Messages.{slots_full}
use Rattle.rules.specs.End.{end_sends}
use Rattle.rules.specs.Refusals.{no_action, not_there, wrong_place, not_ready, must_wait, no_room, answer}
use Rattle.rules.specs.Quiet.{quiet}
use Rattle.rules.specs.Sessions.{is_released}
use Rattle.model.specs.Base.Cases.{bool_cases, and_none}
use Rattle.model.proofs.Promises.Progress.{quiet-released}
use Rattle.promises.specs.View.{view}
use Rattle.promises.specs.Settling.{record_of}
use Rattle.promises.proofs.Tests.{every_two}
use Rattle.promises.proofs.Seen.{Seen}
use Rattle.promises.proofs.Rows.{read_tasks_made, read_finishes_made, read_task_status, read_finish_status}
use Rattle.promises.proofs.Slots.{read_slots, first_full}
use Rattle.promises.proofs.Held.{Held, tasks_most}
use Rattle.promises.proofs.Quiet.{quiet_state}
use Rattle.promises.proofs.Good.{Good}
use Rattle.promises.proofs.SoundTables.{good_held}
use Rattle.promises.proofs.ActsMove.{good_taken}

module _ {t : List ℕ} (good : Good t) (calm : quiet t ≡ true) where
  h : Held t (view t)
  h = good_held t good

  s : Seen t (view t)
  s = h.seen

  -- no message is in flight, so there is a slot for one
  room : slots_full t ≡ false
  room = bool_cases (slots_full t) (λ e. absurd (first_full s e ((quiet_state h calm).empty 0 (rw (read_slots s) (omega arith))))) (λ e. e)

  pub spawn_taken : (k p : ℕ) → task_made t k ≡ true → task_status t k ≡ 5 → p < places t → (task_at t k ≡ p → ⊥) → tasks_made t < 255 → answer t (1 ∷ k ∷ p ∷ 0 ∷ []) ≡ 0
  unfolding record_of no_action not_there wrong_place not_ready must_wait no_room every some_of in_session
  spawn_taken k p made runs inside away few =
      good_taken t good (spawn k p) refl (rw (made, lt-ltb p (places t) inside) refl) (ne_eqb (task_at t k) p away) (rw runs refl) refl (rw (lt-leb 255 (tasks_made t) few, room) refl)

  pub end_taken : (k : ℕ) → task_made t k ≡ true → task_status t k ≡ 5 → answer t (3 ∷ k ∷ 0 ∷ 0 ∷ []) ≡ 0
  unfolding record_of no_action not_there wrong_place not_ready must_wait no_room
  end_taken k made runs = good_taken t good (end k) refl (rw made refl) refl (rw runs refl) refl (every_two (end_sends t k) (slots_full t) ∙ and_none (end_sends t k) (slots_full t) room)

  pub rest_released : ((k : ℕ) → task_made t k ≡ true → task_status t k ≡ 5 → ⊥) → is_released t 1 ≡ true
  unfolding is_released task_made finish_made
  rest_released still =
      each_every _ (
        each_every _ (refl, (le-leb 1 (finishes_made t) (omega (arith, read_finishes_made s, good.inv.root.0)), tt)),
        (eq-eqb (finish_status t 1) 4 (read_finish_status s 1 (omega arith) (omega arith) ∙ quiet-released (view t) good.inv (quiet_state h calm) none-running), tt),
      )
    where
      none-running : (k : ℕ) → (view t).tasks.status k ≡ 5 → ⊥
      none-running k e =
          let m = good.inv.status_made k (omega arith) in
          still k (each_every _ (le-leb 1 k m.0, (le-leb k (tasks_made t) (omega (arith, m.1, read_tasks_made s)), tt)))
          (read_task_status s k m.0 (omega (arith, m.1, tasks_most h)) ∙ e)
