-- The end of a sent task, before any report: what does not turn on how many are left at its place.
use Rattle.std.specs.Prelude.{◌≡◌, ℕ, suc, ◌+◌, Bool, true, eqb}
use Rattle.std.proofs.Common.{sym, ap, ◌∙◌, arith}
use Rattle.model.specs.Base.{upd, upd-cases, on, is₂, is₃, is₂_same, is₂-cases, is₃_same, is₃_false, sum-upd, both}
use Rattle.model.specs.State.{State, with_task_status}
use Rattle.model.specs.Weights.{weigh, weigh_in, weigh_out, tasks_with, finishes_with}
use Rattle.model.specs.Guards.{Runs}
use Rattle.model.specs.Effects.End.{end_other}
use Rattle.model.specs.Inv.{Inv}
use Rattle.model.specs.Inv.Rows.{TaskStatuses, MainStatuses, StatusMade}
use Rattle.model.specs.Inv.Statuses.{Active, Publishing, Waiting, Released, Lost, Busy, Waiters, LostTasks, FirstTask, FirstLost, Blocked}
use Rattle.model.specs.Inv.Messages.{Publishes, Published, Transits, LostTransits, OnWire, NamedPublish, NamedTransit, FreshLocals}
use Rattle.model.specs.Inv.Cells.{SentTasksMost}
use Rattle.model.specs.Inv.Locals.{LocalLive, LocalBook}
use Rattle.model.proofs.Steps.TaskMoved.{TaskMoved, Moves, moves}
use Rattle.model.proofs.Steps.TaskMoved as N

-- what is shown
pub record OtherEnded (s : State) : Type 0 where
  pub task_statuses : TaskStatuses s
  pub main_statuses : MainStatuses s
  pub status_made : StatusMade s
  pub active : Active s
  pub publishing : Publishing s
  pub waiting : Waiting s
  pub released : Released s
  pub lost : Lost s
  pub busy : Busy s
  pub waiters : Waiters s
  pub lost_tasks : LostTasks s
  pub first_task : FirstTask s
  pub first_lost : FirstLost s
  pub blocked : Blocked s
  pub publishes : Publishes s
  pub published : Published s
  pub transits : Transits s
  pub lost_transits : LostTransits s
  pub on_wire : OnWire s
  pub named_publish : NamedPublish s
  pub named_transit : NamedTransit s
  pub fresh_locals : FreshLocals s
  pub sent_tasks_most : SentTasksMost s
  pub local_live : LocalLive s
  pub local_book : LocalBook s

module _ (s : State) (t : ℕ) (inv : Inv s) (runs : Runs s t) (other : s.tasks.sent t ≡ 0 → ⊥) where
  abbrev s' : State
  s' = end_other s t

  is_sent : s.tasks.sent t ≡ 1
  is_sent = omega (arith, inv.task_ranges t runs.low runs.high)

  by_row : Moves s t 7 s'.tasks.status
  by_row P x a _ c = upd-cases s.tasks.status P t 7 x a c

  moved : TaskMoved (with_task_status (upd s.tasks.status t 7) s)
  moved = moves s t 5 7 s'.tasks.status inv is_sent runs.running (omega arith) (omega arith) (omega arith) (omega arith) (λ q. omega arith) (λ q. absurd (omega arith)) by_row

  stays : (x w : ℕ) → s.tasks.status x ≡ w → (w ≡ 6 → ⊥) → (w ≡ 5 → ⊥) → s'.tasks.status x ≡ w
  stays = N.stays s t 5 7 s'.tasks.status inv is_sent runs.running (omega arith) (omega arith) (omega arith) (omega arith) (λ q. omega arith) (λ q. absurd (omega arith)) by_row

  blocked : Blocked s'
  blocked b h =
      let key = is₂ (s.tasks.sent t) (s.tasks.maker t) 1 b in
      let moved = sum-upd (suc s.tasks.made) (λ x v. weigh (is₂ (s.tasks.sent x) (s.tasks.maker x) 1 b) 1 2 v) s.tasks.status t 7 (omega (arith, runs.high)) in
      let was_out = weigh_out key 1 2 (s.tasks.status t) (λ _ l. omega (arith, runs.running)) in
      let is_out = weigh_out key 1 2 7 (λ _ l. omega arith) in
      upd-cases s.tasks.status (λ w. weigh true 6 6 w ≡ tasks_with s' (λ x. is₂ (s.tasks.sent x) (s.tasks.maker x) 1 b) 1 2 + finishes_with s (λ f. eqb (s.finishes.opener f) b) 1 3) t 7 b
      (λ q. omega (
        arith,
        moved,
        was_out,
        is_out,
        inv.blocked b h,
        weigh_out true 6 6 7 (λ _ l. omega arith),
        weigh_out true 6 6 (s.tasks.status b) (λ l _. omega (arith, runs.running, ap s.tasks.status q)),
      ))
      (λ _. omega (arith, moved, was_out, is_out, inv.blocked b h))

  transits : Transits s'
  transits k h l m a = let r = inv.transits k h l m a in (stays (s.slot k).task 2 r.0 (λ q. omega arith) (λ q. omega arith), r.1)

  on_wire : OnWire s'
  on_wire k h e = let r = inv.on_wire k h e in (stays (s.slot k).task 3 r.0 (λ q. omega arith) (λ q. omega arith), r.1)

  fresh_locals : FreshLocals s'
  fresh_locals f j i e = let r = inv.fresh_locals f j i e in (r.0, r.1, omega (arith, r.2), r.3)

  sent_tasks_most : SentTasksMost s'
  sent_tasks_most f i j ne = omega (
    arith,
    inv.sent_tasks_most f i j ne,
    sum-upd (suc s.tasks.made) (λ x v. weigh (is₃ (s.tasks.finish x) (s.tasks.from x) (s.tasks.at x) f i j) 2 8 v) s.tasks.status t 7 (omega (arith, runs.high)),
    weigh_in (is₃ (s.tasks.finish t) (s.tasks.from t) (s.tasks.at t) f i j) 2 8 (s.tasks.status t) (omega (arith, runs.running)) (omega (arith, runs.running)),
    weigh_in (is₃ (s.tasks.finish t) (s.tasks.from t) (s.tasks.at t) f i j) 2 8 7 (omega arith) (omega arith),
  )

  -- what t counts for in its local book
  counts : (f j : ℕ) → weigh (is₃ (s.tasks.sent t) (s.tasks.finish t) (s.tasks.at t) 1 f j) 5 6 (s.tasks.status t) ≡ on (is₂ (s.tasks.finish t) (s.tasks.at t) f j) 1
  counts f j = weigh_in (is₃ (s.tasks.sent t) (s.tasks.finish t) (s.tasks.at t) 1 f j) 5 6 (s.tasks.status t) (omega (arith, runs.running)) (omega (arith, runs.running))
      ∙ ap (λ (b : Bool). on b 1) (sent_key (s.tasks.sent t) (s.tasks.finish t) (s.tasks.at t) f j is_sent)
    where
      sent_key : (a b c f j : ℕ) → a ≡ 1 → is₃ a b c 1 f j ≡ is₂ b c f j
      sent_key a b c f j e = is₂-cases b c f j (λ p q. rw (e, p, q) (is₃_same 1 f j ∙ sym (is₂_same f j))) (λ n. is₃_false a b c 1 f j (λ _ p q. both (rw (p, q) (is₂_same f j)) n) ∙ sym n)

  local_live : LocalLive s'
  local_live f j = omega (
    arith,
    inv.local_live f j,
    sum-upd (suc s.tasks.made) (λ x v. weigh (is₃ (s.tasks.sent x) (s.tasks.finish x) (s.tasks.at x) 1 f j) 5 6 v) s.tasks.status t 7 (omega (arith, runs.high)),
    counts f j,
    weigh_out (is₃ (s.tasks.sent t) (s.tasks.finish t) (s.tasks.at t) 1 f j) 5 6 7 (λ _ l. omega arith),
  )

  local_book : LocalBook s'
  local_book f j h = inv.local_book f j (omega arith)

  pub other_ends : OtherEnded s'
  other_ends = let m = moved in search (blocked, transits, on_wire, fresh_locals, sent_tasks_most, local_live, local_book)
