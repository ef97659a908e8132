-- Kill and ask: the rule's tables are seen as the model's effect.
use mathlib.Core.Path.{◌≡◌}
use mathlib.Core.List.{List}
use Prim.Native.Nat.{ℕ, ◌≤◌, ◌<◌}
use Rattle.rules.specs.Messages.{count_dropped, lowest_empty}
use Rattle.rules.specs.Kill.{kill_step}
use Rattle.rules.specs.Ask.{ask_step}
use Rattle.model.specs.State.{State}
use Rattle.model.specs.Effects.Kill.{kill}
use Rattle.model.specs.Effects.Repair.{ask}
use Rattle.model.specs.Inv.Rows.{StatusMade, BlankFinishes}
use Rattle.model.specs.Inv.Cells.{CellPlaces}
use Rattle.promises.proofs.Seen.{Seen}
use Rattle.promises.proofs.Rows.{read_tasks_made, read_finishes_made, read_home, seen_dead}
use Rattle.promises.proofs.Slots.{seen_send}
use Rattle.promises.proofs.BookCells.{read_sent, seen_asked}
use Rattle.promises.proofs.KillWalks.{seen_kill_tasks, seen_kill_finishes, seen_kill_books, seen_kill_locals, seen_kill_slots}

-- what a kill needs of the state: the counts of rows; rows not made are 0; cells stand at places; messages name a finish
pub record Killable (a : State) : Type 0 where
  pub places : a.places ≤ 8
  pub tasks : a.tasks.made ≤ 255
  pub finishes : a.finishes.made ≤ 32
  pub no_task : StatusMade a
  pub no_finish : BlankFinishes a
  pub cells : CellPlaces a
  pub names : (k : ℕ) → ((a.slot k).tag ≡ 0 → ⊥) → (0 < (a.slot k).finish) × ((a.slot k).finish < 33)

pub tie_kill : {t : List ℕ} {a : State} → Seen t a → Killable a → (p : ℕ) → 0 < p → p < 8 → Seen (kill_step t p) (kill a p)
unfolding kill_step
tie_kill {t} s ok p p0 p8 =
    rw (read_tasks_made s, read_finishes_made s)
    (seen_kill_tasks (seen_kill_finishes (seen_kill_books (seen_kill_locals (seen_kill_slots (seen_dead s p p8) p p8 t (read_home s) ok.names) p p8) p p8 ok.places ok.cells)
    p p0 ok.finishes ok.no_finish) p ok.tasks ok.no_task)

pub tie_ask : {t : List ℕ} {a : State} → Seen t a → (f v j : ℕ) → 0 < f → f < 33 → v < 8 → j < 8 → lowest_empty t < 128 → Seen (ask_step t f v j) (ask a f v j (lowest_empty t))
unfolding ask_step
tie_ask {t} {a} s f v j f0 f33 v8 j8 h =
    rw (read_sent s f f0 f33 v j v8 j8) (seen_send (seen_asked s f f0 f33 v v8 j j8) (lowest_empty t) h (count_dropped f 0 v j (a.books.sent f v j)) tt)
