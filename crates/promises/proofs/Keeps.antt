-- What kill and adopt make of a part is as long as the part.
use mathlib.Core.Path.{refl, ◌∙◌}
use mathlib.Core.Bool.{cond, not}
use mathlib.Core.List.{List, [], ◌∷◌}
use Prim.Native.Nat.{ℕ, ◌%◌}
use lib.Dec.{eqb}
use lib.ListN.{length-set}
use Rattle.tables.specs.Bytes.{byte}
use Rattle.tables.specs.Walks.{every}
use Rattle.tables.proofs.Changes.{Keeps}
use Rattle.rules.specs.Books.{column}
use Rattle.rules.specs.Messages.{message_in, goes_to}
use Rattle.rules.specs.Kill.{loses_task, kill_task, loses_finish, kill_finish, kill_book, kill_local, kill_slot}
use Rattle.rules.specs.Adopt.{orphan, adopt_book}
use Rattle.model.specs.Base.Cases.{bool_cases}

module _ (p : ℕ) where
  pub task_keeps : Keeps (kill_task p) 8
  unfolding kill_task
  task_keeps m k l = length-set m 3 (cond (loses_task p (byte m 0) (byte m 1) (byte m 3)) 8 (byte m 3)) ∙ l

  pub finish_keeps : Keeps (kill_finish p) 8
  unfolding kill_finish
  finish_keeps m f l = length-set m 3 (cond (loses_finish p (byte m 0) (byte m 3)) 5 (byte m 3)) ∙ l

  pub book_keeps : Keeps (kill_book p) 144
  unfolding kill_book
  book_keeps m f l = length-set m 2 (cond (every (eqb (byte m 0) 1 ∷ not (eqb (column m p) 0) ∷ [])) 1 (byte m 2)) ∙ l

  pub local_keeps : Keeps (kill_local p) 24
  unfolding kill_local
  local_keeps m y l = bool_cases (eqb (y % 8) p) (λ e. rw e refl) (λ e. rw e l)

  pub slot_keeps : (t : List ℕ) → Keeps (kill_slot t p) 16
  unfolding kill_slot
  slot_keeps t m s l = bool_cases (eqb (goes_to t (message_in m)) p) (λ e. rw e refl) (λ e. rw e l)

pub adopt_keeps : (t : List ℕ) (f : ℕ) → Keeps (adopt_book t f) 144
unfolding adopt_book
adopt_keeps t f m g l = length-set m 3 (cond (orphan t f m g) 1 (byte m 3)) ∙ l
