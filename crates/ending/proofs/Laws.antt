-- What a taken end has: its task was made, and there is room for the message that it sends.
use mathlib.Core.Path.{◌≡◌, refl, sym}
use mathlib.Core.Bool.{Bool, true, false, not, true≢false}
use mathlib.Core.List.{List, [], ◌∷◌}
use Prim.Native.Nat.{ℕ}
use lib.Dec.{eqb}
use Rattle.tables.specs.Walks.{every}
use Rattle.rules.specs.Fields.{task_at, task_finish, task_made, is_published, is_main, local_live}
use Rattle.rules.specs.Action.{end}
use Rattle.rules.specs.Messages.{slots_full}
use Rattle.rules.specs.End.{end_sends}
use Rattle.rules.specs.Refusals.{not_there, no_room, step_answer}
use Rattle.rules.proofs.Taken.{step-taken}

pub end_made : (t : List ℕ) (k : ℕ) → step_answer t (end k) ≡ 0 → task_made t k ≡ true
unfolding not_there
end_made t k h = go (task_made t k) (step-taken t (end k) h).there
  where
    go : (c : Bool) → not c ≡ false → c ≡ true
    go true q = refl
    go false q = absurd (true≢false q)

-- it has room for the message that it sends
end_room : (t : List ℕ) (k : ℕ) → step_answer t (end k) ≡ 0 → end_sends t k ≡ true → slots_full t ≡ false
unfolding no_room every
end_room t k h = go (end_sends t k) (slots_full t) (step-taken t (end k) h).room
  where
    go : (a b : Bool) → every (a ∷ b ∷ []) ≡ false → a ≡ true → b ≡ false
    go true true q e = q
    go true false q e = refl
    go false b q e = absurd (true≢false (sym e))

module _ (t : List ℕ) (k : ℕ) (h : step_answer t (end k) ≡ 0) where
  pub main_room : is_main t k ≡ true → eqb (is_published t (task_finish t k)) 0 ≡ false → slots_full t ≡ false
  unfolding end_sends
  main_room m e = end_room t k h (rw (m, e))

  pub other_room : is_main t k ≡ false → eqb (local_live t (task_finish t k) (task_at t k)) 1 ≡ true → slots_full t ≡ false
  unfolding end_sends
  other_room m e = end_room t k h (rw (m, e))
