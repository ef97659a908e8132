-- On good tables 8 and 9 are never given.
use mathlib.Core.Path.{◌≡◌, refl, ap}
use mathlib.Core.Bool.{Bool, true, false, cond, not}
use mathlib.Core.List.{List}
use Prim.Native.Nat.{ℕ, ◌≤◌}
use native.Mathlib.Omega.{arith}
use Rattle.rules.specs.Action.{Action, unknown, spawn, open_finish, end, deliver, kill, adopt, cancel, ask, begin, action_of}
use Rattle.rules.specs.Refusals.{wrong_length, no_action, unsound, not_there, wrong_place, not_ready, must_wait, no_room, unwanted, first_of, step_refusals, refusals, answer}
use Rattle.promises.proofs.Good.{Good}
use Rattle.promises.proofs.SoundTables.{good_held}
use Rattle.promises.proofs.Wanted.{good_wanted}

-- a refusal to 7 and those after it; a refusal that does not apply
at_most : (c : Bool) (n x : ℕ) → n ≤ 7 → (c ≡ false → x ≤ 7) → cond c n x ≤ 7
at_most true n x h rest = h
at_most false n x h rest = rest refl

passed : (c : Bool) (n x : ℕ) → c ≡ false → x ≤ 7 → cond c n x ≤ 7
passed c n x e h = rw e h

-- 8 does not apply
pub good_ranges : (t : List ℕ) → Good t → (x : Action) → unsound t x ≡ false
unfolding unsound
good_ranges t good unknown = refl
good_ranges t good (spawn k p) = ap not (good_held t good).sound
good_ranges t good (open_finish k) = ap not (good_held t good).sound
good_ranges t good (end k) = ap not (good_held t good).sound
good_ranges t good (deliver k) = ap not (good_held t good).sound
good_ranges t good (kill p) = ap not (good_held t good).sound
good_ranges t good (adopt f) = ap not (good_held t good).sound
good_ranges t good (cancel f v) = ap not (good_held t good).sound
good_ranges t good (ask f v j) = ap not (good_held t good).sound
good_ranges t good (begin n) = refl

module _ (t r : List ℕ) (good : Good t) where
  answer_most : answer t r ≤ 7
  unfolding answer refusals step_refusals first_of
  answer_most =
      let x = action_of r in
      at_most (wrong_length t r) 7 _ (omega arith) (λ _.
      at_most (no_action x) 1 _ (omega arith) (λ _.
      passed (unsound t x) 8 _ (good_ranges t good x) (
      at_most (not_there t x) 2 _ (omega arith) (λ a.
      at_most (wrong_place t x) 3 _ (omega arith) (λ _.
      at_most (not_ready t x) 4 _ (omega arith) (λ b.
      at_most (must_wait t x) 5 _ (omega arith) (λ _.
      at_most (no_room t x) 6 _ (omega arith) (λ _.
      passed (unwanted t x) 9 0 (good_wanted t good x a b) (omega arith)))))))))

  pub good_never : (answer t r ≡ 8 → ⊥) × (answer t r ≡ 9 → ⊥)
  good_never = ((λ e. omega (arith, answer_most)), (λ e. omega (arith, answer_most)))
