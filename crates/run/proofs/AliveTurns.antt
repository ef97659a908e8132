-- The turns of a run: each that has a step is taken, one that has none finds finish 1 released, and there are at most 2,089 steps.
use mathlib.Core.Path.{◌≡◌, refl}
use mathlib.Core.Bool.{true}
use mathlib.Core.List.{List, []}
use Prim.Native.Nat.{ℕ, ◌≤◌}
use native.Mathlib.Omega.{arith}
use Rattle.rules.specs.Refusals.{wrong_length, answer}
use Rattle.rules.specs.Sessions.{is_released}
use Rattle.rules.proofs.Taken.{taken, neither}
use Rattle.model.specs.Base.Cases.{both}
use Rattle.promises.proofs.ActsTaken.{rest_released}
use Rattle.plan.specs.declared.Plan.{Plan}
use Rattle.plan.specs.Plan.{fits}
use Rattle.turns.specs.Turn.{turn_record}
use Rattle.plan.proofs.Ranges.{Ranges, ranges}
use Rattle.run.proofs.TurnOf.{TurnOf, kills, settles, acts, rests, turn_of}
use Rattle.run.proofs.Alive.{Alive, Goes, still_quiet, kill-goes, settle_goes, act-goes}

-- a turn with no step is no record
none-refused : (u : List ℕ) → answer u [] ≡ 0 → ⊥
unfolding wrong_length
none-refused u e = both refl (neither _ _ (taken u [] e).right_length).1

module _ {p : Plan} (fit : Ranges p) {n : ℕ} {u : List ℕ} (alive : Alive p n u) where
  some_goes : {r : List ℕ} → TurnOf p u r → (r ≡ [] → ⊥) → Goes p n u r
  some_goes (kills e) some = kill-goes fit alive e
  some_goes (settles x s e) some = settle_goes fit alive x s e
  some_goes (acts still k made runs) some = act-goes fit alive still k made runs
  some_goes (rests still none) some = absurd (some refl)

  refused : {r : List ℕ} → Goes p n u r → r ≡ [] → is_released u 1 ≡ true
  refused goes e = absurd (none-refused u (rw e at goes.taken))

  none-released : {r : List ℕ} → TurnOf p u r → r ≡ [] → is_released u 1 ≡ true
  none-released (kills e) = refused (kill-goes fit alive e)
  none-released (settles x s e) = refused (settle_goes fit alive x s e)
  none-released (acts still k made runs) = refused (act-goes fit alive still k made runs)
  none-released (rests still none) = λ _. rest_released alive.good (still_quiet alive.good still) none

pub alive_step : {p : Plan} {n : ℕ} {u : List ℕ} → fits p ≡ true → Alive p n u → (turn_record p n u ≡ [] → ⊥) → Goes p n u (turn_record p n u)
alive_step {p} {n} {u} fit alive = some_goes (ranges p fit) alive (turn_of p u n)

pub alive_ended : {p : Plan} {n : ℕ} {u : List ℕ} → fits p ≡ true → Alive p n u → turn_record p n u ≡ [] → is_released u 1 ≡ true
alive_ended {p} {n} {u} fit alive = none-released (ranges p fit) alive (turn_of p u n)

pub alive_steps : {p : Plan} {n : ℕ} {u : List ℕ} → Alive p n u → n ≤ 2089
alive_steps alive = omega (arith, alive.lives.budget)
