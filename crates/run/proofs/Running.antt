-- A run on its way: what the loop keeps from turn to turn, and what a turn with no step makes of it.
use mathlib.Core.Path.{◌≡◌, refl, sym, ap, ◌∙◌, subst}
use mathlib.Core.Bool.{true}
use mathlib.Core.List.{List, [], ◌∷◌}
use Prim.Native.Nat.{ℕ, zero, suc, ◌*◌, ◌≤◌, ◌<◌}
use native.Mathlib.Omega.{arith}
use lib.Dec.{eqb}
use lib.ListN.{length}
use Rattle.std.proofs.Common.{Option, None, Some}
use Rattle.std.specs.Prelude.{min}
use Rattle.std.proofs.Math.Nat.{min-eq_left}
use Rattle.tables.specs.Bytes.{byte, write}
use Rattle.tables.specs.Layout.{Whole}
use Rattle.rules.specs.Step.{after}
use Rattle.rules.specs.Sessions.{is_released}
use Rattle.plan.specs.declared.Plan.{Plan}
use Rattle.plan.specs.Plan.{fits}
use Rattle.plan.proofs.Ranges.{ranges}
use Rattle.tally.specs.declared.Tally.{Tally}
use Rattle.tally.specs.Tally.{noted}
use Rattle.turns.specs.declared.Played.{Played}
use Rattle.turns.specs.Played.{played_on, Plays}
use Rattle.turns.specs.Turn.{Playable, turn_record}
use Rattle.turns.proofs.Choice.{empty_keeps, some_played, none_played, plays_some}
use Rattle.run.specs.Run.{step_record, Ran}
use Rattle.run.proofs.Alive.{Alive, Goes}
use Rattle.run.proofs.AliveFirst.{alive_first}
use Rattle.run.proofs.AliveTurns.{alive_step, alive_ended, alive_steps}
use Rattle.run.proofs.Noted.{note_of, Noted, noted-none, noted_more}

-- Every step so far was taken, and a run that has begun goes on.
pub record Running (p : Plan) (t log u out : List ℕ) (r : Tally) : Type 0 where
  pub whole : Whole u
  pub noted_all : Noted p t log r.steps u out r
  pub alive : 0 < r.steps → Alive p r.steps u

pub running_none : (p : Plan) (t log : List ℕ) (r : Tally) → Whole t → r ≡ record { steps = 0; kills = 0; zeros = 0 } → Running p t log t log r
running_none p t log r whole e = rw e (record { whole = whole; noted_all = noted-none p t log; alive = λ l. absurd (omega arith) })

-- the ranges of a plan that fits
pub playable : (p : Plan) → fits p ≡ true → Playable p
playable p fit = let r = ranges p fit in (r.levels.1, ((omega (arith, r.places), r.places.1), omega (arith, r.victim, r.places)))

pub places_fit : (p : Plan) → fits p ≡ true → p.places ≤ 8
places_fit p fit = (playable p fit).1.0.1

-- the first step is the begin, each later one a turn
pub plays_begin : (p : Plan) (n : ℕ) (t r : List ℕ) (y : Played) (u : List ℕ) → fits p ≡ true → n ≡ 0 → r ≡ 9 ∷ min p.places 255 ∷ 0 ∷ 0 ∷ [] → y ≡ played_on t r → u ≡ after t r
    → Plays t (step_record p n t) (Some y) u
unfolding step_record
plays_begin p zero t r y u fit e made is gives =
    let few : min p.places 255 ≡ p.places = min-eq_left (omega (arith, places_fit p fit)) in
    let begins : r ≡ 9 ∷ p.places ∷ 0 ∷ 0 ∷ [] = made ∙ ap (λ (m : ℕ). 9 ∷ m ∷ 0 ∷ 0 ∷ []) few in
    rw (← begins) (plays_some t r y u (λ z. cc) is gives)
plays_begin p (suc n) t r y u fit e made is gives = absurd (omega arith)

pub plays_turn : (p : Plan) (n : ℕ) (t : List ℕ) (x : Option Played) (u : List ℕ) → (n ≡ 0 → ⊥) → Plays t (turn_record p n t) x u → Plays t (step_record p n t) x u
unfolding step_record
plays_turn p zero t x u e plays = absurd (e refl)
plays_turn p (suc n) t x u e plays = plays

-- a step that has a record is taken: the begin, or a turn
step-goes : {p : Plan} (n : ℕ) {u : List ℕ} → fits p ≡ true → Whole u → (0 < n → Alive p n u) → (step_record p n u ≡ [] → ⊥) → Goes p n u (step_record p n u)
unfolding step_record
step-goes zero fit whole alive some = alive_first fit whole
step-goes (suc n) fit whole alive some = alive_step fit (alive (omega arith)) some

-- one that has none comes after the begin, and finds finish 1 released
step_ends : {p : Plan} (n : ℕ) {u : List ℕ} → fits p ≡ true → (0 < n → Alive p n u) → step_record p n u ≡ [] → is_released u 1 ≡ true
unfolding step_record
step_ends zero fit alive e = let l = ap length e in absurd (omega arith)
step_ends (suc n) fit alive e = alive_ended fit (alive (omega arith)) e

few : {p : Plan} (n : ℕ) {u : List ℕ} → (0 < n → Alive p n u) → n ≤ 2089
few zero alive = omega arith
few (suc n) alive = alive_steps (alive (omega arith))

module _ {p : Plan} {t log u out : List ℕ} {r : Tally} (fit : fits p ≡ true) (run : Running p t log u out r) where
  abbrev x : List ℕ
  x = step_record p r.steps u

  -- the step is played
  module _ {d : Played} {u' : List ℕ} (plays : Plays u (step_record p r.steps u) (Some d) u') where
    played : d ≡ played_on u (step_record p r.steps u)
    played = (some_played u x d plays.step).0

    goes : Goes p r.steps u (step_record p r.steps u)
    goes = step-goes r.steps fit run.whole run.alive (some_played u x d plays.step).1

    -- there is room for it, and it is taken
    pub running_room : (r.steps < 2089) × (d.answer ≡ 0)
    unfolding played_on
    running_room = (omega (arith, alive_steps goes.alive), ap (λ (y : Played). y.answer) played ∙ goes.taken)

    -- one step more
    module _ {out' : List ℕ} {r' : Tally} (written : out' ≡ write out (5 * r.steps) (note_of d)) (counts : r' ≡ noted r (eqb (byte d.record 0) 5) d.answer) where
      more : Noted p t log (suc r.steps) u' out' r'
      more = noted_more run.noted_all (omega (arith, running_room.0)) goes.taken d played u' out' r' plays.tables written counts

      pub running-counts : r'.steps ≡ suc r.steps
      running-counts = more.steps

      pub running-next : Whole u' → Running p t log u' out' r'
      running-next whole = record {
        whole = whole;
        noted_all = subst (λ (m : ℕ). Noted p t log m u' out' r') (sym running-counts) more;
        alive = λ _. subst (λ (m : ℕ). Alive p m u') (sym running-counts) (rw plays.tables goes.alive);
      }

  -- there is none
  pub running_ends : {u' : List ℕ} → Plays u (step_record p r.steps u) None u' → Ran p t u' log out r
  running_ends {u'} plays =
      let z : x ≡ [] = none_played u x plays.step in
      let same : u' ≡ u = plays.tables ∙ ap (after u) z ∙ empty_keeps u in
      let a = run.noted_all in
      record {
        tables = same ∙ a.tables;
        written = a.written;
        tallied = a.tallied;
        taken = a.taken;
        ended = rw (← a.tables) z;
        released = rw same (step_ends r.steps fit run.alive z);
        most = few r.steps run.alive;
      }
