-- The order of a turn: what it plays, by which of its choices had a step.
use mathlib.Core.Path.{◌≡◌, refl, sym, ap, ◌∙◌}
use mathlib.Core.Bool.{Bool, true, false, cond}
use mathlib.Core.List.{List, [], ◌∷◌}
use Prim.Native.Nat.{ℕ, ◌+◌, ◌%◌}
use borrow.Author.Tests.{eq-eqb, ne_eqb}
use lib.Dec.{eqb, leb, ltb}
use Rattle.tables.specs.Walks.{every}
use Rattle.rules.specs.Refusals.{answer}
use Rattle.std.proofs.Common.{None, Some}
use Rattle.rules.specs.Step.{after}
use Rattle.rules.specs.Fields.{tasks_made, task_at}
use Rattle.fields.specs.Numbers.{given}
use Rattle.acts.specs.Acts.{spawns_more, next_act, lowest_running, running_task, act_of}
use Rattle.plan.specs.declared.Plan.{Plan}
use Rattle.turns.specs.declared.Played.{Played}
use Rattle.turns.specs.declared.Searched.{Searched}
use Rattle.turns.specs.Choice.{first_taken, taken_or}
use Rattle.turns.specs.Turn.{kill_record, kill_reached, kill_due, repair_or}
use Rattle.turns.specs.Numbered.{records_of, count_of}
use Rattle.turns.specs.Played.{played_on, Plays}
use Rattle.turns.proofs.Choice.{Choosing, choose_if, choose_then, refused_keeps, plays_none, plays_some}
use Rattle.turns.proofs.Records.{not_none}

-- ---- the lowest of a kind
abbrev pub lowest_of : Searched → List ℕ → List ℕ → List ℕ
lowest_of kind t = taken_or t (records_of kind) (count_of kind t)

pub kind_chooses : (kind : Searched) (t : List ℕ) → Choosing (lowest_of kind t)
unfolding taken_or
kind_chooses kind t =
    let i = first_taken t (records_of kind) (count_of kind t) in
    choose_if (ltb i (count_of kind t)) (records_of kind i) (not_none kind i)

pub repair_chooses : (t : List ℕ) → Choosing (repair_or t)
unfolding repair_or
repair_chooses t =
    choose_then (lowest_of Searched.Adopt t) _ (kind_chooses Searched.Adopt t)
    (choose_then (lowest_of Searched.Cancel t) _ (kind_chooses Searched.Cancel t) (kind_chooses Searched.Ask t))

-- ---- the kill
kill_some : (p : Plan) → kill_record p ≡ [] → ⊥
unfolding kill_record
kill_some p e = cc

pub kill_chooses : (p : Plan) (n : ℕ) (t : List ℕ) → Choosing (cond (kill_due p n t) (kill_record p))
kill_chooses p n t = choose_if (kill_due p n t) (kill_record p) (kill_some p)

module _ (p : Plan) (n : ℕ) (t : List ℕ) where
  abbrev kill : List ℕ
  kill = cond (kill_due p n t) (kill_record p) []

  -- it is due where it is reached and taken
  due : kill_due p n t ≡ cond (kill_reached p n) (eqb (answer t (kill_record p)) 0) false
  unfolding kill_due kill_reached every
  due = go (leb 1 p.killstep) (leb p.killstep n) (leb 1 p.victim) (eqb (answer t (kill_record p)) 0)
    where
      go : (a b c d : Bool) → cond a (cond b (cond c (cond d true false) false) false) false ≡ cond (cond a (cond b (cond c true false) false) false) d false
      go true true true true = refl
      go true true true false = refl
      go true true false d = refl
      go true false c d = refl
      go false b c d = refl

  pub kill_not : (v : Bool) → v ≡ kill_reached p n → v ≡ false → Plays t kill None t
  kill_not v e z =
      let q : kill_reached p n ≡ false = sym e ∙ z in
      plays_none t kill t (rw (due, q)) refl

  -- it is tried
  module _ (v : Bool) (e : v ≡ kill_reached p n) (reached : v ≡ true) (r : List ℕ) (made : r ≡ 5 ∷ p.victim ∷ 0 ∷ 0 ∷ [])
      (y : Played) (u : List ℕ) (is : y ≡ played_on t r) (gives : u ≡ after t r) where
    tried : kill_due p n t ≡ eqb (answer t (kill_record p)) 0
    tried = let q : kill_reached p n ≡ true = sym e ∙ reached in rw (due, q)

    played_kill : y ≡ played_on t (kill_record p)
    unfolding kill_record
    played_kill = rw (← made) is

    after_kill : u ≡ after t (kill_record p)
    unfolding kill_record
    after_kill = rw (← made) gives

    kill-answer : y.answer ≡ answer t (kill_record p)
    unfolding played_on
    kill-answer = ap (λ (z : Played). z.answer) played_kill

    pub kill-refused : (y.answer ≡ 0 → ⊥) → Plays t kill None u
    kill-refused z =
        let no : answer t (kill_record p) ≡ 0 → ⊥ = λ q. z (kill-answer ∙ q) in
        plays_none t kill u (rw (tried, ne_eqb (answer t (kill_record p)) 0 no)) (after_kill ∙ refused_keeps t (kill_record p) no)

    pub kill-taken : y.answer ≡ 0 → Plays t kill (Some y) u
    kill-taken z = rw (tried ∙ eq-eqb (answer t (kill_record p)) 0 (sym kill-answer ∙ z)) (plays_some t (kill_record p) y u (kill_some p) played_kill after_kill)

-- ---- the lowest running task's next act
act_some : (p : Plan) (t : List ℕ) (k : ℕ) → next_act p t k ≡ [] → ⊥
unfolding next_act
act_some p t k = go (spawns_more p t k)
  where
    go : (b : Bool) → cond b (1 ∷ k ∷ (task_at t k + 1) % p.places ∷ 0 ∷ []) (3 ∷ k ∷ 0 ∷ 0 ∷ []) ≡ [] → ⊥
    go true e = cc
    go false e = cc

module _ (p : Plan) (t : List ℕ) where
  pub act_none : None ≡ running_task t → Plays t (act_of p t) None t
  unfolding running_task act_of
  act_none e = go (leb (lowest_running t) (tasks_made t)) e
    where
      go : (b : Bool) → None ≡ given b (lowest_running t) → Plays t (cond b (next_act p t (lowest_running t)) []) None t
      go true e = cc
      go false e = plays_none t [] t refl refl

  pub act_plays : (k : ℕ) (r : List ℕ) (y : Played) (u : List ℕ) → Some k ≡ running_task t → r ≡ next_act p t k → y ≡ played_on t r → u ≡ after t r → Plays t (act_of p t) (Some y) u
  unfolding running_task act_of
  act_plays k r y u e made is gives = go (leb (lowest_running t) (tasks_made t)) e
    where
      go : (b : Bool) → Some k ≡ given b (lowest_running t) → Plays t (cond b (next_act p t (lowest_running t)) []) (Some y) u
      go true e = let q : k ≡ lowest_running t = cc in rw (← q, ← made) (plays_some t r y u (λ z. act_some p t k (sym made ∙ z)) is gives)
      go false e = cc
