-- A turn: which record is played next, after n steps, on tables t. "At each turn, in this order: the kill, once, if the steps taken,
-- begin included, have reached its step and the victim isn't place 0; the lowest adopt, cancel or ask (by record bytes) that is taken;
-- the lowest slot whose deliver is taken; the lowest running task's next act."
use Rattle.std.specs.Prelude.{Bool, cond, List, [], ◌∷◌, ℕ, suc, ◌*◌, ◌/◌, ◌%◌, ◌≤◌, ◌<◌, eqb, leb}
use Rattle.tables.specs.Walks.{every}
use Rattle.rules.specs.Fields.{finishes_made}
use Rattle.rules.specs.Refusals.{answer}
use Rattle.plan.specs.declared.Plan.{Plan}
use Rattle.turns.specs.Choice.{taken_or}
use Rattle.acts.specs.Acts.{act_of}

-- the ranges of a plan that a turn takes; a plan that fits has them
abbrev pub Playable : Plan → Type 0
Playable p = (p.levels ≤ 5) × (((1 ≤ p.places) × (p.places ≤ 8)) × (p.victim < 8))

-- Records in the order of their bytes, numbered from 0: adopt of finish 1, 2, …; cancel, for each finish the places 0 to 7; ask, for
-- each finish and place the places 0 to 7; deliver of slot 0, 1, ….
unfoldable pub adopt_record : ℕ → List ℕ
adopt_record i = 6 ∷ suc i ∷ 0 ∷ 0 ∷ []

unfoldable pub cancel_record : ℕ → List ℕ
cancel_record i = 7 ∷ suc (i / 8) ∷ i % 8 ∷ 0 ∷ []

unfoldable pub ask_record : ℕ → List ℕ
ask_record i = 8 ∷ suc (i / 64) ∷ i / 8 % 8 ∷ i % 8 ∷ []

unfoldable pub deliver_record : ℕ → List ℕ
deliver_record s = 4 ∷ s ∷ 0 ∷ 0 ∷ []

unfoldable pub kill_record : Plan → List ℕ
kill_record p = 5 ∷ p.victim ∷ 0 ∷ 0 ∷ []

-- Kill step 0 means none; a place is killed once, since the kill of a dead place is refused.
unfoldable pub kill_due : Plan → ℕ → List ℕ → Bool
kill_due p n t = every (leb 1 p.killstep ∷ leb p.killstep n ∷ leb 1 p.victim ∷ eqb (answer t (kill_record p)) 0 ∷ [])

-- the same, before the kill is tried
unfoldable pub kill_reached : Plan → ℕ → Bool
kill_reached p n = every (leb 1 p.killstep ∷ leb p.killstep n ∷ leb 1 p.victim ∷ [])

-- the lowest adopt, cancel or ask that is taken
unfoldable pub repair_or : List ℕ → List ℕ → List ℕ
repair_or t other =
    taken_or t adopt_record (finishes_made t) (taken_or t cancel_record (8 * finishes_made t) (taken_or t ask_record (64 * finishes_made t) other))

-- the record of the turn; none where the turn has no step
unfoldable pub turn_record : Plan → ℕ → List ℕ → List ℕ
turn_record p n t = cond (kill_due p n t) (kill_record p) (repair_or t (taken_or t deliver_record 128 (act_of p t)))
