-- The answer to an action and the tables after it, where the tables and the record have their lengths: 1 and 8 come before the
-- step's own refusals. And an action as the code holds it, as the rules' action and as a record.
use Rattle.std.specs.Prelude.{◌≡◌, cond, List, [], ◌∷◌, ℕ, eqb, min, Result, MatchResult}
use Rattle.rules.specs.Action as rules
use Rattle.rules.specs.Refusals.{refuse, first_of, no_action, unsound, step_refusals}
use Rattle.rules.specs.Step.{step}
use Rattle.answers.specs.declared.Refusal.{Refusal}
use Rattle.actions.specs.declared.Action.{Action}
use Rattle.actions.specs.declared.Action.TheVariants.{Spawn, Open, End, Deliver, Kill, Adopt, Cancel, Ask, Begin}

unfoldable pub record_answer : List ℕ → rules.Action → ℕ
record_answer t x = first_of (refuse (no_action x) 1 ∷ refuse (unsound t x) 8 ∷ step_refusals t x)

unfoldable pub record_after : List ℕ → rules.Action → List ℕ
record_after t x = cond (eqb (record_answer t x) 0) (step t x) t

abbrev pub asked : Action → rules.Action
asked (Spawn task place) = rules.spawn task place
asked (Open task) = rules.open_finish task
asked (End task) = rules.end task
asked (Deliver slot) = rules.deliver slot
asked (Kill place) = rules.kill place
asked (Adopt finish) = rules.adopt finish
asked (Cancel finish dead_place) = rules.cancel finish dead_place
asked (Ask finish dead_place live_place) = rules.ask finish dead_place live_place
asked (Begin places) = rules.begin places

-- an action is 4 bytes; a record that names none is refused
abbrev pub ActionFrom : List ℕ → Result Action Refusal → Type 0
ActionFrom bytes r = MatchResult r (λ x. asked x ≡ rules.action_of bytes) (λ e. (rules.action_of bytes ≡ rules.unknown) × (e ≡ Refusal.NoAction))

-- The four bytes that name an action; of a begin of more than 255 places, which is refused, those of one of 255, refused too.
abbrev pub record_of : Action → List ℕ
record_of (Spawn task place) = 1 ∷ task ∷ place ∷ 0 ∷ []
record_of (Open task) = 2 ∷ task ∷ 0 ∷ 0 ∷ []
record_of (End task) = 3 ∷ task ∷ 0 ∷ 0 ∷ []
record_of (Deliver slot) = 4 ∷ slot ∷ 0 ∷ 0 ∷ []
record_of (Kill place) = 5 ∷ place ∷ 0 ∷ 0 ∷ []
record_of (Adopt finish) = 6 ∷ finish ∷ 0 ∷ 0 ∷ []
record_of (Cancel finish dead_place) = 7 ∷ finish ∷ dead_place ∷ 0 ∷ []
record_of (Ask finish dead_place live_place) = 8 ∷ finish ∷ dead_place ∷ live_place ∷ []
record_of (Begin places) = 9 ∷ min places 255 ∷ 0 ∷ 0 ∷ []
