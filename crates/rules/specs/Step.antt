-- The steps: the tables after one action record; a refusal changes nothing.
use Rattle.std.specs.Prelude.{cond, List, ℕ, eqb}
use Rattle.rules.specs.Action.{Action, unknown, spawn, open_finish, end, deliver, kill, adopt, cancel, ask, begin, action_of}
use Rattle.rules.specs.Begin.{begin_step}
use Rattle.rules.specs.Spawn.{spawn_step}
use Rattle.rules.specs.Open.{open_step}
use Rattle.rules.specs.End.{end_step}
use Rattle.rules.specs.Deliver.{deliver_step}
use Rattle.rules.specs.Kill.{kill_step}
use Rattle.rules.specs.Adopt.{adopt_step}
use Rattle.rules.specs.Cancel.{cancel_step}
use Rattle.rules.specs.Ask.{ask_step}
use Rattle.rules.specs.Refusals.{step_answer, answer}

-- the tables that an action gives where it is taken
unfoldable pub step : List ℕ → Action → List ℕ
step t unknown = t
step t (spawn k p) = spawn_step t k p
step t (open_finish k) = open_step t k
step t (end k) = end_step t k
step t (deliver s) = deliver_step t s
step t (kill p) = kill_step t p
step t (adopt f) = adopt_step t f
step t (cancel f v) = cancel_step t f v
step t (ask f v j) = ask_step t f v j
step t (begin n) = begin_step n

-- the same where it is not taken: each refusal changes nothing
unfoldable pub step_after : List ℕ → Action → List ℕ
step_after t x = cond (eqb (step_answer t x) 0) (step t x) t

-- Each refusal changes nothing; 0 is done.
unfoldable pub after : List ℕ → List ℕ → List ℕ
after t r = cond (eqb (answer t r) 0) (step t (action_of r)) t
