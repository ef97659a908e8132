-- What each entry is held to: the five wrong cores that demand 2 must shut out.
use Rattle.std.specs.Prelude.{cond, List, ℕ, eqb, set}
use Rattle.tables.specs.Bytes.{byte}
use Rattle.tables.specs.Layout.{place, slot_row}
use Rattle.rules.specs.Messages.{Message, none, publish, published, transit, granted, denied, task, report, release, ghost_ended, count_dropped, dropped, message_at}
use Rattle.rules.specs.Refusals.{answer}
use Rattle.rules.specs.Step.{after}
use Rattle.rules.specs.Outcome.{Core}

-- A core that refuses everything, by whatever numbers.
abbrev pub refuses_all : (List ℕ → List ℕ → ℕ) → Core
refuses_all number = record { says = number; leaves = λ t r. t }

-- One that always says 0, and does nothing.
abbrev pub always_zero : Core
always_zero = record { says = λ t r. 0; leaves = λ t r. t }

-- One that leaves the tables as they were, whatever it answers.
abbrev pub never_writes : (List ℕ → List ℕ → ℕ) → Core
never_writes says = record { says = says; leaves = λ t r. t }

-- One that does real work at begin and afterwards only answers 0.
abbrev pub only_begins : Core
only_begins =
    record {
      says = λ t r. cond (eqb (byte r 0) 9) (answer t r) 0;
      leaves = λ t r. cond (eqb (byte r 0) 9) (after t r) t;
    }

-- One whose dropped count is invented: after a taken deliver of tag 10, n stands as the number of the reply in slot s.
unfoldable pub invented : ℕ → ℕ → Message → List ℕ → List ℕ
invented n s none u = u
invented n s (publish f k) u = u
invented n s (published f k) u = u
invented n s (transit f k v j) u = u
invented n s (granted f k v j) u = u
invented n s (denied f k v j) u = u
invented n s (task f k v j) u = u
invented n s (report f v counts) u = u
invented n s (release f) u = u
invented n s (ghost_ended q g) u = u
invented n s (count_dropped f k v j x) u = set u (place (slot_row s) 5) n
invented n s (dropped f k v j x) u = u

unfoldable pub invented_step : ℕ → List ℕ → List ℕ → List ℕ
invented_step n t r = cond (eqb (byte r 0) 4) (invented n (byte r 1) (message_at t (byte r 1)) (after t r)) (after t r)

abbrev pub invents_dropped : ℕ → Core
invents_dropped n = record { says = answer; leaves = λ t r. cond (eqb (answer t r) 0) (invented_step n t r) t }
