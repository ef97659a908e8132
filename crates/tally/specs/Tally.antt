-- The tally of steps, kills and zero answers after one step more.
use Rattle.std.specs.Prelude.{Bool, true, cond, ℕ, ◌+◌, eqb}
use Rattle.tally.specs.declared.Tally.{Tally}

-- a count, one higher where the step is counted; at its top it stays
unfoldable pub next : ℕ → Bool → ℕ
next x more = cond more (cond (eqb x 4294967295) x (x + 1)) x

-- every step counts as a step, a kill also as a kill, and an answer 0 as a zero
unfoldable pub noted : Tally → Bool → ℕ → Tally
noted t kill answer = record { steps = next t.steps true; kills = next t.kills kill; zeros = next t.zeros (eqb answer 0) }
