use Rattle.std.proofs.Common.{◌≡◌, ◌≤◌, ◌-◌}
use Rattle.rules.specs.Messages.{lowest_empty}
use Rattle.messages.proofs.Slots.{empty_from}
use Rattle.messages.proofs.lowest_empty.Given as goal

-- no slot before n is empty
abbrev pub invariant-loop-n : goal.invariant-loop-n
invariant-loop-n l = (l.n ≤ 128) × (empty_from l.t l.n ≡ lowest_empty l.t)

abbrev pub decreases-loop-n : goal.decreases-loop-n
decreases-loop-n l = 128 - l.n
