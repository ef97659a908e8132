use Rattle.std.proofs.Common.{rules}
use Rattle.tables.specs.Walks.{every, some_of}
use Rattle.tables.proofs.Tests.{tests}
use Rattle.cancel.proofs.Laws.{sends_told}
use Rattle.cancel.proofs.sends_after.Goals as goal

pub returns-then-is_adopted : goal.returns-then-is_adopted
unfolding every some_of
returns-then-is_adopted c = rw (sends_told c.args.t.now c.args.f c.args.v c.told-t (search rules)) (search (rules, tests))

pub returns-else-is_adopted : goal.returns-else-is_adopted
unfolding every some_of
returns-else-is_adopted c = rw (sends_told c.args.t.now c.args.f c.args.v c.told-t (search rules)) (search (rules, tests))

pub returns-else-closes_without : goal.returns-else-closes_without
unfolding every some_of
returns-else-closes_without c = rw (sends_told c.args.t.now c.args.f c.args.v c.told-t (search rules)) (search (rules, tests))
