use Rattle.std.proofs.Common.{rules, refl}
use mathlib.Core.Path.{subst}
use Rattle.std.specs.Fn.{FnOnceReturnsAt}
use Rattle.std.proofs.lemmas.Fn.{gave_at}
use Rattle.finish.proofs.Entries.{read_says}
use Rattle.finish.proofs.read.Goals as goal

pub returns-in-Ok : goal.returns-in-Ok
returns-in-Ok g c = λ n h.
    let there = subst (λ k. FnOnceReturnsAt g.F.FnOnce c.args.f k c.f.result) c.in-Ok.ensures.1.same (gave_at g.F.FnOnce c.f.ensures refl) in
    read_says _ _ _ (λ w. h w there) (λ no. absurd (no c.in-Ok.ensures.1.long))

pub returns-in-Err : goal.returns-in-Err
returns-in-Err g c = λ n h. read_says _ _ _ (λ w. search rules) (λ no. refl)
