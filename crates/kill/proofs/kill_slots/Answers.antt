use mathlib.Core.Path.{◌≡◌, ap, ◌∙◌}
use Prim.Native.Nat.{◌+◌, ◌*◌}
use Rattle.tables.specs.Bytes.{part, write}
use Rattle.rules.specs.Kill.{kill_slot}
use Rattle.kill.proofs.Keeps.{slot_keeps, slot_due}
use borrow.Author.Rules.{rules}
use Rattle.kill.proofs.kill_slots.Goals as goal

pub returns : goal.returns
returns c = c.write_parts.ensures (kill_slot c.args.t.now c.args.p) 0 (slot_keeps _ _) (λ y z j h due post.
    let new : z.now ≡ write y.now (13056 + 16 * j) (kill_slot y.now c.args.p (part y.now (13056 + 16 * j) 16) 0) = search rules in
    new ∙ ap (write y.now (13056 + 16 * j)) (slot_due _ _ _ _ _ c.fits-t h due))
