use Rattle.std.proofs.Common.{refl}
use Rattle.walk.proofs.change_parts.Goals as goal

pub returns : goal.returns
returns g c = λ f i keeps makes.
    let walked = rw c.SIZE.ensures at c.write_parts.ensures in
    walked f i keeps (λ y z j h due turn. rw (turn.6, makes _ _ _ j h (rw (← turn.3) at due) (rw (← turn.3) at turn.4) turn.5, turn.4) refl)
