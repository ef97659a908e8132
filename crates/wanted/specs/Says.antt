-- What refuses the deliver of a message that is there: 5 where it is held, 9 where something wanted is not found.
use Rattle.std.specs.Prelude.{not, List, [], ◌∷◌, ℕ}
use Rattle.rules.specs.Messages.{Message}
use Rattle.rules.specs.Deliver.{held, deliver_wanted}
use Rattle.rules.specs.Refusals.{refuse, first_of}

unfoldable pub deliver_says : List ℕ → Message → ℕ
deliver_says t x = first_of (refuse (held t x) 5 ∷ refuse (not (deliver_wanted t x)) 9 ∷ [])
