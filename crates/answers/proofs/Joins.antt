-- The two ways of a step's joiner: what it answers where its check refuses, and where it does not.
use Rattle.std.proofs.Common.{◌≡◌}
use Rattle.answers.specs.declared.Refusal.{Refusal}
use Rattle.answers.specs.declared.Refusal.TheVariants.{NoAction, NotThere, WrongPlace, NotReady, MustWait, NoRoom, WrongLength, Unsound, Unwanted}
use Rattle.answers.specs.Answers.{refusal_number}

-- no refusal has the number of done
pub refused_ne0 : (r : Refusal) → refusal_number r ≡ 0 → ⊥
refused_ne0 NoAction e = cc
refused_ne0 NotThere e = cc
refused_ne0 WrongPlace e = cc
refused_ne0 NotReady e = cc
refused_ne0 MustWait e = cc
refused_ne0 NoRoom e = cc
refused_ne0 WrongLength e = cc
refused_ne0 Unsound e = cc
refused_ne0 Unwanted e = cc
