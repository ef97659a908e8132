-- "Gives the next tables or a refusal": the document's number of each refusal, of each tag, and of a step's inner answer.
use Rattle.std.specs.Prelude.{◌≡◌, ℕ, ◌≤◌, Option, None, Some, Result, Ok, Err, IfOk, MatchResult}
use Rattle.answers.specs.declared.Refusal.{Refusal}
use Rattle.answers.specs.declared.Refusal.TheVariants.{NoAction, NotThere, WrongPlace, NotReady, MustWait, NoRoom, WrongLength, Unsound, Unwanted}
use Rattle.answers.specs.declared.Tag.{Tag}
use Rattle.answers.specs.declared.NoTag.{NoTag}
use Rattle.answers.specs.declared.Tag.TheVariants.{Publish, Published, Transit, Granted, Denied, Task, Report, Release, GhostEnded, CountDropped, Dropped}

-- Refusal numbers, as listed.
abbrev pub refusal_number : Refusal → ℕ
refusal_number NoAction = 1
refusal_number NotThere = 2
refusal_number WrongPlace = 3
refusal_number NotReady = 4
refusal_number MustWait = 5
refusal_number NoRoom = 6
refusal_number WrongLength = 7
refusal_number Unsound = 8
refusal_number Unwanted = 9

-- Deliver, by tag: the tags, as listed.
abbrev pub tag_number : Tag → ℕ
tag_number Publish = 1
tag_number Published = 2
tag_number Transit = 3
tag_number Granted = 4
tag_number Denied = 5
tag_number Task = 6
tag_number Report = 7
tag_number Release = 8
tag_number GhostEnded = 9
tag_number CountDropped = 10
tag_number Dropped = 11

-- Which numbers are a tag: 1 to 11. Tag 0 is empty.
abbrev pub TagFrom : ℕ → Result Tag NoTag → Type 0
TagFrom n r = MatchResult r (λ tag. tag_number tag ≡ n) (λ e. (e.0 ≡ n) × ¬ ((1 ≤ n) × (n ≤ 11)))

-- 0 is done; a refusal returns its number.
abbrev pub number_of : {A : Type 0} → Result A Refusal → ℕ
number_of (Ok done) = 0
number_of (Err refusal) = refusal_number refusal

-- the tag of what was sent, 0 where nothing was
abbrev pub sent_number : Option Tag → ℕ
sent_number None = 0
sent_number (Some tag) = tag_number tag

-- the answer of a step that the rules answer by n, and that sends the message with this tag where it is taken
abbrev pub Answered : Result (Option Tag) Refusal → ℕ → ℕ → Type 0
Answered answer n tag = (number_of answer ≡ n) × IfOk answer (λ sent. sent_number sent ≡ tag)
