-- The records that a turn searches, by kind and number; how many it tries of a kind, and how many of a kind have operands that are bytes.
use Rattle.std.specs.Prelude.{List, ℕ, ◌*◌}
use Rattle.rules.specs.Fields.{finishes_made}
use Rattle.turns.specs.declared.Searched.{Searched}
use Rattle.turns.specs.Turn.{adopt_record, cancel_record, ask_record, deliver_record}

abbrev pub records_of : Searched → ℕ → List ℕ
records_of Searched.Deliver = deliver_record
records_of Searched.Adopt = adopt_record
records_of Searched.Cancel = cancel_record
records_of Searched.Ask = ask_record

abbrev pub count_of : Searched → List ℕ → ℕ
count_of Searched.Deliver t = 128
count_of Searched.Adopt t = finishes_made t
count_of Searched.Cancel t = 8 * finishes_made t
count_of Searched.Ask t = 64 * finishes_made t

-- each kind for each of 255 finishes at most; deliver has fewer
abbrev pub most_of : Searched → ℕ
most_of Searched.Deliver = 255
most_of Searched.Adopt = 255
most_of Searched.Cancel = 2040
most_of Searched.Ask = 16320
