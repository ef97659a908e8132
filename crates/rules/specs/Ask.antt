-- The steps, ask f, v, j: marks the pair and sends count-dropped (10) with the sent count.
use Rattle.std.specs.Prelude.{List, ℕ, set}
use Rattle.tables.specs.Bits.{with_mark}
use Rattle.rules.specs.Fields.{asked_place, asked_marks, sent_count}
use Rattle.rules.specs.Messages.{count_dropped, send, lowest_empty}

unfoldable pub ask_step : List ℕ → ℕ → ℕ → ℕ → List ℕ
ask_step t f v j =
    send (set t (asked_place f v) (with_mark (asked_marks t f v) j)) (lowest_empty t) (count_dropped f 0 v j (sent_count t f v j))
