-- What the reading entries answer: a reading of tables of the right length, and one number outside every range for any other.
use Rattle.std.specs.Prelude.{cond, List, ℕ, eqb, ltb, length}
use Rattle.rules.specs.Fields.{finish_status}

-- the answer where the tables are not 15,104 bytes
unfoldable pub no_reading : ℕ
no_reading = 4294967295

unfoldable pub reading : List ℕ → ℕ → ℕ
reading t n = cond (eqb (length t) 15104) n no_reading

-- the status in the row of finish f, 1 to 32; 0 for any other number
unfoldable pub status_of : List ℕ → ℕ → ℕ
status_of t f = cond (eqb f 0) 0 (cond (ltb 32 f) 0 (finish_status t f))
