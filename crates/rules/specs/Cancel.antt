-- The steps, cancel f, v: column v becomes 0, then the closing test.
use Rattle.std.specs.Prelude.{List, ℕ}
use Rattle.rules.specs.Books.{book_of, with_book, cleared_column}
use Rattle.rules.specs.Closing.{closing_test}
use Rattle.rules.specs.Messages.{lowest_empty}

-- Column v becomes 0.
unfoldable pub cancelled : List ℕ → ℕ → ℕ → List ℕ
cancelled t f v = with_book t f (cleared_column (book_of t f) v)

-- Then the closing test.
unfoldable pub cancel_step : List ℕ → ℕ → ℕ → List ℕ
cancel_step t f v = closing_test (cancelled t f v) f (lowest_empty t)
