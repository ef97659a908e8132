-- "Done with what was sent": the tag of the message that a taken step sends, 0 where it sends none.
use Rattle.std.specs.Prelude.{cond, List, ℕ, ◌-◌, eqb, set}
use Rattle.rules.specs.Fields.{dead, home, is_adopted, live, live_place}
use Rattle.rules.specs.Action.{Action, unknown, spawn, open_finish, end, deliver, kill, adopt, cancel, ask, begin}
use Rattle.rules.specs.Books.{book_of, with_book, lowered_column}
use Rattle.rules.specs.Closing.{closes}
use Rattle.rules.specs.Messages.{Message, none, publish, published, transit, granted, denied, task, report, release, ghost_ended, count_dropped, dropped, message_at, send}
use Rattle.rules.specs.Spawn.{is_first}
use Rattle.rules.specs.End.{end_sends}
use Rattle.rules.specs.Cancel.{cancelled}
use Rattle.rules.specs.Deliver.{discarded, without_ghost}

-- what the closing test of the book of f sends: ghost-ended (9), release (8) or nothing
unfoldable pub closed_sends : List ℕ → ℕ → ℕ
closed_sends t f = cond (eqb (is_adopted t f) 1) 9 (cond (dead t (home t f)) 0 8)

unfoldable pub closing_sent : List ℕ → ℕ → ℕ
closing_sent t f = cond (closes (book_of t f)) (closed_sends t f) 0

-- the reply to the message in slot s, or what its closing test sends
unfoldable pub reply_sent : List ℕ → ℕ → Message → ℕ
reply_sent t s none = 0
reply_sent t s (publish f k) = 2
reply_sent t s (published f k) = 3
reply_sent t s (transit f k v j) = cond (dead t j) 5 4
reply_sent t s (granted f k v j) = cond (dead t j) 0 6
reply_sent t s (denied f k v j) = 0
reply_sent t s (task f k v j) = 0
reply_sent t s (report f v counts) = closing_sent (send (with_book t f (lowered_column (book_of t f) v counts)) s none) f
reply_sent t s (release f) = 0
reply_sent t s (ghost_ended q g) = closing_sent (send (without_ghost t q g) s none) q
reply_sent t s (count_dropped f k v j n) = 11
reply_sent t s (dropped f k v j n) = closing_sent (send (set t (live_place f v j) (live t f v j - n)) s none) f

unfoldable pub deliver_sent : List ℕ → ℕ → Message → ℕ
deliver_sent t s x = cond (discarded t x) 0 (reply_sent t s x)

unfoldable pub sent_by : List ℕ → Action → ℕ
sent_by t unknown = 0
sent_by t (spawn k p) = cond (is_first t k) 1 3
sent_by t (open_finish k) = 0
sent_by t (end k) = cond (end_sends t k) 7 0
sent_by t (deliver s) = deliver_sent t s (message_at t s)
sent_by t (kill p) = 0
sent_by t (adopt f) = 0
sent_by t (cancel f v) = closing_sent (cancelled t f v) f
sent_by t (ask f v j) = 10
sent_by t (begin n) = 0
