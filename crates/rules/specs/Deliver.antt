-- The steps, deliver, by tag: what is discarded, held and wanted, and what each message does. A message made by a deliver,
-- closing test included, takes the delivered slot s; replies 4, 5, 6 and 11 copy finish, task, from and to.
use Rattle.std.specs.Prelude.{Bool, true, false, cond, not, List, [], ◌∷◌, ℕ, zero, suc, ◌+◌, ◌-◌, ◌*◌, ◌/◌, ◌%◌, eqb, leb, set, replicate}
use Rattle.tables.specs.Bytes.{byte, write}
use Rattle.tables.specs.Bits.{marked, with_mark, without_mark}
use Rattle.tables.specs.Walks.{every, some_of, every_below}
use Rattle.tables.specs.Layout.{place, book_row}
use Rattle.rules.specs.Fields.{dead_mask, dead, task_from, task_at, task_status, task_maker, home, opener, parent, finish_status, present, ghost_byte, live, sent_count, live_place, sent_place, received, received_place, local_live, local_live_place, deny_mask, deny_place, with_task_status, with_finish_status, waits_for_publish, waits_for_transit, on_the_wire, task_dropped, running, active, publishing, waits_for_release, released, may_run, runs, with_published}
use Rattle.rules.specs.Books.{book_of, with_book, lowered_column, under_repair}
use Rattle.rules.specs.Closing.{closing_test}
use Rattle.rules.specs.Messages.{Message, none, publish, published, transit, granted, denied, task, report, release, ghost_ended, count_dropped, dropped, goes_to, send, message_at}

-- no book
unfoldable pub book_absent : List ℕ → ℕ → Bool
book_absent t f = eqb (present t f) 0

-- At the store, 3 and 7 from a dead place, 11 answered by a dead place, and 3, 7, 9, 11 with no book are discarded.
-- 1: home dead: discard.
unfoldable pub discarded : List ℕ → Message → Bool
discarded t none = false
discarded t (publish f k) = dead t (home t f)
discarded t (published f k) = false
discarded t (transit f k v j) = some_of (dead t v ∷ book_absent t f ∷ [])
discarded t (granted f k v j) = false
discarded t (denied f k v j) = false
discarded t (task f k v j) = false
discarded t (report f v counts) = some_of (dead t v ∷ book_absent t f ∷ [])
discarded t (release f) = false
discarded t (ghost_ended q g) = book_absent t q
discarded t (count_dropped f k v j n) = false
discarded t (dropped f k v j n) = some_of (dead t j ∷ book_absent t f ∷ [])

-- After that, 3, 7 and 9 are held while the book is under repair. 1 and 11 are never held.
unfoldable pub waits_for_repair : List ℕ → Message → Bool
waits_for_repair t none = false
waits_for_repair t (publish f k) = false
waits_for_repair t (published f k) = false
waits_for_repair t (transit f k v j) = under_repair (dead_mask t) (book_of t f)
waits_for_repair t (granted f k v j) = false
waits_for_repair t (denied f k v j) = false
waits_for_repair t (task f k v j) = false
waits_for_repair t (report f v counts) = under_repair (dead_mask t) (book_of t f)
waits_for_repair t (release f) = false
waits_for_repair t (ghost_ended q g) = under_repair (dead_mask t) (book_of t q)
waits_for_repair t (count_dropped f k v j n) = false
waits_for_repair t (dropped f k v j n) = false

unfoldable pub held : List ℕ → Message → Bool
held t x = cond (discarded t x) false (waits_for_repair t x)

-- a count of each sender is at most its cell in column v
unfoldable pub lowers : List ℕ → ℕ → List ℕ → Bool
lowers b v counts = every_below (λ i. leb (byte counts i) (byte b (8 + 8 * i + v))) 8

-- Wanted, for delivers: 1 with a live home, finish publishing and book absent; 2, finish publishing and task status 1;
-- 4 and 5, task status 2; 6 not denied, task status 3; 8, finish waits for release; an opener or spawner about to run, blocked;
-- and no count leaves 0 to 255.
unfoldable pub fits : List ℕ → Message → Bool
fits t none = true
fits t (publish f k) = every (eqb (finish_status t f) publishing ∷ book_absent t f ∷ [])
fits t (published f k) = every (eqb (finish_status t f) publishing ∷ eqb (task_status t k) waits_for_publish ∷ [])
fits t (transit f k v j) = some_of (dead t j ∷ every (leb (live t f v j) 254 ∷ leb (sent_count t f v j) 254 ∷ []) ∷ [])
fits t (granted f k v j) = every (eqb (task_status t k) waits_for_transit ∷ may_run t (task_maker t k) ∷ [])
fits t (denied f k v j) = every (eqb (task_status t k) waits_for_transit ∷ may_run t (task_maker t k) ∷ [])
fits t (task f k v j) =
    some_of (marked (deny_mask t f j) v ∷ every (eqb (task_status t k) on_the_wire ∷ leb (received t f j v) 254 ∷ leb (local_live t f j) 254 ∷ []) ∷ [])
fits t (report f v counts) = lowers (book_of t f) v counts
fits t (release f) = every (eqb (finish_status t f) waits_for_release ∷ may_run t (opener t f) ∷ [])
fits t (ghost_ended q g) = true
fits t (count_dropped f k v j n) = leb (received t f j v) n
fits t (dropped f k v j n) = leb n (live t f v j)

-- Wanted, for delivers: the place it goes to alive. What is discarded wants nothing.
unfoldable pub deliver_wanted : List ℕ → Message → Bool
deliver_wanted t x = some_of (discarded t x ∷ every (not (dead t (goes_to t x)) ∷ fits t x ∷ []) ∷ [])

-- The climb stops at 0 and at a finish with a store book.
unfoldable pub climb_stops : List ℕ → ℕ → Bool
climb_stops t f = some_of (eqb f 0 ∷ eqb (present t f) 1 ∷ [])

-- f or its nearest ancestor with a store book, 0 if none; parent numbers fall, so n climbs are enough from any f below n
unfoldable pub nearest : List ℕ → ℕ → ℕ → ℕ
nearest t zero f = 0
nearest t (suc n) f = elim (climb_stops t f) [ true ↦ f | false ↦ nearest t n (parent t f) ]

-- A book with live and sent 1 at home, home; its parent is q.
unfoldable pub new_book : ℕ → ℕ → List ℕ
new_book h q = set (set (write (replicate 144 0) 0 (1 ∷ q ∷ [])) (8 + 8 * h + h) 1) (72 + 8 * h + h) 1

-- 1 publish: its parent is the nearest ancestor with a store book, 0 if none. Reply 2.
unfoldable pub deliver_publish : List ℕ → ℕ → ℕ → ℕ → List ℕ
deliver_publish t s f k = send (with_book t f (new_book (home t f) (nearest t 32 (parent t f)))) s (published f k)

-- 2 published: finish active and published; its waiting task to status 2; reply 3.
unfoldable pub deliver_published : List ℕ → ℕ → ℕ → ℕ → List ℕ
deliver_published t s f k =
    send (with_task_status (with_published (with_finish_status t f active) f) k waits_for_transit) s (transit f k (task_from t k) (task_at t k))

-- 3 transit: live and sent up by one, reply 4; receiver dead: reply 5.
unfoldable pub counted : List ℕ → ℕ → ℕ → ℕ → List ℕ
counted t f v j = set (set t (live_place f v j) (live t f v j + 1)) (sent_place f v j) (sent_count t f v j + 1)

unfoldable pub deliver_transit : List ℕ → ℕ → ℕ → ℕ → ℕ → ℕ → List ℕ
deliver_transit t s f k v j = cond (dead t j) (send t s (denied f k v j)) (send (counted t f v j) s (granted f k v j))

-- 4 granted: task on the wire, its spawner runs, reply 6; receiver dead: the same without the reply.
unfoldable pub deliver_granted : List ℕ → ℕ → ℕ → ℕ → ℕ → ℕ → List ℕ
deliver_granted t s f k v j =
    runs (with_task_status (send t s (cond (dead t j) none (task f k v j))) k on_the_wire) (task_maker t k)

-- 5 denied: task dropped, its spawner runs.
unfoldable pub deliver_denied : List ℕ → ℕ → ℕ → List ℕ
deliver_denied t s k = runs (with_task_status (send t s none) k task_dropped) (task_maker t k)

-- 6 task: received and live up, task runs; sender in deny mask: nothing.
unfoldable pub arrived : List ℕ → ℕ → ℕ → ℕ → ℕ → List ℕ
arrived t f k v j =
    with_task_status (set (set t (received_place f j v) (received t f j v + 1)) (local_live_place f j) (local_live t f j + 1)) k running

unfoldable pub deliver_task : List ℕ → ℕ → ℕ → ℕ → ℕ → ℕ → List ℕ
deliver_task t s f k v j = cond (marked (deny_mask t f j) v) (send t s none) (send (arrived t f k v j) s none)

-- 7 report: column lowered by the counts, closing test.
unfoldable pub deliver_report : List ℕ → ℕ → ℕ → ℕ → List ℕ → List ℕ
deliver_report t s f v counts = closing_test (send (with_book t f (lowered_column (book_of t f) v counts)) s none) f s

-- 8 release: released; opener, if any, runs.
unfoldable pub deliver_release : List ℕ → ℕ → ℕ → List ℕ
deliver_release t s f = runs (with_finish_status (send t s none) f released) (opener t f)

-- 9 ghost-ended: ghost removed, closing test; finish g at bit g − 1, low byte first.
unfoldable pub without_ghost : List ℕ → ℕ → ℕ → List ℕ
without_ghost t q g =
    set t (place (book_row q) (4 + (g - 1) / 8)) (without_mark (ghost_byte t q ((g - 1) / 8)) ((g - 1) % 8))

unfoldable pub deliver_ghost_ended : List ℕ → ℕ → ℕ → ℕ → List ℕ
deliver_ghost_ended t s q g = closing_test (send (without_ghost t q g) s none) q s

-- 10 count-dropped: sender denied; reply 11 with sent less received.
unfoldable pub deliver_count_dropped : List ℕ → ℕ → ℕ → ℕ → ℕ → ℕ → ℕ → List ℕ
deliver_count_dropped t s f k v j n =
    send (set t (deny_place f j) (with_mark (deny_mask t f j) v)) s (dropped f k v j (n - received t f j v))

-- 11 dropped: cell lowered, closing test.
unfoldable pub deliver_dropped : List ℕ → ℕ → ℕ → ℕ → ℕ → ℕ → List ℕ
deliver_dropped t s f v j n = closing_test (send (set t (live_place f v j) (live t f v j - n)) s none) f s

-- what each message in slot s does
unfoldable pub delivered : List ℕ → ℕ → Message → List ℕ
delivered t s none = t
delivered t s (publish f k) = deliver_publish t s f k
delivered t s (published f k) = deliver_published t s f k
delivered t s (transit f k v j) = deliver_transit t s f k v j
delivered t s (granted f k v j) = deliver_granted t s f k v j
delivered t s (denied f k v j) = deliver_denied t s k
delivered t s (task f k v j) = deliver_task t s f k v j
delivered t s (report f v counts) = deliver_report t s f v counts
delivered t s (release f) = deliver_release t s f
delivered t s (ghost_ended q g) = deliver_ghost_ended t s q g
delivered t s (count_dropped f k v j n) = deliver_count_dropped t s f k v j n
delivered t s (dropped f k v j n) = deliver_dropped t s f v j n

-- a discarded message leaves its slot empty
unfoldable pub deliver_message : List ℕ → ℕ → Message → List ℕ
deliver_message t s x = cond (discarded t x) (send t s none) (delivered t s x)

unfoldable pub deliver_step : List ℕ → ℕ → List ℕ
deliver_step t s = deliver_message t s (message_at t s)
