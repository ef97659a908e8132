-- Session tables: the fields of row 0, tasks, finishes, store books and local books by name; the statuses by name.
use Rattle.std.specs.Prelude.{Bool, true, cond, List, [], ◌∷◌, ℕ, ◌+◌, ◌*◌, eqb, ltb, leb, set}
use Rattle.tables.specs.Bytes.{byte}
use Rattle.tables.specs.Bits.{marked}
use Rattle.tables.specs.Walks.{every}
use Rattle.tables.specs.Layout.{place, task_row, finish_row, book_row, local_row}

-- Row 0: places, dead mask (bit p), tasks made (to 255), finishes made (to 32).
abbrev pub places : List ℕ → ℕ
places t = byte t 0

abbrev pub dead_mask : List ℕ → ℕ
dead_mask t = byte t 1

abbrev pub tasks_made : List ℕ → ℕ
tasks_made t = byte t 2

abbrev pub finishes_made : List ℕ → ℕ
finishes_made t = byte t 3

abbrev pub dead : List ℕ → ℕ → Bool
dead t p = marked (dead_mask t) p

-- Row t, task t: from, at, finish, status, sent (0 for a main task), opener or spawner.
abbrev pub task_from : List ℕ → ℕ → ℕ
task_from t k = byte t (place (task_row k) 0)

abbrev pub task_at : List ℕ → ℕ → ℕ
task_at t k = byte t (place (task_row k) 1)

abbrev pub task_finish : List ℕ → ℕ → ℕ
task_finish t k = byte t (place (task_row k) 2)

abbrev pub task_status : List ℕ → ℕ → ℕ
task_status t k = byte t (place (task_row k) 3)

abbrev pub task_sent : List ℕ → ℕ → ℕ
task_sent t k = byte t (place (task_row k) 4)

abbrev pub task_maker : List ℕ → ℕ → ℕ
task_maker t k = byte t (place (task_row k) 5)

-- Status: 1 waits for publish, 2 waits for transit, 3 on the wire, 4 dropped, 5 running, 6 blocked, 7 ended, 8 lost.
abbrev pub waits_for_publish : ℕ
waits_for_publish = 1

abbrev pub waits_for_transit : ℕ
waits_for_transit = 2

abbrev pub on_the_wire : ℕ
on_the_wire = 3

abbrev pub task_dropped : ℕ
task_dropped = 4

abbrev pub running : ℕ
running = 5

abbrev pub blocked : ℕ
blocked = 6

abbrev pub ended : ℕ
ended = 7

abbrev pub task_lost : ℕ
task_lost = 8

abbrev pub with_task_status : List ℕ → ℕ → ℕ → List ℕ
with_task_status t k v = set t (place (task_row k) 3) v

-- Row 255 + f, finish f: home, opener, parent, status, published, main task.
abbrev pub home : List ℕ → ℕ → ℕ
home t f = byte t (place (finish_row f) 0)

abbrev pub opener : List ℕ → ℕ → ℕ
opener t f = byte t (place (finish_row f) 1)

abbrev pub parent : List ℕ → ℕ → ℕ
parent t f = byte t (place (finish_row f) 2)

abbrev pub finish_status : List ℕ → ℕ → ℕ
finish_status t f = byte t (place (finish_row f) 3)

abbrev pub is_published : List ℕ → ℕ → ℕ
is_published t f = byte t (place (finish_row f) 4)

abbrev pub main_task : List ℕ → ℕ → ℕ
main_task t f = byte t (place (finish_row f) 5)

-- Status: 1 active, 2 publishing, 3 waits for release, 4 released, 5 lost.
abbrev pub active : ℕ
active = 1

abbrev pub publishing : ℕ
publishing = 2

abbrev pub waits_for_release : ℕ
waits_for_release = 3

abbrev pub released : ℕ
released = 4

abbrev pub finish_lost : ℕ
finish_lost = 5

abbrev pub with_finish_status : List ℕ → ℕ → ℕ → List ℕ
with_finish_status t f v = set t (place (finish_row f) 3) v

abbrev pub with_published : List ℕ → ℕ → List ℕ
with_published t f = set t (place (finish_row f) 4) 1

-- Store book of f: present, parent, adopt due, adopted, four bytes of ghosts; eight rows of live counts
-- (row i, byte j: from i, at j); eight rows of sent counts; one row of asked marks (byte i, bit j).
abbrev pub book_place : ℕ → ℕ
book_place f = place (book_row f) 0

abbrev pub present : List ℕ → ℕ → ℕ
present t f = byte t (place (book_row f) 0)

abbrev pub book_parent : List ℕ → ℕ → ℕ
book_parent t f = byte t (place (book_row f) 1)

abbrev pub adopt_due : List ℕ → ℕ → ℕ
adopt_due t f = byte t (place (book_row f) 2)

abbrev pub is_adopted : List ℕ → ℕ → ℕ
is_adopted t f = byte t (place (book_row f) 3)

abbrev pub ghost_byte : List ℕ → ℕ → ℕ → ℕ
ghost_byte t f k = byte t (place (book_row f) (4 + k))

abbrev pub live_place : ℕ → ℕ → ℕ → ℕ
live_place f i j = place (book_row f) (8 + 8 * i + j)

abbrev pub sent_place : ℕ → ℕ → ℕ → ℕ
sent_place f i j = place (book_row f) (72 + 8 * i + j)

abbrev pub asked_place : ℕ → ℕ → ℕ
asked_place f i = place (book_row f) (136 + i)

abbrev pub live : List ℕ → ℕ → ℕ → ℕ → ℕ
live t f i j = byte t (live_place f i j)

abbrev pub sent_count : List ℕ → ℕ → ℕ → ℕ → ℕ
sent_count t f i j = byte t (sent_place f i j)

abbrev pub asked_marks : List ℕ → ℕ → ℕ → ℕ
asked_marks t f i = byte t (asked_place f i)

-- Local book of f at place p: received by sender; reported by sender; then live tasks and deny mask.
abbrev pub received_place : ℕ → ℕ → ℕ → ℕ
received_place f p i = place (local_row f p) i

abbrev pub reported_place : ℕ → ℕ → ℕ → ℕ
reported_place f p i = place (local_row f p) (8 + i)

abbrev pub local_live_place : ℕ → ℕ → ℕ
local_live_place f p = place (local_row f p) 16

abbrev pub deny_place : ℕ → ℕ → ℕ
deny_place f p = place (local_row f p) 17

abbrev pub received : List ℕ → ℕ → ℕ → ℕ → ℕ
received t f p i = byte t (received_place f p i)

abbrev pub reported : List ℕ → ℕ → ℕ → ℕ → ℕ
reported t f p i = byte t (reported_place f p i)

abbrev pub local_live : List ℕ → ℕ → ℕ → ℕ
local_live t f p = byte t (local_live_place f p)

abbrev pub deny_mask : List ℕ → ℕ → ℕ → ℕ
deny_mask t f p = byte t (deny_place f p)

-- task or finish made, place in the session
unfoldable pub task_made : List ℕ → ℕ → Bool
task_made t k = every (leb 1 k ∷ leb k (tasks_made t) ∷ [])

unfoldable pub finish_made : List ℕ → ℕ → Bool
finish_made t f = every (leb 1 f ∷ leb f (finishes_made t) ∷ [])

unfoldable pub in_session : List ℕ → ℕ → Bool
in_session t p = ltb p (places t)

-- a main task: sent is 0
unfoldable pub is_main : List ℕ → ℕ → Bool
is_main t k = eqb (task_sent t k) 0

-- Status 6: an opener or spawner about to run is blocked (0 is none).
unfoldable pub may_run : List ℕ → ℕ → Bool
may_run t k = cond (eqb k 0) true (eqb (task_status t k) blocked)

-- it runs; 0 is none, and nothing runs
unfoldable pub runs : List ℕ → ℕ → List ℕ
runs t k = cond (eqb k 0) t (with_task_status t k running)
