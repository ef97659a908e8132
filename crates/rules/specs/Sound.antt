-- Session tables, sound ranges: tested in row 0, rows of made tasks and finishes, present books, full slots (fields their
-- tag uses), and the present and tag bytes themselves; other bytes are not tested.
use Rattle.std.specs.Prelude.{Bool, true, cond, List, [], ◌∷◌, ℕ, ◌/◌, ◌%◌, ◌^◌, eqb, ltb, leb, drop}
use Rattle.tables.specs.Bytes.{byte}
use Rattle.tables.specs.Walks.{every, every_part}
use Rattle.tables.specs.Layout.{place, task_row, finish_row}
use Rattle.rules.specs.Fields.{places, dead_mask, tasks_made, finishes_made, book_place}
use Rattle.rules.specs.Messages.{Message, none, publish, published, transit, granted, denied, task, report, release, ghost_ended, count_dropped, dropped, message_in, slot_place}

-- Places 2 to 8; finishes made to 32; the dead mask names only session places above 0.
unfoldable pub head_sound : ℕ → ℕ → ℕ → Bool
head_sound ps d fs = every (leb 2 ps ∷ leb ps 8 ∷ leb fs 32 ∷ eqb (d % 2) 0 ∷ eqb (d / 2 ^ ps) 0 ∷ [])

-- Every place below the place count; made numbers where a finish is named; a task's opener or spawner below the task;
-- statuses and marks (0 or 1) as listed.
unfoldable pub task_fits : ℕ → ℕ → ℕ → ℕ → ℕ → ℕ → ℕ → ℕ → ℕ → Bool
task_fits ps fs k from at finish status sent maker =
    every (ltb from ps ∷ ltb at ps ∷ leb 1 finish ∷ leb finish fs ∷ leb 1 status ∷ leb status 8 ∷ leb sent 1 ∷ ltb maker k ∷ [])

-- Every place below the place count; a finish's parent below its own number, its opener below its main task; made numbers
-- where a task is named; statuses and marks (0 or 1) as listed.
unfoldable pub finish_fits : ℕ → ℕ → ℕ → ℕ → ℕ → ℕ → ℕ → ℕ → ℕ → Bool
finish_fits ps ts f home opener parent status published_mark main =
    every (ltb home ps ∷ ltb opener main ∷ ltb parent f ∷ leb 1 status ∷ leb status 5 ∷ leb published_mark 1 ∷ leb 1 main ∷ leb main ts ∷ [])

-- An adopted book's parent not 0.
unfoldable pub parent_fits : ℕ → ℕ → Bool
parent_fits adopted parent = cond (eqb adopted 1) (leb 1 parent) true

-- A present book's finish made; a book's parent below its own number; marks (0 or 1), the present byte too.
unfoldable pub book_fits : ℕ → ℕ → ℕ → ℕ → ℕ → ℕ → Bool
book_fits fs f present parent due adopted =
    cond (eqb present 0) true
    (every (eqb present 1 ∷ leb f fs ∷ ltb parent f ∷ leb due 1 ∷ leb adopted 1 ∷ parent_fits adopted parent ∷ []))

-- Full slots: made numbers where a task or finish is named, every place below the place count.
unfoldable pub message_fits : ℕ → ℕ → ℕ → Message → Bool
message_fits ps ts fs none = true
message_fits ps ts fs (publish f k) = every (leb 1 f ∷ leb f fs ∷ leb 1 k ∷ leb k ts ∷ [])
message_fits ps ts fs (published f k) = every (leb 1 f ∷ leb f fs ∷ leb 1 k ∷ leb k ts ∷ [])
message_fits ps ts fs (transit f k v j) = every (leb 1 f ∷ leb f fs ∷ leb 1 k ∷ leb k ts ∷ ltb v ps ∷ ltb j ps ∷ [])
message_fits ps ts fs (granted f k v j) = every (leb 1 f ∷ leb f fs ∷ leb 1 k ∷ leb k ts ∷ ltb v ps ∷ ltb j ps ∷ [])
message_fits ps ts fs (denied f k v j) = every (leb 1 f ∷ leb f fs ∷ leb 1 k ∷ leb k ts ∷ ltb v ps ∷ ltb j ps ∷ [])
message_fits ps ts fs (task f k v j) = every (leb 1 f ∷ leb f fs ∷ leb 1 k ∷ leb k ts ∷ ltb v ps ∷ ltb j ps ∷ [])
message_fits ps ts fs (report f v counts) = every (leb 1 f ∷ leb f fs ∷ ltb v ps ∷ [])
message_fits ps ts fs (release f) = every (leb 1 f ∷ leb f fs ∷ [])
message_fits ps ts fs (ghost_ended q g) = every (leb 1 q ∷ leb q fs ∷ leb 1 g ∷ leb g fs ∷ [])
message_fits ps ts fs (count_dropped f k v j n) = every (leb 1 f ∷ leb f fs ∷ ltb v ps ∷ ltb j ps ∷ [])
message_fits ps ts fs (dropped f k v j n) = every (leb 1 f ∷ leb f fs ∷ ltb v ps ∷ ltb j ps ∷ [])

-- The same at the tables m from the row on, with the row's number.
unfoldable pub task_sound : ℕ → ℕ → List ℕ → ℕ → Bool
task_sound ps fs m k = task_fits ps fs k (byte m 0) (byte m 1) (byte m 2) (byte m 3) (byte m 4) (byte m 5)

unfoldable pub finish_sound : ℕ → ℕ → List ℕ → ℕ → Bool
finish_sound ps ts m f = finish_fits ps ts f (byte m 0) (byte m 1) (byte m 2) (byte m 3) (byte m 4) (byte m 5)

unfoldable pub book_sound : ℕ → List ℕ → ℕ → Bool
book_sound fs m f = book_fits fs f (byte m 0) (byte m 1) (byte m 2) (byte m 3)

-- Tags 0 to 11.
unfoldable pub slot_sound : ℕ → ℕ → ℕ → List ℕ → ℕ → Bool
slot_sound ps ts fs m s = every (leb (byte m 0) 11 ∷ message_fits ps ts fs (message_in m) ∷ [])

-- All rows of each table; ps, ts, fs are the places, the tasks made and the finishes made.
unfoldable pub tasks_sound : ℕ → ℕ → ℕ → List ℕ → Bool
tasks_sound ps ts fs t = every_part (task_sound ps fs) 8 1 ts (drop (place (task_row 1) 0) t)

unfoldable pub finishes_sound : ℕ → ℕ → ℕ → List ℕ → Bool
finishes_sound ps ts fs t = every_part (finish_sound ps ts) 8 1 fs (drop (place (finish_row 1) 0) t)

unfoldable pub books_sound : ℕ → List ℕ → Bool
books_sound fs t = every_part (book_sound fs) 144 1 32 (drop (book_place 1) t)

unfoldable pub slots_sound : ℕ → ℕ → ℕ → List ℕ → Bool
slots_sound ps ts fs t = every_part (slot_sound ps ts fs) 16 0 128 (drop (slot_place 0) t)

unfoldable pub rows_sound : ℕ → ℕ → ℕ → List ℕ → Bool
rows_sound ps ts fs t = every (tasks_sound ps ts fs t ∷ finishes_sound ps ts fs t ∷ books_sound fs t ∷ slots_sound ps ts fs t ∷ [])

unfoldable pub sound : List ℕ → Bool
sound t = every (head_sound (places t) (dead_mask t) (finishes_made t) ∷ rows_sound (places t) (tasks_made t) (finishes_made t) t ∷ [])
