-- The state: arrays by field, grouped by table, so that an update of one array leaves every other the same by computation.
use Rattle.std.specs.Prelude.{Bool, ℕ}

-- Slot s: tag, finish, task, from, to, number; then counts by sender. Tag 0 is empty.
pub record Message : Type 0 where
  pub tag : ℕ
  pub finish : ℕ
  pub task : ℕ
  pub from : ℕ
  pub to : ℕ
  pub number : ℕ
  pub counts : ℕ → ℕ

-- Row t, task t: from, at, finish, status, sent (0 for a main task), opener or spawner: its maker.
-- Status: 1 waits for publish, 2 waits for transit, 3 on the wire, 4 dropped, 5 running, 6 blocked, 7 ended, 8 lost.
pub record Tasks : Type 0 where
  pub made : ℕ
  pub from : ℕ → ℕ
  pub at : ℕ → ℕ
  pub finish : ℕ → ℕ
  pub status : ℕ → ℕ
  pub sent : ℕ → ℕ
  pub maker : ℕ → ℕ

-- Finish f: home, opener, parent, status, published, main task.
-- Status: 1 active, 2 publishing, 3 waits for release, 4 released, 5 lost.
pub record Finishes : Type 0 where
  pub made : ℕ
  pub home : ℕ → ℕ
  pub opener : ℕ → ℕ
  pub parent : ℕ → ℕ
  pub status : ℕ → ℕ
  pub published : ℕ → ℕ
  pub main : ℕ → ℕ

-- Store book of f: present, parent, adopt due, adopted, ghosts; live counts, sent counts and asked marks (from i, at j).
pub record Books : Type 0 where
  pub present : ℕ → ℕ
  pub parent : ℕ → ℕ
  pub due : ℕ → ℕ
  pub adopted : ℕ → ℕ
  pub ghosts : ℕ → ℕ → Bool
  pub live : ℕ → ℕ → ℕ → ℕ
  pub sent : ℕ → ℕ → ℕ → ℕ
  pub asked : ℕ → ℕ → ℕ → Bool

-- Local book of f at place p: received by sender; reported by sender; live tasks; denied senders.
pub record Locals : Type 0 where
  pub received : ℕ → ℕ → ℕ → ℕ
  pub reported : ℕ → ℕ → ℕ → ℕ
  pub live : ℕ → ℕ → ℕ
  pub denied : ℕ → ℕ → ℕ → Bool

-- A session: its places and slots are any numbers.
pub record State : Type 0 where
  pub places : ℕ
  pub slots : ℕ
  pub dead : ℕ → Bool
  pub tasks : Tasks
  pub finishes : Finishes
  pub books : Books
  pub locals : Locals
  pub slot : ℕ → Message

-- Setters of a table
abbrev pub with_dead : (ℕ → Bool) → State → State
with_dead x s = record { places = s.places; slots = s.slots; dead = x; tasks = s.tasks; finishes = s.finishes; books = s.books; locals = s.locals; slot = s.slot }

abbrev pub with_tasks : Tasks → State → State
with_tasks x s = record { places = s.places; slots = s.slots; dead = s.dead; tasks = x; finishes = s.finishes; books = s.books; locals = s.locals; slot = s.slot }

abbrev pub with_finishes : Finishes → State → State
with_finishes x s = record { places = s.places; slots = s.slots; dead = s.dead; tasks = s.tasks; finishes = x; books = s.books; locals = s.locals; slot = s.slot }

abbrev pub with_books : Books → State → State
with_books x s = record { places = s.places; slots = s.slots; dead = s.dead; tasks = s.tasks; finishes = s.finishes; books = x; locals = s.locals; slot = s.slot }

abbrev pub with_locals : Locals → State → State
with_locals x s = record { places = s.places; slots = s.slots; dead = s.dead; tasks = s.tasks; finishes = s.finishes; books = s.books; locals = x; slot = s.slot }

abbrev pub with_slot : (ℕ → Message) → State → State
with_slot x s = record { places = s.places; slots = s.slots; dead = s.dead; tasks = s.tasks; finishes = s.finishes; books = s.books; locals = s.locals; slot = x }

-- Setters of an array
abbrev pub with_task_status : (ℕ → ℕ) → State → State
with_task_status x s = let t = s.tasks in with_tasks (record { made = t.made; from = t.from; at = t.at; finish = t.finish; status = x; sent = t.sent; maker = t.maker }) s

abbrev pub with_finish_status : (ℕ → ℕ) → State → State
with_finish_status x s = let t = s.finishes in with_finishes (record { made = t.made; home = t.home; opener = t.opener; parent = t.parent; status = x; published = t.published; main = t.main }) s

abbrev pub with_published : (ℕ → ℕ) → State → State
with_published x s = let t = s.finishes in with_finishes (record { made = t.made; home = t.home; opener = t.opener; parent = t.parent; status = t.status; published = x; main = t.main }) s

abbrev pub with_due : (ℕ → ℕ) → State → State
with_due x s = let b = s.books in with_books (record { present = b.present; parent = b.parent; due = x; adopted = b.adopted; ghosts = b.ghosts; live = b.live; sent = b.sent; asked = b.asked }) s

abbrev pub with_adopted : (ℕ → ℕ) → State → State
with_adopted x s = let b = s.books in with_books (record { present = b.present; parent = b.parent; due = b.due; adopted = x; ghosts = b.ghosts; live = b.live; sent = b.sent; asked = b.asked }) s

abbrev pub with_ghosts : (ℕ → ℕ → Bool) → State → State
with_ghosts x s = let b = s.books in with_books (record { present = b.present; parent = b.parent; due = b.due; adopted = b.adopted; ghosts = x; live = b.live; sent = b.sent; asked = b.asked }) s

abbrev pub with_live : (ℕ → ℕ → ℕ → ℕ) → State → State
with_live x s = let b = s.books in with_books (record { present = b.present; parent = b.parent; due = b.due; adopted = b.adopted; ghosts = b.ghosts; live = x; sent = b.sent; asked = b.asked }) s

abbrev pub with_sent : (ℕ → ℕ → ℕ → ℕ) → State → State
with_sent x s = let b = s.books in with_books (record { present = b.present; parent = b.parent; due = b.due; adopted = b.adopted; ghosts = b.ghosts; live = b.live; sent = x; asked = b.asked }) s

abbrev pub with_asked : (ℕ → ℕ → ℕ → Bool) → State → State
with_asked x s = let b = s.books in with_books (record { present = b.present; parent = b.parent; due = b.due; adopted = b.adopted; ghosts = b.ghosts; live = b.live; sent = b.sent; asked = x }) s

abbrev pub with_received : (ℕ → ℕ → ℕ → ℕ) → State → State
with_received x s = let l = s.locals in with_locals (record { received = x; reported = l.reported; live = l.live; denied = l.denied }) s

abbrev pub with_reported : (ℕ → ℕ → ℕ → ℕ) → State → State
with_reported x s = let l = s.locals in with_locals (record { received = l.received; reported = x; live = l.live; denied = l.denied }) s

abbrev pub with_local_live : (ℕ → ℕ → ℕ) → State → State
with_local_live x s = let l = s.locals in with_locals (record { received = l.received; reported = l.reported; live = x; denied = l.denied }) s

abbrev pub with_denied : (ℕ → ℕ → ℕ → Bool) → State → State
with_denied x s = let l = s.locals in with_locals (record { received = l.received; reported = l.reported; live = l.live; denied = x }) s
