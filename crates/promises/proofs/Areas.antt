-- The areas of the tables: a change inside one leaves the tables of the others; and the tables' rows do not share bytes.
use mathlib.Core.Path.{◌≡◌}
use mathlib.Core.List.{List}
use Prim.Native.Nat.{ℕ}
use native.Mathlib.Omega.{arith}
use Rattle.promises.specs.View.{Rows, rows, cell, head_table, task_table, finish_table, book_table, live_table, sent_table, asked_table, received_table, reported_table, rest_table, slot_table}
use Rattle.promises.proofs.Cells.{Sits, Outside, cell_kept}

pub head_sits : Sits head_table
head_sits = record { apart = λ x i k j a b c d e. omega arith; along = λ x j. omega arith }

pub task_sits : Sits task_table
task_sits = record { apart = λ x i k j a b c d e. omega arith; along = λ x j. omega arith }

pub finish_sits : Sits finish_table
finish_sits = record { apart = λ x i k j a b c d e. omega arith; along = λ x j. omega arith }

pub book_sits : Sits book_table
book_sits = record { apart = λ x i k j a b c d e. omega arith; along = λ x j. omega arith }

pub live_sits : Sits live_table
live_sits = record { apart = λ x i k j a b c d e. omega arith; along = λ x j. omega arith }

pub sent_sits : Sits sent_table
sent_sits = record { apart = λ x i k j a b c d e. omega arith; along = λ x j. omega arith }

pub asked_sits : Sits asked_table
asked_sits = record { apart = λ x i k j a b c d e. omega arith; along = λ x j. omega arith }

pub received_sits : Sits received_table
received_sits = record { apart = λ x i k j a b c d e. omega arith; along = λ x j. omega arith }

pub reported_sits : Sits reported_table
reported_sits = record { apart = λ x i k j a b c d e. omega arith; along = λ x j. omega arith }

pub rest_sits : Sits rest_table
rest_sits = record { apart = λ x i k j a b c d e. omega arith; along = λ x j. omega arith }

pub slot_sits : Sits slot_table
slot_sits = record { apart = λ x i k j a b c d e. omega arith; along = λ x j. omega arith }

-- ---- row 0
abbrev pub with_head_rows : (ℕ → ℕ → ℕ) → Rows → Rows
with_head_rows c r = record { head = c; task = r.task; finish = r.finish; book = r.book; live = r.live; sent = r.sent; asked = r.asked; received = r.received; reported = r.reported; rest = r.rest; slot = r.slot }

pub head_becomes : {t u : List ℕ} {c : ℕ → ℕ → ℕ} → Outside t u 0 8 → cell u head_table ≡ c → rows u ≡ with_head_rows c (rows t)
head_becomes {t} {u} o p = λ z. record {
  head = p z;
  task = cell_kept task_table t u 0 8 o (λ x j a b c d e. omega arith) z;
  finish = cell_kept finish_table t u 0 8 o (λ x j a b c d e. omega arith) z;
  book = cell_kept book_table t u 0 8 o (λ x j a b c d e. omega arith) z;
  live = cell_kept live_table t u 0 8 o (λ x j a b c d e. omega arith) z;
  sent = cell_kept sent_table t u 0 8 o (λ x j a b c d e. omega arith) z;
  asked = cell_kept asked_table t u 0 8 o (λ x j a b c d e. omega arith) z;
  received = cell_kept received_table t u 0 8 o (λ x j a b c d e. omega arith) z;
  reported = cell_kept reported_table t u 0 8 o (λ x j a b c d e. omega arith) z;
  rest = cell_kept rest_table t u 0 8 o (λ x j a b c d e. omega arith) z;
  slot = cell_kept slot_table t u 0 8 o (λ x j a b c d e. omega arith) z;
}

-- ---- the tasks
abbrev pub with_task_rows : (ℕ → ℕ → ℕ) → Rows → Rows
with_task_rows c r = record { head = r.head; task = c; finish = r.finish; book = r.book; live = r.live; sent = r.sent; asked = r.asked; received = r.received; reported = r.reported; rest = r.rest; slot = r.slot }

pub tasks_become : {t u : List ℕ} {c : ℕ → ℕ → ℕ} → Outside t u 8 2048 → cell u task_table ≡ c → rows u ≡ with_task_rows c (rows t)
tasks_become {t} {u} o p = λ z. record {
  head = cell_kept head_table t u 8 2048 o (λ x j a b c d e. omega arith) z;
  task = p z;
  finish = cell_kept finish_table t u 8 2048 o (λ x j a b c d e. omega arith) z;
  book = cell_kept book_table t u 8 2048 o (λ x j a b c d e. omega arith) z;
  live = cell_kept live_table t u 8 2048 o (λ x j a b c d e. omega arith) z;
  sent = cell_kept sent_table t u 8 2048 o (λ x j a b c d e. omega arith) z;
  asked = cell_kept asked_table t u 8 2048 o (λ x j a b c d e. omega arith) z;
  received = cell_kept received_table t u 8 2048 o (λ x j a b c d e. omega arith) z;
  reported = cell_kept reported_table t u 8 2048 o (λ x j a b c d e. omega arith) z;
  rest = cell_kept rest_table t u 8 2048 o (λ x j a b c d e. omega arith) z;
  slot = cell_kept slot_table t u 8 2048 o (λ x j a b c d e. omega arith) z;
}

-- ---- the finishes
abbrev pub with_finish_rows : (ℕ → ℕ → ℕ) → Rows → Rows
with_finish_rows c r = record { head = r.head; task = r.task; finish = c; book = r.book; live = r.live; sent = r.sent; asked = r.asked; received = r.received; reported = r.reported; rest = r.rest; slot = r.slot }

pub finishes_become : {t u : List ℕ} {c : ℕ → ℕ → ℕ} → Outside t u 2048 2304 → cell u finish_table ≡ c → rows u ≡ with_finish_rows c (rows t)
finishes_become {t} {u} o p = λ z. record {
  head = cell_kept head_table t u 2048 2304 o (λ x j a b c d e. omega arith) z;
  task = cell_kept task_table t u 2048 2304 o (λ x j a b c d e. omega arith) z;
  finish = p z;
  book = cell_kept book_table t u 2048 2304 o (λ x j a b c d e. omega arith) z;
  live = cell_kept live_table t u 2048 2304 o (λ x j a b c d e. omega arith) z;
  sent = cell_kept sent_table t u 2048 2304 o (λ x j a b c d e. omega arith) z;
  asked = cell_kept asked_table t u 2048 2304 o (λ x j a b c d e. omega arith) z;
  received = cell_kept received_table t u 2048 2304 o (λ x j a b c d e. omega arith) z;
  reported = cell_kept reported_table t u 2048 2304 o (λ x j a b c d e. omega arith) z;
  rest = cell_kept rest_table t u 2048 2304 o (λ x j a b c d e. omega arith) z;
  slot = cell_kept slot_table t u 2048 2304 o (λ x j a b c d e. omega arith) z;
}

-- ---- the store books
abbrev pub with_book_rows : (ℕ → ℕ → ℕ) → (ℕ → ℕ → ℕ) → (ℕ → ℕ → ℕ) → (ℕ → ℕ → ℕ) → Rows → Rows
with_book_rows b l n m r = record { head = r.head; task = r.task; finish = r.finish; book = b; live = l; sent = n; asked = m; received = r.received; reported = r.reported; rest = r.rest; slot = r.slot }

pub books_become : {t u : List ℕ} {b l n m : ℕ → ℕ → ℕ} → Outside t u 2304 6912 → cell u book_table ≡ b → cell u live_table ≡ l → cell u sent_table ≡ n → cell u asked_table ≡ m → rows u ≡ with_book_rows b l n m (rows t)
books_become {t} {u} o p q v w = λ z. record {
  head = cell_kept head_table t u 2304 6912 o (λ x j a b c d e. omega arith) z;
  task = cell_kept task_table t u 2304 6912 o (λ x j a b c d e. omega arith) z;
  finish = cell_kept finish_table t u 2304 6912 o (λ x j a b c d e. omega arith) z;
  book = p z;
  live = q z;
  sent = v z;
  asked = w z;
  received = cell_kept received_table t u 2304 6912 o (λ x j a b c d e. omega arith) z;
  reported = cell_kept reported_table t u 2304 6912 o (λ x j a b c d e. omega arith) z;
  rest = cell_kept rest_table t u 2304 6912 o (λ x j a b c d e. omega arith) z;
  slot = cell_kept slot_table t u 2304 6912 o (λ x j a b c d e. omega arith) z;
}

-- ---- the local books
abbrev pub with_local_rows : (ℕ → ℕ → ℕ) → (ℕ → ℕ → ℕ) → (ℕ → ℕ → ℕ) → Rows → Rows
with_local_rows b l n r = record { head = r.head; task = r.task; finish = r.finish; book = r.book; live = r.live; sent = r.sent; asked = r.asked; received = b; reported = l; rest = n; slot = r.slot }

pub locals_become : {t u : List ℕ} {b l n : ℕ → ℕ → ℕ} → Outside t u 6912 13056 → cell u received_table ≡ b → cell u reported_table ≡ l → cell u rest_table ≡ n → rows u ≡ with_local_rows b l n (rows t)
locals_become {t} {u} o p q v = λ z. record {
  head = cell_kept head_table t u 6912 13056 o (λ x j a b c d e. omega arith) z;
  task = cell_kept task_table t u 6912 13056 o (λ x j a b c d e. omega arith) z;
  finish = cell_kept finish_table t u 6912 13056 o (λ x j a b c d e. omega arith) z;
  book = cell_kept book_table t u 6912 13056 o (λ x j a b c d e. omega arith) z;
  live = cell_kept live_table t u 6912 13056 o (λ x j a b c d e. omega arith) z;
  sent = cell_kept sent_table t u 6912 13056 o (λ x j a b c d e. omega arith) z;
  asked = cell_kept asked_table t u 6912 13056 o (λ x j a b c d e. omega arith) z;
  received = p z;
  reported = q z;
  rest = v z;
  slot = cell_kept slot_table t u 6912 13056 o (λ x j a b c d e. omega arith) z;
}

-- ---- the slots
abbrev pub with_slot_rows : (ℕ → ℕ → ℕ) → Rows → Rows
with_slot_rows c r = record { head = r.head; task = r.task; finish = r.finish; book = r.book; live = r.live; sent = r.sent; asked = r.asked; received = r.received; reported = r.reported; rest = r.rest; slot = c }

pub slots_become : {t u : List ℕ} {c : ℕ → ℕ → ℕ} → Outside t u 13056 15104 → cell u slot_table ≡ c → rows u ≡ with_slot_rows c (rows t)
slots_become {t} {u} o p = λ z. record {
  head = cell_kept head_table t u 13056 15104 o (λ x j a b c d e. omega arith) z;
  task = cell_kept task_table t u 13056 15104 o (λ x j a b c d e. omega arith) z;
  finish = cell_kept finish_table t u 13056 15104 o (λ x j a b c d e. omega arith) z;
  book = cell_kept book_table t u 13056 15104 o (λ x j a b c d e. omega arith) z;
  live = cell_kept live_table t u 13056 15104 o (λ x j a b c d e. omega arith) z;
  sent = cell_kept sent_table t u 13056 15104 o (λ x j a b c d e. omega arith) z;
  asked = cell_kept asked_table t u 13056 15104 o (λ x j a b c d e. omega arith) z;
  received = cell_kept received_table t u 13056 15104 o (λ x j a b c d e. omega arith) z;
  reported = cell_kept reported_table t u 13056 15104 o (λ x j a b c d e. omega arith) z;
  rest = cell_kept rest_table t u 13056 15104 o (λ x j a b c d e. omega arith) z;
  slot = p z;
}
