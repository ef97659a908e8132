-- The session tables seen as a state of the model: bytes as rows of a table, 0 outside it, then the model's arrays by columns.
use Rattle.std.specs.Prelude.{Bool, cond, ◌&&◌, List, ℕ, ◌+◌, ◌-◌, ◌*◌, ◌/◌, ◌%◌, ltb, leb}
use Rattle.tables.specs.Bytes.{byte}
use Rattle.tables.specs.Bits.{marked}
use Rattle.tables.specs.Layout.{place, task_row, finish_row, book_row, slot_row}
use Rattle.model.specs.State.{State, Message}

-- A table: where column j of its row x stands, how many columns it has, its first row and the number after its last.
pub record Table : Type 0 where
  pub at : ℕ → ℕ → ℕ
  pub wide : ℕ
  pub first : ℕ
  pub end : ℕ

-- row x and column j are of the table
abbrev pub within : Table → ℕ → ℕ → Bool
within T x j = ltb j T.wide && (leb T.first x && ltb x T.end)

-- column j of row x, and 0 outside the table
unfoldable pub cell : List ℕ → Table → ℕ → ℕ → ℕ
cell t T x j = cond (within T x j) (byte t (T.at x j)) 0

-- Row 0; tasks; finishes.
abbrev pub head_table : Table
head_table = record { at = λ x j. place x j; wide = 8; first = 0; end = 1 }

abbrev pub task_table : Table
task_table = record { at = λ k j. place (task_row k) j; wide = 8; first = 1; end = 256 }

abbrev pub finish_table : Table
finish_table = record { at = λ f j. place (finish_row f) j; wide = 8; first = 1; end = 33 }

-- A store book's first row; its live counts and its sent counts (row i of f is row 8(f − 1) + i here); its asked marks.
abbrev pub book_table : Table
book_table = record { at = λ f j. place (book_row f) j; wide = 8; first = 1; end = 33 }

abbrev pub live_table : Table
live_table = record { at = λ y j. place (289 + 18 * (y / 8) + y % 8) j; wide = 8; first = 0; end = 256 }

abbrev pub sent_table : Table
sent_table = record { at = λ y j. place (297 + 18 * (y / 8) + y % 8) j; wide = 8; first = 0; end = 256 }

abbrev pub asked_table : Table
asked_table = record { at = λ f j. place (book_row f + 17) j; wide = 8; first = 1; end = 33 }

-- The three rows of a local book (that of f at p is 8(f − 1) + p here): received; reported; live tasks and deny mask.
abbrev pub received_table : Table
received_table = record { at = λ y j. place (864 + 3 * y) j; wide = 8; first = 0; end = 256 }

abbrev pub reported_table : Table
reported_table = record { at = λ y j. place (865 + 3 * y) j; wide = 8; first = 0; end = 256 }

abbrev pub rest_table : Table
rest_table = record { at = λ y j. place (866 + 3 * y) j; wide = 8; first = 0; end = 256 }

-- A slot, its two rows as one.
abbrev pub slot_table : Table
slot_table = record { at = λ s j. place (slot_row s) j; wide = 16; first = 0; end = 128 }

pub record Rows : Type 0 where
  pub head : ℕ → ℕ → ℕ
  pub task : ℕ → ℕ → ℕ
  pub finish : ℕ → ℕ → ℕ
  pub book : ℕ → ℕ → ℕ
  pub live : ℕ → ℕ → ℕ
  pub sent : ℕ → ℕ → ℕ
  pub asked : ℕ → ℕ → ℕ
  pub received : ℕ → ℕ → ℕ
  pub reported : ℕ → ℕ → ℕ
  pub rest : ℕ → ℕ → ℕ
  pub slot : ℕ → ℕ → ℕ

abbrev pub rows : List ℕ → Rows
rows t =
    record {
      head = cell t head_table;
      task = cell t task_table;
      finish = cell t finish_table;
      book = cell t book_table;
      live = cell t live_table;
      sent = cell t sent_table;
      asked = cell t asked_table;
      received = cell t received_table;
      reported = cell t reported_table;
      rest = cell t rest_table;
      slot = cell t slot_table;
    }

-- row i of the eight rows of f
unfoldable pub flat : (ℕ → ℕ → ℕ) → ℕ → ℕ → ℕ → ℕ
flat c f i j = cond (ltb i 8 && leb 1 f) (c (8 * (f - 1) + i) j) 0

-- finish g at bit g − 1 of four bytes, low byte first, in a book's first row
unfoldable pub ghost_in : (ℕ → ℕ) → ℕ → Bool
ghost_in b g = (leb 1 g && ltb g 33) && marked (b (4 + (g - 1) / 8)) ((g - 1) % 8)

-- tag, finish, task, from, to, number; then eight counts by sender
abbrev pub message_of : (ℕ → ℕ) → Message
message_of m = record { tag = m 0; finish = m 1; task = m 2; from = m 3; to = m 4; number = m 5; counts = λ i. m (8 + i) }

abbrev pub view_of : Rows → State
view_of r =
    record {
      places = r.head 0 0;
      slots = 128;
      dead = marked (r.head 0 1);
      tasks = record {
        made = r.head 0 2;
        from = λ k. r.task k 0;
        at = λ k. r.task k 1;
        finish = λ k. r.task k 2;
        status = λ k. r.task k 3;
        sent = λ k. r.task k 4;
        maker = λ k. r.task k 5;
      };
      finishes = record {
        made = r.head 0 3;
        home = λ f. r.finish f 0;
        opener = λ f. r.finish f 1;
        parent = λ f. r.finish f 2;
        status = λ f. r.finish f 3;
        published = λ f. r.finish f 4;
        main = λ f. r.finish f 5;
      };
      books = record {
        present = λ f. r.book f 0;
        parent = λ f. r.book f 1;
        due = λ f. r.book f 2;
        adopted = λ f. r.book f 3;
        ghosts = λ f. ghost_in (r.book f);
        live = flat r.live;
        sent = flat r.sent;
        asked = λ f i. marked (r.asked f i);
      };
      locals = record {
        received = flat r.received;
        reported = flat r.reported;
        live = λ f p. flat r.rest f p 0;
        denied = λ f p. marked (flat r.rest f p 1);
      };
      slot = λ s. message_of (r.slot s);
    }

-- The state that the tables are.
unfoldable pub view : List ℕ → State
view t = view_of (rows t)
