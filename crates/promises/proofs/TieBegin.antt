-- Begin: the rule's tables are seen as the model's first state.
use mathlib.Core.Path.{◌≡◌, refl, ap, ◌∙◌}
use mathlib.Core.List.{[], ◌∷◌}
use Prim.Native.Nat.{ℕ}
use native.Mathlib.Omega.{arith}
use lib.ListN.{length, length-replicate}
use Rattle.tables.specs.Bytes.{write}
use Rattle.tables.specs.Bits.{marked}
use Rattle.tables.specs.Layout.{place}
use Rattle.rules.specs.Begin.{zero_tables, begin_step}
use Rattle.model.specs.Base.Updates.{upd}
use Rattle.model.specs.State.{State}
use Rattle.model.specs.Messages.{none}
use Rattle.model.specs.Effects.Begin.{begun}
use Rattle.promises.specs.View.{Table, Rows, cell, view, view_of, rows, flat, head_table, task_table, finish_table, book_table, live_table, sent_table, asked_table, received_table, reported_table, rest_table, slot_table}
use Rattle.promises.proofs.Cells.{write_outside, cell_ext, cell-write}
use Rattle.promises.proofs.Walks.{zeros_at}
use Rattle.promises.proofs.Areas.{head_sits, head_becomes}
use Rattle.promises.proofs.Flat.{flat_ext}
use Rattle.promises.proofs.Seen.{Seen, same, by_write}
use Rattle.promises.proofs.Rows.{with_tasks_made, with_finishes_made, seen_task_row, seen_finish_row}
use Rattle.promises.proofs.BookCells.{ghost_none}
use Rattle.promises.proofs.BookBytes.{no_marks}
use Rattle.promises.proofs.WholeBooks.{upd_keep}

zero_cell : (T : Table) → cell zero_tables T ≡ (λ x j. 0)
unfolding zero_tables
zero_cell T = cell_ext T zero_tables (λ x j. 0) (λ x j a b c. zeros_at 15104 (T.at x j)) (λ x j e. refl)

-- nothing made, no places
abbrev no_rows : Rows
no_rows =
    record {
      head = λ x j. 0;
      task = λ x j. 0;
      finish = λ x j. 0;
      book = λ x j. 0;
      live = λ x j. 0;
      sent = λ x j. 0;
      asked = λ x j. 0;
      received = λ x j. 0;
      reported = λ x j. 0;
      rest = λ x j. 0;
      slot = λ x j. 0;
    }

zero_rows : rows zero_tables ≡ no_rows
zero_rows = λ z. record {
  head = zero_cell head_table z;
  task = zero_cell task_table z;
  finish = zero_cell finish_table z;
  book = zero_cell book_table z;
  live = zero_cell live_table z;
  sent = zero_cell sent_table z;
  asked = zero_cell asked_table z;
  received = zero_cell received_table z;
  reported = zero_cell reported_table z;
  rest = zero_cell rest_table z;
  slot = zero_cell slot_table z;
}

zero_length : length zero_tables ≡ 15104
unfolding zero_tables
zero_length = length-replicate {A = ℕ} 15104 0

seen_zero : Seen zero_tables (view_of no_rows)
unfolding view
seen_zero = record { whole = zero_length; is = ap view_of zero_rows }

-- row 0: n places, none dead, one task and one finish made
abbrev with_head : ℕ → State → State
with_head n s = with_tasks_made 1 (with_finishes_made 1 (record {
  places = n;
  slots = s.slots;
  dead = marked 0;
  tasks = s.tasks;
  finishes = s.finishes;
  books = s.books;
  locals = s.locals;
  slot = s.slot;
}))

seen_head : (n : ℕ) → Seen (write zero_tables (place 0 0) (n ∷ 0 ∷ 1 ∷ 1 ∷ 0 ∷ 0 ∷ 0 ∷ 0 ∷ [])) (with_head n (view_of no_rows))
unfolding view upd
seen_head n =
    let w = zero_length in
    let vs = n ∷ 0 ∷ 1 ∷ 1 ∷ 0 ∷ 0 ∷ 0 ∷ 0 ∷ [] in
    by_write (with_head n) seen_zero (place 0 0) vs
    (ap view_of (head_becomes (write_outside zero_tables 0 vs 8 0 8 refl (omega arith) (omega arith))
    (cell-write head_table head_sits zero_tables 0 0 8 0 vs refl refl (omega arith) (omega arith) (omega arith) (omega arith))))

flat_zero : flat (λ x j. 0) ≡ (λ f i j. 0)
flat_zero = flat_ext (λ x j. 0) (λ f i j. 0) (λ f i j a b. refl) (λ f i j e. refl)

pub tie_begin : (n : ℕ) → Seen (begin_step n) (begun n 128)
unfolding begin_step
tie_begin n = same (seen_finish_row (seen_task_row (seen_head n) 1 0 0 1 5 0 0 (omega arith) (omega arith)) 1 0 0 0 1 0 1 (omega arith) (omega arith)) (λ z. record {
  places = n;
  slots = 128;
  dead = λ p. no_marks p z;
  tasks = record {
    made = 1;
    from = upd_keep (λ t. 0) 1 0 refl z;
    at = upd_keep (λ t. 0) 1 0 refl z;
    finish = upd (λ t. 0) 1 1;
    status = upd (λ t. 0) 1 5;
    sent = upd_keep (λ t. 0) 1 0 refl z;
    maker = upd_keep (λ t. 0) 1 0 refl z;
  };
  finishes = record {
    made = 1;
    home = upd_keep (λ f. 0) 1 0 refl z;
    opener = upd_keep (λ f. 0) 1 0 refl z;
    parent = upd_keep (λ f. 0) 1 0 refl z;
    status = upd (λ f. 0) 1 1;
    published = upd_keep (λ f. 0) 1 0 refl z;
    main = upd (λ f. 0) 1 1;
  };
  books = record {
    present = λ f. 0;
    parent = λ f. 0;
    due = λ f. 0;
    adopted = λ f. 0;
    ghosts = λ f g. ghost_none (λ j. 0) (λ j. refl) g z;
    live = flat_zero z;
    sent = flat_zero z;
    asked = λ f i j. no_marks j z;
  };
  locals = record {
    received = flat_zero z;
    reported = flat_zero z;
    live = λ f j. flat_zero z f j 0;
    denied = λ f j i. (ap (λ (r : ℕ → ℕ → ℕ → ℕ). marked (r f j 1) i) flat_zero ∙ no_marks i) z;
  };
  slot = λ k. none;
})
