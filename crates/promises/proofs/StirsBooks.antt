-- A present book: under repair, its adopt or a cancel of it is taken; with a count owed and not under repair, an ask is.
use mathlib.Core.Path.{◌≡◌, refl, sym, ◌∙◌}
use mathlib.Core.Bool.{true, false}
use mathlib.Core.List.{List}
use Prim.Native.Nat.{ℕ, ◌+◌, ◌*◌, ◌<◌}
use native.Mathlib.Omega.{arith}
use lib.Dec.{eqb}
use borrow.Author.Tests.{eqb-true, eqb-false, ne_eqb, lt-ltb, le-leb}
use Rattle.tables.specs.Bytes.{byte}
use Rattle.tables.specs.Bits.{marked}
use Rattle.tables.specs.Layout.{place, book_row}
use Rattle.tables.specs.Walks.{every, some_of, some_below}
use Rattle.tables.proofs.Walks.{every_each, each_every}
use Rattle.rules.specs.Fields.{places, finishes_made, dead_mask, dead, adopt_due, live, asked_marks, finish_made, in_session}
use Rattle.rules.specs.Action.{adopt, cancel, ask}
use Rattle.rules.specs.Books.{book_of, column, dead_column, under_repair, owed_cell, owes}
use Rattle.rules.specs.Messages.{slots_full}
use Rattle.rules.specs.Deliver.{book_absent}
use Rattle.rules.specs.Refusals.{no_action, not_there, wrong_place, not_ready, must_wait, no_room}
use Rattle.model.specs.Base.Cases.{bool_cases}
use Rattle.promises.specs.View.{view}
use Rattle.promises.specs.Settling.{is_settling, Stirring}
use Rattle.promises.proofs.Tests.{not_true}
use Rattle.promises.proofs.Seen.{Seen}
use Rattle.promises.proofs.Rows.{read_places, read_finishes_made, read_dead}
use Rattle.promises.proofs.BookCells.{read_due, book_there}
use Rattle.promises.proofs.WholeBooks.{at as book-byte}
use Rattle.promises.proofs.Good.{Good, as_seen}
use Rattle.promises.proofs.ActsMove.{good_taken}
use Rattle.promises.proofs.StirsNoise.{below_some}

module _ {t : List ℕ} (good : Good t) where
  s : Seen t (view t)
  s = as_seen good

  -- a dead place is in the session
  dead_inside : (v : ℕ) → dead t v ≡ true → in_session t v ≡ true
  unfolding in_session
  dead_inside v e = lt-ltb v (places t) (omega (arith, (good.inv.dead_places v (sym (read_dead s v) ∙ e)).1, read_places s))

  module _ (f : ℕ) (f0 : 0 < f) (f33 : f < 33) (there : book_absent t f ≡ false) where
    pub is_present : (view t).books.present f ≡ 1
    is_present = book_there s f f0 f33 (good.inv.present_mark f) there

    made : finish_made t f ≡ true
    unfolding finish_made
    made = each_every _ (le-leb 1 f f0, (le-leb f (finishes_made t) (omega (arith, (good.inv.book_made f is_present).1, read_finishes_made s)), tt))

    byte_is : (j : ℕ) → j < 144 → byte (book_of t f) j ≡ byte t (place (book_row f) j)
    byte_is j l = book-byte t good.whole f f0 f33 j (place (book_row f) j) l (omega arith)

    adopt_stirs : adopt_due t f ≡ 1 → Stirring t
    unfolding is_settling no_action not_there wrong_place not_ready must_wait no_room some_of
    adopt_stirs e = (adopt f, refl, good_taken t good (adopt f) refl (rw made refl) refl (rw (there, e) refl) refl refl)

    cancel_stirs : (v : ℕ) → dead t v ≡ true → (adopt_due t f ≡ 1 → ⊥) → eqb (column (book_of t f) v) 0 ≡ false → no_room t (cancel f v) ≡ false → Stirring t
    unfolding is_settling no_action not_there wrong_place not_ready must_wait every some_of
    cancel_stirs v died n some room =
        (cancel f v, refl, good_taken t good (cancel f v) refl (rw (made, dead_inside v died) refl) (rw died refl) (rw (there, ne_eqb (adopt_due t f) 1 n, some) refl) refl room)

    ask_stirs : (i j : ℕ) → dead t i ≡ true → in_session t j ≡ true → dead t j ≡ false → eqb (live t f i j) 0 ≡ false → marked (asked_marks t f i) j ≡ false
        → under_repair (dead_mask t) (book_of t f) ≡ false → slots_full t ≡ false → Stirring t
    unfolding is_settling no_action not_there wrong_place not_ready must_wait no_room every some_of
    ask_stirs i j died inside lives some unasked calm room =
        (ask f i j, refl, good_taken t good (ask f i j) refl (rw (made, dead_inside i died, inside) refl) (rw (died, lives) refl) (rw (there, some, unasked) refl) calm room)

    -- under repair, and a cancel finds room
    pub repair_stirs : under_repair (dead_mask t) (book_of t f) ≡ true → ((v : ℕ) → (view t).dead v ≡ true → (view t).books.due f ≡ 0 → no_room t (cancel f v) ≡ false) → Stirring t
    unfolding under_repair dead_column
    repair_stirs e room =
        let is_due = byte_is 2 (omega arith) in
        bool_cases (eqb (byte (book_of t f) 2) 1)
        (λ y. adopt_stirs (sym is_due ∙ eqb-true (byte (book_of t f) 2) 1 y))
        (λ y.
        let r = below_some (dead_column (dead_mask t) (book_of t f)) 8 (rw y at e) in
        let w = every_each _ r.2 in
        let n : adopt_due t f ≡ 1 → ⊥ = λ z. eqb-false (byte (book_of t f) 2) 1 y (is_due ∙ z) in
        let none : (view t).books.due f ≡ 0 = omega (arith, read_due s f f0 f33, good.inv.due_mark f) in
        cancel_stirs r.0 w.0 n (not_true _ w.1.0) (room r.0 (sym (read_dead s r.0) ∙ w.0) none))

    -- a count owed, not under repair, and the ask finds room
    pub debt_stirs : owes (places t) (dead_mask t) (book_of t f) ≡ true → under_repair (dead_mask t) (book_of t f) ≡ false → slots_full t ≡ false → Stirring t
    unfolding owes owed_cell in_session
    debt_stirs e calm room =
        let a = below_some (λ i. some_below (owed_cell (places t) (dead_mask t) (book_of t f) i) 8) 8 e in
        let b = below_some (owed_cell (places t) (dead_mask t) (book_of t f) a.0) 8 a.2 in
        let w = every_each _ b.2 in
        ask_stirs a.0 b.0 w.0 w.1.0 (not_true _ w.1.1.0)
        (rw (← byte_is (8 + 8 * a.0 + b.0) (omega (arith, a.1, b.1))) (not_true _ w.1.1.1.0))
        (rw (← byte_is (136 + a.0) (omega (arith, a.1))) (not_true _ w.1.1.1.1.0))
        calm room
