-- Taken kill, adopt, cancel and ask are moves of the model.
use mathlib.Core.Path.{◌≡◌, sym, ◌∙◌}
use mathlib.Core.Bool.{true, false, not}
use mathlib.Core.List.{List}
use Prim.Native.Nat.{ℕ, ◌<◌}
use native.Mathlib.Omega.{arith}
use lib.Dec.{eqb}
use borrow.Author.Tests.{eqb-false, ltb-true}
use Rattle.tables.specs.Bits.{marked}
use Rattle.tables.proofs.Walks.{every_each}
use Rattle.rules.specs.Fields.{places, dead_mask, dead, adopt_due, live, asked_marks, finish_made, in_session}
use Rattle.rules.specs.Action.{kill, adopt, cancel, ask}
use Rattle.rules.specs.Books.{book_of, column}
use Rattle.rules.specs.Messages.{lowest_empty, slots_full}
use Rattle.rules.specs.Kill.{kill_step}
use Rattle.rules.specs.Adopt.{adopt_step}
use Rattle.rules.specs.Cancel.{cancelled, cancel_step}
use Rattle.rules.specs.Ask.{ask_step}
use Rattle.rules.specs.Deliver.{book_absent}
use Rattle.rules.specs.Refusals.{not_there, wrong_place, not_ready, must_wait, no_room}
use Rattle.rules.proofs.Taken.{StepTaken, not-not, neither}
use Rattle.model.specs.State.{State}
use Rattle.model.specs.Effects.Kill
use Rattle.model.specs.Effects.Repair
use Rattle.model.specs.Inv.Rows.{StatusMade, BlankFinishes}
use Rattle.model.specs.Inv.Cells.{CellPlaces}
use Rattle.model.specs.Step
use Rattle.model.specs.Step.{kills, Settle, adopts, cancels, asks}
use Rattle.promises.proofs.Tests.{none_of_three, not_both}
use Rattle.promises.proofs.Rows.{read_places, read_dead}
use Rattle.promises.proofs.Slots.{lowest_range, lowest_free}
use Rattle.promises.proofs.BookCells.{read_due, read_live, read_asked}
use Rattle.promises.proofs.WholeBooks.{read_book}
use Rattle.promises.proofs.BookTests.{column_some, book_repaired}
use Rattle.promises.proofs.Bytes.{bytes_cleared}
use Rattle.promises.proofs.Held.{Held, places_most, tasks_most, finishes_made_most, finish_fits_lem, book_marks, slot_names}
use Rattle.promises.proofs.Moved.{Moved, has_book}
use Rattle.promises.proofs.Adopt.{tie_adopt}
use Rattle.promises.proofs.TieRepair.{Killable, tie_kill, tie_ask}
use Rattle.promises.proofs.TieClosing.{tie_closing, tie_cancelled}

module _ {t : List ℕ} {a : State} (h : Held t a) where
  inside : (p : ℕ) → in_session t p ≡ true → p < a.places
  unfolding in_session
  inside p e = omega (arith, ltb-true p (places t) e, read_places h.seen)

  pub kill_moves : (p : ℕ) → StepTaken t (kill p) → StatusMade a → BlankFinishes a → CellPlaces a → Moved (Step.Kill a p) (kill_step t p)
  unfolding not_there wrong_place
  kill_moves p taken no_task no_finish cells =
      let s = h.seen in
      let p_in = inside p (not-not (in_session t p) taken.there) in
      let w = neither (eqb p 0) (dead t p) taken.right_place in
      let n = eqb-false p 0 w.0 in
      let ok : Killable a = record { places = places_most h; tasks = tasks_most h; finishes = finishes_made_most h; no_task = no_task; no_finish = no_finish; cells = cells; names = λ k n. let r = slot_names h k n in (r.0, omega (arith, r.1, finishes_made_most h)) } in
      (Kill.kill a p, tie_kill s ok p (omega arith) (omega (arith, places_most h)), kills (omega arith) p_in (sym (read_dead s p) ∙ w.1))

  pub adopt_moves : (f : ℕ) → StepTaken t (adopt f) → Moved (Settle a) (adopt_step t f)
  unfolding not_there not_ready
  adopt_moves f taken =
      let s = h.seen in
      let r = neither (book_absent t f) (eqb (adopt_due t f) 0) taken.ready in
      let has = has_book h f (not-not (finish_made t f) taken.there) r.0 in
      let f0 = has.low in
      let f33 = (finish_fits_lem h f f0 has.high).number in
      let n = eqb-false (adopt_due t f) 0 r.1 in
      (Repair.adopt a f, tie_adopt s f f0 f33, adopts f has (omega (arith, read_due s f f0 f33, (book_marks h f f0 f33 has.present).0)))

  pub cancel_moves : (f v : ℕ) → StepTaken t (cancel f v) → Moved (Settle a) (cancel_step t f v)
  unfolding not_there wrong_place not_ready no_room cancel_step cancelled
  cancel_moves f v taken =
      let s = h.seen in
      let there = every_each _ (not-not _ taken.there) in
      let r = none_of_three (book_absent t f) (eqb (adopt_due t f) 1) (eqb (column (book_of t f) v) 0) taken.ready in
      let has = has_book h f there.0 r.0 in
      let f0 = has.low in
      let f33 = (finish_fits_lem h f f0 has.high).number in
      let v_in = inside v there.1.0 in
      let v8 : v < 8 = omega (arith, places_most h) in
      let marks = book_marks h f f0 f33 has.present in
      let some = column_some (read_book s f f0 f33) v v8 (eqb-false (column (book_of t f) v) 0 r.2) in
      let died : a.dead v ≡ true = sym (read_dead s v) ∙ not-not (dead t v) taken.right_place in
      let nd = eqb-false (adopt_due t f) 1 r.1 in
      let k = lowest_empty t in
      let c = tie_closing (tie_cancelled s f v f0 f33 v8) f k f0 f33 (bytes_cleared h.bytes s.whole f v f0 f33) marks.1
      (λ e. let full : slots_full t ≡ false = not_both _ _ taken.room e in ((lowest_free s full).range, lowest_range s full, (lowest_free s full).tag)) in
      (c.0, c.1, cancels f v k some.0 has v_in died (omega (arith, read_due s f f0 f33, marks.0)) some.1 c.2)

  pub ask_moves : (f v j : ℕ) → StepTaken t (ask f v j) → Moved (Settle a) (ask_step t f v j)
  unfolding not_there wrong_place not_ready must_wait no_room
  ask_moves f v j taken =
      let s = h.seen in
      let there = every_each _ (not-not _ taken.there) in
      let r = none_of_three (book_absent t f) (eqb (live t f v j) 0) (marked (asked_marks t f v) j) taken.ready in
      let has = has_book h f there.0 r.0 in
      let f0 = has.low in
      let f33 = (finish_fits_lem h f f0 has.high).number in
      let v_in = inside v there.1.0 in
      let j_in = inside j there.1.1.0 in
      let v8 : v < 8 = omega (arith, places_most h) in
      let j8 : j < 8 = omega (arith, places_most h) in
      let w = neither (not (dead t v)) (dead t j) taken.right_place in
      let n = eqb-false (live t f v j) 0 r.1 in
      let k = lowest_empty t in
      let full : slots_full t ≡ false = taken.room in (
        Repair.ask a f v j k,
        tie_ask s f v j f0 f33 v8 j8 (lowest_range s full),
        asks f v j k has v_in j_in (sym (read_dead s v) ∙ not-not (dead t v) w.0) (sym (read_dead s j) ∙ w.1) (omega (arith, read_live s f f0 f33 v j v8 j8))
            (sym (read_asked s f f0 f33 v j v8) ∙ r.2) (book_repaired (read_book s f f0 f33) (dead_mask t) (read_dead s) (book_marks h f f0 f33 has.present).0 taken.no_wait) (lowest_free s full),
      )
