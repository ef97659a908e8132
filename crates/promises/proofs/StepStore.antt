-- Taken delivers of tags 1, 3, 7, 9 and 11, which go to the store, are moves of the model.
use mathlib.Core.Path.{◌≡◌, refl, sym, ap, ◌∙◌, subst}
use mathlib.Core.Bool.{true, false}
use mathlib.Core.Logic.{◌⊎◌, inl, inr}
use mathlib.Core.List.{List, [], ◌∷◌}
use Prim.Native.Nat.{ℕ, ◌+◌, ◌-◌, ◌*◌, ◌≤◌, ◌<◌}
use native.Mathlib.Omega.{arith}
use lib.Dec.{ltb, leb}
use lib.ListN.{get_or-eq_default}
use borrow.Author.Tests.{eqb-true, leb-true, ltb-true, ltb-false}
use Rattle.tables.specs.Bytes.{byte}
use Rattle.tables.specs.Walks.{some_of}
use Rattle.tables.proofs.Walks.{every_each}
use Rattle.rules.specs.Fields.{finishes_made, dead_mask, dead, home, present, finish_status, live, live_place}
use Rattle.rules.specs.Action.{deliver}
use Rattle.rules.specs.Books.{book_of, under_repair}
use Rattle.rules.specs.Messages.{Message, publish, transit, report, ghost_ended, dropped, message_at}
use Rattle.rules.specs.Closing.{closing_test}
use Rattle.rules.specs.Deliver.{book_absent, discarded, waits_for_repair, lowers, fits, delivered, deliver_message, deliver_step, nearest}
use Rattle.rules.specs.Deliver.{deliver_report as report_rule, deliver_ghost_ended as ghost_ended_rule, deliver_dropped as dropped_rule}
use Rattle.rules.proofs.Taken.{StepTaken, neither}
use Rattle.sound.proofs.Use.{Made}
use Rattle.model.specs.Base.Cases.{bool_cases}
use Rattle.model.specs.Base.Updates.{upd, upd_same}
use Rattle.model.specs.State.{State}
use Rattle.model.specs.Messages
use Rattle.model.specs.Guards.{Repaired, Discarded, publish_lost, transit_lost, report_lost, ghost_lost, answer_lost}
use Rattle.model.specs.Effects.Closing.{Closing}
use Rattle.model.specs.Effects.Deliver
use Rattle.model.specs.Effects.Deliver.{empty}
use Rattle.model.specs.Step.{Settle, discards, delivers_publish, delivers_transit, refuses_transit, delivers_report, delivers_ghost_ended, delivers_dropped}
use Rattle.promises.proofs.Tests.{one_of, below_all}
use Rattle.promises.proofs.Seen.{Seen}
use Rattle.promises.proofs.Rows.{read_dead, read_home, read_finish_status}
use Rattle.promises.proofs.Slots.{counts_at, counts-length, read_counts, read_slots}
use Rattle.promises.proofs.BookCells.{read_present, read_live, book_there}
use Rattle.promises.proofs.WholeBooks.{read_book}
use Rattle.promises.proofs.BookBytes.{square, square_in}
use Rattle.promises.proofs.BookTests.{book_repaired}
use Rattle.promises.proofs.Bytes.{Bytes, bytes_set, bytes_emptied, bytes_lowered, bytes_ghost_ended}
use Rattle.promises.proofs.Held.{Held, finishes_made_most, task-fits, finish_fits_lem, present_mark, book_marks}
use Rattle.promises.proofs.Moved.{Moved}
use Rattle.promises.proofs.StepDeliver.{k_there, goes, ranges, full, finish_in, task_in, place_in}
use Rattle.promises.proofs.TieDeliver.{tie_empty, tie_deliver_transit, tie_refuse_transit}
use Rattle.promises.proofs.TiePublish.{climb, tie_deliver_publish}
use Rattle.promises.proofs.TieClosing.{tie_closing, tie_report, tie_ghost_ended, tie_dropped}

module _ {t : List ℕ} {a : State} (h : Held t a) (k : ℕ) (taken : StepTaken t (deliver k)) (f x v j n : ℕ) (f_made : Made (finishes_made t) f) (is_finish : (a.slot k).finish ≡ f) where
  f0 : 0 < f
  f0 = f_made.0

  f33 : f < 33
  f33 = let r = finish_in h k taken f f_made in (finish_fits_lem h f r.0 r.1).number

  -- the book of f: absent, or present and a mark
  absent : book_absent t f ≡ true → a.books.present (a.slot k).finish ≡ 0
  unfolding book_absent
  absent e = rw is_finish (sym (read_present h.seen f f0 f33) ∙ eqb-true (present t f) 0 e)

  there : book_absent t f ≡ false → a.books.present f ≡ 1
  there = book_there h.seen f f0 f33 (present_mark h f f0 f33)

  repaired : book_absent t f ≡ false → under_repair (dead_mask t) (book_of t f) ≡ false → Repaired a (a.slot k).finish
  repaired e w = rw is_finish (book_repaired (read_book h.seen f f0 f33) (dead_mask t) (read_dead h.seen) (book_marks h f f0 f33 (there e)).0 w)

  -- a dead place, or no book: discarded
  lost : (p q : ℕ) → p ≡ q → some_of (dead t p ∷ book_absent t f ∷ []) ≡ true → (a.dead q ≡ true) ⊎ (a.books.present (a.slot k).finish ≡ 0)
  lost p q w e = one_of (dead t p) (book_absent t f) e (λ y. inl (rw (← w) (sym (read_dead h.seen p) ∙ y))) (λ y. inr (absent y))

  thrown : Discarded a k → (y : Message) → message_at t k ≡ y → discarded t y ≡ true → Moved (Settle a) (deliver_step t k)
  unfolding deliver_step deliver_message
  thrown d y m e = rw (m, e) (empty a k, tie_empty h.seen k (k_there h k taken), discards k (full h k taken (a.slot k).tag refl).range d)

  -- the closing test after the slot was emptied
  closed : {u : List ℕ} {b : State} → Seen u b → Bytes u → b.books.adopted f ≤ 1 → (b.slot k).tag ≡ 0 → (s' : State) × Seen (closing_test u f k) s' × Closing b (a.slot k).finish k s'
  closed {b = b} s small mark e =
      let c = tie_closing s f k f0 f33 small mark (λ q. (rw (read_slots s) (k_there h k taken), k_there h k taken, e)) in
      (c.0, c.1, subst (λ (y : ℕ). Closing b y k c.0) (sym is_finish) c.2)

  emptied : (upd a.slot k Messages.none k).tag ≡ 0
  emptied = rw (upd_same a.slot k Messages.none) refl

  adopted_mark : book_absent t f ≡ false → a.books.adopted f ≤ 1
  adopted_mark e = (book_marks h f f0 f33 (there e)).1

  pub publish_moves : (a.slot k).tag ≡ 1 → (a.slot k).task ≡ x → message_at t k ≡ publish f x → Moved (Settle a) (deliver_step t k)
  unfolding deliver_step deliver_message discarded delivered fits book_absent
  publish_moves e is-task m =
      let s = h.seen in
      let made = finish_in h k taken f f_made in
      let own = finish_fits_lem h f made.0 made.1 in
      let is_dead : dead t (home t f) ≡ a.dead (a.finishes.home (a.slot k).finish) = ap (dead t) (read_home s f f0 f33) ∙ read_dead s (a.finishes.home f) ∙ rw is_finish refl in
      bool_cases (dead t (home t f))
      (λ d. thrown (publish_lost e (sym is_dead ∙ d)) (publish f x) m d)
      (λ d. let g = goes h k taken (publish f x) m d in
      let w = every_each _ g.fit in
      let q = nearest t 32 (a.finishes.parent f) in
      rw (m, d) (
        Deliver.deliver_publish a k q,
        tie_deliver_publish s k f x (k_there h k taken) is_finish is-task f0 f33 own.home,
        delivers_publish k q (full h k taken 1 e) (sym is_dead ∙ d) (rw is_finish (sym (read_finish_status s f f0 f33) ∙ eqb-true (finish_status t f) 2 w.0)) (absent w.1.0)
            (rw is_finish (climb s a.finishes.made (finishes_made_most h) (λ y p l. (finish_fits_lem h y p l).parent) (λ y p l. present_mark h y p (finish_fits_lem h y p l).number)
            32 (a.finishes.parent f) (omega (arith, own.parent)) (omega (arith, own.parent, made.1)))),
      ))

  pub transit_moves : (a.slot k).tag ≡ 3 → (a.slot k).task ≡ x → (a.slot k).from ≡ v → (a.slot k).to ≡ j → message_at t k ≡ transit f x v j → Moved (Settle a) (deliver_step t k)
  unfolding deliver_step deliver_message discarded delivered waits_for_repair
  transit_moves e is-task is-from is-to m =
      let s = h.seen in
      let r = ranges h k taken (transit f x v j) m in
      let x_in = task_in h k taken x r.0.1 in
      let x256 = (task-fits h x x_in.0 x_in.1).number in
      let v8 = place_in h k taken v r.1.0 in
      let j8 = place_in h k taken j r.1.1 in
      bool_cases (discarded t (transit f x v j))
      (λ d. thrown (transit_lost e (lost v (a.slot k).from (sym is-from) d)) (transit f x v j) m d)
      (λ d. let g = goes h k taken (transit f x v j) m d in
      let o = neither (dead t v) (book_absent t f) d in
      let lives : a.dead (a.slot k).from ≡ false = rw is-from (sym (read_dead s v) ∙ o.0) in
      let is_there : a.books.present (a.slot k).finish ≡ 1 = rw is_finish (there o.1) in
      let calm = repaired o.1 g.calm in
      rw (m, d) (bool_cases (a.dead j)
      (λ y. (Deliver.refuse_transit a k, tie_refuse_transit s k (k_there h k taken) x x_in.0 x256 is-task f v j is_finish is-from is-to f0 f33 v8 j8 y, refuses_transit k (full h k taken 3 e) lives is_there calm (rw is-to y)))
      (λ y. (Deliver.deliver_transit a k, tie_deliver_transit s k (k_there h k taken) x x_in.0 x256 is-task f v j is_finish is-from is-to f0 f33 v8 j8 y, delivers_transit k (full h k taken 3 e) lives is_there calm (rw is-to y)))))

  pub report_moves : (a.slot k).tag ≡ 7 → (a.slot k).from ≡ v → message_at t k ≡ report f v (counts_at t k) → Moved (Settle a) (deliver_step t k)
  unfolding deliver_step deliver_message discarded delivered report_rule waits_for_repair fits lowers
  report_moves e is-from m =
      let s = h.seen in
      let c = counts_at t k in
      let v8 = place_in h k taken v (ranges h k taken (report f v (counts_at t k)) m).1 in
      bool_cases (discarded t (report f v (counts_at t k)))
      (λ d. thrown (report_lost e (lost v (a.slot k).from (sym is-from) d)) (report f v (counts_at t k)) m d)
      (λ d. let g = goes h k taken (report f v (counts_at t k)) m d in
      let o = neither (dead t v) (book_absent t f) d in
      let end = closed (tie_report s k (k_there h k taken) f is_finish f0 f33 v e is-from v8) (bytes_emptied (bytes_lowered h.bytes s.whole f v f0 f33 (counts_at t k)) k) (adopted_mark o.1) emptied in
      rw (m, d) (
        end.0,
        end.1,
        delivers_report k (full h k taken 7 e) (rw is-from (sym (read_dead s v) ∙ o.0)) (rw is_finish (there o.1)) (repaired o.1 g.calm)
            (λ i. rw (is_finish, is-from) (below v v8 g.fit i)) end.2,
      ))
    where
      below : (v : ℕ) → v < 8 → lowers (book_of t f) v (counts_at t k) ≡ true → (i : ℕ) → (a.slot k).counts i ≤ a.books.live f i v
      below v v8 l i =
          let s = h.seen in
          let b = book_of t f in
          let c = counts_at t k in
          let q = read_counts s k (k_there h k taken) i in
          bool_cases (ltb i 8)
          (λ y. let i8 = ltb-true i 8 y in
          let z : square (book_of t f) 8 i v ≡ a.books.live f i v = ap (λ (r : ℕ → ℕ → ℕ). r i v) (read_book s f f0 f33).live in
          omega (arith, leb-true (byte c i) (byte b (8 + 8 * i + v)) (below_all (λ i. leb (byte c i) (byte b (8 + 8 * i + v))) 8 l i i8), square_in b 8 i v i8 v8))
          (λ y. let z : byte c i ≡ 0 = get_or-eq_default c 0 (omega (arith, ltb-false i 8 y, counts-length s k (k_there h k taken))) in omega arith)

  pub ghost_ended_moves : (g : ℕ) → (a.slot k).tag ≡ 9 → (a.slot k).number ≡ g → message_at t k ≡ ghost_ended f g → Moved (Settle a) (deliver_step t k)
  unfolding deliver_step deliver_message discarded delivered ghost_ended_rule waits_for_repair
  ghost_ended_moves g e is_number m =
      let s = h.seen in
      let g_made = (ranges h k taken (ghost_ended f g) m).1 in
      let g_in = finish_in h k taken g g_made in
      let g33 = (finish_fits_lem h g g_in.0 g_in.1).number in
      bool_cases (discarded t (ghost_ended f g))
      (λ d. thrown (ghost_lost e (absent d)) (ghost_ended f g) m d)
      (λ d. let go = goes h k taken (ghost_ended f g) m d in
      let end = closed (tie_ghost_ended s k (k_there h k taken) f is_finish f0 f33 g is_number g_in.0 g33) (bytes_emptied (bytes_ghost_ended h.bytes f g) k) (adopted_mark d) emptied in
      rw (m, d) (end.0, end.1, delivers_ghost_ended k (full h k taken 9 e) (rw is_finish (there d)) (repaired d go.calm) end.2))

  pub dropped_moves : (a.slot k).tag ≡ 11 → (a.slot k).from ≡ v → (a.slot k).to ≡ j → (a.slot k).number ≡ n → message_at t k ≡ dropped f x v j n → Moved (Settle a) (deliver_step t k)
  unfolding deliver_step deliver_message discarded delivered dropped_rule fits
  dropped_moves e is-from is-to is_number m =
      let s = h.seen in
      let r = ranges h k taken (dropped f x v j n) m in
      let v8 = place_in h k taken v r.1.0 in
      let j8 = place_in h k taken j r.1.1 in
      bool_cases (discarded t (dropped f x v j n))
      (λ d. thrown (answer_lost e (lost j (a.slot k).to (sym is-to) d)) (dropped f x v j n) m d)
      (λ d. let g = goes h k taken (dropped f x v j n) m d in
      let o = neither (dead t j) (book_absent t f) d in
      let end = closed (tie_dropped s k (k_there h k taken) f is_finish f0 f33 v j n e is-from is-to is_number v8 j8)
      (bytes_emptied (bytes_set h.bytes (live_place f v j) (live t f v j - n) (omega (arith, h.bytes.small (live_place f v j)))) k) (adopted_mark o.1) emptied in
      rw (m, d) (
        end.0,
        end.1,
        delivers_dropped k (full h k taken 11 e) (rw is-to (sym (read_dead s j) ∙ o.0)) (rw is_finish (there o.1))
            (rw (is_finish, is-from, is-to, is_number) (omega (arith, leb-true n (live t f v j) g.fit, read_live s f f0 f33 v j v8 j8))) end.2,
      ))
