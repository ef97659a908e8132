-- A quiet session, by the rules' test, is quiet in the model.
use mathlib.Core.Path.{◌≡◌, refl, sym, ap, ◌∙◌}
use mathlib.Core.Bool.{Bool, true, false}
use mathlib.Core.List.{List}
use Prim.Native.Nat.{ℕ, zero, suc, ◌+◌, ◌-◌, ◌*◌, ◌<◌}
use native.Mathlib.Nat.{add-zero, mul-suc, mul-zero}
use native.Mathlib.Omega.{arith}
use lib.ListN.{drop}
use lib.Seq.{drop-drop, get_or-drop}
use borrow.Author.Tests.{eqb-true, ne_eqb}
use Rattle.tables.specs.Bytes.{byte, part}
use Rattle.tables.specs.Bits.{digit}
use Rattle.tables.specs.Walks.{count_parts}
use Rattle.tables.proofs.Walks.{every_each, parts_at}
use Rattle.rules.specs.Fields.{places, dead_mask, book_place}
use Rattle.rules.specs.Books.{book_of, under_repair, owes}
use Rattle.rules.specs.Messages.{is_empty, slot_place, from_slot}
use Rattle.rules.specs.Quiet.{is_full, messages_in_flight, calm_book, quiet}
use Rattle.rules.proofs.Taken.{not-not}
use Rattle.model.specs.State.{State}
use Rattle.model.specs.Quiet.{Quiet}
use Rattle.promises.proofs.Tests.{not_true}
use Rattle.promises.proofs.Rows.{read_places, read_dead}
use Rattle.promises.proofs.Slots.{read_tag, read_slots}
use Rattle.promises.proofs.BookCells.{read_present, book_range}
use Rattle.promises.proofs.WholeBooks.{read_book}
use Rattle.promises.proofs.BookTests.{book_repaired, book_asked}
use Rattle.promises.proofs.Held.{Held, book_marks}

-- no part counts
counts-not : (b : Bool) (x : ℕ) → digit b + x ≡ 0 → (b ≡ false) × (x ≡ 0)
counts-not true x z = absurd (omega arith)
counts-not false x z = (refl, omega arith)

pub count_none : (p : List ℕ → ℕ → Bool) (w n i : ℕ) (m : List ℕ) → count_parts p w i n m ≡ 0 → (j : ℕ) → j < n → p (drop (w * j) m) (i + j) ≡ false
unfolding count_parts
count_none p w zero i m e j h = absurd (omega arith)
count_none p w (suc n) i m e zero h = rw (mul-zero w, add-zero i) (counts-not (p m i) (count_parts p w (suc i) n (drop w m)) e).0
count_none p w (suc n) i m e (suc j) h =
    let g : i + suc j ≡ suc i + j = omega arith in
    let v : w * suc j ≡ w + w * j = omega (arith, mul-suc w j) in
    rw (g, v, sym (drop-drop (w * j) w m)) (count_none p w n (suc i) (drop w m) (counts-not (p m i) (count_parts p w (suc i) n (drop w m)) e).1 j (omega arith))

module _ {t : List ℕ} {a : State} (h : Held t a) (calm : quiet t ≡ true) where
  empty_slot : (k : ℕ) → k < 128 → (a.slot k).tag ≡ 0
  unfolding quiet messages_in_flight is_full is_empty from_slot
  empty_slot k l =
      let c = count_none is_full 16 128 0 (drop (slot_place 0) t) (eqb-true (messages_in_flight t) 0 (every_each _ calm).0) k l in
      sym (read_tag h.seen k l) ∙ eqb-true (byte (from_slot t k) 0) 0 (not-not _ c)

  calm_book_lem : (f : ℕ) → 0 < f → f < 33 → a.books.present f ≡ 1 → (under_repair (dead_mask t) (book_of t f) ≡ false) × (owes (places t) (dead_mask t) (book_of t f) ≡ false)
  unfolding quiet calm_book book_of part
  calm_book_lem f f0 f33 e =
      let c = parts_at (calm_book (places t) (dead_mask t)) 144 1 32 (book_place 1) t (f - 1) (book_place f) f (every_each _ calm).1.0 (omega arith) (omega arith) (omega arith) in
      let q : byte (drop (book_place f) t) 0 ≡ 1 = get_or-drop (book_place f) t 0 0 ∙ ap (byte t) (add-zero (book_place f)) ∙ read_present h.seen f f0 f33 ∙ e in
      let r = every_each _ (rw (ne_eqb (byte (drop (book_place f) t) 0) 0 (λ z. omega arith)) at c) in
      (not_true _ r.0, not_true _ r.1.0)

  has_one : (f : ℕ) → a.books.present f ≡ 1 → (0 < f) × (f < 33)
  has_one f e = book_range h.seen f (λ z. omega arith)

  pub quiet_state : Quiet a
  quiet_state =
      let s = h.seen in
      record {
        empty = λ k l. empty_slot k (rw (read_slots s) at l);
        repaired = λ f e. let r = has_one f e in book_repaired (read_book s f r.0 r.1) (dead_mask t) (read_dead s) (book_marks h f r.0 r.1 e).0 (calm_book_lem f r.0 r.1 e).0;
        asked = λ f i j e d l n c. let r = has_one f e in
            book_asked (read_book s f r.0 r.1) (places t) (dead_mask t) (read_dead s) (calm_book_lem f r.0 r.1 e).1 i j d (omega (arith, read_places s)) n c;
      }
