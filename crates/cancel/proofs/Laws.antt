-- The ranges of a cancel, what its tables are read as before they are written, and the slot that it may take.
use mathlib.Core.Path.{◌≡◌, refl, sym, ap, ◌∙◌}
use mathlib.Core.Bool.{Bool, true, false, cond, not, true≢false}
use mathlib.Core.Logic.{inl}
use mathlib.Core.List.{List, [], ◌∷◌, ◌++◌, append_assoc}
use Prim.Native.Nat.{ℕ, ◌+◌, ◌≤◌, ◌<◌}
use native.Mathlib.Omega.{arith}
use lib.Dec.{eqb}
use lib.ListN.{length, take, drop}
use lib.Seq.{length-take-le, take-append_seam, drop-append_seam}
use Rattle.tables.specs.Bytes.{byte, part, write}
use Rattle.tables.specs.Walks.{every, some_of}
use Rattle.tables.specs.Layout.{Whole, place, finish_row, book_row}
use Rattle.tables.proofs.Writes.{write_mid, length_part, byte-part, byte-write_in, byte-write_out}
use Rattle.tables.proofs.Changes.{byte_change_out}
use Rattle.rules.specs.Fields.{dead_mask, dead, home, is_adopted, book_place}
use Rattle.rules.specs.Action.{cancel}
use Rattle.rules.specs.Books.{book_of, with_book, clear_row, cleared_column}
use Rattle.rules.specs.Messages.{slots_full}
use Rattle.rules.specs.Closing.{closes, closed_book, closing_test, closing_sends}
use Rattle.rules.specs.Cancel.{cancelled}
use Rattle.rules.specs.Refusals.{no_room, step_answer}
use Rattle.rules.proofs.Taken.{step-taken}
use Rattle.square.proofs.Columns.{clear_keeps, cleared_length}

pub cancel_room : (t : List ℕ) (f v : ℕ) → step_answer t (cancel f v) ≡ 0 → every (closing_sends (cancelled t f v) f ∷ slots_full t ∷ []) ≡ false
unfolding no_room
cancel_room t f v h = (step-taken t (cancel f v) h).room

-- a part written and read back
part-write : (t vs : List ℕ) (k n : ℕ) → length vs ≡ n → k + n ≤ length t → part (write t k vs) k n ≡ vs
unfolding part
part-write t vs k n l h =
    let rest : List ℕ = drop (k + length vs) t in
    let front : length (take k t) ≡ k = length-take-le k t (omega arith) in
    ap (λ (u : List ℕ). take n (drop k u)) (write_mid vs t k (omega arith) ∙ append_assoc (take k t) vs rest)
    ∙ ap (λ (i : ℕ). take n (drop i (take k t ++ (vs ++ rest)))) (sym front)
    ∙ ap (take n) (drop-append_seam (take k t) (vs ++ rest))
    ∙ ap (λ (i : ℕ). take i (vs ++ rest)) (sym l)
    ∙ take-append_seam vs rest

module _ (t : List ℕ) (f v : ℕ) (whole : Whole t) (finish : (1 ≤ f) × (f ≤ 32)) where
  pub book_long : length (book_of t f) ≡ 144
  unfolding book_of
  book_long = let high = finish.1 in length_part t (book_place f) 144 (omega arith)

  cleared_long : length (cleared_column (book_of t f) v) ≡ 144
  cleared_long = cleared_length (book_of t f) v book_long

  book_after : book_of (cancelled t f v) f ≡ cleared_column (book_of t f) v
  unfolding book_of cancelled with_book
  book_after = let high = finish.1 in part-write t (cleared_column (book_of t f) v) (book_place f) 144 cleared_long (omega arith)

  before_book : (q : ℕ) → q < book_place f → byte (cancelled t f v) q ≡ byte t q
  unfolding cancelled with_book
  before_book q h = byte-write_out t (book_place f) (cleared_column (book_of t f) v) q (inl h)

  dead-after : dead_mask (cancelled t f v) ≡ dead_mask t
  dead-after = before_book 1 (omega arith)

  home_after : home (cancelled t f v) f ≡ home t f
  home_after = let low = finish.0 in before_book (place (finish_row f) 0) (omega arith)

  adopted_in : byte (cleared_column (book_of t f) v) 3 ≡ byte (book_of t f) 3
  unfolding cleared_column
  adopted_in = let l = book_long in byte_change_out (clear_row v) 8 (clear_keeps v) 8 0 8 3 (book_of t f) (omega arith) (inl (omega arith))

  adopted_of : byte (book_of t f) 3 ≡ byte t (book_place f + 3)
  unfolding book_of
  adopted_of = byte-part t (book_place f) 144 3 (omega arith)

  adopted_after : is_adopted (cancelled t f v) f ≡ is_adopted t f
  unfolding cancelled with_book
  adopted_after =
      let high = finish.1 in
      let l = cleared_long in
      let z : place (book_row f) 3 ≡ book_place f + 3 = omega arith in
      ap (byte (cancelled t f v)) z
      ∙ byte-write_in t (book_place f) (cleared_column (book_of t f) v) 3 (omega arith) (omega arith)
      ∙ adopted_in ∙ adopted_of ∙ ap (byte t) (sym z)

  pub sends_told : closing_sends (cancelled t f v) f ≡ every (closes (cleared_column (book_of t f) v) ∷ some_of (eqb (is_adopted t f) 1 ∷ not (dead t (home t f)) ∷ []) ∷ [])
  unfolding closing_sends
  sends_told = rw (book_after, adopted_after, home_after, dead-after) refl

-- what closes without a message is the same for any slot
aside : {A : Type 0} (a b d : Bool) (x x' y y' w u : A) → every (every (a ∷ some_of (b ∷ not d ∷ []) ∷ []) ∷ true ∷ []) ≡ false
    → cond a (cond b x (cond d w y)) u ≡ cond a (cond b x' (cond d w y')) u
unfolding every some_of
aside false b d x x' y y' w u h = refl
aside true true d x x' y y' w u h = absurd (true≢false h)
aside true false true x x' y y' w u h = refl
aside true false false x x' y y' w u h = absurd (true≢false h)

pub slot_aside : (u : List ℕ) (f : ℕ) (full : Bool) (s : ℕ) → every (closing_sends u f ∷ full ∷ []) ≡ false → closing_test u f (cond full 0 s) ≡ closing_test u f s
unfolding closing_test closing_sends closed_book
slot_aside u f false s h = refl
slot_aside u f true s h = aside (closes (book_of u f)) (eqb (is_adopted u f) 1) (dead u (home u f)) _ _ _ _ _ _ h
