-- A new store book: live and sent 1 at home, home.
use mathlib.Core.Path.{◌≡◌, refl, sym, ap, ◌∙◌}
use mathlib.Core.Bool.{Bool, true, false, ◌&&◌}
use mathlib.Core.Logic.{◌⊎◌, inl, inr}
use mathlib.Core.List.{List, [], ◌∷◌}
use Prim.Native.Nat.{ℕ, ◌+◌, ◌*◌, ◌≤◌, ◌<◌}
use native.Mathlib.Omega.{arith}
use lib.Dec.{ltb}
use lib.ListN.{set, length, length-set, replicate, length-replicate}
use lib.Seq.{get_or-set_same, get_or-set_other}
use borrow.Author.Tests.{lt-ltb}
use Rattle.tables.specs.Bytes.{byte, over, write}
use Rattle.tables.proofs.Writes.{length-write, byte-write_out}
use Rattle.rules.specs.Books.{with_book as write_book}
use Rattle.rules.specs.Deliver.{new_book}
use Rattle.model.specs.Base.Cases.{bool_cases, both}
use Rattle.model.specs.Base.Updates.{upd, on, on_true, on_false, is₂, is₂-cases, is₂_same}
use Rattle.model.specs.State.{State, with_books}
use Rattle.model.specs.Effects.Deliver.{with_book}
use Rattle.promises.specs.View.{ghost_in}
use Rattle.promises.proofs.Walks.{zeros_at}
use Rattle.promises.proofs.Seen.{Seen, same}
use Rattle.promises.proofs.BookCells.{ghost_same, ghost_none}
use Rattle.promises.proofs.BookBytes.{square, asked_in, square_ext, no_marks}
use Rattle.promises.proofs.WholeBooks.{seen_book}

module _ (h q : ℕ) (h8 : h < 8) where
  first : List ℕ
  first = write (replicate 144 0) 0 (1 ∷ q ∷ [])

  first-length : length first ≡ 144
  unfolding first
  first-length = length-write (1 ∷ q ∷ []) (replicate 144 0) 0 ∙ length-replicate {A = ℕ} 144 0

  first_zero : (k : ℕ) → 2 ≤ k → byte first k ≡ 0
  unfolding first
  first_zero k l = byte-write_out (replicate 144 0) 0 (1 ∷ q ∷ []) k (inr l) ∙ zeros_at 144 k

  abbrev one : List ℕ
  one = set first (8 + 8 * h + h) 1

  new-length : length (new_book h q) ≡ 144
  unfolding new_book first
  new-length = length-set one (72 + 8 * h + h) 1 ∙ length-set first (8 + 8 * h + h) 1 ∙ first-length

  -- no byte but these two
  new_other : (k : ℕ) → (k ≡ 8 + 8 * h + h → ⊥) → (k ≡ 72 + 8 * h + h → ⊥) → byte (new_book h q) k ≡ byte first k
  unfolding new_book first
  new_other k a b = get_or-set_other one (72 + 8 * h + h) k 1 0 b ∙ get_or-set_other first (8 + 8 * h + h) k 1 0 a

  new-live : byte (new_book h q) (8 + 8 * h + h) ≡ 1
  unfolding new_book first
  new-live = get_or-set_other one (72 + 8 * h + h) (8 + 8 * h + h) 1 0 (λ e. omega arith) ∙ get_or-set_same first (8 + 8 * h + h) 1 0 (omega (arith, first-length))

  new_sent : byte (new_book h q) (72 + 8 * h + h) ≡ 1
  unfolding new_book first
  new_sent = get_or-set_same one (72 + 8 * h + h) 1 0 (omega (arith, length-set first (8 + 8 * h + h) 1, first-length))

  head_byte : (k : ℕ) → k < 8 → byte (new_book h q) k ≡ byte first k
  head_byte k l = new_other k (λ e. omega arith) (λ e. omega arith)

  at_home : (o : ℕ) → (o ≡ 8) ⊎ (o ≡ 72) → byte (new_book h q) (o + 8 * h + h) ≡ 1
  at_home o (inl e) = rw e new-live
  at_home o (inr e) = rw e new_sent

  elsewhere : (o i j : ℕ) → (o ≡ 8) ⊎ (o ≡ 72) → i < 8 → j < 8 → is₂ h h i j ≡ false → byte (new_book h q) (o + 8 * i + j) ≡ 0
  elsewhere o i j (inl e) a b n =
      new_other (o + 8 * i + j) (λ z. let x : h ≡ i = omega arith in let y : h ≡ j = omega arith in both (rw (sym x, sym y) (is₂_same h h)) n) (λ z. omega arith)
      ∙ first_zero (o + 8 * i + j) (omega arith)
  elsewhere o i j (inr e) a b n =
      new_other (o + 8 * i + j) (λ z. omega arith) (λ z. let x : h ≡ i = omega arith in let y : h ≡ j = omega arith in both (rw (sym x, sym y) (is₂_same h h)) n)
      ∙ first_zero (o + 8 * i + j) (omega arith)

  new_square : (o : ℕ) → (o ≡ 8) ⊎ (o ≡ 72) → square (new_book h q) o ≡ (λ i j. on (is₂ h h i j) 1)
  new_square o w = square_ext (new_book h q) o (λ i j. on (is₂ h h i j) 1)
      (λ i j a b. is₂-cases h h i j
      (λ x y. rw (sym x, sym y, is₂_same h h, on_true true 1 refl) (at_home o w))
      (λ n. rw (n, on_false false 1 refl) (elsewhere o i j w a b n)))
      (λ i j n. is₂-cases h h i j
      (λ x y. let z : (ltb i 8 && ltb j 8) ≡ true = rw (sym x, sym y, lt-ltb h 8 h8) refl in both z n)
      (λ m. rw (m, on_false false 1 refl) refl))

  new-ghosts : (g : ℕ) → ghost_in (byte (new_book h q)) g ≡ false
  new-ghosts g =
      ap (λ (r : ℕ → Bool). r g) (ghost_same (byte (new_book h q)) (λ j. 0) (λ j a b. head_byte j b ∙ first_zero j (omega arith)))
      ∙ ghost_none (λ j. 0) (λ j. refl) g

  new-asked : (i j : ℕ) → asked_in (new_book h q) i j ≡ false
  new-asked i j = bool_cases (ltb i 8)
      (λ e. rw (e, new_other (136 + i) (λ z. omega arith) (λ z. omega arith), first_zero (136 + i) (omega arith)) (no_marks j))
      (λ e. rw e (no_marks j))

  pub seen_new_book : {t : List ℕ} {a : State} → Seen t a → (f : ℕ) → 0 < f → f < 33 → Seen (write_book t f (new_book h q)) (with_book f h q a)
  unfolding first write over
  seen_new_book {t} {a} s f f0 f33 = same (seen_book s f f0 f33 (new_book h q) new-length) (λ z.
      let B = a.books in
      with_books (record {
        present = upd B.present f (head_byte 0 (omega arith) z);
        parent = upd B.parent f (head_byte 1 (omega arith) z);
        due = upd B.due f (head_byte 2 (omega arith) z);
        adopted = upd B.adopted f (head_byte 3 (omega arith) z);
        ghosts = upd B.ghosts f (λ g. new-ghosts g z);
        live = upd B.live f (new_square 8 (inl refl) z);
        sent = upd B.sent f (new_square 72 (inr refl) z);
        asked = upd B.asked f (λ i j. new-asked i j z);
      }) a)
