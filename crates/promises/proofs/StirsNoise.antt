-- What a session that is not quiet has: a message in flight, a book under repair or a count owed.
use mathlib.Core.Path.{◌≡◌, refl, sym, ap, ◌∙◌}
use mathlib.Core.Bool.{Bool, true, false, not}
use mathlib.Core.List.{List}
use Prim.Native.Nat.{ℕ, zero, suc, ◌+◌, ◌*◌, ◌<◌}
use native.Mathlib.Nat.{add-zero, mul-suc, mul-zero}
use native.Mathlib.Omega.{arith}
use lib.Dec.{eqb}
use lib.ListN.{drop}
use lib.Seq.{drop-drop, get_or-drop}
use borrow.Author.Tests.{eqb-false}
use Rattle.tables.specs.Bytes.{byte, part}
use Rattle.tables.specs.Walks.{every_part, count_parts, some_below}
use Rattle.rules.specs.Fields.{places, dead_mask, book_place}
use Rattle.rules.specs.Books.{book_of, under_repair, owes}
use Rattle.rules.specs.Messages.{is_empty, slot_place, from_slot}
use Rattle.rules.specs.Deliver.{book_absent}
use Rattle.rules.specs.Quiet.{is_full, messages_in_flight, calm_book, quiet}
use Rattle.rules.proofs.Taken.{not-not}
use Rattle.model.specs.Base.Cases.{bool_cases, both}
use Rattle.promises.proofs.Tests.{not_true, not_both}

-- ---- a test over many fails, or holds, at one of them
module _ (p : List ℕ → ℕ → Bool) (w : ℕ) where
  later : (b : Bool) (i j : ℕ) (m : List ℕ) → p (drop (w * j) (drop w m)) (suc i + j) ≡ b → p (drop (w * suc j) m) (i + suc j) ≡ b
  later b i j m e =
      let g : i + suc j ≡ suc i + j = omega arith in
      let v : w * suc j ≡ w + w * j = omega (arith, mul-suc w j) in
      rw (g, v, sym (drop-drop (w * j) w m)) e

  count_some : (n i : ℕ) (m : List ℕ) → (count_parts p w i n m ≡ 0 → ⊥) → (j : ℕ) × (j < n) × (p (drop (w * j) m) (i + j) ≡ true)
  unfolding count_parts
  count_some zero i m h = absurd (h refl)
  count_some (suc n) i m h = bool_cases (p m i)
      (λ e. (0, omega arith, rw (mul-zero w, add-zero i) e))
      (λ e. let r = count_some n (suc i) (drop w m) (λ z. h (rw (e, z) refl)) in (suc r.0, omega (arith, r.1), later true i r.0 m r.2))

  part_fails : (n i : ℕ) (m : List ℕ) → every_part p w i n m ≡ false → (j : ℕ) × (j < n) × (p (drop (w * j) m) (i + j) ≡ false)
  unfolding every_part
  part_fails zero i m h = both refl h
  part_fails (suc n) i m h = bool_cases (p m i)
      (λ e. let r = part_fails n (suc i) (drop w m) (rw e at h) in (suc r.0, omega (arith, r.1), later false i r.0 m r.2))
      (λ e. (0, omega arith, rw (mul-zero w, add-zero i) e))

pub below_some : (p : ℕ → Bool) (n : ℕ) → some_below p n ≡ true → (i : ℕ) × (i < n) × (p i ≡ true)
unfolding some_below
below_some p zero h = both h refl
below_some p (suc n) h = bool_cases (p n)
    (λ e. (n, omega arith, e))
    (λ e. let r = below_some p n (rw e at h) in (r.0, omega (arith, r.1), r.2))

-- ---- a full slot, or a present book that is under repair or owes a count
pub data Noise (t : List ℕ) : Type 0 where
  message : (k : ℕ) → k < 128 → is_empty (from_slot t k) k ≡ false → Noise t
  repair : (f : ℕ) → 0 < f → f < 33 → book_absent t f ≡ false → under_repair (dead_mask t) (book_of t f) ≡ true → Noise t
  debt : (f : ℕ) → 0 < f → f < 33 → book_absent t f ≡ false → owes (places t) (dead_mask t) (book_of t f) ≡ true → Noise t

module _ (t : List ℕ) where
  full_slot : (messages_in_flight t ≡ 0 → ⊥) → Noise t
  unfolding messages_in_flight is_full is_empty from_slot
  full_slot h = let r = count_some is_full 16 128 0 (drop (slot_place 0) t) h in message r.0 r.1 (not_true _ r.2)

  book : (f : ℕ) → 0 < f → f < 33 → calm_book (places t) (dead_mask t) (drop (book_place f) t) f ≡ false → Noise t
  unfolding calm_book book_of part book_absent
  book f f0 f33 e = bool_cases (eqb (byte (drop (book_place f) t) 0) 0)
      (λ y. both (rw y refl) e)
      (λ y.
      let there : book_absent t f ≡ false = rw (get_or-drop (book_place f) t 0 0 ∙ ap (byte t) (add-zero (book_place f))) at y in
      bool_cases (under_repair (dead_mask t) (book_of t f))
      (λ u. repair f f0 f33 there u)
      (λ u. debt f f0 f33 there (not-not _ (not_both (not (under_repair (dead_mask t) (book_of t f))) _ (rw y at e) (ap not u)))))

  pub noise : quiet t ≡ false → Noise t
  unfolding quiet
  noise e = bool_cases (eqb (messages_in_flight t) 0)
      (λ z.
      let r = part_fails (calm_book (places t) (dead_mask t)) 144 32 1 (drop (book_place 1) t) (not_both _ _ e z) in
      let at : 2304 + 144 * r.0 ≡ book_place (1 + r.0) = omega arith in
      book (1 + r.0) (omega arith) (omega (arith, r.1)) (rw (drop-drop (144 * r.0) 2304 t ∙ ap (λ (x : ℕ). drop x t) at) at r.2))
      (λ z. full_slot (eqb-false (messages_in_flight t) 0 z))
