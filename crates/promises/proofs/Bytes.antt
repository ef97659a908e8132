-- Tables of bytes stay so: after a byte, a run of bytes and a walk; and the writes that come before a closing test.
use mathlib.Core.Path.{◌≡◌, ◌∙◌}
use mathlib.Core.Bool.{◌&&◌, not}
use mathlib.Core.Logic.{inl, inr}
use mathlib.Core.List.{List, [], ◌∷◌}
use Prim.Native.Nat.{ℕ, zero, suc, ◌+◌, ◌-◌, ◌*◌, ◌/◌, ◌%◌, ◌≤◌, ◌<◌}
use native.Mathlib.Omega.{arith}
use lib.Dec.{eqb, ltb, leb}
use lib.ListN.{set, length, length-set, length-take, drop, get_or-eq_default, replicate}
use lib.Seq.{get_or-set_same, get_or-set_other}
use borrow.Author.Tests.{ltb-true, ltb-false, leb-true, leb-false}
use Rattle.tables.specs.Bytes.{byte, part, write}
use Rattle.tables.specs.Bits.{bit_at, without_mark}
use Rattle.tables.specs.Walks.{change_parts}
use Rattle.tables.specs.Layout.{Whole, place, book_row}
use Rattle.tables.proofs.Bits.{mask_lt}
use Rattle.tables.proofs.Writes.{byte-part, length_part, length-write, byte-write_in, byte-write_out}
use Rattle.tables.proofs.Changes.{Keeps, byte_change_in, byte_change_out}
use Rattle.rules.specs.Fields.{book_place, ghost_byte}
use Rattle.rules.specs.Books.{book_of, clear_row, cleared_column, lower_row, lowered_column}
use Rattle.rules.specs.Books.{with_book as write_book}
use Rattle.rules.specs.Deliver.{without_ghost}
use Rattle.rules.specs.Messages.{none, bytes_of, message, no_counts, send, slot_place}
use Rattle.model.specs.Base.Cases.{bool_cases, eq_cases}
use Rattle.promises.proofs.Walks.{zeros_at}

pub record Bytes (t : List ℕ) : Type 0 where
  pub small : (p : ℕ) → byte t p < 256

-- past the end stands 0
within-length : (t : List ℕ) → ((p : ℕ) → p < length t → byte t p < 256) → Bytes t
within-length t h = record { small = λ p. bool_cases (ltb p (length t)) (λ e. h p (ltb-true p (length t) e)) (λ e. past p (ltb-false p (length t) e)) }
  where
    past : (p : ℕ) → length t ≤ p → byte t p < 256
    past p l = let e : byte t p ≡ 0 = get_or-eq_default t 0 l in omega arith

pub bytes_set : {t : List ℕ} → Bytes t → (p v : ℕ) → v < 256 → Bytes (set t p v)
bytes_set {t} h p v l = within-length (set t p v) (λ q m. eq_cases q p
    (λ e. rw (e, get_or-set_same t p v 0 (omega (arith, length-set t p v))) l)
    (λ e. rw (get_or-set_other t p q v 0 e) (h.small q)))

pub bytes_write : {t : List ℕ} → Bytes t → (p : ℕ) {vs : List ℕ} → Bytes vs → Bytes (write t p vs)
bytes_write {t} h p {vs} g = within-length (write t p vs) (λ q m. bool_cases (ltb q p)
    (λ e. rw (byte-write_out t p vs q (inl (ltb-true q p e))) (h.small q))
    (λ e. bool_cases (leb (p + length vs) q)
    (λ d. rw (byte-write_out t p vs q (inr (leb-true (p + length vs) q d))) (h.small q))
    (λ d. let x = ltb-false q p e in let y = leb-false (p + length vs) q d in
    let z : q ≡ p + (q - p) = omega arith in
    rw (z, byte-write_in t p vs (q - p) (omega arith) (omega (arith, length-write vs t p))) (g.small (q - p)))))

pub bytes_part : {t : List ℕ} → Bytes t → (p n : ℕ) → Bytes (part t p n)
unfolding part
bytes_part {t} h p n = within-length (part t p n) (λ q m. rw (byte-part t p n q (omega (arith, length-take n (drop p t)))) (h.small (p + q)))

-- a walk over parts that keeps bytes; cut says where a byte stands in its part
pub bytes_change : (g : List ℕ → ℕ → List ℕ) (w n : ℕ) → Keeps g w → ((q : ℕ) → q < w * n → (q / w < n) × (q % w < w) × (q ≡ w * (q / w) + q % w))
    → ((m : List ℕ) (i : ℕ) → Bytes m → Bytes (g m i)) → (i k : ℕ) {t : List ℕ} → k + w * n ≤ length t → Bytes t → Bytes (change_parts g w i n k t)
bytes_change g w n keeps cut small i k {t} fits h = record {
  small = λ q. bool_cases (ltb q k)
      (λ e. rw (byte_change_out g w keeps n i k q t fits (inl (ltb-true q k e))) (h.small q))
      (λ e. bool_cases (leb (k + w * n) q)
      (λ d. rw (byte_change_out g w keeps n i k q t fits (inr (leb-true (k + w * n) q d))) (h.small q))
      (λ d. let x = ltb-false q k e in let y = leb-false (k + w * n) q d in
      let c = cut (q - k) (omega arith) in
      let z : q ≡ k + (w * ((q - k) / w) + (q - k) % w) = omega (arith, c.2) in
      rw (z, byte_change_in g w keeps n i k ((q - k) / w) ((q - k) % w) t c.0 c.1 fits)
      ((small (part t (k + w * ((q - k) / w)) w) (i + (q - k) / w) (bytes_part h (k + w * ((q - k) / w)) w)).small ((q - k) % w))));
}

-- lists of bytes
pub bytes_none : Bytes []
bytes_none = record { small = λ p. omega arith }

pub bytes_more : {x : ℕ} {xs : List ℕ} → x < 256 → Bytes xs → Bytes (x ∷ xs)
bytes_more {x} {xs} l h = record { small = at }
  where
    at : (p : ℕ) → byte (x ∷ xs) p < 256
    at zero = l
    at (suc p) = h.small p

pub bytes_zeros : (n : ℕ) → Bytes (replicate n 0)
bytes_zeros n = record { small = λ q. rw (zeros_at n q) (omega arith) }

-- ---- before a closing test
module _ {t : List ℕ} (h : Bytes t) where
  pub bytes_emptied : (k : ℕ) → Bytes (send t k none)
  unfolding send bytes_of message no_counts
  bytes_emptied k = bytes_write h (slot_place k) (bytes_zeros 16)

  module _ (whole : Whole t) (f v : ℕ) (f0 : 0 < f) (f33 : f < 33) where
    size : 8 + 8 * 8 ≤ length (book_of t f)
    unfolding book_of
    size = omega (arith, length_part t (book_place f) 144 (omega arith))

    book : Bytes (book_of t f)
    unfolding book_of
    book = bytes_part h (book_place f) 144

    pub bytes_cleared : Bytes (write_book t f (cleared_column (book_of t f) v))
    unfolding write_book cleared_column clear_row
    bytes_cleared = bytes_write h (book_place f) (bytes_change (clear_row v) 8 8 (λ m i l. length-set m v 0 ∙ l) (λ q l. omega arith) (λ m i g. bytes_set g v 0 (omega arith)) 0 8 size book)

    pub bytes_lowered : (counts : List ℕ) → Bytes (write_book t f (lowered_column (book_of t f) v counts))
    unfolding write_book lowered_column lower_row
    bytes_lowered counts = bytes_write h (book_place f)
        (bytes_change (lower_row v counts) 8 8 (λ m i l. length-set m v (byte m v - byte counts i) ∙ l) (λ q l. omega arith) (λ m i g. bytes_set g v (byte m v - byte counts i) (omega (arith, g.small v))) 0 8 size book)

  pub bytes_ghost_ended : (q g : ℕ) → Bytes (without_ghost t q g)
  unfolding without_ghost without_mark
  bytes_ghost_ended q g = bytes_set h (place (book_row q) (4 + (g - 1) / 8)) (without_mark (ghost_byte t q ((g - 1) / 8)) ((g - 1) % 8)) (mask_lt 8 (λ j. not (eqb j ((g - 1) % 8)) && bit_at (ghost_byte t q ((g - 1) / 8)) j))
