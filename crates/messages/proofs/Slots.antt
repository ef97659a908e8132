-- A slot reached from slot 0 or from the tables' start, two rows written as one message, and what a slot found tells.
use mathlib.Core.Path.{◌≡◌, refl, sym, ap, ◌∙◌}
use mathlib.Core.Bool.{Bool, true, false, cond}
use mathlib.Core.List.{List, [], ◌∷◌}
use Rattle.std.specs.Option.{unwrap_or}
use Rattle.std.proofs.Common.{Option, None, Some, is_some, not}
use Prim.Native.Nat.{ℕ, suc, ◌+◌, ◌-◌, ◌*◌, ◌<◌}
use native.Mathlib.Nat.{add-zero}
use native.Mathlib.Numerals.{add-one}
use native.Mathlib.Omega.{arith}
use borrow.Author.Tests.{ne_eqb}
use lib.Dec.{eqb}
use lib.ListN.{drop, take}
use lib.Seq.{drop-drop, get_or-drop}
use Rattle.tables.specs.Bytes.{byte, part, write}
use Rattle.tables.specs.Layout.{slot_row}
use Rattle.tables.specs.Walks.{first_part}
use Rattle.tables.proofs.Writes.{write-after}
use Rattle.rules.specs.Messages.{message, bytes_of, report, slot_place, from_slot, send, is_empty, lowest_empty, slots_full}
use Rattle.messages.specs.Found.{found_at}

pub from_slot_lem : (t : List ℕ) (s : ℕ) → from_slot t s ≡ drop (slot_place s) t
unfolding from_slot
from_slot_lem t s = let e : 13056 + 16 * s ≡ slot_place s = omega arith in drop-drop (16 * s) 13056 t ∙ ap (λ (k : ℕ). drop k t) e

pub byte_from_slot : (t : List ℕ) (s column : ℕ) → byte (from_slot t s) column ≡ byte t (slot_place s + column)
byte_from_slot t s column = ap (λ (m : List ℕ). byte m column) (from_slot_lem t s) ∙ get_or-drop (slot_place s) t column 0

pub part_from_slot : (t : List ℕ) (s k n : ℕ) → part (from_slot t s) k n ≡ part t (slot_place s + k) n
unfolding part
part_from_slot t s k n = ap (λ (m : List ℕ). take n (drop k m)) (from_slot_lem t s) ∙ ap (take n) (drop-drop k (slot_place s) t)

-- a test of slot s, as a walk over the slots has it
pub slot_here : (p : List ℕ → ℕ → Bool) (t : List ℕ) (s : ℕ) → p (drop (slot_place s) t) s ≡ p (from_slot t s) s
slot_here p t s = ap (λ (m : List ℕ). p m s) (sym (from_slot_lem t s))

-- slot s is empty
abbrev pub empty_at : List ℕ → ℕ → Bool
empty_at t s = is_empty (from_slot t s) s

-- the two rows of a report
pub report_put : (t u x : List ℕ) (at s f v : ℕ) (counts : List ℕ) → at ≡ 8 * slot_row s → u ≡ write t at (7 ∷ f ∷ 0 ∷ v ∷ 0 ∷ 0 ∷ 0 ∷ 0 ∷ []) → x ≡ write u (at + 8) counts
    → x ≡ send t s (report f v counts)
unfolding send bytes_of message
report_put t u x at s f v counts place first second =
    second
    ∙ ap (λ (m : List ℕ). write m (at + 8) counts) first
    ∙ write-after (7 ∷ f ∷ 0 ∷ v ∷ 0 ∷ 0 ∷ 0 ∷ 0 ∷ []) t at counts
    ∙ ap (λ (k : ℕ). write t k (7 ∷ f ∷ 0 ∷ v ∷ 0 ∷ 0 ∷ 0 ∷ 0 ∷ counts)) (place ∙ sym (add-zero (8 * slot_row s)))

-- ---- the lowest empty slot
-- the lowest empty slot from n on, 128 where there is none
unfoldable pub empty_from : List ℕ → ℕ → ℕ
empty_from t n = first_part is_empty 16 n (128 - n) (drop (slot_place n) t)

-- slot n is it, or those after n tell
from_next : (t : List ℕ) (n : ℕ) → n < 128 → empty_from t n ≡ cond (empty_at t n) n (empty_from t (n + 1))
unfolding empty_from first_part
from_next t n h =
    let left : 128 - n ≡ suc (128 - (n + 1)) = omega arith in
    let next : slot_place n + 16 ≡ slot_place (suc n) = omega arith in
    rw (left, ← slot_here is_empty t n, add-one n, drop-drop 16 (slot_place n) t, next) refl

pub seek_start : (t : List ℕ) → empty_from t 0 ≡ lowest_empty t
unfolding empty_from lowest_empty
seek_start t = refl

module _ (t : List ℕ) (n : ℕ) (inv : empty_from t n ≡ lowest_empty t) where
  pub seek_on : n < 128 → empty_at t n ≡ false → empty_from t (n + 1) ≡ lowest_empty t
  seek_on h e = sym (from_next t n h ∙ rw e refl) ∙ inv

  pub seek_stop : n < 128 → empty_at t n ≡ true → Some n ≡ found_at (lowest_empty t)
  unfolding found_at
  seek_stop h e = rw (sym inv ∙ from_next t n h, e, ne_eqb n 128 (λ z. omega (arith, h, z))) refl

  pub seek_done : n ≡ 128 → None ≡ found_at (lowest_empty t)
  unfolding found_at empty_from first_part
  seek_done e = rw (sym inv, e) refl

pub ruleset seeking = (seek_start, seek_on, seek_stop, seek_done)

-- a slot found is the lowest empty one; none is found where all are full
module _ (t : List ℕ) (o : Option ℕ) (e : o ≡ found_at (lowest_empty t)) where
  pub found_slot : (s : ℕ) → o ≡ Some s → lowest_empty t ≡ s
  unfolding found_at
  found_slot s q = told (eqb (lowest_empty t) 128) (sym e ∙ q)
    where
      told : (c : Bool) → cond c None (Some (lowest_empty t)) ≡ Some s → lowest_empty t ≡ s
      told true z = cc
      told false z = cc

  pub found_room : is_some o ≡ not (slots_full t)
  unfolding found_at slots_full
  found_room = ap is_some e ∙ told (eqb (lowest_empty t) 128)
    where
      told : (c : Bool) → is_some (cond c None (Some (lowest_empty t))) ≡ not c
      told true = refl
      told false = refl

  pub found_full : (v : Bool) → is_some o ≡ not v → v ≡ slots_full t
  found_full v q = same v (slots_full t) (sym q ∙ found_room)
    where
      same : (a b : Bool) → not a ≡ not b → a ≡ b
      same true true z = refl
      same false false z = refl
      same true false z = cc
      same false true z = cc

  -- the slot found, or d where none is
  pub found_or : (d : ℕ) → unwrap_or o d ≡ cond (slots_full t) d (lowest_empty t)
  unfolding found_at slots_full
  found_or d = ap (λ x. unwrap_or x d) e ∙ told (eqb (lowest_empty t) 128)
    where
      told : (c : Bool) → unwrap_or (cond c None (Some (lowest_empty t))) d ≡ cond c d (lowest_empty t)
      told true = refl
      told false = refl
