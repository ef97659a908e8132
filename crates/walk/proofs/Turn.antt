-- One turn of a walk.
use mathlib.Core.Path.{◌≡◌, refl, ap, ◌∙◌}
use mathlib.Core.List.{List, ◌++◌}
use Prim.Native.Nat.{ℕ, ◌+◌, ◌-◌, ◌*◌, ◌≤◌, ◌<◌}
use native.Mathlib.Omega.{arith}
use native.Mathlib.Nat.{mul-suc, mul-le-mul_left}
use native.Mathlib.Numerals.{add-one}
use lib.ListN.{length, take, drop}
use Rattle.tables.specs.Bytes.{byte, part, write}
use Rattle.tables.specs.Walks.{change_parts}
use Rattle.tables.proofs.Changes.{change_more, length_change, byte_change_out}
use Rattle.tables.proofs.Writes.{part_lent, part_back, length_part}
use Rattle.walk.specs.Changes.{KeepsLength, Due}

-- u is the tables t with the parts before part j changed, and u' with part j changed too
module _ (f : List ℕ → ℕ → List ℕ) (w : ℕ) (keeps : KeepsLength f w) (j i at n : ℕ) (t u u' : List ℕ) (h : j < n) (inside : at + w * n ≤ length t)
    (e : u ≡ change_parts f w i j at t) where
  next : w * (j + 1) ≡ w * j + w
  next = rw (add-one j) (mul-suc w j)

  room : at + w * j + w ≤ length t
  room = let le : w * (j + 1) ≤ w * n = mul-le-mul_left {m = j + 1} {n = n} w (omega arith) in let z = next in omega arith

  room_left : at + w * j + w ≤ length u
  room_left = let r = room in rw (e, length_change f w keeps j i at t (omega arith)) r

  due : Due u t at w j
  due q side = let r = room in ap (λ (m : List ℕ). byte m q) e ∙ byte_change_out f w keeps j i at q t (omega arith) side

  written : u' ≡ write u (at + w * j) (f (part u (at + w * j) w) (i + j)) → u' ≡ change_parts f w i (j + 1) at t
  written q = let r = room in let z = next in change_more f w keeps j i at (at + w * j) (i + j) t u u' (omega arith) e q refl refl

  -- the change writes the part by its place
  pub turn_written : (Due u t at w j → u' ≡ write u (at + w * j) (f (part u (at + w * j) w) (i + j))) → u' ≡ change_parts f w i (j + 1) at t
  turn_written new = written (new due)

  -- the part is lent from place a on as m, and comes back as b
  pub turn_lent : (a : ℕ) (m b : List ℕ) → a ≡ at + w * j → m ≡ take (a + w - a) (drop a u)
      → (Due u t at w j → m ≡ part u (at + w * j) w → length m ≡ w → b ≡ f m (i + j)) → u' ≡ take a u ++ (b ++ drop (a + w - a) (drop a u))
      → u' ≡ change_parts f w i (j + 1) at t
  turn_lent a m b place out new back =
      let r = room_left in
      let size : a + w - a ≡ w = omega arith in
      let lent : m ≡ part u (at + w * j) w = out ∙ part_lent u a (a + w) w size ∙ ap (λ (k : ℕ). part u k w) place in
      let whole : length m ≡ w = ap length lent ∙ length_part u (at + w * j) w r in
      let made : b ≡ f m (i + j) = new due lent whole in
      written
      (back ∙ part_back u b a (a + w) w (ap length made ∙ keeps m (i + j) whole) size (omega arith)
      ∙ rw (place, made, lent) refl)
