-- A turn's choices are the lowest: nothing outside the numbered records is taken, and their numbers are in the order of the bytes.
use mathlib.Core.Path.{◌≡◌, refl}
use mathlib.Core.Bool.{true, false}
use mathlib.Core.List.{List, [], ◌∷◌}
use Prim.Native.Nat.{ℕ, suc, ◌/◌, ◌%◌, ◌≤◌, ◌<◌}
use native.Mathlib.Omega.{arith}
use lib.Dec.{eqb}
use borrow.Author.Tests.{eqb-true, eq-eqb, ne_eqb, le-ltb}
use Rattle.tables.specs.Bytes.{byte}
use Rattle.rules.specs.Refusals.{answer}
use Rattle.model.specs.Base.Cases.{eq_cases, or_cases, or_left, or_right, both}
use Rattle.turns.specs.Choice.{taken_or}
use Rattle.turns.specs.Turn.{adopt_record, cancel_record, ask_record, deliver_record, repair_or}
use Rattle.run.specs.Lowest.{precedes, is_of, Lowest, lowest, none, LowestRepair, LowestDeliver}
use Rattle.turns.proofs.First.{NoneOf, taken_or_lem}
use Rattle.run.proofs.Cover.{Covers, refused, deliver_covers, adopt_covers, cancel_covers, ask_covers}

-- bytes do not come before others that begin no higher, if the rest does not where they begin alike
not-before : (x y : ℕ) (l m : List ℕ) → y ≤ x → (x ≡ y → precedes l m ≡ false) → precedes (x ∷ l) (y ∷ m) ≡ false
unfolding precedes
not-before x y l m high rest = eq_cases x y
    (λ q. rw (eq-eqb x y q) (rest q))
    (λ ne. rw (ne_eqb x y ne, le-ltb x y high) refl)

-- a record does not come before one of a lower kind
lower_kind : (r c : List ℕ) → byte c 0 < byte r 0 → precedes r c ≡ false
unfolding precedes
lower_kind r [] l = refl
lower_kind [] (y ∷ m) l = absurd (omega arith)
lower_kind (x ∷ r) (y ∷ m) l = not-before x y r m (omega arith) (λ q. absurd (omega arith))

-- records of one kind, numbered in the order of their bytes
record Ordered (kind : ℕ) (records : ℕ → List ℕ) : Type 0 where
  kind_is : (i : ℕ) → byte (records i) 0 ≡ kind
  order : (i j : ℕ) → i ≤ j → precedes (records j) (records i) ≡ false

deliver_ordered : Ordered 4 deliver_record
unfolding deliver_record precedes
deliver_ordered = record { kind_is = λ i. refl; order = λ i j l. not-before j i (0 ∷ 0 ∷ []) (0 ∷ 0 ∷ []) l (λ _. refl) }

adopt_ordered : Ordered 6 adopt_record
unfolding adopt_record precedes
adopt_ordered = record { kind_is = λ i. refl; order = λ i j l. not-before (suc j) (suc i) (0 ∷ 0 ∷ []) (0 ∷ 0 ∷ []) (omega arith) (λ _. refl) }

cancel_ordered : Ordered 7 cancel_record
unfolding cancel_record precedes
cancel_ordered = record {
  kind_is = λ i. refl;
  order = λ i j l.
      not-before (suc (j / 8)) (suc (i / 8)) (j % 8 ∷ 0 ∷ []) (i % 8 ∷ 0 ∷ []) (omega arith)
      (λ f. not-before (j % 8) (i % 8) (0 ∷ []) (0 ∷ []) (omega arith) (λ _. refl));
}

ask_ordered : Ordered 8 ask_record
unfolding ask_record precedes
ask_ordered = record {
  kind_is = λ i. refl;
  order = λ i j l.
      not-before (suc (j / 64)) (suc (i / 64)) (j / 8 % 8 ∷ j % 8 ∷ []) (i / 8 % 8 ∷ i % 8 ∷ []) (omega arith)
      (λ f. not-before (j / 8 % 8) (i / 8 % 8) (j % 8 ∷ []) (i % 8 ∷ []) (omega arith)
      (λ v. not-before (j % 8) (i % 8) [] [] (omega arith) (λ _. refl)));
}

-- a kind is below some others
abbrev Below : ℕ → List ℕ → Type 0
Below kind kinds = (r : List ℕ) → is_of kinds r ≡ true → kind < byte r 0

below_none : (kind : ℕ) → Below kind []
unfolding is_of
below_none kind r h = both h refl

below_more : (kind x : ℕ) (kinds : List ℕ) → kind < x → Below kind kinds → Below kind (x ∷ kinds)
unfolding is_of
below_more kind x kinds l rest r h = or_cases _ _ h (λ e. let q = eqb-true (byte r 0) x e in omega arith) (rest r)

-- Numbered records of one kind, in front of a choice among higher kinds.
module _ {t kinds : List ℕ} {kind : ℕ} {records : ℕ → List ℕ} {n : ℕ}
    (ordered : Ordered kind records) (covers : Covers t kind records n) (below : Below kind kinds) (other : List ℕ) where
  first : (i : ℕ) → i < n → answer t (records i) ≡ 0 → NoneOf t records i → Lowest t (kind ∷ kinds) other (records i)
  unfolding is_of
  first i l e before = lowest (records i) (or_left _ _ (eq-eqb (byte (records i) 0) kind (ordered.kind_is i))) e
      (λ r k done. or_cases _ _ k
      (λ own. let m = covers r (eqb-true (byte r 0) kind own) done in
      let low : m.0 < i → ⊥ = λ less. before m.0 less (rw m.1.1 at done) in
      rw m.1.1 (ordered.order i m.0 (omega arith)))
      (λ higher. lower_kind r (records i) (omega (arith, below r higher, ordered.kind_is i))))

  later : {c : List ℕ} → NoneOf t records n → Lowest t kinds other c → Lowest t (kind ∷ kinds) other c
  unfolding is_of
  later before (lowest c k e low) = lowest c (or_right (eqb (byte c 0) kind) _ k) e
      (λ r h done. or_cases _ _ h (λ own. absurd (refused t covers before r (eqb-true (byte r 0) kind own) done)) (λ higher. low r higher done))
  later before (none nothing) = none
      (λ r h done. or_cases _ _ h (λ own. refused t covers before r (eqb-true (byte r 0) kind own) done) (λ higher. nothing r higher done))

  in_front : (next : List ℕ) → Lowest t kinds other next → Lowest t (kind ∷ kinds) other (taken_or t records n next)
  in_front next rest = taken_or_lem (Lowest t (kind ∷ kinds) other) t records n next first (λ before. later before rest)

no_kinds : (t other : List ℕ) → Lowest t [] other other
unfolding is_of
no_kinds t other = none (λ r h _. both h refl)

pub lowest_deliver : LowestDeliver
lowest_deliver t other = in_front deliver_ordered (deliver_covers t) (below_none 4) other other (no_kinds t other)

pub lowest_repair : LowestRepair
unfolding repair_or
lowest_repair t other =
    let asks = in_front ask_ordered (ask_covers t) (below_none 8) other other (no_kinds t other) in
    let cancels = in_front cancel_ordered (cancel_covers t) (below_more 7 8 [] (omega arith) (below_none 7)) other _ asks in
    in_front adopt_ordered (adopt_covers t) (below_more 6 7 (8 ∷ []) (omega arith) (below_more 6 8 [] (omega arith) (below_none 6))) other _ cancels
