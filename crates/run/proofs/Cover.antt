-- A taken record has four bytes; every adopt, cancel, ask and deliver that is taken is among the numbered records that a turn tries.
use mathlib.Core.Path.{◌≡◌, refl, sym, ap, subst, ◌∙◌}
use mathlib.Core.Bool.{true, false}
use mathlib.Core.List.{List, [], ◌∷◌}
use Prim.Native.Nat.{ℕ, suc, ◌+◌, ◌-◌, ◌*◌, ◌/◌, ◌%◌, ◌≤◌, ◌<◌}
use native.Mathlib.Omega.{arith}
use lib.Dec.{eqb}
use lib.ListN.{length}
use borrow.Author.Tests.{eqb-true, leb-true, ltb-true}
use Rattle.tables.specs.Bytes.{byte}
use Rattle.tables.proofs.Walks.{every_each}
use Rattle.rules.specs.Fields.{places, finishes_made, finish_made, in_session}
use Rattle.rules.specs.Action.{Action, unknown, spawn, open_finish, end, deliver, kill, adopt, cancel, ask, begin, only0, action_named, action_of}
use Rattle.rules.specs.Refusals.{wrong_length, no_action, unsound, not_there, answer}
use Rattle.rules.specs.Sound.{sound}
use Rattle.sound.proofs.Use.{places_range}
use Rattle.rules.proofs.Taken.{taken, not-not, neither, slot_there}
use Rattle.model.specs.Base.Cases.{cond_cases, both}
use Rattle.promises.specs.Settling.{record_of, is_settling}
use Rattle.turns.specs.Turn.{adopt_record, cancel_record, ask_record, deliver_record}
use Rattle.turns.proofs.First.{NoneOf}

four : (r : List ℕ) → length r ≡ 4 → r ≡ byte r 0 ∷ byte r 1 ∷ byte r 2 ∷ byte r 3 ∷ []
four [] e = absurd (omega arith)
four (a ∷ []) e = absurd (omega arith)
four (a ∷ b ∷ []) e = absurd (omega arith)
four (a ∷ b ∷ c ∷ []) e = absurd (omega arith)
four (a ∷ b ∷ c ∷ d ∷ []) e = refl
four (a ∷ b ∷ c ∷ d ∷ x ∷ r) e = absurd (omega arith)

pub taken_four : (t r : List ℕ) → answer t r ≡ 0 → r ≡ byte r 0 ∷ byte r 1 ∷ byte r 2 ∷ byte r 3 ∷ []
unfolding wrong_length
taken_four t r e = four r (eqb-true (length r) 4 (not-not _ (neither _ _ (taken t r e).right_length).1))

-- one of n numbered records
abbrev Among : (ℕ → List ℕ) → ℕ → List ℕ → Type 0
Among records n r = (i : ℕ) × ((i < n) × (r ≡ records i))

-- an operand that must be 0 is 0, unless the record is unknown
must_be_0 : (x : ℕ) (a : Action) → no_action (only0 x a) ≡ false → (x ≡ 0) × (no_action a ≡ false)
unfolding only0 no_action
must_be_0 x a = cond_cases (λ (y : Action). no_action y ≡ false → (x ≡ 0) × (no_action a ≡ false)) (eqb x 0) a unknown
    (λ e h. (eqb-true x 0 e, h))
    (λ _ h. both refl h)

made_range : (t : List ℕ) (f : ℕ) → finish_made t f ≡ true → (1 ≤ f) × (f ≤ finishes_made t)
unfolding finish_made
made_range t f e = let r = every_each _ e in (leb-true 1 f r.0, leb-true f (finishes_made t) r.1.0)

-- on sound tables there are at most 8 places
place_range : (t : List ℕ) (v : ℕ) → sound t ≡ true → in_session t v ≡ true → v < 8
unfolding in_session
place_range t v ok e = omega (arith, (places_range t ok).1, ltb-true v (places t) e)

module _ (t : List ℕ) where
  -- each taken record of a kind is one of n numbered ones
  abbrev pub Covers : ℕ → (ℕ → List ℕ) → ℕ → Type 0
  Covers kind records n = (r : List ℕ) → byte r 0 ≡ kind → answer t r ≡ 0 → Among records n r

  -- where none of those is taken, no record of the kind is
  pub refused : {kind : ℕ} {records : ℕ → List ℕ} {n : ℕ} → Covers kind records n → NoneOf t records n
      → (r : List ℕ) → byte r 0 ≡ kind → answer t r ≡ 0 → ⊥
  refused covers nothing r k e = let m = covers r k e in nothing m.0 m.1.0 (rw m.1.1 at e)

  -- it is enough to look at four bytes that begin with the kind
  by_bytes : (kind : ℕ) (records : ℕ → List ℕ) (n : ℕ)
      → ((a b c : ℕ) → answer t (kind ∷ a ∷ b ∷ c ∷ []) ≡ 0 → Among records n (kind ∷ a ∷ b ∷ c ∷ []))
      → Covers kind records n
  by_bytes kind records n each r k e =
      let is : r ≡ kind ∷ byte r 1 ∷ byte r 2 ∷ byte r 3 ∷ [] = taken_four t r e ∙ ap (λ (z : ℕ). z ∷ byte r 1 ∷ byte r 2 ∷ byte r 3 ∷ []) k in
      subst (Among records n) (sym is) (each (byte r 1) (byte r 2) (byte r 3) (subst (λ (s : List ℕ). answer t s ≡ 0) is e))

  -- the operands of a taken record are in range, those that must be 0 are 0, and the number follows from them
  deliver_number : (a b c : ℕ) → answer t (4 ∷ a ∷ b ∷ c ∷ []) ≡ 0 → Among deliver_record 128 (4 ∷ a ∷ b ∷ c ∷ [])
  unfolding deliver_record action_of action_named only0
  deliver_number a b c e =
      let y = must_be_0 b _ (taken t _ e).action in
      let z = must_be_0 c _ y.1 in
      (a, (slot_there t a (rw (y.0, z.0) at (taken t _ e).own.there), rw (y.0, z.0) refl))

  adopt_number : (a b c : ℕ) → answer t (6 ∷ a ∷ b ∷ c ∷ []) ≡ 0 → Among adopt_record (finishes_made t) (6 ∷ a ∷ b ∷ c ∷ [])
  unfolding adopt_record action_of action_named only0 not_there
  adopt_number a b c e =
      let y = must_be_0 b _ (taken t _ e).action in
      let z = must_be_0 c _ y.1 in
      let r = made_range t a (not-not _ (rw (y.0, z.0) at (taken t _ e).own.there)) in
      let f : suc (a - 1) ≡ a = omega arith in
      (a - 1, (omega arith, rw (f, y.0, z.0) refl))

  cancel_number : (a b c : ℕ) → answer t (7 ∷ a ∷ b ∷ c ∷ []) ≡ 0 → Among cancel_record (8 * finishes_made t) (7 ∷ a ∷ b ∷ c ∷ [])
  unfolding cancel_record action_of action_named only0 unsound not_there
  cancel_number a b c e =
      let z = must_be_0 c _ (taken t _ e).action in
      let ok = not-not _ (rw z.0 at (taken t _ e).sound) in
      let h = every_each _ (not-not _ (rw z.0 at (taken t _ e).own.there)) in
      let r = made_range t a h.0 in
      let v8 = place_range t b ok h.1.0 in
      let i : ℕ = 8 * (a - 1) + b in
      let f : suc (i / 8) ≡ a = omega arith in
      let v : i % 8 ≡ b = omega arith in
      (i, (omega arith, rw (f, v, z.0) refl))

  ask_number : (a b c : ℕ) → answer t (8 ∷ a ∷ b ∷ c ∷ []) ≡ 0 → Among ask_record (64 * finishes_made t) (8 ∷ a ∷ b ∷ c ∷ [])
  unfolding ask_record action_of action_named unsound not_there
  ask_number a b c e =
      let ok = not-not _ (taken t _ e).sound in
      let h = every_each _ (not-not _ (taken t _ e).own.there) in
      let r = made_range t a h.0 in
      let v8 = place_range t b ok h.1.0 in
      let j8 = place_range t c ok h.1.1.0 in
      let i : ℕ = 64 * (a - 1) + 8 * b + c in
      let f : suc (i / 64) ≡ a = omega arith in
      let v : i / 8 % 8 ≡ b = omega arith in
      let j : i % 8 ≡ c = omega arith in
      (i, (omega arith, rw (f, v, j) refl))

  pub deliver_covers : Covers 4 deliver_record 128
  deliver_covers = by_bytes 4 deliver_record 128 deliver_number

  pub adopt_covers : Covers 6 adopt_record (finishes_made t)
  adopt_covers = by_bytes 6 adopt_record (finishes_made t) adopt_number

  pub cancel_covers : Covers 7 cancel_record (8 * finishes_made t)
  cancel_covers = by_bytes 7 cancel_record (8 * finishes_made t) cancel_number

  pub ask_covers : Covers 8 ask_record (64 * finishes_made t)
  ask_covers = by_bytes 8 ask_record (64 * finishes_made t) ask_number

  -- no deliver, adopt, cancel or ask is taken
  abbrev pub Still : Type 0
  Still = (x : Action) → is_settling x ≡ true → answer t (record_of x) ≡ 0 → ⊥

  module _ (adopts : NoneOf t adopt_record (finishes_made t)) (cancels : NoneOf t cancel_record (8 * finishes_made t))
      (asks : NoneOf t ask_record (64 * finishes_made t)) (delivers : NoneOf t deliver_record 128) where
    pub none_settles : Still
    unfolding is_settling record_of
    none_settles unknown s e = both s refl
    none_settles (spawn k p) s e = both s refl
    none_settles (open_finish k) s e = both s refl
    none_settles (end k) s e = both s refl
    none_settles (deliver k) s e = refused deliver_covers delivers _ refl e
    none_settles (kill p) s e = both s refl
    none_settles (adopt f) s e = refused adopt_covers adopts _ refl e
    none_settles (cancel f v) s e = refused cancel_covers cancels _ refl e
    none_settles (ask f v j) s e = refused ask_covers asks _ refl e
    none_settles (begin n) s e = both s refl
