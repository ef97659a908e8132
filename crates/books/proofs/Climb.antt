-- The climb to the nearest ancestor with a store book, one call at a time; sound tables have what it rests on.
use mathlib.Core.Path.{◌≡◌, refl, sym, ap, ◌∙◌}
use mathlib.Core.Bool.{Bool, true, false, cond, true≢false}
use mathlib.Core.List.{List, [], ◌∷◌}
use Prim.Native.Nat.{ℕ, zero, suc, ◌+◌, ◌-◌, ◌*◌, ◌/◌, ◌%◌, ◌^◌, ◌≤◌, ◌<◌}
use native.Mathlib.Omega.{arith}
use borrow.Author.Tests.{eq-eqb, ne_eqb, leb-true, ltb-true}
use lib.Dec.{eqb, ltb, leb}
use lib.ListN.{drop}
use lib.Seq.{get_or-drop}
use Rattle.tables.specs.Bytes.{byte}
use Rattle.tables.specs.Walks.{some_of}
use Rattle.tables.specs.Layout.{finish_row}
use Rattle.tables.proofs.Walks.{every_each, parts_at}
use Rattle.rules.specs.Fields.{places, dead_mask, tasks_made, finishes_made, present, parent}
use Rattle.rules.specs.Sound.{sound, head_sound, rows_sound, tasks_sound, finishes_sound, books_sound, slots_sound, finish_sound, finish_fits}
use Rattle.rules.specs.Deliver.{climb_stops, nearest}
use Rattle.books.specs.Parents.{ParentsFall}

pub made_low : (t : List ℕ) (f : ℕ) → ParentsFall t → f ≤ finishes_made t → f ≤ 32
unfolding ParentsFall
made_low t f falls l = let m = falls.0 in omega arith

pub parent_falls : (t : List ℕ) (f : ℕ) → ParentsFall t → 1 ≤ f → f ≤ finishes_made t → parent t f < f
unfolding ParentsFall
parent_falls t f falls h l = falls.1 f h l

-- the byte that the code reads, at the place that the finish's function gave
pub parent_read : (t : List ℕ) (f a : ℕ) → ParentsFall t → 1 ≤ f → f ≤ finishes_made t → a ≡ 8 * finish_row f → (byte t (a + 2) ≡ parent t f) × (byte t (a + 2) < f)
parent_read t f a falls h l e =
    let same : byte t (a + 2) ≡ parent t f = ap (λ (x : ℕ). byte t (x + 2)) e in
    let p = parent_falls t f falls h l in
    (same, omega arith)

-- sound tables have it
pub parents_fall : (t : List ℕ) → sound t ≡ true → ParentsFall t
unfolding ParentsFall sound head_sound rows_sound finishes_sound finish_sound finish_fits
parents_fall t e =
    let ps = places t in
    let ts = tasks_made t in
    let fs = finishes_made t in
    let both = every_each (head_sound ps (dead_mask t) fs ∷ rows_sound ps ts fs t ∷ []) e in
    let head = every_each (leb 2 ps ∷ leb ps 8 ∷ leb fs 32 ∷ eqb (dead_mask t % 2) 0 ∷ eqb (dead_mask t / 2 ^ ps) 0 ∷ []) both.0 in
    let rows = every_each (tasks_sound ps ts fs t ∷ finishes_sound ps ts fs t ∷ books_sound fs t ∷ slots_sound ps ts fs t ∷ []) both.1.0 in (
      leb-true fs 32 head.1.1.0,
      λ g h l.
          let m : List ℕ = drop (8 * (255 + g)) t in
          let row = parts_at (finish_sound ps ts) 8 1 fs 2048 t (g - 1) (8 * (255 + g)) g rows.1.0 (omega arith) (omega arith) (omega arith) in
          let fit = every_each (ltb (byte m 0) ps ∷ ltb (byte m 1) (byte m 5) ∷ ltb (byte m 2) g ∷ leb 1 (byte m 3) ∷ leb (byte m 3) 5 ∷ leb (byte m 4) 1 ∷ leb 1 (byte m 5) ∷ leb (byte m 5) ts ∷ []) row in
          rw (get_or-drop (8 * (255 + g)) t 2 0) at (ltb-true (byte m 2) g fit.1.1.0),
    )

stops_none : (t : List ℕ) → climb_stops t 0 ≡ true
unfolding climb_stops some_of
stops_none t = refl

stops_here : (t : List ℕ) (f : ℕ) → present t f ≡ 1 → climb_stops t f ≡ true
unfolding climb_stops some_of
stops_here t f h = go (eqb f 0)
  where
    go : (c : Bool) → cond c true (cond (eqb (present t f) 1) true false) ≡ true
    go true = refl
    go false = rw (eq-eqb (present t f) 1 h) refl

goes_on_lem : (t : List ℕ) (f : ℕ) → (f ≡ 0 → ⊥) → (present t f ≡ 1 → ⊥) → climb_stops t f ≡ false
unfolding climb_stops some_of
goes_on_lem t f h g = rw (ne_eqb f 0 h, ne_eqb (present t f) 1 g) refl

-- one climb
climb : (t : List ℕ) (n f : ℕ) (c : Bool) → climb_stops t f ≡ c → nearest t (suc n) f ≡ cond c f (nearest t n (parent t f))
unfolding nearest
climb t n f c e = go (climb_stops t f) ∙ ap (λ (x : Bool). cond x f (nearest t n (parent t f))) e
  where
    go : (x : Bool) → elim x [ true ↦ f | false ↦ nearest t n (parent t f) ] ≡ cond x f (nearest t n (parent t f))
    go true = refl
    go false = refl

at_none : (t : List ℕ) (n f : ℕ) → f ≡ 0 → nearest t n f ≡ 0
unfolding nearest
at_none t zero f e = refl
at_none t (suc n) f e = ap (nearest t (suc n)) e ∙ climb t n 0 true (stops_none t)

-- more climbs than f change nothing
enough : (t : List ℕ) → ParentsFall t → (n m f : ℕ) → f ≤ n → f ≤ m → f ≤ finishes_made t → nearest t n f ≡ nearest t m f
enough t falls zero m f h k l = at_none t 0 f (omega arith) ∙ sym (at_none t m f (omega arith))
enough t falls (suc n) zero f h k l = at_none t (suc n) f (omega arith) ∙ sym (at_none t 0 f (omega arith))
enough t falls (suc n) (suc m) f h k l =
    go (climb_stops t f) refl (λ z. let p = parent_falls t f falls (omega arith) l in enough t falls n m (parent t f) (omega arith) (omega arith) (omega arith))
  where
    go : (c : Bool) → climb_stops t f ≡ c → ((f ≡ 0 → ⊥) → nearest t n (parent t f) ≡ nearest t m (parent t f)) → nearest t (suc n) f ≡ nearest t (suc m) f
    go true e rest = climb t n f true e ∙ sym (climb t m f true e)
    go false e rest =
        climb t n f false e ∙ rest (λ z. true≢false (sym (stops_none t) ∙ ap (climb_stops t) (sym z) ∙ e)) ∙ sym (climb t m f false e)

-- a number that names no finish is 0 here
pub climb_none : (t : List ℕ) (f : ℕ) → ParentsFall t → f ≤ finishes_made t → ¬ ((1 ≤ f) × (f ≤ 32)) → 0 ≡ nearest t 32 f
climb_none t zero falls l out = sym (at_none t 32 0 refl)
climb_none t (suc f) falls l out = let most = made_low t (suc f) falls l in absurd (out (omega arith, most))

pub climb_here : (t : List ℕ) (f v : ℕ) → v ≡ present t f → v ≡ 1 → f ≡ nearest t 32 f
climb_here t f v e h = sym (climb t 31 f true (stops_here t f (sym e ∙ h)))

pub climb_on : (t : List ℕ) (f v q r : ℕ) → ParentsFall t → f ≤ finishes_made t → (f ≡ 0 → ⊥) → v ≡ present t f → (v ≡ 1 → ⊥)
    → q ≡ parent t f → q < f → r ≡ nearest t 32 q → r ≡ nearest t 32 f
climb_on t f v q r falls l h e g p b inv =
    let most = made_low t f falls l in
    inv ∙ enough t falls 32 31 q (omega arith) (omega arith) (omega arith) ∙ ap (nearest t 31) p
    ∙ sym (climb t 31 f false (goes_on_lem t f h (λ z. g (e ∙ z))))

pub ruleset climbs = (made_low, climb_none, climb_here, climb_on)
