-- Repair after a kill: adopt, cancel (before its closing test) and ask.
use Rattle.std.specs.Prelude.{◌≡◌, refl, Bool, true, cond, ◌&&◌, ◌||◌, ℕ, eqb}
use Rattle.std.proofs.Common.{eqb-true, eq-eqb}
use Rattle.model.specs.Base.{upd, is₂, is₃, and_left, and_right}
use Rattle.model.specs.State.{State, with_due, with_adopted, with_ghosts, with_live, with_asked, with_slot}
use Rattle.model.specs.Messages.{count_dropped}

-- a present unadopted book with a dead home and parent f
unfoldable pub orphan : ℕ → ℕ → ℕ → Bool → ℕ → Bool
orphan present adopted parent dead f = eqb present 1 && (eqb adopted 0 && (eqb parent f && dead))

pub orphan_true : (present adopted parent : ℕ) (dead : Bool) (f : ℕ) → orphan present adopted parent dead f ≡ true → (present ≡ 1) × (adopted ≡ 0) × (parent ≡ f) × (dead ≡ true)
unfolding orphan
orphan_true present adopted parent dead f e =
    let a = eqb adopted 0 && (eqb parent f && dead) in
    let r = and_right (eqb present 1) a e in
    let q = and_right (eqb adopted 0) (eqb parent f && dead) r in
    (eqb-true present 1 (and_left (eqb present 1) a e), eqb-true adopted 0 (and_left (eqb adopted 0) (eqb parent f && dead) r), eqb-true parent f (and_left (eqb parent f) dead q), and_right (eqb parent f) dead q)

pub orphan_is : (present adopted parent : ℕ) (dead : Bool) (f : ℕ) → present ≡ 1 → adopted ≡ 0 → parent ≡ f → dead ≡ true → orphan present adopted parent dead f ≡ true
unfolding orphan
orphan_is present adopted parent dead f a b c d = rw (a, b, c, d, eq-eqb f f refl)

abbrev pub is_orphan : State → ℕ → ℕ → Bool
is_orphan s f g = orphan (s.books.present g) (s.books.adopted g) (s.books.parent g) (s.dead (s.finishes.home g)) f

-- Adopt f: every present unadopted book with a dead home and parent f becomes adopted and a ghost of f; due is cleared.
abbrev pub adopt : State → ℕ → State
adopt s f =
    with_due (upd s.books.due f 0)
    (with_adopted (λ g. cond (is_orphan s f g) 1 (s.books.adopted g))
    (with_ghosts (λ q g. s.books.ghosts q g || (eqb q f && is_orphan s f g)) s))

-- Cancel f, v: column v becomes 0,
abbrev pub cancel : State → ℕ → ℕ → State
cancel s f v = with_live (λ x i j. cond (is₂ f v x j) 0 (s.books.live x i j)) s

-- Ask f, v, j: marks the pair and sends count-dropped (10) with the sent count.
abbrev pub ask : State → ℕ → ℕ → ℕ → ℕ → State
ask s f v j k =
    with_slot (upd s.slot k (count_dropped f 0 v j (s.books.sent f v j)))
    (with_asked (λ x i y. s.books.asked x i y || is₃ f v j x i y) s)
