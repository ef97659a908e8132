-- A test of every part from place k of the tables on, and the first part of which one holds: what they tell of each part.
use mathlib.Core.Path.{◌≡◌, refl, sym, ap, ◌∙◌}
use mathlib.Core.Bool.{Bool, true, false, cond, ◌&&◌, false≢true}
use mathlib.Core.List.{List, [], ◌∷◌}
use Prim.Native.Nat.{ℕ, zero, suc, ◌+◌, ◌*◌, ◌≤◌, ◌<◌}
use native.Mathlib.Nat.{add-zero, mul-suc, mul-zero}
use native.Mathlib.Omega.{arith}
use lib.ListN.{drop}
use lib.Seq.{drop-drop}
use Rattle.tables.specs.Walks.{every, every_part, first_part}

-- ---- a list of tests, taken apart and put together
abbrev pub Each : List Bool → Type 0
Each [] = Unit
Each (c ∷ l) = (c ≡ true) × Each l

pub every_each : (l : List Bool) → every l ≡ true → Each l
unfolding every
every_each [] e = tt
every_each (true ∷ l) e = (refl, every_each l e)
every_each (false ∷ l) e = absurd (false≢true e)

pub each_every : (l : List Bool) → Each l → every l ≡ true
unfolding every
each_every [] h = refl
each_every (c ∷ l) h = rw h.0 (each_every l h.1)

-- ---- p tested of each part
both : (a c : Bool) → (a && c) ≡ true → (a ≡ true) × (c ≡ true)
both true c h = (refl, h)
both false c h = absurd (false≢true h)

-- the place of part j + 1 is that of part j after the first
step : (w j : ℕ) (m : List ℕ) → drop (w * j) (drop w m) ≡ drop (w * suc j) m
step w j m = let z : w + w * j ≡ w * suc j = omega (arith, mul-suc w j) in drop-drop (w * j) w m ∙ ap (λ (x : ℕ). drop x m) z

module _ (p : List ℕ → ℕ → Bool) (w : ℕ) where
  each_at : (n i : ℕ) (m : List ℕ) → every_part p w i n m ≡ true → (j : ℕ) → j < n → p (drop (w * j) m) (i + j) ≡ true
  unfolding every_part
  each_at zero i m e j h = absurd (omega arith)
  each_at (suc n) i m e zero h = rw (mul-zero w, add-zero i) (both (p m i) (every_part p w (suc i) n (drop w m)) e).0
  each_at (suc n) i m e (suc j) h =
      let g : i + suc j ≡ suc i + j = omega arith in
      rw (← step w j m, g) (each_at n (suc i) (drop w m) (both (p m i) (every_part p w (suc i) n (drop w m)) e).1 j (omega arith))

  each_all : (n i : ℕ) (m : List ℕ) → ((j : ℕ) → j < n → p (drop (w * j) m) (i + j) ≡ true) → every_part p w i n m ≡ true
  unfolding every_part
  each_all zero i m h = refl
  each_all (suc n) i m h =
      let first : p m i ≡ true = rw (mul-zero w, add-zero i) at (h 0 (omega arith)) in
      rw first (each_all n (suc i) (drop w m) (λ j l. rest j (h (suc j) (omega arith))))
    where
      rest : (j : ℕ) → p (drop (w * suc j) m) (i + suc j) ≡ true → p (drop (w * j) (drop w m)) (suc i + j) ≡ true
      rest j e = let g : suc i + j ≡ i + suc j = omega arith in rw (step w j m, g) e

  -- what holds of all holds of each, and the other way round
  pub parts_at : (i n k : ℕ) (t : List ℕ) (j at x : ℕ) → every_part p w i n (drop k t) ≡ true → j < n → k + w * j ≡ at → i + j ≡ x → p (drop at t) x ≡ true
  parts_at i n k t j at x e h place number = rw (← place, ← number, ← drop-drop (w * j) k t) (each_at n i (drop k t) e j h)

  pub parts_all : (i n k : ℕ) (t : List ℕ) → ((j : ℕ) → j < n → p (drop (k + w * j) t) (i + j) ≡ true) → every_part p w i n (drop k t) ≡ true
  parts_all i n k t h = each_all n i (drop k t) (λ j l. rw (drop-drop (w * j) k t) (h j l))

-- ---- the first part of which p holds
module _ (p : List ℕ → ℕ → Bool) (w : ℕ) where
  -- it is one of the numbers, or the one after the last
  pub first_range : (n i : ℕ) (m : List ℕ) → (i ≤ first_part p w i n m) × (first_part p w i n m ≤ i + n)
  unfolding first_part
  first_range zero i m = omega arith
  first_range (suc n) i m = go (p m i) (first_part p w (suc i) n (drop w m)) (first_range n (suc i) (drop w m))
    where
      go : (c : Bool) (x : ℕ) → (suc i ≤ x) × (x ≤ suc i + n) → (i ≤ cond c i x) × (cond c i x ≤ i + suc n)
      go true x r = omega arith
      go false x r = omega arith

  first_holds : (n i : ℕ) (m : List ℕ) (j : ℕ) → first_part p w i n m ≡ i + j → j < n → p (drop (w * j) m) (i + j) ≡ true
  unfolding first_part
  first_holds zero i m j e h = absurd (omega arith)
  first_holds (suc n) i m j e h = go (p m i) refl j (first_holds n (suc i) (drop w m)) e h
    where
      go : (c : Bool) → p m i ≡ c → (j : ℕ)
          → ((j : ℕ) → first_part p w (suc i) n (drop w m) ≡ suc i + j → j < n → p (drop (w * j) (drop w m)) (suc i + j) ≡ true)
          → cond c i (first_part p w (suc i) n (drop w m)) ≡ i + j → j < suc n → p (drop (w * j) m) (i + j) ≡ true
      go true q zero rest e h = rw (mul-zero w, add-zero i) q
      go true q (suc j) rest e h = absurd (omega arith)
      go false q zero rest e h = let r = first_range n (suc i) (drop w m) in absurd (omega arith)
      go false q (suc j) rest e h =
          let g : i + suc j ≡ suc i + j = omega arith in
          rw (← step w j m, g) (rest j (e ∙ g) (omega arith))

  -- and p holds of it
  pub first-at : (i n k : ℕ) (t : List ℕ) (j at x : ℕ) → first_part p w i n (drop k t) ≡ x → j < n → k + w * j ≡ at → i + j ≡ x → p (drop at t) x ≡ true
  first-at i n k t j at x e h place number = rw (← place, ← number, ← drop-drop (w * j) k t) (first_holds n i (drop k t) j (e ∙ sym number) h)
