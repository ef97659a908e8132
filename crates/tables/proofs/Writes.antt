-- What a write leaves in each byte and each part, and what a run of stores, a part lent and a loop of stores have written.
use mathlib.Core.Path.{◌≡◌, refl, sym, ap, ◌∙◌}
use mathlib.Core.Logic.{◌⊎◌, inl, inr}
use mathlib.Core.List.{List, [], ◌∷◌, ◌++◌, append_assoc}
use Prim.Native.Nat.{ℕ, zero, suc, ◌+◌, ◌-◌, ◌≤◌, ◌<◌}
use native.Mathlib.Nat.{add-zero, zero-add, suc-add}
use native.Mathlib.Omega.{arith}
use lib.ListN.{set, length, drop, take, replicate, length-drop, length-replicate}
use lib.Seq.{sets, sets-eq, length-sets, drop-drop, get_or-drop, get_or-take, length-take-le}
use Rattle.tables.specs.Bytes.{byte, part, over, write}

pub write_end : (t vs : List ℕ) → write t 0 vs ≡ over vs t
unfolding write over
write_end [] [] = refl
write_end [] (v ∷ vs) = refl
write_end (x ∷ t) vs = refl

write-none : (t : List ℕ) (k : ℕ) → write t k [] ≡ t
unfolding write over
write-none [] k = refl
write-none (x ∷ t) zero = refl
write-none (x ∷ t) (suc k) = ap (λ (r : List ℕ). x ∷ r) (write-none t k)

write-first : (t : List ℕ) (k v : ℕ) (vs : List ℕ) → write t k (v ∷ vs) ≡ write (set t k v) (suc k) vs
unfolding write over
write-first [] k v vs = refl
write-first (x ∷ t) zero v vs = ap (λ (r : List ℕ). v ∷ r) (sym (write_end t vs))
write-first (x ∷ t) (suc k) v vs = ap (λ (r : List ℕ). x ∷ r) (write-first t k v vs)

-- bytes written at once are a run of stores
pub write-sets : (vs t : List ℕ) (k : ℕ) → write t k vs ≡ sets t k vs
write-sets [] t k = write-none t k
write-sets (v ∷ vs) t k = write-first t k v vs ∙ write-sets vs (set t k v) (suc k)

pub length-write : (vs t : List ℕ) (k : ℕ) → length (write t k vs) ≡ length t
length-write vs t k = ap length (write-sets vs t k) ∙ length-sets t k vs

-- bytes written after bytes written
sets-after : (vs t : List ℕ) (k : ℕ) (us : List ℕ) → sets (sets t k vs) (k + length vs) us ≡ sets t k (vs ++ us)
sets-after [] t k us = ap (λ (n : ℕ). sets t n us) (add-zero k)
sets-after (v ∷ vs) t k us =
    let e : k + suc (length vs) ≡ suc k + length vs = omega arith in
    ap (λ (n : ℕ). sets (sets (set t k v) (suc k) vs) n us) e ∙ sets-after vs (set t k v) (suc k) us

pub write-after : (vs t : List ℕ) (k : ℕ) (us : List ℕ) → write (write t k vs) (k + length vs) us ≡ write t k (vs ++ us)
write-after vs t k us =
    write-sets us (write t k vs) (k + length vs)
    ∙ ap (λ (u : List ℕ). sets u (k + length vs) us) (write-sets vs t k)
    ∙ sets-after vs t k us
    ∙ sym (write-sets (vs ++ us) t k)

-- what stands before the bytes, the bytes, what stands after them
pub write_mid : (vs t : List ℕ) (k : ℕ) → k + length vs ≤ length t → write t k vs ≡ take k t ++ vs ++ drop (k + length vs) t
write_mid vs t k h = write-sets vs t k ∙ sets-eq vs t k h

pub write-append : (A B : List ℕ) (k : ℕ) (vs : List ℕ) → write (A ++ B) (length A + k) vs ≡ A ++ write B k vs
unfolding write
write-append [] B k vs = ap (λ (n : ℕ). write B n vs) (zero-add k)
write-append (x ∷ A) B k vs = ap (λ (n : ℕ). write (x ∷ (A ++ B)) n vs) (suc-add (length A) k) ∙ ap (λ (r : List ℕ). x ∷ r) (write-append A B k vs)

-- ---- a part read, changed and written back
over_twice : (vs : List ℕ) (n : ℕ) (m : List ℕ) → length vs ≤ n → over (over vs (take n m)) m ≡ over vs m
unfolding over
over_twice [] zero m h = refl
over_twice [] (suc n) [] h = refl
over_twice [] (suc n) (x ∷ m) h = ap (λ (r : List ℕ). x ∷ r) (over_twice [] n m (omega arith))
over_twice (v ∷ vs) zero m h = absurd (omega arith)
over_twice (v ∷ vs) (suc n) [] h = refl
over_twice (v ∷ vs) (suc n) (x ∷ m) h = ap (λ (r : List ℕ). v ∷ r) (over_twice vs n m (omega arith))

over-write : (n : ℕ) (m : List ℕ) (j : ℕ) (vs : List ℕ) → j + length vs ≤ n → over (write (take n m) j vs) m ≡ write m j vs
unfolding over write
over-write zero m j [] h = sym (write-none m j)
over-write zero m j (v ∷ vs) h = absurd (omega arith)
over-write (suc n) [] j vs h = refl
over-write (suc n) (x ∷ m) zero vs h = over_twice vs (suc n) (x ∷ m) (omega arith)
over-write (suc n) (x ∷ m) (suc j) vs h = ap (λ (r : List ℕ). x ∷ r) (over-write n m j vs (omega arith))

-- a write inside a part
pub write-part-write : (t : List ℕ) (k n j : ℕ) (vs : List ℕ) → j + length vs ≤ n → write t k (write (part t k n) j vs) ≡ write t (k + j) vs
unfolding write part
write-part-write [] k n j vs h = refl
write-part-write (x ∷ t) zero n j vs h = over-write n (x ∷ t) j vs h ∙ ap (λ (k : ℕ). write (x ∷ t) k vs) (sym (zero-add j))
write-part-write (x ∷ t) (suc k) n j vs h =
    ap (λ (r : List ℕ). x ∷ r) (write-part-write t k n j vs h) ∙ ap (λ (k : ℕ). write (x ∷ t) k vs) (sym (suc-add k j))

-- one byte of it
pub write-part-set : (t : List ℕ) (k n j v : ℕ) → j < n → write t k (set (part t k n) j v) ≡ set t (k + j) v
write-part-set t k n j v h =
    ap (write t k) (sym (write-sets (v ∷ []) (part t k n) j)) ∙ write-part-write t k n j (v ∷ []) (omega arith) ∙ write-sets (v ∷ []) t (k + j)

-- ---- a part lent by & or &mut t[a..e], and what comes back of the second
pub part_lent : (t : List ℕ) (a e n : ℕ) → e - a ≡ n → take (e - a) (drop a t) ≡ part t a n
unfolding part
part_lent t a e n g = ap (λ (k : ℕ). take k (drop a t)) g

pub part_back : (t p : List ℕ) (a e n : ℕ) → length p ≡ n → e - a ≡ n → a + n ≤ length t → take a t ++ (p ++ drop (e - a) (drop a t)) ≡ write t a p
part_back t p a e n l g h =
    let z : a + (e - a) ≡ a + length p = omega arith in
    sym (append_assoc (take a t) p (drop (e - a) (drop a t)))
    ∙ ap (λ (r : List ℕ). take a t ++ p ++ r) (drop-drop (e - a) a t ∙ ap (λ (k : ℕ). drop k t) z)
    ∙ sym (write_mid p t a (omega arith))

-- the same where the callee, which was lent the part, says by f what it made of it
pub part_changed : (f : List ℕ → List ℕ) (t p : List ℕ) (a e n : ℕ) → p ≡ f (take (e - a) (drop a t)) → length (f (part t a n)) ≡ n → e - a ≡ n → a + n ≤ length t
    → take a t ++ (p ++ drop (e - a) (drop a t)) ≡ write t a (f (part t a n))
part_changed f t p a e n q l g h =
    let z : p ≡ f (part t a n) = q ∙ ap f (part_lent t a e n g) in
    part_back t p a e n (ap length z ∙ l) g h ∙ ap (write t a) z

-- ---- each byte
pub length_part : (t : List ℕ) (k n : ℕ) → k + n ≤ length t → length (part t k n) ≡ n
unfolding part
length_part t k n h = length-take-le n (drop k t) (rw (length-drop k t) (omega arith))

-- a part lent as &mut t[a..a + n] and cleared
pub part_cleared : (t p : List ℕ) (a n : ℕ) → a + n ≤ length t → p ≡ replicate (length (take (a + n - a) (drop a t))) 0
    → take a t ++ (p ++ drop (a + n - a) (drop a t)) ≡ write t a (replicate n 0)
part_cleared t p a n h q =
    part_changed (λ b. replicate (length b) 0) t p a (a + n) n q (length-replicate {A = ℕ} (length (part t a n)) 0 ∙ length_part t a n h) (omega arith) h
    ∙ ap (λ (n : ℕ). write t a (replicate n 0)) (length_part t a n h)

pub byte-part : (t : List ℕ) (k n j : ℕ) → j < n → byte (part t k n) j ≡ byte t (k + j)
unfolding part
byte-part t k n j h = get_or-take n (drop k t) j 0 h ∙ get_or-drop k t j 0

over_in : (vs t : List ℕ) (j : ℕ) → j < length vs → j < length t → byte (over vs t) j ≡ byte vs j
unfolding over
over_in [] t j h g = absurd (omega arith)
over_in (v ∷ vs) [] j h g = absurd (omega arith)
over_in (v ∷ vs) (x ∷ t) zero h g = refl
over_in (v ∷ vs) (x ∷ t) (suc j) h g = over_in vs t j (omega arith) (omega arith)

over_out : (vs t : List ℕ) (j : ℕ) → length vs ≤ j → byte (over vs t) j ≡ byte t j
unfolding over
over_out [] t j h = refl
over_out (v ∷ vs) [] j h = refl
over_out (v ∷ vs) (x ∷ t) zero h = absurd (omega arith)
over_out (v ∷ vs) (x ∷ t) (suc j) h = over_out vs t j (omega arith)

pub byte-write_in : (t : List ℕ) (k : ℕ) (vs : List ℕ) (j : ℕ) → j < length vs → k + j < length t → byte (write t k vs) (k + j) ≡ byte vs j
unfolding write
byte-write_in [] k vs j h g = absurd (omega arith)
byte-write_in (x ∷ t) zero vs j h g = rw zero-add (over_in vs (x ∷ t) j h (omega arith))
byte-write_in (x ∷ t) (suc k) vs j h g = rw suc-add (byte-write_in t k vs j h (omega arith))

pub byte-write_out : (t : List ℕ) (k : ℕ) (vs : List ℕ) (q : ℕ) → (q < k) ⊎ (k + length vs ≤ q) → byte (write t k vs) q ≡ byte t q
unfolding write
byte-write_out [] k vs q h = refl
byte-write_out (x ∷ t) zero vs q (inl h) = absurd (omega arith)
byte-write_out (x ∷ t) zero vs q (inr h) = over_out vs (x ∷ t) q (omega arith)
byte-write_out (x ∷ t) (suc k) vs zero (inl h) = refl
byte-write_out (x ∷ t) (suc k) vs zero (inr h) = absurd (omega arith)
byte-write_out (x ∷ t) (suc k) vs (suc q) (inl h) = byte-write_out t k vs q (inl (omega arith))
byte-write_out (x ∷ t) (suc k) vs (suc q) (inr h) = byte-write_out t k vs q (inr (omega arith))
