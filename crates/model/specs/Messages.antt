-- The eleven messages with their fields, where each goes, and how messages of a tag are counted.
use Rattle.std.specs.Prelude.{◌≡◌, Bool, false, cond, ◌||◌, ℕ, ◌+◌, ◌<◌, eqb}
use Rattle.std.proofs.Common.{arith, eq-eqb, ne_eqb}
use Rattle.model.specs.Base.{upd, upd_same, upd_other, on, on_true, on_false, on_zero, is₂, is₃, sum, sum-upd, sum_zero, eq_cases}
use Rattle.model.specs.State.{State, Message, with_slot}

-- A slot emptied is all 0.
abbrev pub none : Message
none = record { tag = 0; finish = 0; task = 0; from = 0; to = 0; number = 0; counts = λ i. 0 }

-- Every tag names its finish (9: the parent, with the ghost in number). 1 and 2 name the waiting task;
abbrev pub publish : ℕ → ℕ → Message
publish f t = record { tag = 1; finish = f; task = t; from = 0; to = 0; number = 0; counts = λ i. 0 }

abbrev pub published : ℕ → ℕ → Message
published f t = record { tag = 2; finish = f; task = t; from = 0; to = 0; number = 0; counts = λ i. 0 }

-- 3 to 6 the task, its from and its at as to;
abbrev pub transit : ℕ → ℕ → ℕ → ℕ → Message
transit f t v j = record { tag = 3; finish = f; task = t; from = v; to = j; number = 0; counts = λ i. 0 }

abbrev pub granted : ℕ → ℕ → ℕ → ℕ → Message
granted f t v j = record { tag = 4; finish = f; task = t; from = v; to = j; number = 0; counts = λ i. 0 }

abbrev pub denied : ℕ → ℕ → ℕ → ℕ → Message
denied f t v j = record { tag = 5; finish = f; task = t; from = v; to = j; number = 0; counts = λ i. 0 }

abbrev pub task : ℕ → ℕ → ℕ → ℕ → Message
task f t v j = record { tag = 6; finish = f; task = t; from = v; to = j; number = 0; counts = λ i. 0 }

-- 7 has the reporter as from;
abbrev pub report : ℕ → ℕ → (ℕ → ℕ) → Message
report f v c = record { tag = 7; finish = f; task = 0; from = v; to = 0; number = 0; counts = c }

abbrev pub release : ℕ → Message
release f = record { tag = 8; finish = f; task = 0; from = 0; to = 0; number = 0; counts = λ i. 0 }

abbrev pub ghost_ended : ℕ → ℕ → Message
ghost_ended q g = record { tag = 9; finish = q; task = 0; from = 0; to = 0; number = g; counts = λ i. 0 }

-- 10 and 11 the dead place as from, the live one as to; reply 11 copies the task, 0 from an ask on.
abbrev pub count_dropped : ℕ → ℕ → ℕ → ℕ → ℕ → Message
count_dropped f t v j n = record { tag = 10; finish = f; task = t; from = v; to = j; number = n; counts = λ i. 0 }

abbrev pub dropped : ℕ → ℕ → ℕ → ℕ → ℕ → Message
dropped f t v j n = record { tag = 11; finish = f; task = t; from = v; to = j; number = n; counts = λ i. 0 }

-- Goes to: 2 and 8 home, 4 and 5 from, 6 and 10 to; the others to the store, which is no place.
unfoldable pub goes_to : (ℕ → ℕ) → Message → ℕ → Bool
goes_to home m p =
    cond (eqb m.tag 2 || eqb m.tag 8) (eqb (home m.finish) p)
    (cond (eqb m.tag 4 || eqb m.tag 5) (eqb m.from p)
    (cond (eqb m.tag 6 || eqb m.tag 10) (eqb m.to p) false))

-- n for a message of tag t that passes a test of its key: the one weight of messages
unfoldable pub tally : ℕ → Message → Bool → ℕ → ℕ
tally t m b n = on (eqb m.tag t) (on b n)

pub tally_else : (t : ℕ) (m : Message) (b : Bool) (n : ℕ) → (m.tag ≡ t → ⊥) → tally t m b n ≡ 0
unfolding tally
tally_else t m b n h = on_false (eqb m.tag t) (on b n) (ne_eqb m.tag t h)

pub tally_is : (t : ℕ) (m : Message) (b : Bool) (n : ℕ) → m.tag ≡ t → tally t m b n ≡ on b n
unfolding tally
tally_is t m b n e = on_true (eqb m.tag t) (on b n) (eq-eqb m.tag t e)

pub tally_away : (t : ℕ) (m : Message) (b : Bool) (n : ℕ) → b ≡ false → tally t m b n ≡ 0
unfolding tally
tally_away t m b n e = rw (on_false b n e) (on_zero (eqb m.tag t))

-- the sum over the slots of what their messages of tag t count for
abbrev pub tallied : State → ℕ → (Message → Bool) → (Message → ℕ) → ℕ
tallied s t b n = sum s.slots (λ k. tally t (s.slot k) (b (s.slot k)) (n (s.slot k)))

-- messages of tag t of the finish f; that name the task x; of the finish f and the pair i, j
abbrev pub of_finish : State → ℕ → ℕ → ℕ
of_finish s t f = tallied s t (λ m. eqb m.finish f) (λ m. 1)

abbrev pub naming : State → ℕ → ℕ → ℕ
naming s t x = tallied s t (λ m. eqb m.task x) (λ m. 1)

abbrev pub between : State → ℕ → ℕ → ℕ → ℕ → ℕ
between s t f i j = tallied s t (λ m. is₃ m.finish m.from m.to f i j) (λ m. 1)

-- what the reports of f from j carry for i; what the answers on the pair i, j say was dropped; ghost-ended of g to q
abbrev pub reports : State → ℕ → ℕ → ℕ → ℕ
reports s f i j = tallied s 7 (λ m. is₂ m.finish m.from f j) (λ m. m.counts i)

abbrev pub answered : State → ℕ → ℕ → ℕ → ℕ
answered s f i j = tallied s 11 (λ m. is₃ m.finish m.from m.to f i j) (λ m. m.number)

abbrev pub endings : State → ℕ → ℕ → ℕ
endings s q g = tallied s 9 (λ m. is₂ m.finish m.number q g) (λ m. 1)

-- a message m written into slot k
module _ (s : State) (k : ℕ) (m : Message) (in-range : k < s.slots) where
  pub tallied_moves : (t : ℕ) (b : Message → Bool) (n : Message → ℕ)
      → tallied (with_slot (upd s.slot k m) s) t b n + tally t (s.slot k) (b (s.slot k)) (n (s.slot k)) ≡ tallied s t b n + tally t m (b m) (n m)
  tallied_moves t b n = sum-upd s.slots (λ _ m. tally t m (b m) (n m)) s.slot k m in-range

  -- the tag is neither that of the old message nor that of the new
  pub tallied_same : (t : ℕ) (b : Message → Bool) (n : Message → ℕ) → ((s.slot k).tag ≡ t → ⊥) → (m.tag ≡ t → ⊥)
      → tallied (with_slot (upd s.slot k m) s) t b n ≡ tallied s t b n
  tallied_same t b n h g =
      omega (arith, tallied_moves t b n, tally_else t (s.slot k) (b (s.slot k)) (n (s.slot k)) h, tally_else t m (b m) (n m) g)

-- where slot k was written anew, with a message of another tag, a message of tag n is in another slot, and as it was
pub elsewhere : {n : ℕ} (slot : ℕ → Message) (k : ℕ) (m : Message) (l : ℕ) → (upd slot k m l).tag ≡ n → (m.tag ≡ n → ⊥) → (l ≡ k → ⊥) × (upd slot k m l ≡ slot l)
elsewhere {n} slot k m l e no-n = eq_cases l k
    (λ q. absurd (no-n (rw (q, upd_same) at e)))
    (λ ne. (ne, upd_other slot k m l ne))

-- no message in flight
pub tallied-none : (s : State) → ((k : ℕ) → k < s.slots → (s.slot k).tag ≡ 0) → (t : ℕ) (b : Message → Bool) (n : Message → ℕ) → 0 < t → tallied s t b n ≡ 0
tallied-none s empty t b n h = sum_zero s.slots (λ k. tally t (s.slot k) (b (s.slot k)) (n (s.slot k)))
    (λ k l. tally_else t (s.slot k) (b (s.slot k)) (n (s.slot k)) (λ e. omega (arith, empty k l)))
