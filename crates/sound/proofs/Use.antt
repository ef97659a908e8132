-- What a sound table tells of its fields, by their names.
use mathlib.Core.Path.{◌≡◌, refl, sym, ◌∙◌}
use mathlib.Core.Bool.{Bool, true}
use mathlib.Core.List.{List, [], ◌∷◌}
use Prim.Native.Nat.{ℕ, ◌+◌, ◌-◌, ◌*◌, ◌≤◌, ◌<◌}
use native.Mathlib.Omega.{arith}
use borrow.Author.Tests.{leb-true, ltb-true, eqb-true, eq-eqb, ne_eqb}
use lib.Dec.{ltb, leb}
use lib.Seq.{get_or-drop, drop-drop}
use Rattle.tables.specs.Bytes.{byte}
use Rattle.tables.specs.Walks.{every}
use Rattle.tables.specs.Layout.{place, task_row, finish_row, book_row}
use Rattle.tables.proofs.Walks.{every_each, parts_at}
use Rattle.rules.specs.Fields.{places, dead_mask, tasks_made, finishes_made, task_from, task_at, task_finish, task_status, task_sent, task_maker, home, opener, parent, finish_status, is_published, present, book_parent, adopt_due, is_adopted, task_made, finish_made}
use Rattle.rules.specs.Messages.{Message, none, publish, published, transit, granted, denied, task, report, release, ghost_ended, count_dropped, dropped, tagged, message_in, from_slot, message_at}
use Rattle.ranges.proofs.Tags.{below, waits_tag, moves_tag, dropped_tag}
use Rattle.rules.specs.Sound.{head_sound, task_fits, finish_fits, parent_fits, book_fits, message_fits, task_sound, finish_sound, book_sound, slot_sound, tasks_sound, finishes_sound, books_sound, slots_sound, rows_sound, sound}

-- a number made: 1 to n
abbrev pub Made : ℕ → ℕ → Type 0
Made n x = (1 ≤ x) × (x ≤ n)

pub task_made_lem : (t : List ℕ) (k : ℕ) → task_made t k ≡ true → Made (tasks_made t) k
unfolding task_made
task_made_lem t k e = let h = every_each _ e in (leb-true 1 k h.0, leb-true k (tasks_made t) h.1.0)

pub finish_made_lem : (t : List ℕ) (f : ℕ) → finish_made t f ≡ true → Made (finishes_made t) f
unfolding finish_made
finish_made_lem t f e = let h = every_each _ e in (leb-true 1 f h.0, leb-true f (finishes_made t) h.1.0)

-- ---- what each test tells of the numbers it is given
record Head (ps d fs : ℕ) : Type 0 where
  places_range : (2 ≤ ps) × (ps ≤ 8)
  finishes : fs ≤ 32

head_tells : (ps d fs : ℕ) → head_sound ps d fs ≡ true → Head ps d fs
unfolding head_sound
head_tells ps d fs e =
    let h = every_each _ e in
    record {
      places_range = (leb-true 2 ps h.0, leb-true ps 8 h.1.0);
      finishes = leb-true fs 32 h.1.1.0;
    }

-- ---- the rows
-- task k
pub record TaskRanges (t : List ℕ) (k : ℕ) : Type 0 where
  pub from : task_from t k < places t
  pub at : task_at t k < places t
  pub finish : Made (finishes_made t) (task_finish t k)
  pub status : Made 8 (task_status t k)
  pub sent : task_sent t k ≤ 1
  pub maker : task_maker t k < k

-- finish f; its main task is byte 5 of its row
pub record FinishRanges (t : List ℕ) (f : ℕ) : Type 0 where
  pub home_place : home t f < places t
  pub opened : opener t f < byte t (place (finish_row f) 5)
  pub above : parent t f < f
  pub status : Made 5 (finish_status t f)
  pub shown : is_published t f ≤ 1
  pub main : Made (tasks_made t) (byte t (place (finish_row f) 5))

-- the store book of f
pub record BookRanges (t : List ℕ) (f : ℕ) : Type 0 where
  pub is_present : present t f ≡ 1
  pub made : f ≤ finishes_made t
  pub above : book_parent t f < f
  pub due : adopt_due t f ≤ 1
  pub adopted : is_adopted t f ≤ 1
  pub adopter : is_adopted t f ≡ 1 → 1 ≤ book_parent t f

-- what the row's test tells
task_tells : (t : List ℕ) (k : ℕ)
    → task_fits (places t) (finishes_made t) k (task_from t k) (task_at t k) (task_finish t k) (task_status t k) (task_sent t k) (task_maker t k) ≡ true
    → TaskRanges t k
unfolding task_fits
task_tells t k e =
    let h = every_each _ e in
    record {
      from = ltb-true _ _ h.0;
      at = ltb-true _ _ h.1.0;
      finish = (leb-true _ _ h.1.1.0, leb-true _ _ h.1.1.1.0);
      status = (leb-true _ _ h.1.1.1.1.0, leb-true _ _ h.1.1.1.1.1.0);
      sent = leb-true _ _ h.1.1.1.1.1.1.0;
      maker = ltb-true _ _ h.1.1.1.1.1.1.1.0;
    }

finish_tells : (t : List ℕ) (f : ℕ)
    → finish_fits (places t) (tasks_made t) f (home t f) (opener t f) (parent t f) (finish_status t f) (is_published t f) (byte t (place (finish_row f) 5)) ≡ true
    → FinishRanges t f
unfolding finish_fits
finish_tells t f e =
    let h = every_each _ e in
    record {
      home_place = ltb-true _ _ h.0;
      opened = ltb-true _ _ h.1.0;
      above = ltb-true _ _ h.1.1.0;
      status = (leb-true _ _ h.1.1.1.0, leb-true _ _ h.1.1.1.1.0);
      shown = leb-true _ _ h.1.1.1.1.1.0;
      main = (leb-true _ _ h.1.1.1.1.1.1.0, leb-true _ _ h.1.1.1.1.1.1.1.0);
    }

book_tells : (t : List ℕ) (f : ℕ)
    → book_fits (finishes_made t) f (present t f) (book_parent t f) (adopt_due t f) (is_adopted t f) ≡ true
    → (present t f ≡ 0 → ⊥)
    → BookRanges t f
unfolding book_fits parent_fits
book_tells t f e there =
    let h = every_each _ (rw (ne_eqb (present t f) 0 there) at e) in
    record {
      is_present = eqb-true _ _ h.0;
      made = leb-true _ _ h.1.0;
      above = ltb-true _ _ h.1.1.0;
      due = leb-true _ _ h.1.1.1.0;
      adopted = leb-true _ _ h.1.1.1.1.0;
      adopter = λ one. leb-true _ _ (rw (eq-eqb (is_adopted t f) 1 one) at h.1.1.1.1.1.0);
    }

-- the fields that a message uses
abbrev pub Ranges : ℕ → ℕ → ℕ → Message → Type 0
Ranges ps ts fs none = Unit
Ranges ps ts fs (publish f k) = Made fs f × Made ts k
Ranges ps ts fs (published f k) = Made fs f × Made ts k
Ranges ps ts fs (transit f k v j) = (Made fs f × Made ts k) × ((v < ps) × (j < ps))
Ranges ps ts fs (granted f k v j) = (Made fs f × Made ts k) × ((v < ps) × (j < ps))
Ranges ps ts fs (denied f k v j) = (Made fs f × Made ts k) × ((v < ps) × (j < ps))
Ranges ps ts fs (task f k v j) = (Made fs f × Made ts k) × ((v < ps) × (j < ps))
Ranges ps ts fs (report f v counts) = Made fs f × (v < ps)
Ranges ps ts fs (release f) = Made fs f
Ranges ps ts fs (ghost_ended q g) = Made fs q × Made fs g
Ranges ps ts fs (count_dropped f k v j n) = Made fs f × ((v < ps) × (j < ps))
Ranges ps ts fs (dropped f k v j n) = Made fs f × ((v < ps) × (j < ps))

both_made : (n m x y : ℕ) → every (leb 1 x ∷ leb x n ∷ leb 1 y ∷ leb y m ∷ []) ≡ true → Made n x × Made m y
both_made n m x y e =
    let h = every_each _ e in
    ((leb-true _ _ h.0, leb-true _ _ h.1.0), (leb-true _ _ h.1.1.0, leb-true _ _ h.1.1.1.0))

module _ (ps ts fs : ℕ) where
  task_named : (f k v j : ℕ) → every (leb 1 f ∷ leb f fs ∷ leb 1 k ∷ leb k ts ∷ ltb v ps ∷ ltb j ps ∷ []) ≡ true
      → (Made fs f × Made ts k) × ((v < ps) × (j < ps))
  task_named f k v j e =
      let h = every_each _ e in
      let f_made : Made fs f = (leb-true 1 f h.0, leb-true f fs h.1.0) in
      let k_made : Made ts k = (leb-true 1 k h.1.1.0, leb-true k ts h.1.1.1.0) in
      ((f_made, k_made), (ltb-true _ _ h.1.1.1.1.0, ltb-true _ _ h.1.1.1.1.1.0))

  places_named : (f v j : ℕ) → every (leb 1 f ∷ leb f fs ∷ ltb v ps ∷ ltb j ps ∷ []) ≡ true → Made fs f × ((v < ps) × (j < ps))
  places_named f v j e =
      let h = every_each _ e in
      ((leb-true _ _ h.0, leb-true _ _ h.1.0), (ltb-true _ _ h.1.1.0, ltb-true _ _ h.1.1.1.0))

  pub message_tells : (x : Message) → message_fits ps ts fs x ≡ true → Ranges ps ts fs x
  unfolding message_fits
  message_tells none e = tt
  message_tells (publish f k) e = both_made fs ts f k e
  message_tells (published f k) e = both_made fs ts f k e
  message_tells (transit f k v j) e = task_named f k v j e
  message_tells (granted f k v j) e = task_named f k v j e
  message_tells (denied f k v j) e = task_named f k v j e
  message_tells (task f k v j) e = task_named f k v j e
  message_tells (report f v counts) e =
      let h = every_each _ e in
      ((leb-true _ _ h.0, leb-true _ _ h.1.0), ltb-true _ _ h.1.1.0)
  message_tells (release f) e = let h = every_each _ e in (leb-true _ _ h.0, leb-true _ _ h.1.0)
  message_tells (ghost_ended q g) e = both_made fs fs q g e
  message_tells (count_dropped f k v j n) e = places_named f v j e
  message_tells (dropped f k v j n) e = places_named f v j e

  -- whatever the tag, a message's finish is made
  finish_named : (tag f k v j n : ℕ) (counts : List ℕ) → Made 11 tag → message_fits ps ts fs (tagged tag f k v j n counts) ≡ true → Made fs f
  unfolding tagged
  finish_named tag f k v j n counts full e =
      below tag 3 (λ h. (message_tells (publish f k) (waits_tag tag ps ts fs f k v j n counts (omega arith) (omega arith) ∙ e)).0)
      (λ h3. below tag 7 (λ h. (message_tells (transit f k v j) (moves_tag tag ps ts fs f k v j n counts (omega arith) (omega arith) ∙ e)).0.0)
      (λ h7. below tag 8 (λ h. let q : tag ≡ 7 = omega arith in (message_tells (report f v counts) (rw q at e)).0)
      (λ h8. below tag 9 (λ h. let q : tag ≡ 8 = omega arith in message_tells (release f) (rw q at e))
      (λ h9. below tag 10 (λ h. let q : tag ≡ 9 = omega arith in (message_tells (ghost_ended f n) (rw q at e)).0)
      (λ h10. (message_tells (dropped f k v j n) (dropped_tag tag ps ts fs f k v j n counts (omega arith) (omega arith) ∙ e)).0)))))

-- ---- sound tables
module _ (t : List ℕ) (s : sound t ≡ true) where
  head : Head (places t) (dead_mask t) (finishes_made t)
  unfolding sound
  head = head_tells _ _ _ (every_each _ s).0

  rows : rows_sound (places t) (tasks_made t) (finishes_made t) t ≡ true
  unfolding sound
  rows = (every_each _ s).1.0

  pub places_range : (2 ≤ places t) × (places t ≤ 8)
  places_range = head.places_range

  pub finishes_most : finishes_made t ≤ 32
  finishes_most = head.finishes

  pub task_ranges : (k : ℕ) → Made (tasks_made t) k → TaskRanges t k
  unfolding rows_sound tasks_sound task_sound
  task_ranges k made =
      task_tells t k
      (simp get_or-drop at
      (parts_at (task_sound (places t) (finishes_made t)) 8 1 (tasks_made t) 8 t (k - 1) (8 * task_row k) k (every_each _ rows).0 (omega arith) (omega arith) (omega arith)))

  pub finish_ranges : (f : ℕ) → Made (finishes_made t) f → FinishRanges t f
  unfolding rows_sound finishes_sound finish_sound
  finish_ranges f made =
      finish_tells t f
      (simp get_or-drop at
      (parts_at (finish_sound (places t) (tasks_made t)) 8 1 (finishes_made t) 2048 t (f - 1) (8 * finish_row f) f (every_each _ rows).1.0 (omega arith) (omega arith) (omega arith)))

  pub book_ranges : (f : ℕ) → Made 32 f → (present t f ≡ 0 → ⊥) → BookRanges t f
  unfolding rows_sound books_sound book_sound
  book_ranges f made there =
      book_tells t f
      (simp get_or-drop at
      (parts_at (book_sound (finishes_made t)) 144 1 32 2304 t (f - 1) (8 * book_row f) f (every_each _ rows).1.1.0 (omega arith) (omega arith) (omega arith)))
      there

  slot_sound_lem : (i : ℕ) → i < 128 → slot_sound (places t) (tasks_made t) (finishes_made t) (from_slot t i) i ≡ true
  unfolding rows_sound slots_sound from_slot
  slot_sound_lem i h =
      rw (drop-drop (16 * i) 13056 t)
      (parts_at (slot_sound (places t) (tasks_made t) (finishes_made t)) 16 0 128 13056 t i (13056 + 16 * i) i (every_each _ rows).1.1.1.0 h refl (omega arith))

  pub slot_tag : (i : ℕ) → i < 128 → byte (from_slot t i) 0 ≤ 11
  unfolding slot_sound
  slot_tag i h = leb-true _ _ (every_each _ (slot_sound_lem i h)).0

  pub slot_fits : (i : ℕ) → i < 128 → message_fits (places t) (tasks_made t) (finishes_made t) (message_at t i) ≡ true
  unfolding slot_sound message_at
  slot_fits i h = (every_each _ (slot_sound_lem i h)).1.0

  pub slot_ranges : (i : ℕ) → i < 128 → Ranges (places t) (tasks_made t) (finishes_made t) (message_at t i)
  slot_ranges i h = message_tells _ _ _ (message_at t i) (slot_fits i h)

  -- a full slot, whatever its tag
  pub slot_finish : (i : ℕ) → i < 128 → (byte (from_slot t i) 0 ≡ 0 → ⊥) → Made (finishes_made t) (byte (from_slot t i) 1)
  unfolding message_at message_in
  slot_finish i h full =
      finish_named (places t) (tasks_made t) (finishes_made t) (byte (from_slot t i) 0) _ _ _ _ _ _ (omega (arith, slot_tag i h)) (slot_fits i h)
