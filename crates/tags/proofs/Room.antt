-- What a message that fits has room for, and what sound tables tell of a publish.
use mathlib.Core.Path.{◌≡◌, refl, sym, ap, subst, ◌∙◌}
use mathlib.Core.Logic.{◌⊎◌, inl, inr}
use mathlib.Core.Bool.{Bool, true, false, true≢false}
use mathlib.Core.List.{List, [], ◌∷◌}
use Prim.Native.Nat.{ℕ, ◌+◌, ◌*◌, ◌≤◌, ◌<◌}
use native.Mathlib.Omega.{arith}
use borrow.Author.Tests.{leb-true}
use lib.ListN.{length, drop_of_length-le}
use lib.Seq.{drop-drop}
use Rattle.std.proofs.lemmas.Bool.{cases_lt}
use Rattle.tables.specs.Bits.{marked}
use Rattle.tables.specs.Walks.{some_of}
use Rattle.tables.proofs.Walks.{every_each}
use Rattle.rules.specs.Fields.{places, tasks_made, finishes_made, dead, home, live, sent_count, received, local_live, deny_mask}
use Rattle.rules.specs.Messages.{none, publish, transit, task, count_dropped, dropped, tagged, message_in, message_at, from_slot}
use Rattle.rules.specs.Sound.{sound}
use Rattle.rules.specs.Deliver.{fits}
use Rattle.sound.proofs.Use.{Made, Ranges, places_range, finish_ranges, slot_ranges}

-- the second of two tests, where the first fails
pub other : (a b : Bool) → some_of (a ∷ b ∷ []) ≡ true → a ≡ false → b ≡ true
unfolding some_of
other true b h e = absurd (true≢false e)
other false true h e = refl
other false false h e = h

module _ (t : List ℕ) where
  pub transit_room : (f k v j : ℕ) → fits t (transit f k v j) ≡ true → dead t j ≡ false → (live t f v j ≤ 254) × (sent_count t f v j ≤ 254)
  unfolding fits
  transit_room f k v j h e =
      let z = every_each _ (other _ _ h e) in
      (leb-true _ _ z.0, leb-true _ _ z.1.0)

  pub task_room : (f k v j : ℕ) → fits t (task f k v j) ≡ true → marked (deny_mask t f j) v ≡ false → (received t f j v ≤ 254) × (local_live t f j ≤ 254)
  unfolding fits
  task_room f k v j h e =
      let z = every_each _ (other _ _ h e) in
      (leb-true _ _ z.1.0, leb-true _ _ z.1.1.0)

  pub count_dropped_room : (f k v j n : ℕ) → fits t (count_dropped f k v j n) ≡ true → received t f j v ≤ n
  unfolding fits
  count_dropped_room f k v j n h = leb-true _ _ h

  pub dropped_room : (f k v j n : ℕ) → fits t (dropped f k v j n) ≡ true → n ≤ live t f v j
  unfolding fits
  dropped_room f k v j n h = leb-true _ _ h

-- a publish in sound tables: its finish is made, and homed at a place
module _ (t : List ℕ) (whole : length t ≡ 15104) (s f k : ℕ) (held : publish f k ≡ message_at t s) where
  there : s < 128
  unfolding message_at message_in from_slot tagged
  there = go (cases_lt s 128)
    where
      past : 128 ≤ s → message_at t s ≡ none
      past h = ap message_in (drop-drop (16 * s) 13056 t ∙ drop_of_length-le t {i = 13056 + 16 * s} (omega arith))

      go : (s < 128) ⊎ (128 ≤ s) → s < 128
      go (inl h) = h
      go (inr h) = let e = held ∙ past h in cc

  module _ (ok : sound t ≡ true) where
    pub publish_range : Made (finishes_made t) f
    publish_range = (subst (Ranges (places t) (tasks_made t) (finishes_made t)) (sym held) (slot_ranges t ok s there)).0

    pub publish-home : home t f < 8
    publish-home = let most = (places_range t ok).1 in omega (arith, (finish_ranges t ok f publish_range).home_place)
