-- The tags that use the same fields are tested as one: a message of any of them fits when one of them does.
use mathlib.Core.Path.{◌≡◌, refl}
use mathlib.Core.Bool.{Bool, true, false}
use mathlib.Core.List.{List}
use Prim.Native.Nat.{ℕ, ◌≤◌, ◌<◌}
use native.Mathlib.Omega.{arith}
use borrow.Author.Tests.{ltb-true, ltb-false}
use lib.Dec.{ltb}
use Rattle.rules.specs.Messages.{publish, transit, dropped, tagged}
use Rattle.rules.specs.Sound.{message_fits}

pub below : {P : Type 0} (x y : ℕ) → (x < y → P) → (y ≤ x → P) → P
below {P} x y less more = go (ltb x y) refl
  where
    go : (b : Bool) → ltb x y ≡ b → P
    go true e = less (ltb-true x y e)
    go false e = more (ltb-false x y e)

module _ (tag ps ts fs f k v j n : ℕ) (counts : List ℕ) where
  pub waits_tag : 1 ≤ tag → tag ≤ 2 → message_fits ps ts fs (publish f k) ≡ message_fits ps ts fs (tagged tag f k v j n counts)
  unfolding message_fits tagged
  waits_tag low high =
      below tag 2
      (λ h. let e : tag ≡ 1 = omega arith in rw e refl)
      (λ h. let e : tag ≡ 2 = omega arith in rw e refl)

  pub moves_tag : 3 ≤ tag → tag ≤ 6 → message_fits ps ts fs (transit f k v j) ≡ message_fits ps ts fs (tagged tag f k v j n counts)
  unfolding message_fits tagged
  moves_tag low high =
      below tag 5
      (λ less. below tag 4
      (λ h. let e : tag ≡ 3 = omega arith in rw e refl)
      (λ h. let e : tag ≡ 4 = omega arith in rw e refl))
      (λ more. below tag 6
      (λ h. let e : tag ≡ 5 = omega arith in rw e refl)
      (λ h. let e : tag ≡ 6 = omega arith in rw e refl))

  pub dropped_tag : 10 ≤ tag → tag ≤ 11 → message_fits ps ts fs (dropped f k v j n) ≡ message_fits ps ts fs (tagged tag f k v j n counts)
  unfolding message_fits tagged
  dropped_tag low high =
      below tag 11
      (λ h. let e : tag ≡ 10 = omega arith in rw e refl)
      (λ h. let e : tag ≡ 11 = omega arith in rw e refl)
