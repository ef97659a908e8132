-- A slot in sound tables by its first row: the message that it holds, and the ranges of the fields that its tag uses.
use Rattle.std.proofs.Common.{◌≡◌, ◌≢◌, ℕ, ◌≤◌, ◌<◌, true, false, not, List, refl, sym, ap, ◌∙◌, arith}
use borrow.Author.Tests.{eq-eqb, ne_eqb}
use Rattle.tables.specs.Bytes.{byte, part}
use Rattle.tables.proofs.Writes.{byte-part}
use Rattle.rules.specs.Fields.{places, tasks_made, finishes_made}
use Rattle.rules.specs.Messages.{Message, none, transit, report, ghost_ended, dropped, tagged, message_in, message_at, from_slot, is_empty}
use Rattle.rules.specs.Sound.{message_fits, sound}
use Rattle.answers.specs.Answers.{tag_number}
use Rattle.answers.specs.declared.Tag.{Tag}
use Rattle.answers.specs.declared.Tag.TheVariants.{Publish, Published, Transit, Granted, Denied, Task, Report, Release, GhostEnded, CountDropped, Dropped}
use Rattle.ranges.proofs.Tags.{below, moves_tag, dropped_tag}
use Rattle.sound.proofs.Use.{places_range, finishes_most, slot_tag, slot_fits, slot_finish, message_tells}

-- no tag is 0
tag-ne0 : (tag : Tag) → tag_number tag ≢ 0
tag-ne0 Publish e = cc
tag-ne0 Published e = cc
tag-ne0 Transit e = cc
tag-ne0 Granted e = cc
tag-ne0 Denied e = cc
tag-ne0 Task e = cc
tag-ne0 Report e = cc
tag-ne0 Release e = cc
tag-ne0 GhostEnded e = cc
tag-ne0 CountDropped e = cc
tag-ne0 Dropped e = cc

-- the tags left by the five that name no route
abbrev RouteTag : ℕ → Type 0
RouteTag n = (3 ≤ n) × (n ≢ 7) × (n ≢ 8) × (n ≢ 9)

route-tag : (tag : Tag) → tag ≢ Publish → tag ≢ Published → tag ≢ Report → tag ≢ Release → tag ≢ GhostEnded → RouteTag (tag_number tag)
route-tag Publish a b c d e = absurd (a refl)
route-tag Published a b c d e = absurd (b refl)
route-tag Report a b c d e = absurd (c refl)
route-tag Release a b c d e = absurd (d refl)
route-tag GhostEnded a b c d e = absurd (e refl)
route-tag Transit a b c d e = (omega arith, λ h. cc, λ h. cc, λ h. cc)
route-tag Granted a b c d e = (omega arith, λ h. cc, λ h. cc, λ h. cc)
route-tag Denied a b c d e = (omega arith, λ h. cc, λ h. cc, λ h. cc)
route-tag Task a b c d e = (omega arith, λ h. cc, λ h. cc, λ h. cc)
route-tag CountDropped a b c d e = (omega arith, λ h. cc, λ h. cc, λ h. cc)
route-tag Dropped a b c d e = (omega arith, λ h. cc, λ h. cc, λ h. cc)

module _ (t : List ℕ) (s : ℕ) (head : List ℕ) (row : head ≡ part (from_slot t s) 0 8) where
  field : (i : ℕ) → i < 8 → byte head i ≡ byte (from_slot t s) i
  field i h = ap (λ (m : List ℕ). byte m i) row ∙ byte-part (from_slot t s) 0 8 i h ∙ ap (byte (from_slot t s)) (omega arith)

  pub held : tagged (byte head 0) (byte head 1) (byte head 2) (byte head 3) (byte head 4) (byte head 5) (part (from_slot t s) 8 8) ≡ message_at t s
  unfolding message_at message_in
  held = rw (field 0 (omega arith), field 1 (omega arith), field 2 (omega arith), field 3 (omega arith), field 4 (omega arith), field 5 (omega arith)) refl

  -- with the tag that its first byte is
  module _ (tag : Tag) (first : tag_number tag ≡ byte head 0) where
    pub held_as : tagged (tag_number tag) (byte head 1) (byte head 2) (byte head 3) (byte head 4) (byte head 5) (part (from_slot t s) 8 8) ≡ message_at t s
    held_as = rw first held

    full : byte head 0 ≢ 0
    full e = tag-ne0 tag (first ∙ e)

    pub filled : true ≡ not (is_empty (from_slot t s) s)
    unfolding is_empty
    filled = rw (ne_eqb (byte (from_slot t s) 0) 0 (λ e. full (field 0 (omega arith) ∙ e))) refl

  module _ (ok : sound t ≡ true) (there : s < 128) where
    abbrev fits_as : Message → Type 0
    fits_as x = message_fits (places t) (tasks_made t) (finishes_made t) x ≡ true

    fits_lem : fits_as (tagged (byte head 0) (byte head 1) (byte head 2) (byte head 3) (byte head 4) (byte head 5) (part (from_slot t s) 8 8))
    fits_lem = rw held (slot_fits t ok s there)

    tag-most : byte head 0 ≤ 11
    tag-most = rw (field 0 (omega arith)) (slot_tag t ok s there)

    -- where the first byte is no tag
    module _ (untagged : ¬ ((1 ≤ byte head 0) × (byte head 0 ≤ 11))) where
      empty : byte head 0 ≡ 0
      empty = below (byte head 0) 1
          (λ h. omega arith)
          (λ h. absurd (untagged (h, tag-most)))

      pub held_none : none ≡ message_at t s
      unfolding tagged
      held_none = rw empty at held

      pub emptied : false ≡ not (is_empty (from_slot t s) s)
      unfolding is_empty
      emptied = rw (eq-eqb (byte (from_slot t s) 0) 0 (sym (field 0 (omega arith)) ∙ empty)) refl

    module _ (tag : Tag) (first : tag_number tag ≡ byte head 0) where
      pub finish_in : (1 ≤ byte head 1) × (byte head 1 ≤ 32)
      finish_in =
          let made = slot_finish t ok s there (λ e. full tag first (field 0 (omega arith) ∙ e)) in
          let most = finishes_most t ok in
          let same = field 1 (omega arith) in
          (omega arith, omega arith)

      pub report_in : tag ≡ Report → byte head 3 < 8
      unfolding tagged
      report_in e =
          let r = message_tells _ _ _ (report _ _ _) (rw (sym first, e) at fits_lem) in
          let most = (places_range t ok).1 in
          omega (arith, r.1)

      pub ghost_in : tag ≡ GhostEnded → (1 ≤ byte head 5) × (byte head 5 ≤ 32)
      unfolding tagged
      ghost_in e =
          let r = message_tells _ _ _ (ghost_ended _ _) (rw (sym first, e) at fits_lem) in
          let most = finishes_most t ok in
          (omega (arith, r.1), omega (arith, r.1))

      pub route_in : tag ≢ Publish → tag ≢ Published → tag ≢ Report → tag ≢ Release → tag ≢ GhostEnded → (byte head 3 < 8) × (byte head 4 < 8)
      route_in not1 not2 not7 not8 not9 =
          let most = (places_range t ok).1 in
          let high = tag-most in
          let left = rw first at (route-tag tag not1 not2 not7 not8 not9) in
          below (byte head 0) 7
          (λ h. let r = (message_tells _ _ _ (transit _ _ _ _) (moves_tag (byte head 0) _ _ _ _ _ _ _ _ _ left.0 (omega arith) ∙ fits_lem)).1 in (omega (arith, r.0), omega (arith, r.1)))
          (λ h. let r = (message_tells _ _ _ (dropped _ _ _ _ _) (dropped_tag (byte head 0) _ _ _ _ _ _ _ _ _ (omega (arith, left.1, left.2, left.3)) high ∙ fits_lem)).1 in (omega (arith, r.0), omega (arith, r.1)))
