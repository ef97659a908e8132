-- Where a message goes is told by its tag; nothing of the tables but the home of its finish matters. A slot written as it is.
use mathlib.Core.Path.{◌≡◌, refl, sym, ap, ◌∙◌, fun_ext}
use mathlib.Core.Bool.{cond}
use mathlib.Core.List.{List}
use Prim.Native.Nat.{ℕ, ◌+◌, ◌*◌}
use native.Mathlib.Omega.{arith}
use lib.Dec.{eqb}
use lib.ListN.{set}
use lib.Seq.{get_or-set_other, set-get_or}
use Rattle.std.proofs.lemmas.Bool.Decides.{nat_tests}
use Rattle.tables.specs.Bytes.{byte, part, write}
use Rattle.tables.proofs.Writes.{byte-part, write-part-set}
use Rattle.rules.specs.Fields.{home}
use Rattle.rules.specs.Messages.{tagged, message_in, goes_to, store}
use Rattle.rules.specs.Kill.{kill_slot}

-- where a message goes, told by its tag; h is the home of its finish, v its from, j its to
unfoldable pub goes_by_tag : ℕ → ℕ → ℕ → ℕ → ℕ
goes_by_tag tag h v j =
    cond (eqb tag 2) h
    (cond (eqb tag 4) v
    (cond (eqb tag 5) v
    (cond (eqb tag 6) j
    (cond (eqb tag 8) h
    (cond (eqb tag 10) j store)))))

goes-tagged : (t : List ℕ) (tag f k v j n : ℕ) (counts : List ℕ) → goes_to t (tagged tag f k v j n counts) ≡ goes_by_tag tag (home t f) v j
unfolding tagged goes_to goes_by_tag
goes-tagged t tag f k v j n counts = grind (arith, nat_tests)

pub goes_in : (t m : List ℕ) → goes_to t (message_in m) ≡ goes_by_tag (byte m 0) (home t (byte m 1)) (byte m 3) (byte m 4)
unfolding message_in
goes_in t m = goes-tagged t (byte m 0) (byte m 1) (byte m 2) (byte m 3) (byte m 4) (byte m 5) _

pub slot_same : (t u m : List ℕ) (p s : ℕ) → home u (byte m 1) ≡ home t (byte m 1) → kill_slot u p m s ≡ kill_slot t p m s
unfolding kill_slot
slot_same t u m p s h = rw (goes_in u m, goes_in t m, h) refl

-- the dead mask is no home
pub mark_aside : (t : List ℕ) (v p : ℕ) → kill_slot (set t 1 v) p ≡ kill_slot t p
mark_aside t v p = fun_ext (λ m. fun_ext (λ s. slot_same t (set t 1 v) m p s (get_or-set_other t 1 (8 * (255 + byte m 1) + 0) v 0 (λ q. omega arith))))

-- a slot written as it is
pub write_unchanged : (t : List ℕ) (at : ℕ) → write t at (part t at 16) ≡ t
write_unchanged t at =
    ap (write t at) (sym (set-get_or (part t at 16) 0 0))
    ∙ write-part-set t at 16 0 (byte (part t at 16) 0) (omega arith)
    ∙ ap (set t (at + 0)) (byte-part t at 16 0 (omega arith))
    ∙ set-get_or t (at + 0) 0
