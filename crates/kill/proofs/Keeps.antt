-- What a kill makes of a row is as long as the row; what it makes of a slot is told by the home of the message's finish.
use mathlib.Core.Path.{◌≡◌, ◌∙◌}
use mathlib.Core.Bool.{Bool, true, false, cond}
use mathlib.Core.Logic.{inl, inr}
use mathlib.Core.List.{List}
use Prim.Native.Nat.{ℕ, ◌+◌, ◌*◌, ◌%◌, ◌<◌}
use native.Mathlib.Omega.{arith}
use lib.Dec.{eqb}
use lib.ListN.{length, replicate, length-set, length-replicate}
use Rattle.tables.specs.Bytes.{byte, part}
use Rattle.tables.proofs.Writes.{byte-part}
use Rattle.rules.specs.Messages.{message_in, goes_to}
use Rattle.rules.specs.Kill.{kill_task, kill_finish, kill_book, kill_local, kill_slot}
use Rattle.loss.proofs.Goes.{slot_same}
use Rattle.walk.specs.Changes.{KeepsLength, Due}

pub task_keeps : (p : ℕ) → KeepsLength (kill_task p) 8
unfolding kill_task
task_keeps p m i h = length-set m 3 _ ∙ h

pub finish_keeps : (p : ℕ) → KeepsLength (kill_finish p) 8
unfolding kill_finish
finish_keeps p m i h = length-set m 3 _ ∙ h

pub book_keeps : (p : ℕ) → KeepsLength (kill_book p) 144
unfolding kill_book
book_keeps p m i h = length-set m 2 _ ∙ h

cleared_keeps : (c : Bool) (w : ℕ) (m : List ℕ) → length m ≡ w → length (cond c (replicate w 0) m) ≡ w
cleared_keeps true w m h = length-replicate {A = ℕ} w 0
cleared_keeps false w m h = h

pub local_keeps : (p : ℕ) → KeepsLength (kill_local p) 24
unfolding kill_local
local_keeps p m y h = cleared_keeps (eqb (y % 8) p) 24 m h

pub slot_keeps : (t : List ℕ) (p : ℕ) → KeepsLength (kill_slot t p) 16
unfolding kill_slot
slot_keeps t p m s h = cleared_keeps (eqb (goes_to t (message_in m)) p) 16 m h

-- the home is read in the tables as they are by then, which have it as it was
pub slot_due : (t u : List ℕ) (p j s : ℕ) → ((i : ℕ) → byte t i < 256) → j < 128 → Due u t 13056 16 j
    → kill_slot u p (part u (13056 + 16 * j) 16) 0 ≡ kill_slot t p (part u (13056 + 16 * j) 16) s
unfolding kill_slot
slot_due t u p j s fits h due =
    let b = part u (13056 + 16 * j) 16 in
    let f : byte b 1 ≡ byte t (13056 + 16 * j + 1) = byte-part u (13056 + 16 * j) 16 1 (omega arith) ∙ due (13056 + 16 * j + 1) (inr (omega arith)) in
    let small : byte b 1 < 256 = omega (arith, fits (13056 + 16 * j + 1)) in
    slot_same t u b p 0 (due (8 * (255 + byte b 1) + 0) (inl (omega arith)))
