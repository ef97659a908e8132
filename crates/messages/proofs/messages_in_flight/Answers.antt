use Rattle.std.proofs.Common.{Bool, ◌≡◌, ◌∙◌, ℕ, ap, drop, not, refl, sym, arith}
use Rattle.tables.specs.Bits.{digit}
use Rattle.tables.specs.Walks.{count_parts}
use Rattle.tables.proofs.Bits.{byte_digit, digit-le}
use Rattle.rules.specs.Messages.{slot_place, is_empty}
use Rattle.rules.specs.Quiet as Quiet
use Rattle.messages.proofs.Rows.{counted_more}
use Rattle.messages.proofs.Slots.{slot_here}
use Rattle.messages.proofs.messages_in_flight.Goals as goal

pub loop-n-init : goal.loop-n-init
unfolding count_parts
loop-n-init c = record { most = omega arith; counted = refl }

pub loop-n-preserved : goal.loop-n-preserved
unfolding Quiet.is_full
loop-n-preserved c =
    let t = c.args.t.now in
    let s = c.loop-n.n in
    let one : c.from-full.result ≡ digit (Quiet.is_full (drop (slot_place s) t) s) =
    c.from-full.ensures ∙ byte_digit _ ∙ ap (λ (b : Bool). digit (not b)) (rw c.new.ensures at c.is_empty.ensures ∙ sym (slot_here is_empty t s)) in
    record {
      most = omega (arith, one, digit-le (Quiet.is_full (drop (slot_place s) t) s), c.loop-n.invariant.most);
      counted = counted_more Quiet.is_full 16 s 0 13056 _ _ _ _ t c.loop-n.invariant.counted one (omega arith) (omega arith);
    }

pub returns : goal.returns
unfolding Quiet.messages_in_flight
returns c =
    let all : c.loop-n.n ≡ 128 = omega (arith, c.loop-n-test.false, c.loop-n.auto.n-end) in
    c.loop-n.invariant.counted ∙ ap (λ (n : ℕ). count_parts Quiet.is_full 16 0 n (drop 13056 c.args.t.now)) all
