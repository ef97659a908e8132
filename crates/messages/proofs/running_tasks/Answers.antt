use Rattle.std.proofs.Common.{◌≡◌, ◌∙◌, ◌+◌, ◌*◌, ℕ, ap, drop, refl, arith}
use Rattle.tables.specs.Bits.{digit}
use Rattle.tables.specs.Layout.{task_row}
use Rattle.tables.specs.Walks.{count_parts}
use Rattle.tables.proofs.Bits.{byte_digit, digit-le}
use Rattle.rules.specs.Fields.{tasks_made}
use Rattle.rules.specs.Quiet as Quiet
use Rattle.messages.proofs.Rows.{counted_more}
use Rattle.messages.proofs.running_tasks.Goals as goal

pub loop-made-init : goal.loop-made-init
unfolding count_parts
loop-made-init c = record { most = omega arith; counted = refl }

pub loop-made-preserved : goal.loop-made-preserved
loop-made-preserved c =
    let one = c.from-running.ensures ∙ byte_digit _ ∙ ap digit c.is_running.ensures in
    record {
      most = omega (arith, one, digit-le (Quiet.is_running (drop (8 * task_row (c.loop-made.made + 1)) c.args.t.now) (c.loop-made.made + 1)), c.loop-made.invariant.most);
      counted = counted_more Quiet.is_running 8 c.loop-made.made 1 8 _ _ _ _ c.args.t.now c.loop-made.invariant.counted one (omega arith) (omega arith);
    }

pub returns : goal.returns
unfolding Quiet.running_tasks
returns c =
    let all : c.loop-made.made ≡ tasks_made c.args.t.now = omega (arith, c.loop-made-test.false, c.loop-made.auto.made-end) in
    c.loop-made.invariant.counted ∙ ap (λ (n : ℕ). count_parts Quiet.is_running 8 1 n (drop 8 c.args.t.now)) all
