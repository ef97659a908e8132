-- Action records: an action is 4 bytes, kind, a, b, c.
use Rattle.std.specs.Prelude.{cond, List, ℕ, eqb}
use Rattle.tables.specs.Bytes.{byte}

-- The nine actions with their operands; a record that names none of them is unknown.
pub data Action : Type 0 where
  unknown : Action
  spawn : (task place : ℕ) → Action
  open_finish : (task : ℕ) → Action
  end : (task : ℕ) → Action
  deliver : (slot : ℕ) → Action
  kill : (place : ℕ) → Action
  adopt : (finish : ℕ) → Action
  cancel : (finish dead_place : ℕ) → Action
  ask : (finish dead_place live_place : ℕ) → Action
  begin : (places : ℕ) → Action

-- an action whose operand x must be 0
unfoldable pub only0 : ℕ → Action → Action
only0 x action = cond (eqb x 0) action unknown

-- The table of kinds; an operand shown as 0 must be 0.
unfoldable pub action_named : ℕ → ℕ → ℕ → ℕ → Action
action_named kind a b c =
    cond (eqb kind 1) (only0 c (spawn a b))
    (cond (eqb kind 2) (only0 b (only0 c (open_finish a)))
    (cond (eqb kind 3) (only0 b (only0 c (end a)))
    (cond (eqb kind 4) (only0 b (only0 c (deliver a)))
    (cond (eqb kind 5) (only0 b (only0 c (kill a)))
    (cond (eqb kind 6) (only0 b (only0 c (adopt a)))
    (cond (eqb kind 7) (only0 c (cancel a b))
    (cond (eqb kind 8) (ask a b c)
    (cond (eqb kind 9) (only0 b (only0 c (begin a))) unknown))))))))

unfoldable pub action_of : List ℕ → Action
action_of r = action_named (byte r 0) (byte r 1) (byte r 2) (byte r 3)
