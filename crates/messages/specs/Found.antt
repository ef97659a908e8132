-- A slot found or none, as the number that the rules give.
use Rattle.std.specs.Prelude.{cond, ℕ, eqb, Option, None, Some}

-- 128 is no slot.
unfoldable pub found_at : ℕ → Option ℕ
found_at s = cond (eqb s 128) None (Some s)
