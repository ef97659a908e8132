-- Which numbers name a finish, a place and a slot.
use Rattle.std.specs.Prelude.{ℕ, ◌≡◌, ◌≤◌, ◌<◌, Result, MatchResult}
use Rattle.tables.specs.declared.numbers.OutOfRange.{OutOfRange}

-- Finish f, Row 255 + f: 1 to 32
abbrev pub FinishFrom : ℕ → Result ℕ OutOfRange → Type 0
FinishFrom n r = MatchResult r (λ f. (f ≡ n) × (1 ≤ n) × (n ≤ 32)) (λ e. ¬ ((1 ≤ n) × (n ≤ 32)))

-- places, to 8: 0 to 7
abbrev pub PlaceFrom : ℕ → Result ℕ OutOfRange → Type 0
PlaceFrom n r = MatchResult r (λ p. (p ≡ n) × (n < 8)) (λ e. 8 ≤ n)

-- Slot s (0 to 127)
abbrev pub SlotFrom : ℕ → Result ℕ OutOfRange → Type 0
SlotFrom n r = MatchResult r (λ s. (s ≡ n) × (n < 128)) (λ e. 128 ≤ n)
