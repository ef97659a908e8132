-- The records of a kind that a turn searches are records.
use mathlib.Core.Path.{◌≡◌}
use mathlib.Core.List.{[]}
use Prim.Native.Nat.{ℕ}
use Rattle.turns.specs.declared.Searched.{Searched}
use Rattle.turns.specs.Turn.{adopt_record, cancel_record, ask_record, deliver_record}
use Rattle.turns.specs.Numbered.{records_of}

pub not_none : (kind : Searched) (i : ℕ) → records_of kind i ≡ [] → ⊥
unfolding deliver_record adopt_record cancel_record ask_record
not_none Searched.Deliver i e = cc
not_none Searched.Adopt i e = cc
not_none Searched.Cancel i e = cc
not_none Searched.Ask i e = cc
