-- A search that plays numbered records, one after the other: after i refused ones the tables are the same.
use mathlib.Core.Path.{◌≡◌, sym, ap, ◌∙◌}
use mathlib.Core.List.{List, []}
use Prim.Native.Nat.{ℕ, ◌+◌, ◌<◌, ◌≤◌}
use Rattle.std.proofs.Common.{None, Some}
use Rattle.rules.specs.Refusals.{answer}
use Rattle.rules.specs.Step.{after}
use Rattle.turns.specs.declared.Played.{Played}
use Rattle.turns.specs.declared.Searched.{Searched}
use Rattle.turns.specs.Choice.{taken_or}
use Rattle.turns.specs.Numbered.{records_of}
use Rattle.turns.specs.Played.{played_on, Plays}
use Rattle.turns.proofs.Choice.{refused_keeps, plays_none, plays_some}
use Rattle.turns.proofs.First.{NoneOf, none_more, taken_first, taken_none}
use Rattle.turns.proofs.Records.{not_none}

-- on the tables s, which are t
module _ (t : List ℕ) (kind : Searched) (i : ℕ) (before : NoneOf t (records_of kind) i) (s : List ℕ) (same : s ≡ t) where
  abbrev records : ℕ → List ℕ
  records = records_of kind

  -- record i is played
  module _ (r : List ℕ) (made : r ≡ records i) (y : Played) (u : List ℕ) (is : y ≡ played_on s r) (gives : u ≡ after s r) where
    played_i : y ≡ played_on t (records i)
    played_i = rw (← same, ← made) is

    after_i : u ≡ after t (records i)
    after_i = rw (← same, ← made) gives

    answer_i : y.answer ≡ answer t (records i)
    unfolding played_on
    answer_i = ap (λ (z : Played). z.answer) played_i

    pub try_stop : (n : ℕ) → i < n → y.answer ≡ 0 → Plays t (taken_or t records n []) (Some y) u
    try_stop n l z = rw (taken_first t records i before n l (sym answer_i ∙ z) []) (plays_some t (records i) y u (not_none kind i) played_i after_i)

    pub try_pass : (y.answer ≡ 0 → ⊥) → (u ≡ t) × NoneOf t records (i + 1)
    try_pass z =
        let no : answer t (records i) ≡ 0 → ⊥ = λ e. z (answer_i ∙ e) in
        (after_i ∙ refused_keeps t (records i) no, none_more t records i before no)

  -- all are refused
  pub try_done : (n : ℕ) → n ≤ i → Plays t (taken_or t records n []) None s
  try_done n l = plays_none t _ s (taken_none t records i before n l []) same
