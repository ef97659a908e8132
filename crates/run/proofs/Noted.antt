-- Steps noted one after the other: what the tables, the log and the tally hold after n of them, and after one more.
use mathlib.Core.Path.{◌≡◌, refl, sym, ap, ◌∙◌}
use mathlib.Core.List.{List, [], ◌∷◌, ◌++◌}
use Prim.Native.Nat.{ℕ, suc, ◌+◌, ◌*◌, ◌<◌}
use native.Mathlib.Omega.{arith}
use lib.Dec.{eqb}
use lib.ListN.{length, length-append}
use borrow.Author.Tests.{ne_eqb}
use Rattle.tables.specs.Bytes.{byte, over, write}
use Rattle.tables.proofs.Writes.{write_end, write-after}
use Rattle.rules.specs.Refusals.{answer}
use Rattle.rules.specs.Step.{after}
use Rattle.model.specs.Base.Cases.{eq_cases}
use Rattle.plan.specs.declared.Plan.{Plan}
use Rattle.tally.specs.declared.Tally.{Tally}
use Rattle.tally.specs.Tally.{next, noted}
use Rattle.turns.specs.declared.Played.{Played}
use Rattle.turns.specs.Played.{played_on}
use Rattle.run.specs.Run.{step_record, tables_after, record_at, answer_at, log_after, tally_after}
use Rattle.run.proofs.Cover.{taken_four}

-- the five bytes of what was played
abbrev pub note_of : Played → List ℕ
note_of d = d.record ++ (d.answer ∷ [])

-- Every one of n steps was taken; what tables t and a log have become, and the tally.
pub record Noted (p : Plan) (t log : List ℕ) (n : ℕ) (u out : List ℕ) (r : Tally) : Type 0 where
  pub steps : r.steps ≡ n
  pub tables : u ≡ tables_after p t n
  pub written : out ≡ write log 0 (log_after p t n)
  pub long : length (log_after p t n) ≡ 5 * n
  pub tallied : r ≡ tally_after p t n
  pub taken : (m : ℕ) → m < n → answer_at p t m ≡ 0

pub noted-none : (p : Plan) (t log : List ℕ) → Noted p t log 0 t log (record { steps = 0; kills = 0; zeros = 0 })
unfolding tables_after log_after tally_after write over
noted-none p t log = record { steps = refl; tables = refl; written = sym (write_end log []); long = refl; tallied = refl; taken = λ m l. absurd (omega arith) }

module _ {p : Plan} {t log u out : List ℕ} {n : ℕ} {r : Tally} (so_far : Noted p t log n u out r) (low : n < 4294967295) where
  abbrev x : List ℕ
  x = step_record p n u

  pub noted_more : answer u x ≡ 0 → (d : Played) → d ≡ played_on u x → (u' out' : List ℕ) (r' : Tally) → u' ≡ after u x → out' ≡ write out (5 * n) (note_of d)
      → r' ≡ noted r (eqb (byte d.record 0) 5) d.answer → Noted p t log (suc n) u' out' r'
  unfolding tables_after log_after tally_after noted next played_on
  noted_more done d played u' out' r' gives writes counts =
      let here = so_far.tables in
      let text : note_of (played_on u x) ≡ record_at p t n ++ (answer_at p t n ∷ []) = rw (← here) refl in
      let four : length x ≡ 4 = ap length (taken_four u x done) in
      let place : 5 * n ≡ 0 + length (log_after p t n) = omega (arith, so_far.long) in
      record {
        steps = rw (counts, so_far.steps, ne_eqb n 4294967295 (λ q. omega arith)) (omega arith);
        tables = rw (gives, ← here) refl;
        written = writes ∙ rw (played, so_far.written, text, place) (write-after (log_after p t n) log 0 (record_at p t n ++ (answer_at p t n ∷ [])));
        long = rw (← text) (omega (arith, length-append (log_after p t n) (note_of (played_on u x)), length-append x (answer u x ∷ []), four, so_far.long));
        tallied = rw (counts, played, ← here, ← so_far.tallied) refl;
        taken = λ m l. eq_cases m n (λ q. rw (q, ← here) done) (λ q. so_far.taken m (omega arith));
      }
