-- In a quiet state the books are right.
use Rattle.std.specs.Prelude.{◌≡◌, false, ℕ, ◌+◌, ◌<◌}
use Rattle.std.proofs.Common.{arith}
use Rattle.model.specs.Base.{on_true, on_false, is₂, is₃, bool_cases, eq_cases}
use Rattle.model.specs.State.{State}
use Rattle.model.specs.Messages.{between, reports, answered, tallied-none}
use Rattle.model.specs.Weights.{mainly, ended, weigh-le}
use Rattle.model.specs.Inv.{Inv}
use Rattle.model.specs.Quiet.{Quiet}

module _ (s : State) (inv : Inv s) (quiet : Quiet s) (f i j : ℕ) (present : s.books.present f ≡ 1) (lives : s.dead j ≡ false) where
  no_reports : reports s f i j ≡ 0
  no_reports = tallied-none s quiet.empty 7 (λ m. is₂ m.finish m.from f j) (λ m. m.counts i) (omega arith)

  no_answers : answered s f i j ≡ 0
  no_answers = tallied-none s quiet.empty 11 (λ m. is₃ m.finish m.from m.to f i j) (λ m. m.number) (omega arith)

  no_pair : (t : ℕ) → 0 < t → between s t f i j ≡ 0
  no_pair t h = tallied-none s quiet.empty t (λ m. is₃ m.finish m.from m.to f i j) (λ m. 1) h

  -- each cell of a live receiver is what it has received and not yet reported; the home's own cell is the main task, until it has ended
  pub quiet_cells : s.books.live f i j + s.locals.reported f j i + ended s f i j ≡ s.locals.received f j i + mainly s f i j
  quiet_cells = bool_cases (s.locals.denied f j i)
      (λ d. omega (arith, inv.counted_denied f i j present lives d, no_reports, no_answers))
      (λ d. bool_cases (s.dead i)
      (λ x. eq_cases (s.books.live f i j) 0
      (λ z. omega (
        arith,
        inv.counted f i j present lives d,
        inv.sent_most f i j present lives,
        inv.reported_most f j i,
        weigh-le (is₂ (s.finishes.home f) (s.finishes.home f) i j) 3 5 (s.finishes.status f),
        no_reports,
      ))
      (λ n. omega (
        arith,
        inv.marked f i j present lives,
        on_true (s.books.asked f i j) 1 (quiet.asked f i j present x (inv.cell_places f i j (omega arith)).1 lives (omega arith)),
        on_false (s.locals.denied f j i) 1 d,
        no_pair 10 (omega arith),
      )))
      (λ x. omega (arith, inv.counted f i j present lives d, inv.sent_from f i j present lives x, no_reports, no_pair 4 (omega arith), no_pair 6 (omega arith))))
