-- What a kill adds to the work left: to each finish its adopt, the column of the dead place, and a question to each live place. Messages only vanish.
use Rattle.std.specs.Prelude.{◌≡◌, refl, Bool, false, ◌&&◌, ℕ, suc, ◌+◌, ◌*◌, ◌≤◌, eqb}
use Rattle.std.proofs.Math.Bool.{true, not}
use native.Mathlib.Omega.{arith}
use Rattle.model.specs.Base.{sum_rise, sum_but, upd, upd_other, upd-cases, on, on-le, sum, sum_mono, sum_most, cond_cases, both}
use Rattle.model.specs.State.{State}
use Rattle.model.specs.Messages.{none, goes_to}
use Rattle.model.specs.Effects.Kill.{loses_finish, empty_column, due_after, kill}
use Rattle.model.specs.Step.{Kill, kills}
use Rattle.model.specs.Work.{way, message_work, unasked, dead_columns, fresh, book_work, books_work, work}
use Rattle.model.proofs.Adds.Acts.{way-none, not-fresh, WereFresh, case_adds}

due_adds : (n present : ℕ) (live : ℕ → ℕ → ℕ) (due p : ℕ) → due_after n present live due p ≤ due + 1
unfolding due_after
due_adds n present live due p = cond_cases (λ w. w ≤ due + 1) (eqb present 1 && not (empty_column n live p)) 1 due (λ _. omega arith) (λ _. omega arith)

-- a dead place is asked nothing
to_dead : (b c : Bool) → on (b && (not true && c)) 1 ≡ 0
unfolding on
to_dead true c = refl
to_dead false c = refl

module _ (n : ℕ) (dead : ℕ → Bool) (p : ℕ) where
  columns_add : (live : ℕ → ℕ → ℕ) → dead_columns n (upd dead p true) live ≤ dead_columns n dead live + 1
  unfolding dead_columns
  columns_add live = sum_but n 1 (λ v. on (dead v && not (empty_column n live v)) 1) (λ v. on (upd dead p true v && not (empty_column n live v)) 1) p
      (omega (arith, on-le (upd dead p true p && not (empty_column n live p)) 1))
      (λ v _ ne. rw (upd_other dead p true v ne) (omega arith))

  row_falls : (asked : ℕ → Bool) (b : Bool) → sum n (λ j. on (b && (not (upd dead p true j) && not (asked j))) 1) ≤ sum n (λ j. on (b && (not (dead j) && not (asked j))) 1)
  row_falls asked b = sum_mono n (λ j. on (b && (not (upd dead p true j) && not (asked j))) 1) (λ j. on (b && (not (dead j) && not (asked j))) 1)
      (λ j _. upd-cases dead (λ w. on (b && (not w && not (asked j))) 1 ≤ on (b && (not (dead j) && not (asked j))) 1) p true j
      (λ _. omega (arith, to_dead b (not (asked j))))
      (λ _. omega arith))

  asks_add : (asked : ℕ → ℕ → Bool) → unasked n (upd dead p true) asked ≤ unasked n dead asked + n
  unfolding unasked
  asks_add asked = sum_but n n
      (λ i. sum n (λ j. on (dead i && (not (dead j) && not (asked i j))) 1))
      (λ i. sum n (λ j. on (upd dead p true i && (not (upd dead p true j) && not (asked i j))) 1)) p
      (omega (
        arith,
        sum_most n (λ j. on (upd dead p true p && (not (upd dead p true j) && not (asked p j))) 1) (λ j _. on-le (upd dead p true p && (not (upd dead p true j) && not (asked p j))) 1),
      ))
      (λ i _ ne. rw (upd_other dead p true i ne) (row_falls (asked i) (dead i)))

module _ (s : State) (p : ℕ) where
  -- a finish that is lost is not fresh
  were_fresh : WereFresh s (kill s p).finishes.status
  were_fresh f = cond_cases (λ w. fresh (s.finishes.published f) w ≡ true → fresh (s.finishes.published f) (s.finishes.status f) ≡ true)
      (loses_finish p (s.finishes.home f) (s.finishes.status f)) 5 (s.finishes.status f)
      (λ _ e. both e (not-fresh (s.finishes.published f) 5 (omega arith)))
      (λ _ e. e)

  book_adds : (f : ℕ) → book_work (kill s p) f ≤ book_work s f + (2 + 3 * s.places)
  unfolding book_work
  book_adds f =
      let n = s.places in
      let d = due_adds n (s.books.present f) (s.books.live f) (s.books.due f) p in
      let c = columns_add n s.dead p (s.books.live f) in
      let a = asks_add n s.dead p (s.books.asked f) in
      let b = asks_add n s.dead p (λ i j. false) in
      case_adds (eqb (s.books.present f) 1) (fresh (s.finishes.published f) ((kill s p).finishes.status f)) (fresh (s.finishes.published f) (s.finishes.status f)) _ _ _ _ (2 + 3 * n)
      (omega arith) (omega arith) (were_fresh f)

  books_add : books_work (kill s p) ≤ books_work s + suc s.finishes.made * (2 + 3 * s.places)
  books_add = sum_rise (suc s.finishes.made) (2 + 3 * s.places) (book_work s) (book_work (kill s p)) (λ f _. book_adds f)

  messages_fall : message_work (kill s p) ≤ message_work s
  messages_fall = sum_mono s.slots (λ k. way ((kill s p).slot k).tag) (λ k. way (s.slot k).tag)
      (λ k _. cond_cases (λ m. way m.tag ≤ way (s.slot k).tag) (goes_to s.finishes.home (s.slot k) p) none (s.slot k) (λ _. omega (arith, way-none)) (λ _. omega arith))

pub kill_adds : {s : State} {p : ℕ} {s' : State} → Kill s p s' → work s' ≤ work s + suc s.finishes.made * (2 + 3 * s.places)
unfolding work
kill_adds {s} {p = p} (kills a b c) = omega (arith, messages_fall s p, books_add s p)
