-- What messages and books still have to do: the number that falls at every deliver, adopt, cancel and ask.
use Rattle.std.specs.Prelude.{Bool, false, cond, ◌&&◌, ◌||◌, not, ℕ, suc, ◌+◌, ◌*◌, eqb}
use Rattle.model.specs.Base.{on, sum}
use Rattle.model.specs.State.{State}
use Rattle.model.specs.Effects.Kill.{empty_column}

-- How far a message has to go: 1 → 2 → 3 → 4 → 6 and 10 → 11; every other tag goes no further.
unfoldable pub way : ℕ → ℕ
way tag = cond (eqb tag 0) 0 (cond (eqb tag 1) 5 (cond (eqb tag 2) 4 (cond (eqb tag 3) 3 (cond (eqb tag 4 || eqb tag 10) 2 1))))

abbrev pub message_work : State → ℕ
message_work s = sum s.slots (λ k. way (s.slot k).tag)

-- pairs of a dead sender and a live receiver, of n places, not yet asked
unfoldable pub unasked : ℕ → (ℕ → Bool) → (ℕ → ℕ → Bool) → ℕ
unasked n dead asked = sum n (λ i. sum n (λ j. on (dead i && (not (dead j) && not (asked i j))) 1))

-- dead places whose column is not all 0
unfoldable pub dead_columns : ℕ → (ℕ → Bool) → (ℕ → ℕ → ℕ) → ℕ
dead_columns n dead live = sum n (λ v. on (dead v && not (empty_column n live v)) 1)

-- a finish that may yet get a book: unpublished, active or publishing
unfoldable pub fresh : ℕ → ℕ → Bool
fresh published status = eqb published 0 && (eqb status 1 || eqb status 2)

-- A book's closing; its adopt; a cancel for each dead column; for each pair an ask and the two messages that follow it.
unfoldable pub book_work : State → ℕ → ℕ
book_work s f =
    cond (eqb (s.books.present f) 1)
    (1 + s.books.due f + dead_columns s.places s.dead (s.books.live f) + 3 * unasked s.places s.dead (s.books.asked f))
    (cond (fresh (s.finishes.published f) (s.finishes.status f)) (1 + 3 * unasked s.places s.dead (λ i j. false)) 0)

abbrev pub books_work : State → ℕ
books_work s = sum (suc s.finishes.made) (book_work s)

unfoldable pub work : State → ℕ
work s = message_work s + books_work s

-- tasks that have ended
unfoldable pub ended_tasks : State → ℕ
ended_tasks s = sum (suc s.tasks.made) (λ t. on (eqb (s.tasks.status t) 7) 1)
