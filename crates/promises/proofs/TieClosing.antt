-- The closing test, and what comes before it: cancel, and deliver of tags 7, 9 and 11.
use mathlib.Core.Path.{◌≡◌, refl, sym, ◌∙◌}
use mathlib.Core.Bool.{true, false, cond}
use mathlib.Core.List.{List}
use Prim.Native.Nat.{ℕ, ◌-◌, ◌≤◌, ◌<◌}
use native.Mathlib.Omega.{arith}
use lib.ListN.{set}
use Rattle.tables.specs.Bytes.{byte}
use Rattle.tables.specs.Walks.{every, some_of}
use Rattle.rules.specs.Fields.{book_place, live, live_place}
use Rattle.rules.specs.Books.{book_of, lowered_column}
use Rattle.rules.specs.Books.{with_book as write_book}
use Rattle.rules.specs.Closing.{closes, closed_book, closing_test, closing_sends}
use Rattle.rules.specs.Messages.{none, release, ghost_ended, send}
use Rattle.rules.specs.Cancel.{cancelled}
use Rattle.rules.specs.Deliver.{without_ghost}
use Rattle.model.specs.Base.Cases.{bool_cases, eq_cases}
use Rattle.model.specs.Base.Updates.{upd, on, on_true, on_false, is₂, is₃, is₃-cases, is₃_same}
use Rattle.model.specs.State.{State, with_live, with_slot}
use Rattle.model.specs.Messages
use Rattle.model.specs.Messages.{tally, tally_is}
use Rattle.model.specs.Effects.Closing.{without_book, Closing, stays, ends_ghost, releases, vanishes}
use Rattle.model.specs.Effects.Repair.{cancel}
use Rattle.model.specs.Effects.Deliver.{deliver_report, deliver_ghost_ended, deliver_dropped}
use Rattle.promises.proofs.Seen.{Seen, same}
use Rattle.promises.proofs.Bytes.{Bytes, bytes_part}
use Rattle.promises.proofs.Rows.{read_dead, read_home}
use Rattle.promises.proofs.Slots.{counts_at, seen_send, read_counts}
use Rattle.promises.proofs.BookCells.{read_adopted, read_book_parent, read_live, seen_live, seen_ghost_ended}
use Rattle.promises.proofs.WholeBooks.{read_book, seen_without_book, seen_cleared, seen_lowered}
use Rattle.promises.proofs.BookTests.{book_closes, book_counts}

book_bytes : {t : List ℕ} → Bytes t → (f : ℕ) → Bytes (book_of t f)
unfolding book_of
book_bytes h f = bytes_part h (book_place f) 144

-- The closing test is the model's, on tables of bytes; what it sends finds its slot empty.
pub tie_closing : {t : List ℕ} {a : State} → Seen t a → (f k : ℕ) → 0 < f → f < 33 → Bytes t → a.books.adopted f ≤ 1
    → (closing_sends t f ≡ true → (k < a.slots) × (k < 128) × ((a.slot k).tag ≡ 0)) → (s' : State) × Seen (closing_test t f k) s' × Closing a f k s'
unfolding closing_test closed_book closing_sends every some_of
tie_closing {t} {a} s f k f0 f33 small mark free = bool_cases (closes (book_of t f))
    (λ c. let is = read_book s f f0 f33 in let ends = book_closes is c in let gone = seen_without_book s f f0 f33 in
    rw (c, read_adopted s f f0 f33, read_home s f f0 f33, read_dead s (a.finishes.home f), read_book_parent s f f0 f33)
    (eq_cases (a.books.adopted f) 1
    (λ y. let r = free (rw (c, read_adopted s f f0 f33, y) refl) in
    rw y (with_slot (upd a.slot k (Messages.ghost_ended (a.books.parent f) f)) (without_book f a), seen_send gone k r.1 (ghost_ended (a.books.parent f) f) tt, ends_ghost ends y r.0 r.2))
    (λ n. let y : a.books.adopted f ≡ 0 = omega arith in bool_cases (a.dead (a.finishes.home f))
    (λ d. rw (y, d) (without_book f a, gone, vanishes ends y d))
    (λ d. let r = free (rw (c, read_adopted s f f0 f33, y, read_home s f f0 f33, read_dead s (a.finishes.home f), d) refl) in
    rw (y, d) (with_slot (upd a.slot k (Messages.release f)) (without_book f a), seen_send gone k r.1 (release f) tt, releases ends y d r.0 r.2)))))
    (λ c. rw c (a, s, stays (book_counts (read_book s f f0 f33) (book_bytes small f) c)))

pub tie_cancelled : {t : List ℕ} {a : State} → Seen t a → (f v : ℕ) → 0 < f → f < 33 → v < 8 → Seen (cancelled t f v) (cancel a f v)
unfolding cancelled
tie_cancelled s f v f0 f33 v8 = seen_cleared s f v f0 f33 v8

-- a cell lowered by n
lower₃ : (g : ℕ → ℕ → ℕ → ℕ) (a b c n x y z : ℕ) → cond (is₃ a b c x y z) (g a b c - n) (g x y z) ≡ g x y z - on (is₃ a b c x y z) n
lower₃ g a b c n x y z = is₃-cases a b c x y z
    (λ p q r. rw (sym p, sym q, sym r, is₃_same a b c, on_true true n refl) refl)
    (λ e. rw (e, on_false false n refl) (omega arith))

module _ {t : List ℕ} {a : State} (s : Seen t a) (k : ℕ) (k128 : k < 128) (f : ℕ) (is_finish : (a.slot k).finish ≡ f) (f0 : 0 < f) (f33 : f < 33) where
  pub tie_report : (v : ℕ) → (a.slot k).tag ≡ 7 → (a.slot k).from ≡ v → v < 8
      → Seen (send (write_book t f (lowered_column (book_of t f) v (counts_at t k))) k none) (deliver_report a k)
  tie_report v tag is-from v8 = same (seen_send (seen_lowered s f v f0 f33 v8 (counts_at t k)) k k128 none tt)
      (λ z. with_slot (upd a.slot k Messages.none) (with_live (λ x i j. cells x i j z) a))
    where
      cells : (x i j : ℕ) → a.books.live x i j - on (is₂ f v x j) (byte (counts_at t k) i) ≡ a.books.live x i j - tally 7 (a.slot k) (is₂ (a.slot k).finish (a.slot k).from x j) ((a.slot k).counts i)
      cells x i j = rw (tally_is 7 (a.slot k) (is₂ (a.slot k).finish (a.slot k).from x j) ((a.slot k).counts i) tag, is_finish, is-from, read_counts s k k128 i) refl

  pub tie_ghost_ended : (g : ℕ) → (a.slot k).number ≡ g → 0 < g → g < 33 → Seen (send (without_ghost t f g) k none) (deliver_ghost_ended a k)
  tie_ghost_ended g is_number g0 g33 = rw (is_finish, is_number) (seen_send (seen_ghost_ended s f f0 f33 g g0 g33) k k128 none tt)

  pub tie_dropped : (v j n : ℕ) → (a.slot k).tag ≡ 11 → (a.slot k).from ≡ v → (a.slot k).to ≡ j → (a.slot k).number ≡ n → v < 8 → j < 8
      → Seen (send (set t (live_place f v j) (live t f v j - n)) k none) (deliver_dropped a k)
  tie_dropped v j n tag is-from is-to is_number v8 j8 =
      rw (read_live s f f0 f33 v j v8 j8)
      (same (seen_send (seen_live s f f0 f33 v v8 j (a.books.live f v j - n) j8) k k128 none tt)
      (λ z. with_slot (upd a.slot k Messages.none) (with_live (λ x y w. cells x y w z) a)))
    where
      cells : (x y w : ℕ) → cond (is₃ f v j x y w) (a.books.live f v j - n) (a.books.live x y w)
          ≡ a.books.live x y w - tally 11 (a.slot k) (is₃ (a.slot k).finish (a.slot k).from (a.slot k).to x y w) (a.slot k).number
      cells x y w = lower₃ a.books.live f v j n x y w
          ∙ rw (tally_is 11 (a.slot k) (is₃ (a.slot k).finish (a.slot k).from (a.slot k).to x y w) (a.slot k).number tag, is_finish, is-from, is-to, is_number) refl
