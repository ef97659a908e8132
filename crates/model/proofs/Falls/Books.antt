-- What a change of the slots and of the books does to the work.
use Rattle.std.specs.Prelude.{◌≡◌, Bool, true, false, ℕ, suc, ◌+◌, ◌*◌, ◌≤◌, ◌<◌}
use Rattle.std.proofs.Math.Path.{ap}
use Rattle.std.proofs.Common.{arith, ne_eqb}
use Rattle.model.specs.Base.{sum_falls, upd, sum, sum-upd, eq_cases}
use Rattle.model.specs.State.{State, Message, Tasks, Books, Locals, with_tasks, with_books, with_ghosts, with_locals, with_slot}
use Rattle.model.specs.Work.{way, message_work, unasked, dead_columns, fresh, book_work, work}
use Rattle.model.proofs.Adds.Acts.{not-fresh}
use Rattle.model.proofs.Falls.Parts.{columns_le, unasked-le}

-- a message written into slot k
pub slot_work : (s : State) (k : ℕ) (m : Message) → k < s.slots → work (with_slot (upd s.slot k m) s) + way (s.slot k).tag ≡ work s + way m.tag
unfolding work book_work
slot_work s k m l = omega (arith, sum-upd s.slots (λ _ m. way m.tag) s.slot k m l)

-- the messages as they were: no book's work rises, and that of f falls by c
module _ (s s' : State) (messages : message_work s' ≡ message_work s) (made : s'.finishes.made ≡ s.finishes.made) where
  pub books_fall : (f c : ℕ) → f ≤ s.finishes.made → book_work s' f + c ≤ book_work s f → ((x : ℕ) → (x ≡ f → ⊥) → book_work s' x ≤ book_work s x) → work s' + c ≤ work s
  unfolding work
  books_fall f c l d h = omega (arith, messages, ap (λ n. sum (suc n) (book_work s')) made, sum_falls (suc s.finishes.made) c (book_work s) (book_work s') f (omega arith) d (λ x _. h x))

  pub books_le : ((x : ℕ) → book_work s' x ≤ book_work s x) → work s' ≤ work s
  books_le h = omega (arith, books_fall 0 0 (omega arith) (omega (arith, h 0)) (λ x _. h x))

module _ (s : State) (f : ℕ) where
  -- a present book
  pub book_is : s.books.present f ≡ 1
      → book_work s f ≡ 1 + s.books.due f + dead_columns s.places s.dead (s.books.live f) + 3 * unasked s.places s.dead (s.books.asked f)
  unfolding book_work
  book_is e = rw e

  -- no book, but one is to come; no book ever
  pub book_comes : s.books.present f ≡ 0 → s.finishes.published f ≡ 0 → s.finishes.status f ≡ 2
      → book_work s f ≡ 1 + 3 * unasked s.places s.dead (λ i j. false)
  unfolding book_work fresh
  book_comes e p q = rw (e, p, q)

  pub book_over : s.books.present f ≡ 0 → 3 ≤ s.finishes.status f → book_work s f ≡ 0
  unfolding book_work
  book_over e l = rw (e, not-fresh (s.finishes.published f) (s.finishes.status f) l)

-- a book's marks and counts that do not rise
pub book_le : (s : State) (b : Books) (x : ℕ) → b.present x ≡ s.books.present x → b.due x ≤ s.books.due x
    → ((i v : ℕ) → s.dead v ≡ true → b.live x i v ≤ s.books.live x i v) → ((i j : ℕ) → s.books.asked x i j ≡ true → b.asked x i j ≡ true)
    → book_work (with_books b s) x ≤ book_work s x
unfolding book_work
book_le s b x present due live asked = rw present (eq_cases (s.books.present x) 1
    (λ e. rw e (omega (arith, due, columns_le s.places s.dead (s.books.live x) (b.live x) live, unasked-le s.places s.dead (s.books.asked x) (b.asked x) asked)))
    (λ n. rw (ne_eqb (s.books.present x) 1 n) (omega arith)))

-- tasks, local books and ghosts are not read
pub unread_work : (s : State) (T : Tasks) (l : Locals) (ghosts : ℕ → ℕ → Bool) → work (with_tasks T (with_locals l (with_ghosts ghosts s))) ≤ work s
unfolding work book_work
unread_work s T l ghosts = omega arith

-- a message of tag n gives way to one that has less far to go, and the books have no more to do
pub message_falls : {n : ℕ} (s s₁ : State) (k : ℕ) (m : Message) → work s₁ ≤ work s → k < s₁.slots → (s₁.slot k).tag ≡ n → way m.tag < way n
    → work (with_slot (upd s₁.slot k m) s₁) < work s
message_falls s s₁ k m le l e less = omega (arith, slot_work s₁ k m l, ap way e)
