-- The closing test makes no work: a book that goes takes its own with it, and leaves one message at most.
use Rattle.std.specs.Prelude.{◌≡◌, refl, ℕ, ◌+◌, ◌≤◌, ◌<◌}
use Rattle.std.proofs.Math.Path.{ap}
use Rattle.std.proofs.Common.{arith}
use Rattle.model.specs.Base.{upd, upd_same, upd_other}
use Rattle.model.specs.State.{State, Message, with_slot}
use Rattle.model.specs.Messages.{release, ghost_ended}
use Rattle.model.specs.Effects.Closing.{Closes, Closing, without_book, stays, ends_ghost, releases, vanishes}
use Rattle.model.specs.Inv.{InvBut}
use Rattle.model.proofs.Facts.Closed.{over}
use Rattle.model.specs.Work.{way, book_work, work}
use Rattle.model.proofs.Falls.Books.{slot_work, books_fall, book_is, book_over}

module _ (s : State) (f : ℕ) (inv : InvBut f s) (present : s.books.present f ≡ 1) (closes : Closes s f) where
  other : (x : ℕ) → (x ≡ f → ⊥) → book_work (without_book f s) x ≤ book_work s x
  unfolding book_work
  other x ne = simp upd_other (omega arith)

  goes : work (without_book f s) + 1 ≤ work s
  goes = books_fall s (without_book f s) refl refl f 1 (inv.book_made f present).1
      (omega (arith, book_is s f present, book_over (without_book f s) f (upd_same s.books.present f 0) (over s inv f present closes))) other

  -- a message that goes no further
  sends : (k : ℕ) (m : Message) → k < s.slots → (s.slot k).tag ≡ 0 → way m.tag ≡ 1 → work (with_slot (upd s.slot k m) (without_book f s)) ≤ work s
  unfolding way
  sends k m l free last = omega (arith, goes, slot_work (without_book f s) k m l, ap way free)

pub closing_work : {f k : ℕ} {s s' : State} → InvBut f s → s.books.present f ≡ 1 → Closing s f k s' → work s' ≤ work s
unfolding way
closing_work inv present (stays c) = omega arith
closing_work {f} {k} {s = s} inv present (ends_ghost c a l e) = sends s f inv present c k (ghost_ended (s.books.parent f) f) l e refl
closing_work {f} {k} {s = s} inv present (releases c a h l e) = sends s f inv present c k (release f) l e refl
closing_work {f} {s = s} inv present (vanishes c a h) = omega (arith, goes s f inv present c)
