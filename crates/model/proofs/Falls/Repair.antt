-- Adopt, cancel (before its closing test) and ask lower the work.
use Rattle.std.specs.Prelude.{◌≡◌, refl, Bool, true, false, ◌||◌, ℕ, ◌+◌, ◌≤◌, ◌<◌}
use Rattle.std.proofs.Math.Path.{ap}
use Rattle.std.proofs.Common.{arith}
use Rattle.model.specs.Base.{upd_same, upd_other, is₂_same, is₃, is₃_same, or_left, or_right}
use Rattle.model.specs.State.{State, with_asked}
use Rattle.model.specs.Messages.{count_dropped}
use Rattle.model.specs.Guards.{HasBook, Free}
use Rattle.model.specs.Effects.Repair.{adopt, cancel, ask}
use Rattle.model.specs.Inv.{Inv}
use Rattle.model.proofs.Steps.Cancel.{fewer}
use Rattle.model.specs.Work.{way, work}
use Rattle.model.proofs.Falls.Parts.{columns_fall, unasked_fall}
use Rattle.model.proofs.Falls.Books.{slot_work, books_fall, book_is, book_le}

pub adopt_falls : (s : State) (f : ℕ) → HasBook s f → s.books.due f ≡ 1 → work (adopt s f) + 1 ≤ work s
adopt_falls s f has due = books_fall s (adopt s f) refl refl f 1 has.high
    (omega (arith, due, book_is s f has.present, book_is (adopt s f) f has.present, upd_same s.books.due f 0))
    (λ x ne. book_le s (adopt s f).books x refl (omega (arith, upd_other s.books.due f 0 x ne)) (λ i v _. omega arith) (λ i j e. e))

pub cancel_falls : (s : State) (f v i : ℕ) → Inv s → HasBook s f → v < s.places → s.dead v ≡ true → s.books.due f ≡ 0 → 0 < s.books.live f i v → work (cancel s f v) + 1 ≤ work s
cancel_falls s f v i inv has l died due some = books_fall s (cancel s f v) refl refl f 1 has.high
    (omega (
      arith,
      book_is s f has.present,
      book_is (cancel s f v) f has.present,
      columns_fall s.places s.dead (s.books.live f) ((cancel s f v).books.live f) (λ i j _. fewer s f v inv died due f i j) i v (inv.cell_places f i v some).0 l died some (λ i. rw (is₂_same f v)),
    ))
    (λ x ne. book_le s (cancel s f v).books x refl (omega arith) (λ i j _. fewer s f v inv died due x i j) (λ i j e. e))

module _ (s : State) (f v j k : ℕ) (has : HasBook s f) (l : v < s.places) (m : j < s.places) (died : s.dead v ≡ true) (lives : s.dead j ≡ false) (old : s.books.asked f v j ≡ false) (free : Free s k) where
  abbrev asked : ℕ → ℕ → ℕ → Bool
  asked x i y = s.books.asked x i y || is₃ f v j x i y

  abbrev s₁ : State
  s₁ = with_asked asked s

  marks : work s₁ + 3 ≤ work s
  marks = books_fall s s₁ refl refl f 3 has.high
      (omega (
        arith,
        book_is s f has.present,
        book_is s₁ f has.present,
        unasked_fall s.places s.dead (s.books.asked f) (asked f) (λ i y. or_left (s.books.asked f i y) (is₃ f v j f i y)) v j l m died lives old (or_right (s.books.asked f v j) (is₃ f v j f v j) (is₃_same f v j)),
      ))
      (λ x ne. book_le s s₁.books x refl (omega arith) (λ i v _. omega arith) (λ i y. or_left (s.books.asked x i y) (is₃ f v j x i y)))

  -- a question, and its answer, for the pair
  pub ask_falls : work (ask s f v j k) < work s
  unfolding way
  ask_falls = omega (arith, marks, slot_work s₁ k (count_dropped f 0 v j (s.books.sent f v j)) free.range, ap way free.tag)
