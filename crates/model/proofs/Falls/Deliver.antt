-- Deliver, but for the message: no book gets more to do.
use Rattle.std.specs.Prelude.{◌≡◌, refl, true, false, ℕ, ◌≤◌}
use Rattle.std.proofs.Common.{sym, ap, ◌∙◌, arith}
use Rattle.model.specs.Base.{upd, upd_same, upd_other, on, on_false, is₂, is₂_false, eq_cases, both}
use Rattle.model.specs.State.{State, with_tasks, with_finish_status, with_published, with_live, with_sent, Tasks}
use Rattle.model.specs.Effects.Deliver.{with_book}
use Rattle.model.specs.Inv.{Inv}
use Rattle.model.specs.Work.{unasked, dead_columns, book_work, work}
use Rattle.model.proofs.Falls.Parts.{columns_none}
use Rattle.model.proofs.Falls.Books.{books_le, book_is, book_comes, book_over, book_le}

-- a book of f is made, its home alive: it was to come
module _ (s : State) (f q : ℕ) (inv : Inv s) (status : s.finishes.status f ≡ 2) (absent : s.books.present f ≡ 0) where
  abbrev h : ℕ
  h = s.finishes.home f

  abbrev b : State
  b = with_book f h q s

  new : book_work b f ≤ book_work s f
  new = omega (
    arith,
    book_comes s f absent (inv.publishing f status).1 status,
    book_is b f (upd_same s.books.present f 1),
    upd_same s.books.due f 0,
    ap (λ l. dead_columns s.places s.dead l) (upd_same s.books.live f (λ i j. on (is₂ h h i j) 1)),
    columns_none s.places s.dead (λ i j. on (is₂ h h i j) 1) (λ i v d. on_false (is₂ h h i v) 1 (is₂_false h h i v (λ _ e. both d (ap s.dead (sym e) ∙ (inv.publishing f status).0)))),
    ap (λ a. unasked s.places s.dead a) (upd_same s.books.asked f (λ i j. false)),
  )

  other : (x : ℕ) → (x ≡ f → ⊥) → book_work b x ≤ book_work s x
  unfolding book_work
  other x ne = simp upd_other (omega arith)

  pub publish-work : work (with_book f (s.finishes.home f) q s) ≤ work s
  publish-work = books_le s b refl refl (λ x. eq_cases x f (λ e. rw e new) (λ ne. other x ne))

-- the row of the finish f is written, and its own book has no more to do
module _ (s : State) (T : Tasks) (published : ℕ → ℕ) (f v : ℕ) (kept : (x : ℕ) → (x ≡ f → ⊥) → published x ≡ s.finishes.published x) where
  abbrev turned : State
  turned = with_tasks T (with_published published (with_finish_status (upd s.finishes.status f v) s))

  unturned : (x : ℕ) → (x ≡ f → ⊥) → book_work turned x ≤ book_work s x
  unfolding book_work
  unturned x ne = simp (upd_other, kept) (omega arith)

  turned-work : book_work turned f ≤ book_work s f → work turned ≤ work s
  turned-work h = books_le s turned refl refl (λ x. eq_cases x f (λ e. rw e h) (λ ne. unturned x ne))

  -- it has a book
  turned-present : s.books.present f ≡ 1 → book_work turned f ≤ book_work s f
  turned-present e = omega (arith, book_is s f e, book_is turned f e)

-- active and published, with a book
pub published-work : (s : State) (T : Tasks) (f : ℕ) → s.books.present f ≡ 1
    → work (with_tasks T (with_published (upd s.finishes.published f 1) (with_finish_status (upd s.finishes.status f 1) s))) ≤ work s
published-work s T f present =
    let kept = upd_other s.finishes.published f 1 in
    turned-work s T (upd s.finishes.published f 1) f 1 kept (turned-present s T (upd s.finishes.published f 1) f 1 kept present)

-- released, with a book or none
pub release-work : (s : State) (T : Tasks) (f : ℕ) → s.books.present f ≤ 1 → work (with_tasks T (with_finish_status (upd s.finishes.status f 4) s)) ≤ work s
release-work s T f mark = turned-work s T s.finishes.published f 4 (λ _ _. refl) (eq_cases (s.books.present f) 1
    (turned-present s T s.finishes.published f 4 (λ _ _. refl))
    (λ n. omega (arith, book_over (turned s T s.finishes.published f 4 (λ _ _. refl)) f (omega arith) (omega (arith, upd_same s.finishes.status f 4)))))

-- live counts of dead places do not rise
pub live-work : (s : State) (live sent : ℕ → ℕ → ℕ → ℕ) → ((f i v : ℕ) → s.dead v ≡ true → live f i v ≤ s.books.live f i v) → work (with_live live (with_sent sent s)) ≤ work s
live-work s live sent h = books_le s (with_live live (with_sent sent s)) refl refl (λ x. book_le s (with_live live (with_sent sent s)).books x refl (omega arith) (h x) (λ i j e. e))
