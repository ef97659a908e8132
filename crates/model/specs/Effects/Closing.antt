-- The closing test: total 0 and no ghosts. It is one relation, which cancel and the delivers of 7, 9 and 11 end in.
use Rattle.std.specs.Prelude.{◌≡◌, ◌⊎◌, true, false, ℕ, ◌<◌}
use Rattle.model.specs.Base.{upd}
use Rattle.model.specs.State.{State, with_books, with_slot}
use Rattle.model.specs.Messages.{release, ghost_ended}

-- Total 0 and no ghosts.
abbrev pub Closes : State → ℕ → Type 0
Closes s f = ((i j : ℕ) → s.books.live f i j ≡ 0) × ((g : ℕ) → s.books.ghosts f g ≡ false)

-- A count or a ghost is left.
abbrev pub Counts : State → ℕ → Type 0
Counts s f = ((i : ℕ) × (j : ℕ) × (0 < s.books.live f i j)) ⊎ ((g : ℕ) × (s.books.ghosts f g ≡ true))

-- The 18 rows become 0.
abbrev pub without_book : ℕ → State → State
without_book f s =
    let b = s.books in
    with_books (record {
      present = upd b.present f 0;
      parent = upd b.parent f 0;
      due = upd b.due f 0;
      adopted = upd b.adopted f 0;
      ghosts = upd b.ghosts f (λ g. false);
      live = upd b.live f (λ i j. 0);
      sent = upd b.sent f (λ i j. 0);
      asked = upd b.asked f (λ i j. false);
    }) s

-- The closing test of the book of f; what it sends takes slot k. Adopted: ghost-ended (9) goes to the book's parent.
-- Otherwise release (8) if the home lives, nothing if it is dead.
pub data Closing (s : State) (f k : ℕ) : State → Type 0 where
  stays : Counts s f → Closing s f k s
  ends_ghost : Closes s f → s.books.adopted f ≡ 1 → k < s.slots → (s.slot k).tag ≡ 0
      → Closing s f k (with_slot (upd s.slot k (ghost_ended (s.books.parent f) f)) (without_book f s))
  releases : Closes s f → s.books.adopted f ≡ 0 → s.dead (s.finishes.home f) ≡ false → k < s.slots → (s.slot k).tag ≡ 0
      → Closing s f k (with_slot (upd s.slot k (release f)) (without_book f s))
  vanishes : Closes s f → s.books.adopted f ≡ 0 → s.dead (s.finishes.home f) ≡ true → Closing s f k (without_book f s)
