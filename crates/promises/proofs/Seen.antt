-- Tables of 15,104 bytes that are seen as a state, and how such facts are carried on.
use mathlib.Core.Path.{◌≡◌, refl, sym, ap, ◌∙◌}
use mathlib.Core.List.{List}
use Prim.Native.Nat.{ℕ, ◌≤◌, ◌<◌}
use lib.ListN.{set, length-set}
use Rattle.tables.specs.Bytes.{byte, write}
use Rattle.tables.specs.Layout.{Whole}
use Rattle.tables.proofs.Writes.{length-write}
use Rattle.model.specs.State.{State}
use Rattle.promises.specs.View.{Table, cell, view}
use Rattle.promises.proofs.Cells.{cell_in}

pub record Seen (t : List ℕ) (a : State) : Type 0 where
  pub whole : Whole t
  pub is : view t ≡ a

-- the tables as they are
pub seen : (t : List ℕ) → Whole t → Seen t (view t)
seen t w = record { whole = w; is = refl }

-- the state written otherwise
pub same : {t : List ℕ} {a b : State} → Seen t a → a ≡ b → Seen t b
same s e = record { whole = s.whole; is = s.is ∙ e }

-- a change F of the state
pub by : {t u : List ℕ} {a : State} (F : State → State) → Seen t a → Whole u → view u ≡ F (view t) → Seen u (F a)
by F s w e = record { whole = w; is = e ∙ ap F s.is }

-- a byte and a run of bytes written
pub by_set : {t : List ℕ} {a : State} (F : State → State) → Seen t a → (p v : ℕ) → view (set t p v) ≡ F (view t) → Seen (set t p v) (F a)
by_set {t} F s p v e = by F s (length-set t p v ∙ s.whole) e

pub by_write : {t : List ℕ} {a : State} (F : State → State) → Seen t a → (p : ℕ) (vs : List ℕ) → view (write t p vs) ≡ F (view t) → Seen (write t p vs) (F a)
by_write {t} F s p vs e = by F s (length-write vs t p ∙ s.whole) e

-- a column of a table, as the state has it
pub read_cell : {t : List ℕ} {a : State} → Seen t a → (T : Table) (x j : ℕ) (f : State → ℕ) → j < T.wide → (T.first ≤ x) × (x < T.end) → cell t T x j ≡ f (view t) → byte t (T.at x j) ≡ f a
read_cell {t} s T x j f h r e = sym (cell_in T t x j h r.0 r.1) ∙ e ∙ ap f s.is
