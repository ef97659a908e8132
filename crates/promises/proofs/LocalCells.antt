-- Local books: what each field and each row reads, and what each write does.
use mathlib.Core.Path.{◌≡◌, refl, sym, ap, ◌∙◌}
use mathlib.Core.Bool.{false, cond, ◌||◌}
use mathlib.Core.List.{List}
use Prim.Native.Nat.{ℕ, ◌+◌, ◌-◌, ◌*◌, ◌<◌}
use native.Mathlib.Omega.{arith}
use lib.ListN.{set, length, get_or-eq_default}
use Rattle.tables.specs.Bytes.{byte, part, write}
use Rattle.tables.specs.Bits.{marked, with_mark}
use Rattle.tables.specs.Layout.{Whole, place, local_row}
use Rattle.tables.proofs.Writes.{length_part}
use Rattle.rules.specs.Fields.{received_place, reported_place, local_live_place, deny_place, received, reported, local_live, deny_mask}
use Rattle.rules.specs.End.{received_row, reported_row}
use Rattle.model.specs.Base.Cases.{both}
use Rattle.model.specs.Base.Updates.{upd, is₂, is₃, is₂-cases, is₂_same, is₃_same, is₃_false}
use Rattle.model.specs.State.{State, with_received, with_reported, with_local_live, with_denied}
use Rattle.promises.specs.View.{cell, view, view_of, rows, flat, received_table, reported_table, rest_table}
use Rattle.promises.proofs.Cells.{upd_cell, set_outside, write_outside, cell_in, cell_wide, cell_kept, cell_set, cell-write, run_row, row_is}
use Rattle.promises.proofs.Areas.{received_sits, reported_sits, rest_sits, with_local_rows, locals_become}
use Rattle.promises.proofs.Flat.{flat_in, flat-set, flat_row}
use Rattle.promises.proofs.Seen.{Seen, by_set, by_write, read_cell}
use Rattle.promises.proofs.BookCells.{mark_is}

-- ---- reads
module _ {t : List ℕ} {a : State} (s : Seen t a) (f p : ℕ) (f0 : 0 < f) (f33 : f < 33) (p8 : p < 8) where
  pub read_received : (i : ℕ) → i < 8 → received t f p i ≡ a.locals.received f p i
  unfolding view
  read_received i h =
      let e : received_place f p i ≡ received_table.at (8 * (f - 1) + p) i = omega arith in
      ap (byte t) e ∙ read_cell s received_table (8 * (f - 1) + p) i (λ x. x.locals.received f p i) h (omega arith) (sym (flat_in (cell t received_table) f p i f0 p8))

  pub read_reported : (i : ℕ) → i < 8 → reported t f p i ≡ a.locals.reported f p i
  unfolding view
  read_reported i h =
      let e : reported_place f p i ≡ reported_table.at (8 * (f - 1) + p) i = omega arith in
      ap (byte t) e ∙ read_cell s reported_table (8 * (f - 1) + p) i (λ x. x.locals.reported f p i) h (omega arith) (sym (flat_in (cell t reported_table) f p i f0 p8))

  pub read_local_live : local_live t f p ≡ a.locals.live f p
  unfolding view
  read_local_live =
      let e : local_live_place f p ≡ rest_table.at (8 * (f - 1) + p) 0 = omega arith in
      ap (byte t) e ∙ read_cell s rest_table (8 * (f - 1) + p) 0 (λ x. x.locals.live f p) (omega arith) (omega arith) (sym (flat_in (cell t rest_table) f p 0 f0 p8))

  deny_byte : deny_mask t f p ≡ flat (cell t rest_table) f p 1
  deny_byte =
      let e : deny_place f p ≡ rest_table.at (8 * (f - 1) + p) 1 = omega arith in
      ap (byte t) e ∙ sym (flat_in (cell t rest_table) f p 1 f0 p8 ∙ cell_in rest_table t (8 * (f - 1) + p) 1 (omega arith) (omega arith) (omega arith))

  pub read_denied : (i : ℕ) → marked (deny_mask t f p) i ≡ a.locals.denied f p i
  unfolding view
  read_denied i = rw deny_byte (ap (λ (x : State). x.locals.denied f p i) s.is)

  -- whole rows
  pub read_received_row : (i : ℕ) → byte (received_row t f p) i ≡ a.locals.received f p i
  unfolding view received_row
  read_received_row i =
      let w = s.whole in
      let e : received_place f p 0 ≡ received_table.at (8 * (f - 1) + p) 0 = omega arith in
      ap (λ (k : ℕ). byte (part t k 8) i) e ∙ row_is received_table received_sits t (8 * (f - 1) + p) (omega arith) (omega arith) (omega arith) i
      ∙ sym (flat_in (cell t received_table) f p i f0 p8) ∙ ap (λ (x : State). x.locals.received f p i) s.is

  pub read_reported_row : (i : ℕ) → byte (reported_row t f p) i ≡ a.locals.reported f p i
  unfolding view reported_row
  read_reported_row i =
      let w = s.whole in
      let e : reported_place f p 0 ≡ reported_table.at (8 * (f - 1) + p) 0 = omega arith in
      ap (λ (k : ℕ). byte (part t k 8) i) e ∙ row_is reported_table reported_sits t (8 * (f - 1) + p) (omega arith) (omega arith) (omega arith) i
      ∙ sym (flat_in (cell t reported_table) f p i f0 p8) ∙ ap (λ (x : State). x.locals.reported f p i) s.is

  pub received_row_length : length (received_row t f p) ≡ 8
  unfolding received_row
  received_row_length = let w = s.whole in length_part t (received_place f p 0) 8 (omega arith)

  pub reported_row_length : length (reported_row t f p) ≡ 8
  unfolding reported_row
  reported_row_length = let w = s.whole in length_part t (reported_place f p 0) 8 (omega arith)

-- ---- a key of three of which the last is c, and of which it is not
is₃_last : (a b c x y : ℕ) → is₃ a b c x y c ≡ is₂ a b x y
is₃_last a b c x y = is₂-cases a b x y
    (λ p q. rw (sym p, sym q, is₃_same a b c, is₂_same a b) refl)
    (λ e. rw e (is₃_false a b c x y c (λ p q r. both (rw (sym p, sym q) (is₂_same a b)) e)))

is₃_off : (a b c x y z : ℕ) → (c ≡ z → ⊥) → is₃ a b c x y z ≡ false
is₃_off a b c x y z n = is₃_false a b c x y z (λ p q r. n r)

-- ---- writes, by rows
module _ (t : List ℕ) (whole : Whole t) (f p : ℕ) (f0 : 0 < f) (f33 : f < 33) (p8 : p < 8) where
  set-received : (i v : ℕ) → i < 8 → rows (set t (received_place f p i) v) ≡ with_local_rows (upd_cell (cell t received_table) (8 * (f - 1) + p) i v) (cell t reported_table) (cell t rest_table) (rows t)
  set-received i v h =
      let k = received_place f p i in
      let own = set_outside t k v k (k + 1) (omega arith) (omega arith) in
      locals_become (set_outside t k v 6912 13056 (omega arith) (omega arith)) (cell_set received_table received_sits t (8 * (f - 1) + p) i v k (omega arith) h (omega arith) (omega arith) (omega arith))
      (cell_kept reported_table t (set t k v) k (k + 1) own (λ x y a b c d e. omega arith)) (cell_kept rest_table t (set t k v) k (k + 1) own (λ x y a b c d e. omega arith))

  set_rest : (i v : ℕ) → i < 8 → rows (set t (place (local_row f p) (16 + i)) v) ≡ with_local_rows (cell t received_table) (cell t reported_table) (upd_cell (cell t rest_table) (8 * (f - 1) + p) i v) (rows t)
  set_rest i v h =
      let k = place (local_row f p) (16 + i) in
      let own = set_outside t k v k (k + 1) (omega arith) (omega arith) in
      locals_become (set_outside t k v 6912 13056 (omega arith) (omega arith)) (cell_kept received_table t (set t k v) k (k + 1) own (λ x y a b c d e. omega arith))
      (cell_kept reported_table t (set t k v) k (k + 1) own (λ x y a b c d e. omega arith)) (cell_set rest_table rest_sits t (8 * (f - 1) + p) i v k (omega arith) h (omega arith) (omega arith) (omega arith))

  write-reported : (vs : List ℕ) → length vs ≡ 8 → rows (write t (reported_place f p 0) vs) ≡ with_local_rows (cell t received_table) (upd (cell t reported_table) (8 * (f - 1) + p) (byte vs)) (cell t rest_table) (rows t)
  write-reported vs n =
      let k = reported_place f p 0 in
      let own = write_outside t k vs 8 k (k + 8) n (omega arith) (omega arith) in
      locals_become (write_outside t k vs 8 6912 13056 n (omega arith) (omega arith)) (cell_kept received_table t (write t k vs) k (k + 8) own (λ x y a b c d e. omega arith))
      (cell-write reported_table reported_sits t (8 * (f - 1) + p) 0 8 k vs n (omega arith) (omega arith) (omega arith) (omega arith) (omega arith)
      ∙ run_row (cell t reported_table) (8 * (f - 1) + p) 8 (byte vs) (λ y j g. cell_wide reported_table t y j g) (λ j g. get_or-eq_default vs 0 (omega arith)))
      (cell_kept rest_table t (write t k vs) k (k + 8) own (λ x y a b c d e. omega arith))

-- ---- writes
module _ {t : List ℕ} {a : State} (s : Seen t a) (f p : ℕ) (f0 : 0 < f) (f33 : f < 33) (p8 : p < 8) where
  pub seen_received : (i v : ℕ) → i < 8 → Seen (set t (received_place f p i) v) (with_received (λ x y z. cond (is₃ f p i x y z) v (a.locals.received x y z)) a)
  unfolding view
  seen_received i v h = by_set (λ b. with_received (λ x y z. cond (is₃ f p i x y z) v (b.locals.received x y z)) b) s (received_place f p i) v
      (ap view_of (set-received t s.whole f p f0 f33 p8 i v h) ∙ (λ z. with_received (flat-set (cell t received_table) f p f0 p8 i v z) (view_of (rows t))))

  pub seen_reported : (vs : List ℕ) → length vs ≡ 8 → Seen (write t (reported_place f p 0) vs) (with_reported (λ x y i. cond (is₂ f p x y) (byte vs i) (a.locals.reported x y i)) a)
  unfolding view
  seen_reported vs n = by_write (λ b. with_reported (λ x y i. cond (is₂ f p x y) (byte vs i) (b.locals.reported x y i)) b) s (reported_place f p 0) vs
      (ap view_of (write-reported t s.whole f p f0 f33 p8 vs n) ∙ (λ z. with_reported (flat_row (cell t reported_table) f p f0 p8 (byte vs) z) (view_of (rows t))))

  rest : (i v x y z : ℕ) → flat (upd_cell (cell t rest_table) (8 * (f - 1) + p) i v) x y z ≡ cond (is₃ f p i x y z) v (flat (cell t rest_table) x y z)
  rest i v x y z = ap (λ (r : ℕ → ℕ → ℕ → ℕ). r x y z) (flat-set (cell t rest_table) f p f0 p8 i v)

  pub seen_local_live : (v : ℕ) → Seen (set t (local_live_place f p) v) (with_local_live (λ x y. cond (is₂ f p x y) v (a.locals.live x y)) a)
  unfolding view
  seen_local_live v = by_set (λ b. with_local_live (λ x y. cond (is₂ f p x y) v (b.locals.live x y)) b) s (local_live_place f p) v
      (ap view_of (set_rest t s.whole f p f0 f33 p8 0 v (omega arith)) ∙ (λ z. with_denied (λ x y. marked (denied x y z)) (with_local_live (λ x y. live x y z) (view_of (rows t)))))
    where
      live : (x y : ℕ) → flat (upd_cell (cell t rest_table) (8 * (f - 1) + p) 0 v) x y 0 ≡ cond (is₂ f p x y) v (flat (cell t rest_table) x y 0)
      live x y = rest 0 v x y 0 ∙ rw (is₃_last f p 0 x y) refl

      denied : (x y : ℕ) → flat (upd_cell (cell t rest_table) (8 * (f - 1) + p) 0 v) x y 1 ≡ flat (cell t rest_table) x y 1
      denied x y = rest 0 v x y 1 ∙ rw (is₃_off f p 0 x y 1 (λ q. omega arith)) refl

  pub seen_denied : (i : ℕ) → i < 8 → Seen (set t (deny_place f p) (with_mark (deny_mask t f p) i)) (with_denied (λ x y z. a.locals.denied x y z || is₃ f p i x y z) a)
  unfolding view
  seen_denied i h = by_set (λ b. with_denied (λ x y z. b.locals.denied x y z || is₃ f p i x y z) b) s (deny_place f p) v
      (ap view_of (set_rest t s.whole f p f0 f33 p8 1 v (omega arith))
      ∙ (λ z. with_denied (λ x y. marked (denied x y z)) (with_local_live (λ x y. live x y z) (view_of (rows t))))
      ∙ (λ z. with_denied (λ x y j. marked (cond (is₂ f p x y) (with_mark (deny_byte s f p f0 f33 p8 z) i) (flat (cell t rest_table) x y 1)) j) (view_of (rows t)))
      ∙ (λ z. with_denied (λ x y j. mark_is (λ x y. flat (cell t rest_table) x y 1) f p i x y j h z) (view_of (rows t))))
    where
      v : ℕ
      v = with_mark (deny_mask t f p) i

      denied : (x y : ℕ) → flat (upd_cell (cell t rest_table) (8 * (f - 1) + p) 1 v) x y 1 ≡ cond (is₂ f p x y) v (flat (cell t rest_table) x y 1)
      denied x y = rest 1 v x y 1 ∙ rw (is₃_last f p 1 x y) refl

      live : (x y : ℕ) → flat (upd_cell (cell t rest_table) (8 * (f - 1) + p) 1 v) x y 0 ≡ flat (cell t rest_table) x y 0
      live x y = rest 1 v x y 0 ∙ rw (is₃_off f p 1 x y 0 (λ q. omega arith)) refl
