-- The walks of kill: tasks, finishes, store books, local books and slots.
use mathlib.Core.Path.{◌≡◌, refl, sym, ap, ◌∙◌, fun_ext}
use mathlib.Core.Bool.{Bool, true, false, cond, ◌&&◌, not, and-false}
use mathlib.Core.Logic.{◌⊎◌, inl, inr}
use mathlib.Core.List.{List, [], ◌∷◌}
use Prim.Native.Nat.{ℕ, zero, suc, ◌+◌, ◌-◌, ◌*◌, ◌%◌, ◌≤◌, ◌<◌}
use native.Mathlib.Nat.{zero-add}
use native.Mathlib.Omega.{arith}
use lib.Dec.{eqb, ltb, leb}
use lib.ListN.{replicate}
use borrow.Author.Tests.{ne_eqb, ltb-true, ltb-false, leb-true, le-leb}
use Rattle.tables.specs.Bytes.{byte, part}
use Rattle.tables.specs.Bits.{marked}
use Rattle.tables.specs.Walks.{every, change_parts}
use Rattle.tables.specs.Layout.{place, task_row, finish_row, local_row}
use Rattle.tables.proofs.Changes.{length_change}
use Rattle.rules.specs.Fields.{book_place, home}
use Rattle.rules.specs.Books.{book_of, column}
use Rattle.rules.specs.Messages.{message_in, slot_place}
use Rattle.rules.specs.Messages.{goes_to as place_of}
use Rattle.rules.specs.Kill.{kill_task, kill_finish, kill_book, kill_local, kill_slot}
use Rattle.rules.specs.Kill.{loses_task as task_test, loses_finish as finish_test}
use Rattle.model.specs.Base.Cases.{bool_cases, eq_cases, both, and_left, and_right}
use Rattle.model.specs.Base.Sums.{sum, sum-suc}
use Rattle.model.specs.State.{State, with_task_status, with_finish_status, with_books, with_due, with_locals, with_slot}
use Rattle.model.specs.Messages.{none, goes_to}
use Rattle.model.specs.Effects.Kill.{loses_task, loses_finish, empty_column, due_after}
use Rattle.model.specs.Inv.Rows.{StatusMade, BlankFinishes}
use Rattle.model.specs.Inv.Cells.{CellPlaces}
use Rattle.promises.specs.View.{cell, view, view_of, rows, flat, message_of, task_table, finish_table, book_table, live_table, sent_table, asked_table, received_table, reported_table, rest_table, slot_table}
use Rattle.promises.proofs.Cells.{change_outside, cell_out}
use Rattle.promises.proofs.Walks.{its_byte, walk_set, walk_clear}
use Rattle.promises.proofs.Areas.{tasks_become, finishes_become, locals_become, slots_become}
use Rattle.promises.proofs.Flat.{flat_clear}
use Rattle.promises.proofs.Seen.{Seen, by, same}
use Rattle.promises.proofs.BookCells.{ghost_same}
use Rattle.promises.proofs.BookBytes.{no_marks}
use Rattle.promises.proofs.WholeBooks.{read_book}
use Rattle.promises.proofs.BookTests.{column-sum}
use Rattle.promises.proofs.Keeps.{task_keeps, finish_keeps, local_keeps, slot_keeps}
use Rattle.promises.proofs.BookWalk.{book_walk, walked_whole}
use Rattle.promises.proofs.Tests.{loses_task_lem, loses_finish_lem, goes_to_lem, every_two}

positive : (x : ℕ) → (x ≡ 0 → ⊥) → 0 < x
positive x n = omega arith

-- ---- tasks and finishes: a made row is walked, another has nothing to lose
module _ {t : List ℕ} {a : State} (s : Seen t a) (p : ℕ) where
  abbrev task_walk : List ℕ
  task_walk = change_parts (kill_task p) 8 1 a.tasks.made (place (task_row 1) 0) t

  pub seen_kill_tasks : a.tasks.made ≤ 255 → StatusMade a
      → Seen task_walk (with_task_status (λ k. cond (loses_task p (a.tasks.from k) (a.tasks.at k) (a.tasks.status k)) 8 (a.tasks.status k)) a)
  unfolding view kill_task loses_task
  seen_kill_tasks most made =
      let w = s.whole in
      by (λ x. with_task_status (λ k. cond (loses_task p (x.tasks.from k) (x.tasks.at k) (x.tasks.status k)) 8 (x.tasks.status k)) x) s
      (length_change (kill_task p) 8 (task_keeps p) n 1 8 t (omega arith) ∙ w)
      (ap view_of (tasks_become (change_outside (kill_task p) 8 (task_keeps p) n 1 8 t 8 2048 (omega arith) (omega arith) (omega arith))
      (walk_set task_table 8 1 n 8 t (omega arith) (λ k. k - 1) (λ k. 0) (λ k j x y z. omega arith) 3 (λ m k. cond (task_test p (byte m 0) (byte m 1) (byte m 3)) 8 (byte m 3)) (omega arith)))
      ∙ (λ z. with_task_status (λ k. at k z) (view_of (rows t))))
    where
      n : ℕ
      n = a.tasks.made

      m : ℕ → List ℕ
      m k = part t (8 + 8 * (k - 1)) 8

      low : (k j : ℕ) → 0 < k → k < 256 → j < 8 → byte (m k) (0 + j) ≡ cell t task_table k j
      low k j x y z = let w = s.whole in its_byte task_table 8 1 n 8 t (omega arith) (λ k. k - 1) (λ k. 0) (λ k j x y z. omega arith) k j z x y

      blank : (k : ℕ) → ((leb 1 k && ltb k 256) && ltb (k - 1) n) ≡ false → cell t task_table k 3 ≡ 0
      blank k e = bool_cases (leb 1 k && ltb k 256)
          (λ y. let k0 = leb-true 1 k (and_left (leb 1 k) (ltb k 256) y) in
          bool_cases (ltb (k - 1) n) (λ l. both (rw (y, l) refl) e) (λ l. let g = ltb-false (k - 1) n l in
          eq_cases (cell t task_table k 3) 0 (λ z. z) (λ z. let r = made k (rw (ap (λ (x : State). x.tasks.status k) s.is) at (positive (cell t task_table k 3) z)) in absurd (omega (arith, r.1)))))
          (λ y. cell_out task_table t k 3 y)

      at : (k : ℕ) → cond ((leb 1 k && ltb k 256) && ltb (k - 1) n) (cond (task_test p (byte (m k) 0) (byte (m k) 1) (byte (m k) 3)) 8 (byte (m k) 3)) (cell t task_table k 3)
          ≡ cond (loses_task p (cell t task_table k 0) (cell t task_table k 1) (cell t task_table k 3)) 8 (cell t task_table k 3)
      at k = bool_cases ((leb 1 k && ltb k 256) && ltb (k - 1) n)
          (λ e. let y = and_left (leb 1 k && ltb k 256) (ltb (k - 1) n) e in
          let k0 = leb-true 1 k (and_left (leb 1 k) (ltb k 256) y) in let k256 = ltb-true k 256 (and_right (leb 1 k) (ltb k 256) y) in
          rw (e, low k 0 k0 k256 (omega arith), low k 1 k0 k256 (omega arith), low k 3 k0 k256 (omega arith), loses_task_lem p (cell t task_table k 0) (cell t task_table k 1) (cell t task_table k 3)) refl)
          (λ e. rw (e, blank k e) refl)

  abbrev finish_walk : List ℕ
  finish_walk = change_parts (kill_finish p) 8 1 a.finishes.made (place (finish_row 1) 0) t

  pub seen_kill_finishes : 0 < p → a.finishes.made ≤ 32 → BlankFinishes a
      → Seen finish_walk (with_finish_status (λ f. cond (loses_finish p (a.finishes.home f) (a.finishes.status f)) 5 (a.finishes.status f)) a)
  unfolding view kill_finish loses_finish
  seen_kill_finishes pos most blank =
      let w = s.whole in
      by (λ x. with_finish_status (λ f. cond (loses_finish p (x.finishes.home f) (x.finishes.status f)) 5 (x.finishes.status f)) x) s
      (length_change (kill_finish p) 8 (finish_keeps p) n 1 2048 t (omega arith) ∙ w)
      (ap view_of (finishes_become (change_outside (kill_finish p) 8 (finish_keeps p) n 1 2048 t 2048 2304 (omega arith) (omega arith) (omega arith))
      (walk_set finish_table 8 1 n 2048 t (omega arith) (λ f. f - 1) (λ f. 0) (λ f j x y z. omega arith) 3 (λ m f. cond (finish_test p (byte m 0) (byte m 3)) 5 (byte m 3)) (omega arith)))
      ∙ (λ z. with_finish_status (λ f. at f z) (view_of (rows t))))
    where
      n : ℕ
      n = a.finishes.made

      m : ℕ → List ℕ
      m f = part t (2048 + 8 * (f - 1)) 8

      low : (f j : ℕ) → 0 < f → f < 33 → j < 8 → byte (m f) (0 + j) ≡ cell t finish_table f j
      low f j x y z = let w = s.whole in its_byte finish_table 8 1 n 2048 t (omega arith) (λ f. f - 1) (λ f. 0) (λ f j x y z. omega arith) f j z x y

      homeless : (f : ℕ) → ((leb 1 f && ltb f 33) && ltb (f - 1) n) ≡ false → cell t finish_table f 0 ≡ 0
      homeless f e = bool_cases (leb 1 f && ltb f 33)
          (λ y. bool_cases (ltb (f - 1) n) (λ l. both (rw (y, l) refl) e) (λ l. let g = ltb-false (f - 1) n l in
          ap (λ (x : State). x.finishes.home f) s.is ∙ (blank f (λ q r. omega arith)).0))
          (λ y. cell_out finish_table t f 0 y)

      at : (f : ℕ) → cond ((leb 1 f && ltb f 33) && ltb (f - 1) n) (cond (finish_test p (byte (m f) 0) (byte (m f) 3)) 5 (byte (m f) 3)) (cell t finish_table f 3)
          ≡ cond (loses_finish p (cell t finish_table f 0) (cell t finish_table f 3)) 5 (cell t finish_table f 3)
      at f = bool_cases ((leb 1 f && ltb f 33) && ltb (f - 1) n)
          (λ e. let y = and_left (leb 1 f && ltb f 33) (ltb (f - 1) n) e in
          let f0 = leb-true 1 f (and_left (leb 1 f) (ltb f 33) y) in let f33 = ltb-true f 33 (and_right (leb 1 f) (ltb f 33) y) in
          rw (e, low f 0 f0 f33 (omega arith), low f 3 f0 f33 (omega arith), loses_finish_lem p (cell t finish_table f 0) (cell t finish_table f 3)) refl)
          (λ e. rw (e, homeless f e, ne_eqb 0 p (λ q. omega arith)) refl)

-- ---- store books
sum_cut : (m n : ℕ) (φ : ℕ → ℕ) → n ≤ m → ((i : ℕ) → n ≤ i → φ i ≡ 0) → sum m φ ≡ sum n φ
sum_cut zero n φ h z = let e : n ≡ 0 = omega arith in rw e refl
sum_cut (suc m) n φ h z = eq_cases n (suc m) (λ e. rw e refl) (λ e. omega (arith, sum-suc m φ, z m (omega arith), sum_cut m n φ (omega arith) z))

module _ {t : List ℕ} {a : State} (s : Seen t a) (p : ℕ) (p8 : p < 8) where
  pub seen_kill_books : a.places ≤ 8 → CellPlaces a
      → Seen (change_parts (kill_book p) 144 1 32 (book_place 1) t) (with_due (λ f. due_after a.places (a.books.present f) (a.books.live f) (a.books.due f) p) a)
  unfolding view kill_book due_after empty_column
  seen_kill_books most narrow = same (by F s (walked_whole t s.whole 2 (omega arith) h)
      (ap view_of (book_walk t s.whole 2 (omega arith) h)
      ∙ (λ z. with_books (record {
        present = λ f. cell t book_table f 0;
        parent = λ f. cell t book_table f 1;
        due = λ f. cond (leb 1 f && ltb f 33) (h (book_of t f) f) (cell t book_table f 2);
        adopted = λ f. cell t book_table f 3;
        ghosts = λ f. ghost_same (λ j. cond (eqb j 2 && (leb 1 f && ltb f 33)) (h (book_of t f) f) (cell t book_table f j)) (cell t book_table f) (λ j x y. rw (ne_eqb j 2 (λ e. omega arith)) refl) z;
        live = flat (cell t live_table);
        sent = flat (cell t sent_table);
        asked = λ f i. marked (cell t asked_table f i);
      }) (view_of (rows t)))))
      (λ z. with_due (λ f. due f z) a)
    where
      h : List ℕ → ℕ → ℕ
      h m f = cond (every (eqb (byte m 0) 1 ∷ not (eqb (column m p) 0) ∷ [])) 1 (byte m 2)

      F : State → State
      F x = with_due (λ f. cond (leb 1 f && ltb f 33) (h (book_of t f) f) (x.books.due f)) x

      outside : (f : ℕ) → (leb 1 f && ltb f 33) ≡ false → a.books.present f ≡ 0
      outside f e = ap (λ (x : State). x.books.present f) (sym s.is) ∙ cell_out book_table t f 0 e

      due : (f : ℕ) → cond (leb 1 f && ltb f 33) (h (book_of t f) f) (a.books.due f)
          ≡ cond (eqb (a.books.present f) 1 && not (eqb (sum a.places (λ i. a.books.live f i p)) 0)) 1 (a.books.due f)
      due f = bool_cases (leb 1 f && ltb f 33)
          (λ e. let is = read_book s f (leb-true 1 f (and_left (leb 1 f) (ltb f 33) e)) (ltb-true f 33 (and_right (leb 1 f) (ltb f 33) e)) in
          let cut : sum 8 (λ i. a.books.live f i p) ≡ sum a.places (λ i. a.books.live f i p) =
          sum_cut 8 a.places (λ i. a.books.live f i p) most (λ i g. eq_cases (a.books.live f i p) 0 (λ z. z) (λ z. absurd (omega (arith, (narrow f i p (omega arith)).0)))) in
          rw (e, every_two (eqb (byte (book_of t f) 0) 1) (not (eqb (column (book_of t f) p) 0)), is.present, is.due, column-sum is p p8, cut) refl)
          (λ e. rw (e, outside f e) refl)

  -- ---- local books
  abbrev pub without_locals : State → State
  without_locals x =
      let l = x.locals in
      with_locals (record {
        received = λ f j i. cond (eqb j p) 0 (l.received f j i);
        reported = λ f j i. cond (eqb j p) 0 (l.reported f j i);
        live = λ f j. cond (eqb j p) 0 (l.live f j);
        denied = λ f j i. cond (eqb j p) false (l.denied f j i);
      }) x

  pub seen_kill_locals : Seen (change_parts (kill_local p) 24 0 256 (place (local_row 1 0) 0) t) (without_locals a)
  unfolding view kill_local
  seen_kill_locals = let w = s.whole in by without_locals s (length_change g 24 (local_keeps p) 256 0 6912 t (omega arith) ∙ w)
      (ap view_of (locals_become (change_outside g 24 (local_keeps p) 256 0 6912 t 6912 13056 (omega arith) (omega arith) (omega arith))
      (walk_clear received_table 24 0 256 6912 t (omega arith) (λ y. y) (λ y. 0) (λ y j a b c. omega arith) b (λ y l r. r))
      (walk_clear reported_table 24 0 256 6912 t (omega arith) (λ y. y) (λ y. 8) (λ y j a b c. omega arith) b (λ y l r. r))
      (walk_clear rest_table 24 0 256 6912 t (omega arith) (λ y. y) (λ y. 16) (λ y j a b c. omega arith) b (λ y l r. r)))
      ∙ (λ z. with_locals (record {
        received = flat (λ y j. cond (eqb (zero-add y z % 8) p) 0 (cell t received_table y j));
        reported = flat (λ y j. cond (eqb (zero-add y z % 8) p) 0 (cell t reported_table y j));
        live = λ f j. flat (λ y j. cond (eqb (zero-add y z % 8) p) 0 (cell t rest_table y j)) f j 0;
        denied = λ f j. marked (flat (λ y j. cond (eqb (zero-add y z % 8) p) 0 (cell t rest_table y j)) f j 1);
      }) (view_of (rows t)))
      ∙ (λ z. with_locals (record {
        received = flat_clear (cell t received_table) p z;
        reported = flat_clear (cell t reported_table) p z;
        live = λ f j. flat_clear (cell t rest_table) p z f j 0;
        denied = λ f j. marked (flat_clear (cell t rest_table) p z f j 1);
      }) (view_of (rows t)))
      ∙ (λ z. with_locals (record {
        received = λ f j i. cond (eqb j p) 0 (flat (cell t received_table) f j i);
        reported = λ f j i. cond (eqb j p) 0 (flat (cell t reported_table) f j i);
        live = λ f j. cond (eqb j p) 0 (flat (cell t rest_table) f j 0);
        denied = λ f j i. off (eqb j p) (flat (cell t rest_table) f j 1) i z;
      }) (view_of (rows t))))
    where
      b : List ℕ → ℕ → Bool
      b m y = eqb (y % 8) p

      g : List ℕ → ℕ → List ℕ
      g m y = cond (b m y) (replicate 24 0) m

      off : (c : Bool) (v i : ℕ) → marked (cond c 0 v) i ≡ cond c false (marked v i)
      off true v i = no_marks i
      off false v i = refl

  -- ---- slots; o are the tables in which a message's home is read
  pub seen_kill_slots : (o : List ℕ) → ((f : ℕ) → 0 < f → f < 33 → home o f ≡ a.finishes.home f)
      → ((k : ℕ) → ((a.slot k).tag ≡ 0 → ⊥) → (0 < (a.slot k).finish) × ((a.slot k).finish < 33))
      → Seen (change_parts (kill_slot o p) 16 0 128 (slot_place 0) t) (with_slot (λ k. cond (goes_to a.finishes.home (a.slot k) p) none (a.slot k)) a)
  unfolding view kill_slot message_in
  seen_kill_slots o homes names = let w = s.whole in
      by (λ x. with_slot (λ k. cond (goes_to x.finishes.home (x.slot k) p) none (x.slot k)) x) s (length_change g 16 (slot_keeps p o) 128 0 13056 t (omega arith) ∙ w)
      (ap view_of (slots_become (change_outside g 16 (slot_keeps p o) 128 0 13056 t 13056 15104 (omega arith) (omega arith) (omega arith))
      (walk_clear slot_table 16 0 128 13056 t (omega arith) (λ k. k) (λ k. 0) (λ k j x y z. omega arith) b (λ k l r. r)))
      ∙ (λ z. with_slot (λ k. at k z) (view_of (rows t))))
    where
      b : List ℕ → ℕ → Bool
      b m k = eqb (place_of o (message_in m)) p

      g : List ℕ → ℕ → List ℕ
      g m k = cond (b m k) (replicate 16 0) m

      c : ℕ → ℕ → ℕ
      c = cell t slot_table

      m : ℕ → List ℕ
      m k = part t (13056 + 16 * k) 16

      low : (k j : ℕ) → k < 128 → j < 16 → byte (m k) (0 + j) ≡ c k j
      low k j x y = let w = s.whole in its_byte slot_table 16 0 128 13056 t (omega arith) (λ k. k) (λ k. 0) (λ k j x y z. omega arith) k j y (omega arith) x

      named : (k : ℕ) → (c k 0 ≡ 0 → ⊥) → home o (c k 1) ≡ cell t finish_table (c k 1) 0
      named k n =
          let r = names k (λ e. n (ap (λ (x : State). (x.slot k).tag) s.is ∙ e)) in
          let e : c k 1 ≡ (a.slot k).finish = ap (λ (x : State). (x.slot k).finish) s.is in
          rw e (homes (a.slot k).finish r.0 r.1 ∙ ap (λ (x : State). x.finishes.home (a.slot k).finish) (sym s.is))

      gone : (k : ℕ) → k < 128 → b (m k) (0 + k) ≡ goes_to (λ f. cell t finish_table f 0) (message_of (c k)) p
      gone k h =
          rw (low k 0 h (omega arith), low k 1 h (omega arith), low k 2 h (omega arith), low k 3 h (omega arith), low k 4 h (omega arith), low k 5 h (omega arith))
          (goes_to_lem o (λ f. cell t finish_table f 0) p (c k 0) (c k 1) (c k 2) (c k 3) (c k 4) (c k 5) (part (m k) 8 8) (λ i. c k (8 + i)) p8
          (λ e. named k (full (c k 0) e)))
        where
          full : (x : ℕ) → (x ≡ 2) ⊎ (x ≡ 8) → x ≡ 0 → ⊥
          full x (inl e) z = omega arith
          full x (inr e) z = omega arith

      blank : (x y : Bool) (r : ℕ → ℕ) → ((j : ℕ) → r j ≡ 0) → message_of (λ j. cond x 0 (r j)) ≡ cond y none (message_of r)
      blank true true r z = refl
      blank true false r z = sym (ap message_of (fun_ext z))
      blank false true r z = ap message_of (fun_ext z)
      blank false false r z = refl

      at : (k : ℕ) → message_of (λ j. cond (b (m k) (0 + k)) 0 (c k j)) ≡ cond (goes_to (λ f. cell t finish_table f 0) (message_of (c k)) p) none (message_of (c k))
      at k = bool_cases (ltb k 128)
          (λ l. rw (gone k (ltb-true k 128 l)) (bool_cases (goes_to (λ f. cell t finish_table f 0) (message_of (c k)) p) (λ e. rw e refl) (λ e. rw e refl)))
          (λ l. blank (b (m k) (0 + k)) (goes_to (λ f. cell t finish_table f 0) (message_of (c k)) p) (c k)
          (λ j. cell_out slot_table t k j (rw (le-leb 0 k (omega arith), l) (and-false (ltb j 16)))))
