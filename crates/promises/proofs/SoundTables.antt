-- Good tables are sound: row 0, the rows of made tasks and finishes, the books, and the slots.
use mathlib.Core.Path.{◌≡◌, sym, ap, ◌∙◌}
use mathlib.Core.Bool.{true}
use mathlib.Core.List.{List, [], ◌∷◌}
use Prim.Native.Nat.{ℕ, ◌+◌, ◌*◌, ◌/◌, ◌%◌, ◌^◌, ◌≤◌, ◌<◌}
use native.Mathlib.Nat.{zero-add}
use native.Mathlib.Omega.{arith}
use lib.Dec.{eqb, leb}
use lib.ListN.{drop}
use lib.Seq.{get_or-drop}
use borrow.Author.Tests.{eq-eqb, le-leb}
use Rattle.tables.specs.Bytes.{byte}
use Rattle.tables.specs.Bits.{marked}
use Rattle.tables.specs.Layout.{place, task_row, finish_row, book_row}
use Rattle.tables.proofs.Walks.{each_every, parts_all}
use Rattle.rules.specs.Fields.{places, dead_mask, tasks_made, finishes_made}
use Rattle.rules.specs.Sound.{head_sound, task_sound, finish_sound, book_sound, slot_sound, tasks_sound, finishes_sound, books_sound, slots_sound, rows_sound, sound}
use Rattle.model.specs.Base.Cases.{eq_cases}
use Rattle.model.specs.Inv.{Inv}
use Rattle.promises.specs.View.{view}
use Rattle.promises.proofs.Seen.{Seen}
use Rattle.promises.proofs.Rows.{read_places, read_dead, read_tasks_made, read_finishes_made, read_task_from, read_task_at, read_task_finish, read_task_status, read_task_sent, read_task_maker, read_home, read_opener, read_parent, read_finish_status, read_published, read_main}
use Rattle.promises.proofs.BookCells.{read_present, read_book_parent, read_due, read_adopted}
use Rattle.promises.proofs.Good.{Good, as_seen, tasks_below, finishes_below}
use Rattle.promises.proofs.Held.{Held}
use Rattle.promises.proofs.SoundFits.{below, odd, task-fits, finish_fits_lem, book_fits_lem}
use Rattle.promises.proofs.SoundSlots.{slot_sound_lem}

module _ (t : List ℕ) (good : Good t) where
  s : Seen t (view t)
  s = as_seen good

  inv : Inv (view t)
  inv = good.inv

  -- a byte of the row that the tables begin with after k bytes
  at : (k j p : ℕ) → k + j ≡ p → byte (drop k t) j ≡ byte t p
  at k j p e = get_or-drop k t j 0 ∙ ap (byte t) e

  head_sound_lem : head_sound (places t) (dead_mask t) (finishes_made t) ≡ true
  unfolding head_sound
  head_sound_lem =
      each_every (leb 2 (places t) ∷ leb (places t) 8 ∷ leb (finishes_made t) 32 ∷ eqb (dead_mask t % 2) 0 ∷ eqb (dead_mask t / 2 ^ places t) 0 ∷ []) (
        le-leb 2 (places t) (omega (arith, read_places s, inv.places)),
        (
          le-leb (places t) 8 good.places_most,
          (
            le-leb (finishes_made t) 32 (omega (arith, finishes_below good, read_finishes_made s)),
            (
              eq-eqb (dead_mask t % 2) 0 even,
              (eq-eqb (dead_mask t / 2 ^ places t) 0 (below (dead_mask t) (places t) (good.bytes.small 1) good.places_most marks), tt),
            ),
          ),
        ),
      )
    where
      marks : (p : ℕ) → marked (dead_mask t) p ≡ true → p < places t
      marks p e = omega (arith, read_places s, inv.dead_places p (sym (read_dead s p) ∙ e))

      even : dead_mask t % 2 ≡ 0
      even = eq_cases (dead_mask t % 2) 1
          (λ e. absurd (omega (arith, inv.dead_places 0 (sym (read_dead s 0) ∙ odd (dead_mask t) e))))
          (λ n. omega arith)

  task-sound : (j : ℕ) → j < tasks_made t → task_sound (places t) (finishes_made t) (drop (8 + 8 * j) t) (1 + j) ≡ true
  unfolding task_sound
  task-sound j h =
      let m : tasks_made t ≤ 255 = omega (arith, tasks_below good, read_tasks_made s) in
      let l : 1 + j ≤ (view t).tasks.made = omega (arith, read_tasks_made s) in
      rw (
        at (8 + 8 * j) 0 (place (task_row (1 + j)) 0) (omega arith) ∙ read_task_from s (1 + j) (omega arith) (omega arith),
        at (8 + 8 * j) 1 (place (task_row (1 + j)) 1) (omega arith) ∙ read_task_at s (1 + j) (omega arith) (omega arith),
        at (8 + 8 * j) 2 (place (task_row (1 + j)) 2) (omega arith) ∙ read_task_finish s (1 + j) (omega arith) (omega arith),
        at (8 + 8 * j) 3 (place (task_row (1 + j)) 3) (omega arith) ∙ read_task_status s (1 + j) (omega arith) (omega arith),
        at (8 + 8 * j) 4 (place (task_row (1 + j)) 4) (omega arith) ∙ read_task_sent s (1 + j) (omega arith) (omega arith),
        at (8 + 8 * j) 5 (place (task_row (1 + j)) 5) (omega arith) ∙ read_task_maker s (1 + j) (omega arith) (omega arith),
        read_places s,
        read_finishes_made s,
      ) (task-fits (inv.task_ranges (1 + j) (omega arith) l) (inv.task_statuses (1 + j) (omega arith) l))

  finish_sound_lem : (j : ℕ) → j < finishes_made t → finish_sound (places t) (tasks_made t) (drop (2048 + 8 * j) t) (1 + j) ≡ true
  unfolding finish_sound
  finish_sound_lem j h =
      let m : finishes_made t ≤ 32 = omega (arith, finishes_below good, read_finishes_made s) in
      let l : 1 + j ≤ (view t).finishes.made = omega (arith, read_finishes_made s) in
      rw (
        at (2048 + 8 * j) 0 (place (finish_row (1 + j)) 0) (omega arith) ∙ read_home s (1 + j) (omega arith) (omega arith),
        at (2048 + 8 * j) 1 (place (finish_row (1 + j)) 1) (omega arith) ∙ read_opener s (1 + j) (omega arith) (omega arith),
        at (2048 + 8 * j) 2 (place (finish_row (1 + j)) 2) (omega arith) ∙ read_parent s (1 + j) (omega arith) (omega arith),
        at (2048 + 8 * j) 3 (place (finish_row (1 + j)) 3) (omega arith) ∙ read_finish_status s (1 + j) (omega arith) (omega arith),
        at (2048 + 8 * j) 4 (place (finish_row (1 + j)) 4) (omega arith) ∙ read_published s (1 + j) (omega arith) (omega arith),
        at (2048 + 8 * j) 5 (place (finish_row (1 + j)) 5) (omega arith) ∙ read_main s (1 + j) (omega arith) (omega arith),
        read_places s,
        read_tasks_made s,
      ) (finish_fits_lem (inv.finish_ranges (1 + j) (omega arith) l) (inv.finish_statuses (1 + j) (omega arith) l) (inv.published_mark (1 + j)))

  book_sound_lem : (j : ℕ) → j < 32 → book_sound (finishes_made t) (drop (2304 + 144 * j) t) (1 + j) ≡ true
  unfolding book_sound
  book_sound_lem j h =
      rw (
        at (2304 + 144 * j) 0 (place (book_row (1 + j)) 0) (omega arith) ∙ read_present s (1 + j) (omega arith) (omega arith),
        at (2304 + 144 * j) 1 (place (book_row (1 + j)) 1) (omega arith) ∙ read_book_parent s (1 + j) (omega arith) (omega arith),
        at (2304 + 144 * j) 2 (place (book_row (1 + j)) 2) (omega arith) ∙ read_due s (1 + j) (omega arith) (omega arith),
        at (2304 + 144 * j) 3 (place (book_row (1 + j)) 3) (omega arith) ∙ read_adopted s (1 + j) (omega arith) (omega arith),
        read_finishes_made s,
      ) (book_fits_lem (inv.present_mark (1 + j)) (inv.due_mark (1 + j)) (inv.adopted_mark (1 + j))
      (λ e. ((inv.book_made (1 + j) e).1, (inv.book_parent (1 + j) e).0, λ y. (inv.orphans (1 + j) e (inv.adopted_dead (1 + j) y)).0)))

  rows-sound : rows_sound (places t) (tasks_made t) (finishes_made t) t ≡ true
  unfolding rows_sound tasks_sound finishes_sound books_sound slots_sound
  rows-sound =
      let ps = places t in
      let ts = tasks_made t in
      let fs = finishes_made t in
      each_every (tasks_sound ps ts fs t ∷ finishes_sound ps ts fs t ∷ books_sound fs t ∷ slots_sound ps ts fs t ∷ []) (
        parts_all (task_sound ps fs) 8 1 ts 8 t task-sound,
        (
          parts_all (finish_sound ps ts) 8 1 fs 2048 t finish_sound_lem,
          (
            parts_all (book_sound fs) 144 1 32 2304 t book_sound_lem,
            (parts_all (slot_sound ps ts fs) 16 0 128 13056 t (λ k h. rw (zero-add k) (slot_sound_lem t good k h)), tt),
          ),
        ),
      )

  good_sound : sound t ≡ true
  unfolding sound
  good_sound = each_every (head_sound (places t) (dead_mask t) (finishes_made t) ∷ rows_sound (places t) (tasks_made t) (finishes_made t) t ∷ []) (head_sound_lem, (rows-sound, tt))

  pub good_held : Held t (view t)
  good_held = record { seen = s; bytes = good.bytes; sound = good_sound }
