-- Sound tables of bytes that are seen as a state: the ranges of its fields.
use mathlib.Core.Path.{◌≡◌, sym, ◌∙◌}
use mathlib.Core.Bool.{true}
use mathlib.Core.List.{List}
use Prim.Native.Nat.{ℕ, ◌≤◌, ◌<◌}
use native.Mathlib.Omega.{arith}
use Rattle.rules.specs.Fields.{task_made, finish_made}
use Rattle.rules.specs.Sound.{sound}
use Rattle.sound.proofs.Use
use Rattle.sound.proofs.Use.{places_range, finishes_most, task_ranges, finish_ranges, book_ranges, slot_finish}
use Rattle.model.specs.Base.Cases.{eq_cases}
use Rattle.model.specs.State.{State}
use Rattle.promises.proofs.Seen.{Seen}
use Rattle.promises.proofs.Bytes.{Bytes}
use Rattle.promises.proofs.Rows.{read_places, read_tasks_made, read_finishes_made, read_task_from, read_task_at, read_task_finish, read_task_maker, read_home, read_opener, read_parent}
use Rattle.promises.proofs.Slots.{slot_range, read_tag, read_slot_finish}
use Rattle.promises.proofs.BookCells.{read_present, read_due, read_adopted}

pub record Held (t : List ℕ) (a : State) : Type 0 where
  pub seen : Seen t a
  pub bytes : Bytes t
  pub sound : sound t ≡ true

-- a made task, a made finish, a present book
pub record TaskFits (a : State) (k : ℕ) : Type 0 where
  pub number : k < 256
  pub from : a.tasks.from k < 8
  pub at : a.tasks.at k < 8
  pub finish_low : 0 < a.tasks.finish k
  pub finish_high : a.tasks.finish k ≤ a.finishes.made
  pub maker : a.tasks.maker k < 256

pub record FinishFits (a : State) (f : ℕ) : Type 0 where
  pub number : f < 33
  pub home : a.finishes.home f < 8
  pub opener : a.finishes.opener f < 256
  pub parent : a.finishes.parent f < f

module _ {t : List ℕ} {a : State} (h : Held t a) where
  pub places_most : a.places ≤ 8
  places_most = omega (arith, (places_range t h.sound).1, read_places h.seen)

  pub tasks_most : a.tasks.made ≤ 255
  tasks_most = omega (arith, h.bytes.small 2, read_tasks_made h.seen)

  pub finishes_made_most : a.finishes.made ≤ 32
  finishes_made_most = omega (arith, finishes_most t h.sound, read_finishes_made h.seen)

  pub task-fits : (k : ℕ) → 0 < k → k ≤ a.tasks.made → TaskFits a k
  task-fits k k0 l =
      let s = h.seen in
      let k256 : k < 256 = omega (arith, tasks_most) in
      let r = task_ranges t h.sound k (omega (arith, read_tasks_made s)) in
      record {
        number = k256;
        from = omega (arith, r.from, read_task_from s k k0 k256, read_places s, places_most);
        at = omega (arith, r.at, read_task_at s k k0 k256, read_places s, places_most);
        finish_low = omega (arith, r.finish.0, read_task_finish s k k0 k256);
        finish_high = omega (arith, r.finish.1, read_task_finish s k k0 k256, read_finishes_made s);
        maker = omega (arith, r.maker, read_task_maker s k k0 k256);
      }

  pub finish_fits_lem : (f : ℕ) → 0 < f → f ≤ a.finishes.made → FinishFits a f
  finish_fits_lem f f0 l =
      let s = h.seen in
      let f33 : f < 33 = omega (arith, finishes_made_most) in
      let r = finish_ranges t h.sound f (omega (arith, read_finishes_made s)) in
      record {
        number = f33;
        home = omega (arith, r.home_place, read_home s f f0 f33, read_places s, places_most);
        opener = omega (arith, r.opened, r.main.1, read_opener s f f0 f33, read_tasks_made s, tasks_most);
        parent = omega (arith, r.above, read_parent s f f0 f33);
      }

  -- present, due and adopted are marks where there is a book
  pub present_mark : (f : ℕ) → 0 < f → f < 33 → a.books.present f ≤ 1
  present_mark f f0 f33 = eq_cases (a.books.present f) 0 (λ e. omega arith)
      (λ n. omega (arith, (book_ranges t h.sound f (f0, omega arith) (λ e. n (sym (read_present h.seen f f0 f33) ∙ e))).is_present, read_present h.seen f f0 f33))

  pub book_marks : (f : ℕ) → 0 < f → f < 33 → a.books.present f ≡ 1 → (a.books.due f ≤ 1) × (a.books.adopted f ≤ 1)
  book_marks f f0 f33 e =
      let s = h.seen in
      let r = book_ranges t h.sound f (f0, omega arith) (λ z. absurd (omega (arith, read_present s f f0 f33))) in
      (omega (arith, r.due, read_due s f f0 f33), omega (arith, r.adopted, read_adopted s f f0 f33))

  -- a number made, by the rules' test
  pub task_number : (k : ℕ) → task_made t k ≡ true → (0 < k) × (k ≤ a.tasks.made)
  task_number k e = let r = Use.task_made_lem t k e in (r.0, omega (arith, r.1, read_tasks_made h.seen))

  pub finish_number : (f : ℕ) → finish_made t f ≡ true → (0 < f) × (f ≤ a.finishes.made)
  finish_number f e = let r = Use.finish_made_lem t f e in (r.0, omega (arith, r.1, read_finishes_made h.seen))

  -- a full slot names a made finish
  pub slot_names : (k : ℕ) → ((a.slot k).tag ≡ 0 → ⊥) → (0 < (a.slot k).finish) × ((a.slot k).finish ≤ a.finishes.made)
  slot_names k n =
      let s = h.seen in
      let l = slot_range s k n in
      let r = slot_finish t h.sound k l (λ e. n (sym (read_tag s k l) ∙ e)) in
      (omega (arith, r.0, read_slot_finish s k l), omega (arith, r.1, read_slot_finish s k l, read_finishes_made s))
