-- A session that is not quiet has a deliver, adopt, cancel or ask that is taken. Where no slot is empty the first slot's message is
-- delivered, or it is held, and its own book's repair goes on without a slot.
use mathlib.Core.Path.{◌≡◌, refl, sym, ◌∙◌}
use mathlib.Core.Bool.{Bool, true, false, cond}
use mathlib.Core.Logic.{◌⊎◌, inl, inr}
use mathlib.Core.List.{List, [], ◌∷◌}
use Prim.Native.Nat.{ℕ, ◌<◌}
use native.Mathlib.Omega.{arith}
use borrow.Author.Tests.{eqb-false, ne_eqb, le-ltb}
use Rattle.tables.specs.Walks.{every, some_of}
use Rattle.rules.specs.Fields.{dead_mask, dead}
use Rattle.rules.specs.Action.{deliver, cancel}
use Rattle.rules.specs.Books.{book_of, under_repair}
use Rattle.rules.specs.Closing.{closes, closing_sends}
use Rattle.rules.specs.Cancel.{cancelled}
use Rattle.rules.specs.Messages.{Message, none, publish, published, transit, granted, denied, task, report, release, ghost_ended, count_dropped, dropped, is_empty, from_slot, message_at, tagged, slots_full}
use Rattle.rules.specs.Deliver.{book_absent, discarded, waits_for_repair, held}
use Rattle.rules.specs.Quiet.{quiet}
use Rattle.rules.specs.Refusals.{no_action, not_there, wrong_place, not_ready, must_wait, no_room}
use Rattle.rules.proofs.Taken.{neither}
use Rattle.model.specs.Base.Cases.{bool_cases, both, and_none}
use Rattle.model.specs.State
use Rattle.model.proofs.Promises.Stirs.{Waits, stays_open}
use Rattle.promises.specs.View.{view}
use Rattle.promises.specs.Settling.{is_settling, Stirring, Stirs}
use Rattle.promises.proofs.Tests.{every_two}
use Rattle.promises.proofs.Tags.{by_tag}
use Rattle.promises.proofs.Named.{in_flight, names}
use Rattle.promises.proofs.Seen.{Seen}
use Rattle.promises.proofs.Rows.{read_dead}
use Rattle.promises.proofs.Slots.{counts_at, read_message, read_empty, first_full}
use Rattle.promises.proofs.WholeBooks.{read_book}
use Rattle.promises.proofs.BookTests.{book_closes}
use Rattle.promises.proofs.TieClosing.{tie_cancelled}
use Rattle.promises.proofs.Good.{Good, as_seen, places-below}
use Rattle.promises.proofs.ActsMove.{good_taken}
use Rattle.promises.proofs.Demand3Holds.{session_good}
use Rattle.promises.proofs.StirsNoise.{Noise, message, repair, debt, noise}
use Rattle.promises.proofs.StirsBooks.{is_present, repair_stirs, debt_stirs}

-- what is held is not discarded, and waits for its book
kept : (d w : Bool) → cond d false w ≡ true → (d ≡ false) × (w ≡ true)
kept true w e = both e refl
kept false w e = (refl, e)

module _ {t : List ℕ} (good : Good t) where
  s : Seen t (view t)
  s = as_seen good

  -- ---- a message in flight
  module _ (k : ℕ) (k128 : k < 128) where
    abbrev m : State.Message
    m = (view t).slot k

    -- it is held: 3, 7 or 9, and its book is under repair
    record Holds : Type 0 where
      waits : Waits (view t) k
      there : book_absent t m.finish ≡ false
      repair : under_repair (dead_mask t) (book_of t m.finish) ≡ true

    module _ (h : held t (message_at t k) ≡ true) where
      by : (x : Message) (n : ℕ) → m.tag ≡ n → tagged n m.finish m.task m.from m.to m.number (counts_at t k) ≡ x → (discarded t x ≡ false) × (waits_for_repair t x ≡ true)
      unfolding held
      by x n e is = kept (discarded t x) (waits_for_repair t x) (rw (read_message s k k128, e, is) at h)

      -- 3 and 7
      from_alive : (m.tag ≡ 3) ⊎ (m.tag ≡ 7) → some_of (dead t m.from ∷ book_absent t m.finish ∷ []) ≡ false → under_repair (dead_mask t) (book_of t m.finish) ≡ true → Holds
      from_alive e d u =
          let o = neither (dead t m.from) (book_absent t m.finish) d in
          record { waits = inl (e, sym (read_dead s m.from) ∙ o.0); there = o.1; repair = u }

      holds : Holds
      unfolding tagged discarded waits_for_repair
      holds =
          by_tag m.tag (good.inv.tags k (in_flight good k k128))
          (λ n. both (by none 0 n refl).1 refl)
          (λ n. both (by (publish m.finish m.task) 1 n refl).1 refl)
          (λ n. both (by (published m.finish m.task) 2 n refl).1 refl)
          (λ n. let r = by (transit m.finish m.task m.from m.to) 3 n refl in from_alive (inl n) r.0 r.1)
          (λ n. both (by (granted m.finish m.task m.from m.to) 4 n refl).1 refl)
          (λ n. both (by (denied m.finish m.task m.from m.to) 5 n refl).1 refl)
          (λ n. both (by (task m.finish m.task m.from m.to) 6 n refl).1 refl)
          (λ n. let r = by (report m.finish m.from (counts_at t k)) 7 n refl in from_alive (inr n) r.0 r.1)
          (λ n. both (by (release m.finish) 8 n refl).1 refl)
          (λ n. let r = by (ghost_ended m.finish m.number) 9 n refl in record { waits = inr n; there = r.0; repair = r.1 })
          (λ n. both (by (count_dropped m.finish m.task m.from m.to m.number) 10 n refl).1 refl)
          (λ n. both (by (dropped m.finish m.task m.from m.to m.number) 11 n refl).1 refl)

    -- and a cancel of its book sends nothing
    sends_none : (v : ℕ) → Waits (view t) k → 0 < m.finish → m.finish < 33 → (view t).books.present m.finish ≡ 1 → (view t).dead v ≡ true → (view t).books.due m.finish ≡ 0
        → no_room t (cancel m.finish v) ≡ false
    unfolding no_room closing_sends every
    sends_none v waits f0 f33 present died settled =
        let f = m.finish in
        let v8 : v < 8 = omega (arith, (good.inv.dead_places v died).1, places-below good) in
        bool_cases (closes (book_of (cancelled t m.finish v) m.finish))
        (λ c. absurd (stays_open (view t) good.inv k (in_flight good k k128) f refl present v died settled waits (book_closes (read_book (tie_cancelled s f v f0 f33 v8) f f0 f33) c)))
        (λ c. rw c refl)

    pub message_stirs : is_empty (from_slot t k) k ≡ false → Stirring t
    unfolding is_settling no_action not_there wrong_place not_ready must_wait no_room
    message_stirs full = bool_cases (held t (message_at t k))
        (λ h.
        let w = holds h in
        let n = names good k k128 (omega (arith, eqb-false m.tag 0 (sym (read_empty s k k128) ∙ full))) in
        let f0 = n.finish_low in
        let f33 = n.finish_high in
        repair_stirs good m.finish f0 f33 w.there w.repair (λ v. sends_none v w.waits f0 f33 (is_present good m.finish f0 f33 w.there)))
        (λ h. (deliver k, refl, good_taken t good (deliver k) refl (le-ltb 127 k (omega arith)) refl full h refl))

  -- where no slot is empty there is a message in the first
  crowd_stirs : slots_full t ≡ true → Stirring t
  crowd_stirs e = message_stirs 0 (omega arith) (read_empty s 0 (omega arith) ∙ ne_eqb ((view t).slot 0).tag 0 (first_full s e))

  -- ---- a book under repair, a count owed
  book_stirs : (f : ℕ) → 0 < f → f < 33 → book_absent t f ≡ false → under_repair (dead_mask t) (book_of t f) ≡ true → Stirring t
  unfolding no_room
  book_stirs f f0 f33 there e = bool_cases (slots_full t) crowd_stirs
      (λ room. repair_stirs good f f0 f33 there e (λ v _ _. every_two (closing_sends (cancelled t f v) f) (slots_full t) ∙ and_none (closing_sends (cancelled t f v) f) (slots_full t) room))

  noise_stirs : Noise t → Stirring t
  noise_stirs (message k k128 full) = message_stirs k k128 full
  noise_stirs (repair f f0 f33 there e) = book_stirs f f0 f33 there e
  noise_stirs (debt f f0 f33 there e) = bool_cases (under_repair (dead_mask t) (book_of t f))
      (λ u. book_stirs f f0 f33 there u)
      (λ u. bool_cases (slots_full t) crowd_stirs (λ room. debt_stirs good f f0 f33 there e u room))

  pub good_stirs : quiet t ≡ false → Stirring t
  good_stirs e = noise_stirs (noise t e)

pub stirs : Stirs
stirs t b rs s e = good_stirs (session_good s) e
