-- The delivers leave tables of bytes.
use mathlib.Core.Path.{◌≡◌, refl}
use mathlib.Core.Bool.{Bool, true, false, cond}
use mathlib.Core.List.{List, [], ◌∷◌}
use Prim.Native.Nat.{ℕ, zero, suc, ◌+◌, ◌-◌, ◌*◌, ◌<◌}
use native.Mathlib.Omega.{arith}
use lib.Dec.{leb}
use borrow.Author.Tests.{leb-true}
use Rattle.tables.specs.Bits.{with_mark, marked}
use Rattle.tables.specs.Walks.{every}
use Rattle.tables.specs.Layout.{Whole, place, task_row, finish_row}
use Rattle.tables.proofs.Walks.{every_each}
use Rattle.rules.specs.Fields.{dead, task_from, task_at, task_maker, home, opener, parent, book_place, live, sent_count, live_place, sent_place, received, received_place, local_live, local_live_place, deny_mask, deny_place}
use Rattle.rules.specs.Books.{with_book as write_book}
use Rattle.rules.specs.Messages.{Message, none, publish, published, transit, granted, denied, task, report, release, ghost_ended, count_dropped, dropped, send}
use Rattle.rules.specs.Deliver.{climb_stops, nearest, new_book, fits, deliver_publish, deliver_published, counted, deliver_transit, deliver_granted, deliver_denied, arrived, deliver_task, deliver_report, deliver_release, deliver_ghost_ended, deliver_count_dropped, deliver_dropped, delivered}
use Rattle.model.specs.Base.Cases.{bool_cases}
use Rattle.promises.proofs.Tests.{some_other}
use Rattle.promises.proofs.Bytes.{Bytes, bytes_set, bytes_write, bytes_none, bytes_more, bytes_zeros, bytes_emptied, bytes_lowered, bytes_ghost_ended}
use Rattle.promises.proofs.MessageBytes.{Small, bytes_send, mark_small, bytes_runs}
use Rattle.promises.proofs.RepairBytes.{closing_bytes}

module _ {t : List ℕ} (w : Whole t) (h : Bytes t) where
  nearest_small : (n f : ℕ) → f < 256 → nearest t n f < 256
  unfolding nearest
  nearest_small zero f l = omega arith
  nearest_small (suc n) f l = go (climb_stops t f) (nearest_small n (parent t f) (h.small (place (finish_row f) 2)))
    where
      go : (b : Bool) {x : ℕ} → x < 256 → elim b as (λ _. ℕ) [ true ↦ f | false ↦ x ] < 256
      go true q = l
      go false q = q

  new_small : (b q : ℕ) → q < 256 → Bytes (new_book b q)
  unfolding new_book
  new_small b q l = bytes_set (bytes_set (bytes_write (bytes_zeros 144) 0 (bytes_more (omega arith) (bytes_more l bytes_none))) (8 + 8 * b + b) 1 (omega arith)) (72 + 8 * b + b) 1 (omega arith)

  pub delivered_bytes : (s : ℕ) (x : Message) → Small x → ((f v : ℕ) (c : List ℕ) → x ≡ report f v c → (0 < f) × (f < 33)) → fits t x ≡ true → Bytes (delivered t s x)
  unfolding delivered deliver_publish deliver_published counted deliver_transit deliver_granted deliver_denied arrived deliver_task deliver_report deliver_release deliver_ghost_ended deliver_count_dropped deliver_dropped fits write_book
  delivered_bytes s none l r e = h
  delivered_bytes s (publish f k) l r e = bytes_send (bytes_write h (book_place f) (new_small (home t f) (nearest t 32 (parent t f)) (nearest_small 32 (parent t f) (h.small (place (finish_row f) 2))))) s (published f k) l
  delivered_bytes s (published f k) l r e =
      bytes_send (bytes_set (bytes_set (bytes_set h (place (finish_row f) 3) 1 (omega arith)) (place (finish_row f) 4) 1 (omega arith)) (place (task_row k) 3) 2 (omega arith)) s (transit f k (task_from t k) (task_at t k))
      (l.0, l.1, h.small (place (task_row k) 0), h.small (place (task_row k) 1))
  delivered_bytes s (transit f k v j) l r e = bool_cases (dead t j)
      (λ d. rw d (bytes_send h s (denied f k v j) l))
      (λ d. let c = every_each _ (some_other (dead t j) (every (leb (live t f v j) 254 ∷ leb (sent_count t f v j) 254 ∷ [])) e d) in
      let a = leb-true (live t f v j) 254 c.0 in
      let b = leb-true (sent_count t f v j) 254 c.1.0 in
      rw d (bytes_send (bytes_set (bytes_set h (live_place f v j) (live t f v j + 1) (omega arith)) (sent_place f v j) (sent_count t f v j + 1) (omega arith)) s (granted f k v j) l))
  delivered_bytes s (granted f k v j) l r e =
      let sent : Bytes (send t s (cond (dead t j) none (task f k v j))) = bool_cases (dead t j) (λ d. rw d (bytes_send h s none tt)) (λ d. rw d (bytes_send h s (task f k v j) l)) in
      bytes_runs (bytes_set sent (place (task_row k) 3) 3 (omega arith)) (task_maker t k)
  delivered_bytes s (denied f k v j) l r e = bytes_runs (bytes_set (bytes_send h s none tt) (place (task_row k) 3) 4 (omega arith)) (task_maker t k)
  delivered_bytes s (task f k v j) l r e = bool_cases (marked (deny_mask t f j) v)
      (λ d. rw d (bytes_send h s none tt))
      (λ d. let c = every_each _ (some_other (marked (deny_mask t f j) v) _ e d) in
      let a = leb-true (received t f j v) 254 c.1.0 in
      let b = leb-true (local_live t f j) 254 c.1.1.0 in
      rw d (bytes_send (bytes_set (bytes_set (bytes_set h (received_place f j v) (received t f j v + 1) (omega arith)) (local_live_place f j) (local_live t f j + 1) (omega arith)) (place (task_row k) 3) 5 (omega arith)) s none tt))
  delivered_bytes s (report f v counts) l r e = let q = r f v counts refl in closing_bytes (bytes_emptied (bytes_lowered h w f v q.0 q.1 counts) s) f s l.0
  delivered_bytes s (release f) l r e = bytes_runs (bytes_set (bytes_send h s none tt) (place (finish_row f) 3) 4 (omega arith)) (opener t f)
  delivered_bytes s (ghost_ended q g) l r e = closing_bytes (bytes_emptied (bytes_ghost_ended h q g) s) q s l.0
  delivered_bytes s (count_dropped f k v j n) l r e =
      bytes_send (bytes_set h (deny_place f j) (with_mark (deny_mask t f j) v) (mark_small (deny_mask t f j) v)) s (dropped f k v j (n - received t f j v)) (l.0, l.1, l.2, l.3, omega (arith, l.4))
  delivered_bytes s (dropped f k v j n) l r e = closing_bytes (bytes_emptied (bytes_set h (live_place f v j) (live t f v j - n) (omega (arith, h.small (live_place f v j)))) s) f s l.0
