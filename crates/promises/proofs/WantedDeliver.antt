-- On good tables a deliver finds what it wants, by the tag of its message; what is discarded wants nothing.
use mathlib.Core.Path.{◌≡◌, refl, sym, ap, ◌∙◌}
use mathlib.Core.Bool.{Bool, true, false, not}
use mathlib.Core.List.{List, [], ◌∷◌}
use Prim.Native.Nat.{ℕ, zero, suc, ◌+◌, ◌*◌, ◌≤◌, ◌<◌}
use native.Mathlib.Omega.{arith}
use lib.Dec.{eqb, leb}
use borrow.Author.Tests.{eq-eqb, ne_eqb, le-leb}
use Rattle.tables.specs.Bytes.{byte}
use Rattle.tables.specs.Bits.{marked}
use Rattle.tables.specs.Walks.{every, some_of, every_below}
use Rattle.tables.proofs.Bits.{marked_high}
use Rattle.tables.proofs.Walks.{each_every}
use Rattle.rules.specs.Fields.{dead_mask, dead, home, opener, finish_status, present, task_status, task_maker, live, sent_count, received, local_live, deny_mask, may_run}
use Rattle.rules.specs.Books.{book_of}
use Rattle.rules.specs.Messages.{Message, none, publish, published, transit, granted, denied, task, report, release, ghost_ended, count_dropped, dropped, tagged, goes_to, message_at}
use Rattle.rules.specs.Deliver.{book_absent, discarded, lowers, fits, deliver_wanted}
use Rattle.rules.proofs.Taken.{neither}
use Rattle.model.specs.Base.Cases.{eq_cases}
use Rattle.model.specs.State
use Rattle.model.specs.Guards.{Full, MayRun}
use Rattle.model.specs.Inv.{Inv}
use Rattle.model.proofs.Promises.Wanted.{publish_wanted, published_wanted, answer_wanted, task_wanted, report_wanted, release_wanted, count_dropped_wanted, dropped_wanted}
use Rattle.model.proofs.Promises.Ranges.{transit_room, task_room}
use Rattle.promises.specs.View.{view}
use Rattle.promises.proofs.Seen.{Seen}
use Rattle.promises.proofs.Rows.{read_dead, read_task_status, read_task_maker, read_home, read_opener, read_finish_status}
use Rattle.promises.proofs.BookCells.{read_present, read_live, read_sent, book_there}
use Rattle.promises.proofs.BookBytes.{square_in}
use Rattle.promises.proofs.WholeBooks.{read_book}
use Rattle.promises.proofs.LocalCells.{read_received, read_local_live, read_denied}
use Rattle.promises.proofs.Slots.{counts_at, read_message, read_counts}
use Rattle.promises.proofs.Good.{Good, as_seen, tasks_below}
use Rattle.promises.proofs.Tags.{by_tag}
use Rattle.promises.proofs.Named.{Names, in_flight, names}

pub every-below : (p : ℕ → Bool) (n : ℕ) → ((i : ℕ) → i < n → p i ≡ true) → every_below p n ≡ true
unfolding every_below
every-below p zero h = refl
every-below p (suc n) h = rw (h n (omega arith)) (every-below p n (λ i l. h i (omega arith)))

-- b, or else c
some_of_lem : (b c : Bool) → (b ≡ false → c ≡ true) → some_of (b ∷ c ∷ []) ≡ true
unfolding some_of
some_of_lem true c h = refl
some_of_lem false c h = rw (h refl) refl

-- an opener or spawner that is blocked may run
pub blocked-runs : {t : List ℕ} {a : State.State} → Seen t a → (o : ℕ) → o < 256 → MayRun a o → may_run t o ≡ true
unfolding may_run
blocked-runs {t} s o l h = eq_cases o 0
    (λ e. rw (eq-eqb o 0 e) refl)
    (λ n. rw (ne_eqb o 0 n) (eq-eqb (task_status t o) 6 (read_task_status s o (omega arith) l ∙ h (omega arith))))

module _ (t : List ℕ) (good : Good t) where
  s : Seen t (view t)
  s = as_seen good

  inv : Inv (view t)
  inv = good.inv

  -- discarded, or the place it goes to alive and the rest as wanted
  wants : (x : Message) → (discarded t x ≡ false → (dead t (goes_to t x) ≡ false) × (fits t x ≡ true)) → deliver_wanted t x ≡ true
  unfolding deliver_wanted
  wants x h = some_of_lem (discarded t x) (every (not (dead t (goes_to t x)) ∷ fits t x ∷ [])) (λ d.
      let r = h d in each_every (not (dead t (goes_to t x)) ∷ fits t x ∷ []) (ap not r.0, (r.1, tt)))

  -- the store is no place, and not dead
  store_lives : dead t 8 ≡ false
  store_lives = marked_high (dead_mask t) 8 (omega arith)

  module _ (k : ℕ) (k128 : k < 128) where
    abbrev m : State.Message
    m = (view t).slot k

    abbrev f : ℕ
    f = m.finish

    full : (n : ℕ) → m.tag ≡ n → Full (view t) k n
    full n e = record { range = in_flight good k k128; tag = e }

    module _ (some : 1 ≤ m.tag) where
      n : Names (view t) ((view t).slot k)
      n = names good k k128 some

      task_has : m.tag ≤ 6 → (v : ℕ) → (view t).tasks.status m.task ≡ v → eqb (task_status t m.task) v ≡ true
      task_has h v e = let r = n.task h in eq-eqb (task_status t m.task) v (read_task_status s m.task r.0 r.1 ∙ e)

      finish_has : (v : ℕ) → (view t).finishes.status f ≡ v → eqb (finish_status t f) v ≡ true
      finish_has v e = eq-eqb (finish_status t f) v (read_finish_status s f n.finish_low n.finish_high ∙ e)

      is_home_dead : dead t (home t f) ≡ (view t).dead ((view t).finishes.home f)
      is_home_dead = rw (read_home s f n.finish_low n.finish_high) (read_dead s ((view t).finishes.home f))

      there : book_absent t f ≡ false → (view t).books.present f ≡ 1
      there = book_there s f n.finish_low n.finish_high (inv.present_mark f)

      live_is : 3 ≤ m.tag → live t f m.from m.to ≡ (view t).books.live f m.from m.to
      live_is l = let p = n.places l in read_live s f n.finish_low n.finish_high m.from m.to p.0 p.1

      received_is : 3 ≤ m.tag → received t f m.to m.from ≡ (view t).locals.received f m.to m.from
      received_is l = let p = n.places l in read_received s f m.to n.finish_low n.finish_high p.1 m.from p.0

      wants_publish : m.tag ≡ 1 → deliver_wanted t (publish f m.task) ≡ true
      unfolding discarded goes_to fits book_absent
      wants_publish e = wants (publish f m.task) (λ d.
          let w = publish_wanted (view t) inv k (full 1 e) (sym is_home_dead ∙ d) in (
            store_lives,
            each_every (eqb (finish_status t f) 2 ∷ eqb (present t f) 0 ∷ [])
                (finish_has 2 w.0, (eq-eqb (present t f) 0 (read_present s f n.finish_low n.finish_high ∙ w.1), tt)),
          ))

      wants_published : m.tag ≡ 2 → deliver_wanted t (published f m.task) ≡ true
      unfolding goes_to fits
      wants_published e = wants (published f m.task) (λ d.
          let w = published_wanted (view t) inv k (full 2 e) in
          (is_home_dead ∙ w.0, each_every (eqb (finish_status t f) 2 ∷ eqb (task_status t m.task) 1 ∷ []) (finish_has 2 w.1, (task_has (omega arith) 1 w.2, tt))))

      wants_transit : m.tag ≡ 3 → deliver_wanted t (transit f m.task m.from m.to) ≡ true
      unfolding discarded goes_to fits
      wants_transit e = wants (transit f m.task m.from m.to) (λ d.
          let kept = neither (dead t m.from) (book_absent t f) d in
          let p = n.places (omega arith) in
          let counts : List Bool = leb (live t f m.from m.to) 254 ∷ leb (sent_count t f m.from m.to) 254 ∷ [] in (
            store_lives,
            some_of_lem (dead t m.to) (every counts) (λ y.
                let w = transit_room (view t) inv (tasks_below good) k (full 3 e) (sym (read_dead s m.from) ∙ kept.0) (there kept.1) (sym (read_dead s m.to) ∙ y) in
                each_every counts (
                  le-leb (live t f m.from m.to) 254 (omega (arith, live_is (omega arith), w.0)),
                  (le-leb (sent_count t f m.from m.to) 254 (omega (arith, read_sent s f n.finish_low n.finish_high m.from m.to p.0 p.1, w.1)), tt),
                )),
          ))

      -- 4 and 5
      wants_answer : 4 ≤ m.tag → m.tag ≤ 5 → (dead t m.from ≡ false) × (every (eqb (task_status t m.task) 2 ∷ may_run t (task_maker t m.task) ∷ []) ≡ true)
      wants_answer l h =
          let w = answer_wanted (view t) inv k m.tag l h (full m.tag refl) in
          let r = n.task (omega arith) in (
            read_dead s m.from ∙ w.0,
            each_every (eqb (task_status t m.task) 2 ∷ may_run t (task_maker t m.task) ∷ [])
                (task_has (omega arith) 2 w.1, (rw (read_task_maker s m.task r.0 r.1) (blocked-runs s ((view t).tasks.maker m.task) r.2 w.2), tt)),
          )

      wants_task : m.tag ≡ 6 → deliver_wanted t (task f m.task m.from m.to) ≡ true
      unfolding goes_to fits
      wants_task e = wants (task f m.task m.from m.to) (λ d.
          let w = task_wanted (view t) inv k (full 6 e) in
          let p = n.places (omega arith) in
          let deny = read_denied s f m.to n.finish_low n.finish_high p.1 m.from in
          let l : List Bool = eqb (task_status t m.task) 3 ∷ leb (received t f m.to m.from) 254 ∷ leb (local_live t f m.to) 254 ∷ [] in (
            read_dead s m.to ∙ w.0,
            some_of_lem (marked (deny_mask t f m.to) m.from) (every l) (λ y.
                let c = task_room (view t) inv (tasks_below good) k (full 6 e) (sym deny ∙ y) in
                each_every l (
                  task_has (omega arith) 3 w.1,
                  (
                    le-leb (received t f m.to m.from) 254 (omega (arith, received_is (omega arith), c.0)),
                    (le-leb (local_live t f m.to) 254 (omega (arith, read_local_live s f m.to n.finish_low n.finish_high p.1, c.1)), tt),
                  ),
                )),
          ))

      wants_report : m.tag ≡ 7 → deliver_wanted t (report f m.from (counts_at t k)) ≡ true
      unfolding discarded goes_to fits lowers
      wants_report e = wants (report f m.from (counts_at t k)) (λ d.
          let kept = neither (dead t m.from) (book_absent t f) d in
          let b = book_of t f in
          let p = n.places (omega arith) in
          let w = report_wanted (view t) inv k (full 7 e) (sym (read_dead s m.from) ∙ kept.0) (there kept.1) in
          let cell : (i : ℕ) → i < 8 → byte (book_of t f) (8 + 8 * i + m.from) ≡ (view t).books.live f i m.from = λ i h.
          sym (square_in b 8 i m.from h p.0) ∙ ap (λ (c : ℕ → ℕ → ℕ). c i m.from) (read_book s f n.finish_low n.finish_high).live in (
            store_lives,
            every-below (λ i. leb (byte (counts_at t k) i) (byte b (8 + 8 * i + m.from))) 8 (λ i h.
                le-leb (byte (counts_at t k) i) (byte b (8 + 8 * i + m.from)) (omega (arith, read_counts s k k128 i, cell i h, w i))),
          ))

      wants_release : m.tag ≡ 8 → deliver_wanted t (release f) ≡ true
      unfolding goes_to fits
      wants_release e = wants (release f) (λ d.
          let w = release_wanted (view t) inv k (full 8 e) in
          let r = inv.names_finish k (in_flight good k k128) some in
          let low : (view t).finishes.opener f < 256 = omega (arith, inv.finish_ranges f r.0 r.1, tasks_below good) in (
            is_home_dead ∙ w.0,
            each_every (eqb (finish_status t f) 3 ∷ may_run t (opener t f) ∷ [])
                (finish_has 3 w.1, (rw (read_opener s f n.finish_low n.finish_high) (blocked-runs s ((view t).finishes.opener f) low w.2), tt)),
          ))

      wants_count_dropped : m.tag ≡ 10 → deliver_wanted t (count_dropped f m.task m.from m.to m.number) ≡ true
      unfolding goes_to fits
      wants_count_dropped e = wants (count_dropped f m.task m.from m.to m.number) (λ d.
          let w = count_dropped_wanted (view t) inv k (full 10 e) in
          (read_dead s m.to ∙ w.0, le-leb (received t f m.to m.from) m.number (omega (arith, received_is (omega arith), w.1))))

      wants_dropped : m.tag ≡ 11 → deliver_wanted t (dropped f m.task m.from m.to m.number) ≡ true
      unfolding discarded goes_to fits
      wants_dropped e = wants (dropped f m.task m.from m.to m.number) (λ d.
          let kept = neither (dead t m.to) (book_absent t f) d in
          let w = dropped_wanted (view t) inv k (full 11 e) (sym (read_dead s m.to) ∙ kept.0) (there kept.1) in
          (store_lives, le-leb m.number (live t f m.from m.to) (omega (arith, live_is (omega arith)))))

    pub deliver_finds : deliver_wanted t (message_at t k) ≡ true
    unfolding tagged discarded goes_to fits
    deliver_finds = rw (read_message s k k128) (by_tag m.tag (inv.tags k (in_flight good k k128))
        (λ e. rw e (wants none (λ d. (store_lives, refl))))
        (λ e. rw e (wants_publish (omega arith) e))
        (λ e. rw e (wants_published (omega arith) e))
        (λ e. rw e (wants_transit (omega arith) e))
        (λ e. rw e (wants (granted f m.task m.from m.to) (λ d. wants_answer (omega arith) (omega arith) (omega arith))))
        (λ e. rw e (wants (denied f m.task m.from m.to) (λ d. wants_answer (omega arith) (omega arith) (omega arith))))
        (λ e. rw e (wants_task (omega arith) e))
        (λ e. rw e (wants_report (omega arith) e))
        (λ e. rw e (wants_release (omega arith) e))
        (λ e. rw e (wants (ghost_ended f m.number) (λ d. (store_lives, refl))))
        (λ e. rw e (wants_count_dropped (omega arith) e))
        (λ e. rw e (wants_dropped (omega arith) e)))
