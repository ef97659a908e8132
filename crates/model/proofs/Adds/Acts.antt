-- What spawn and end add to the work left: the way of the message that they send. No finish gets fresh by them.
use Rattle.std.specs.Prelude.{◌≡◌, refl, Bool, true, false, cond, ◌||◌, ℕ, suc, ◌+◌, ◌≤◌, eqb}
use Rattle.std.proofs.Common.{arith, ne_eqb}
use Rattle.model.specs.Base.{upd, upd-cases, sum_mono, sum-upd, and_none, or-false, both}
use Rattle.model.specs.State.{State, Message, Tasks, Locals, with_tasks, with_finish_status, with_locals, with_slot}
use Rattle.model.specs.Guards.{Free}
use Rattle.model.specs.Messages.{publish, transit}
use Rattle.model.specs.Effects.Spawn.{spawn_first, spawn_later}
use Rattle.model.specs.Effects.End.{end_unpublished, home_report, end_published, end_other, local_report, end_last}
use Rattle.model.specs.Step.{Spawn, spawns_first, spawns_later, End, ends_unpublished, ends_published, ends_other, ends_last}
use Rattle.model.specs.Work.{way, fresh, book_work, books_work, work}

-- a finish that waits for release, is released or lost gets no book any more
pub not-fresh : (published status : ℕ) → 3 ≤ status → fresh published status ≡ false
unfolding fresh
not-fresh published status h = and_none (eqb published 0) (eqb status 1 || eqb status 2)
    (or-false (eqb status 1) (eqb status 2) (ne_eqb status 1 (λ e. omega arith)) (ne_eqb status 2 (λ e. omega arith)))

is_fresh : (published status : ℕ) → published ≡ 0 → status ≡ 1 → fresh published status ≡ true
unfolding fresh
is_fresh published status p e = rw (p, e)

-- the work of a book rises by at most c, if both of its cases do and what is fresh was fresh
pub case_adds : (present now was : Bool) (x y v w c : ℕ) → x ≤ y + c → v ≤ w + c → (now ≡ true → was ≡ true) → cond present x (cond now v 0) ≤ cond present y (cond was w 0) + c
case_adds true now was x y v w c a b h = a
case_adds false true true x y v w c a b h = b
case_adds false true false x y v w c a b h = both (h refl) refl
case_adds false false was x y v w c a b h = omega arith

pub way-none : way 0 ≡ 0
unfolding way
way-none = refl

-- each finish that is fresh with these statuses was fresh
abbrev pub WereFresh : State → (ℕ → ℕ) → Type 0
WereFresh s status = (f : ℕ) → fresh (s.finishes.published f) (status f) ≡ true → fresh (s.finishes.published f) (s.finishes.status f) ≡ true

turned : (s : State) (f v : ℕ) → (fresh (s.finishes.published f) v ≡ true → fresh (s.finishes.published f) (s.finishes.status f) ≡ true) → WereFresh s (upd s.finishes.status f v)
turned s f v h g = upd-cases s.finishes.status (λ w. fresh (s.finishes.published g) w ≡ true → fresh (s.finishes.published g) (s.finishes.status g) ≡ true) f v g
    (λ q. rw q h)
    (λ _ e. e)

closed : (s : State) (f v : ℕ) → 3 ≤ v → WereFresh s (upd s.finishes.status f v)
closed s f v h = turned s f v (λ e. both e (not-fresh (s.finishes.published f) v h))

-- tasks, local books and statuses of finishes are changed; then a message is sent, or none
module _ (s : State) (tasks : Tasks) (locals : Locals) (status : ℕ → ℕ) (were_fresh : WereFresh s status) where
  abbrev after : (ℕ → Message) → State
  after slot = with_slot slot (with_locals locals (with_finish_status status (with_tasks tasks s)))

  book_falls : (slot : ℕ → Message) (f : ℕ) → book_work (after slot) f ≤ book_work s f + 0
  unfolding book_work
  book_falls slot f = case_adds (eqb (s.books.present f) 1) (fresh (s.finishes.published f) (status f)) (fresh (s.finishes.published f) (s.finishes.status f)) _ _ _ _ 0
      (omega arith) (omega arith) (were_fresh f)

  books_fall : (slot : ℕ → Message) → books_work (after slot) ≤ books_work s
  books_fall slot = sum_mono (suc s.finishes.made) (book_work (after slot)) (book_work s) (λ f _. omega (arith, book_falls slot f))

  none_adds : work (after s.slot) ≤ work s
  unfolding work
  none_adds = omega (arith, books_fall s.slot)

  one_adds : (k : ℕ) (m : Message) → Free s k → work (after (upd s.slot k m)) ≤ work s + way m.tag
  unfolding work
  one_adds k m free =
      let none : way (s.slot k).tag ≡ 0 = rw free.tag way-none in
      omega (arith, books_fall (upd s.slot k m), sum-upd s.slots (λ _ w. way w.tag) s.slot k m free.range, none)

pub spawn_adds : {s : State} {t p : ℕ} {s' : State} → Spawn s t p s' → work s' ≤ work s + 5
unfolding way
spawn_adds {s} {t = t} {p = p} (spawns_first k a b c free e u st) =
    let f = s.tasks.finish t in
    one_adds s (spawn_first s t p k).tasks s.locals (upd s.finishes.status f 2)
    (turned s f 2 (λ _. is_fresh (s.finishes.published f) (s.finishes.status f) u st)) k (publish f (suc s.tasks.made)) free
spawn_adds {s} {t = t} {p = p} (spawns_later k a b c free e) =
    let one = one_adds s (spawn_later s t p k).tasks s.locals s.finishes.status (λ f h. h) k (transit (s.tasks.finish t) (suc s.tasks.made) (s.tasks.at t) p) free in
    omega arith

pub end_adds : {s : State} {t : ℕ} {s' : State} → End s t s' → work s' ≤ work s + 1
unfolding way
end_adds {s} {t = t} (ends_unpublished a b c d e) =
    let f = s.tasks.finish t in
    let none = none_adds s (end_unpublished s t).tasks s.locals (upd s.finishes.status f 4) (closed s f 4 (omega arith)) in
    omega arith
end_adds {s} {t = t} (ends_published k a b c d free) =
    let f = s.tasks.finish t in
    one_adds s (end_published s t k).tasks s.locals (upd s.finishes.status f 3) (closed s f 3 (omega arith)) k (home_report f (s.finishes.home f)) free
end_adds {s} {t = t} (ends_other a b c) =
    let none = none_adds s (end_other s t).tasks (end_other s t).locals s.finishes.status (λ f h. h) in
    omega arith
end_adds {s} {t = t} (ends_last k a b c free d) =
    one_adds s (end_last s t k).tasks (end_last s t k).locals s.finishes.status (λ f h. h) k (local_report s (s.tasks.finish t) (s.tasks.at t)) free
