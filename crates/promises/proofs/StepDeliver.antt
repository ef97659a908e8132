-- Taken delivers of tags 2, 4, 5, 6, 8 and 10, which go to a place, are moves of the model.
use mathlib.Core.Path.{◌≡◌, refl, sym, ◌∙◌, subst}
use mathlib.Core.Bool.{true, false, not}
use mathlib.Core.List.{List, [], ◌∷◌}
use Prim.Native.Nat.{ℕ, ◌≤◌, ◌<◌}
use native.Mathlib.Omega.{arith}
use lib.Dec.{eqb}
use borrow.Author.Tests.{eqb-true, leb-true}
use Rattle.tables.specs.Bits.{marked}
use Rattle.tables.specs.Walks.{every, some_of}
use Rattle.tables.proofs.Walks.{every_each}
use Rattle.rules.specs.Fields.{places, tasks_made, finishes_made, dead, task_status, finish_status, home, task_maker, deny_mask, received, may_run}
use Rattle.rules.specs.Action.{deliver}
use Rattle.rules.specs.Messages.{Message, published, granted, denied, task, release, count_dropped, tagged, message_at, goes_to}
use Rattle.rules.specs.Deliver.{discarded, waits_for_repair, held, fits, deliver_wanted, delivered, deliver_message, deliver_step, deliver_task}
use Rattle.rules.specs.Refusals.{must_wait, unwanted}
use Rattle.rules.proofs.Taken.{StepTaken, not-not, slot_there}
use Rattle.sound.proofs.Use.{Made, Ranges, slot_ranges}
use Rattle.model.specs.Base.Cases.{bool_cases}
use Rattle.model.specs.State.{State}
use Rattle.model.specs.Guards.{Full, MayRun}
use Rattle.model.specs.Effects.Deliver
use Rattle.model.specs.Effects.Deliver.{empty}
use Rattle.model.specs.Step.{Settle, delivers_published, delivers_granted, loses_granted, delivers_denied, delivers_task, refuses_task, delivers_release, delivers_count_dropped}
use Rattle.promises.proofs.Tests.{not_true, some_other}
use Rattle.promises.proofs.Rows.{read_places, read_tasks_made, read_finishes_made, read_dead, read_home, read_task_status, read_finish_status, read_task_maker, read_opener}
use Rattle.promises.proofs.Slots.{counts_at, read_message, read_slots}
use Rattle.promises.proofs.LocalCells.{read_received, read_denied}
use Rattle.promises.proofs.Held.{Held, places_most, task-fits, finish_fits_lem}
use Rattle.promises.proofs.Moved.{Moved, may_run_lem}
use Rattle.promises.proofs.TieDeliver.{tie_empty, tie_deliver_published, tie_deliver_denied, tie_deliver_granted, tie_lose_granted, tie_deliver_task, tie_deliver_release, tie_deliver_count_dropped}

-- a message that is neither discarded nor held
pub record Goes (t : List ℕ) (x : Message) : Type 0 where
  pub alive : dead t (goes_to t x) ≡ false
  pub fit : fits t x ≡ true
  pub calm : waits_for_repair t x ≡ false

module _ {t : List ℕ} {a : State} (h : Held t a) (k : ℕ) (taken : StepTaken t (deliver k)) where
  pub k_there : k < 128
  k_there = slot_there t k taken.there

  pub goes : (x : Message) → message_at t k ≡ x → discarded t x ≡ false → Goes t x
  unfolding must_wait unwanted held deliver_wanted
  goes x e n =
      let w = every_each _ (some_other (discarded t x) (every (not (dead t (goes_to t x)) ∷ fits t x ∷ [])) (rw e at (not-not (deliver_wanted t (message_at t k)) taken.wanted)) n) in
      record { alive = not_true (dead t (goes_to t x)) w.0; fit = w.1.0; calm = rw n at (rw e at taken.no_wait) }

  -- the message by its tag
  pub message_by : (n : ℕ) → (a.slot k).tag ≡ n → message_at t k ≡ tagged n (a.slot k).finish (a.slot k).task (a.slot k).from (a.slot k).to (a.slot k).number (counts_at t k)
  message_by n e = read_message h.seen k k_there ∙ rw e refl

  pub ranges : (x : Message) → message_at t k ≡ x → Ranges (places t) (tasks_made t) (finishes_made t) x
  ranges x e = subst (Ranges (places t) (tasks_made t) (finishes_made t)) e (slot_ranges t h.sound k k_there)

  pub full : (n : ℕ) → (a.slot k).tag ≡ n → Full a k n
  full n e = record { range = rw (read_slots h.seen) k_there; tag = e }

  -- made numbers and places, in the state
  pub finish_in : (f : ℕ) → Made (finishes_made t) f → (0 < f) × (f ≤ a.finishes.made)
  finish_in f r = (r.0, omega (arith, r.1, read_finishes_made h.seen))

  pub task_in : (x : ℕ) → Made (tasks_made t) x → (0 < x) × (x ≤ a.tasks.made)
  task_in x r = (r.0, omega (arith, r.1, read_tasks_made h.seen))

  pub place_in : (v : ℕ) → v < places t → v < 8
  place_in v r = omega (arith, read_places h.seen, places_most h)

  module _ (f x v j n : ℕ) where
    pub published_moves : (a.slot k).tag ≡ 2 → message_at t k ≡ published f x → (a.slot k).finish ≡ f → (a.slot k).task ≡ x → Moved (Settle a) (deliver_step t k)
    unfolding deliver_step deliver_message discarded delivered fits goes_to
    published_moves e m is_finish is-task =
        let s = h.seen in
        let r = ranges (published f x) m in
        let f_in = finish_in f r.0 in
        let x_in = task_in x r.1 in
        let f33 = (finish_fits_lem h f f_in.0 f_in.1).number in
        let x256 = (task-fits h x x_in.0 x_in.1).number in
        let g = goes (published f x) m refl in
        let w = every_each _ g.fit in
        rw m (
          Deliver.deliver_published a k,
          tie_deliver_published s k k_there x x_in.0 x256 is-task f is_finish f_in.0 f33,
          delivers_published k (full 2 e) (rw (is_finish, sym (read_home s f f_in.0 f33), sym (read_dead s (home t f))) g.alive)
              (rw is_finish (sym (read_finish_status s f f_in.0 f33) ∙ eqb-true (finish_status t f) 2 w.0))
              (rw is-task (sym (read_task_status s x x_in.0 x256) ∙ eqb-true (task_status t x) 1 w.1.0)),
        )

    -- 4 and 5 want the task waiting for transit, and its spawner blocked
    waits : (y : Message) → Goes t y → (0 < x) × (x ≤ a.tasks.made) → fits t y ≡ every (eqb (task_status t x) 2 ∷ may_run t (task_maker t x) ∷ [])
        → (a.tasks.status x ≡ 2) × MayRun a (a.tasks.maker x)
    waits y g x_in e =
        let s = h.seen in
        let r = task-fits h x x_in.0 x_in.1 in
        let w = every_each _ (sym e ∙ g.fit) in (
          sym (read_task_status s x x_in.0 r.number) ∙ eqb-true (task_status t x) 2 w.0,
          may_run_lem s (a.tasks.maker x) r.maker (rw (read_task_maker s x x_in.0 r.number) at w.1.0),
        )

    module _ (is_finish : (a.slot k).finish ≡ f) (is-task : (a.slot k).task ≡ x) (is-from : (a.slot k).from ≡ v) (is-to : (a.slot k).to ≡ j) where
      pub granted_moves : (a.slot k).tag ≡ 4 → message_at t k ≡ granted f x v j → Moved (Settle a) (deliver_step t k)
      unfolding deliver_step deliver_message discarded delivered fits goes_to
      granted_moves e m =
          let s = h.seen in
          let r = ranges (granted f x v j) m in
          let x_in = task_in x r.0.1 in
          let own = task-fits h x x_in.0 x_in.1 in
          let g = goes (granted f x v j) m refl in
          let w = waits (granted f x v j) g x_in refl in
          let lives : a.dead (a.slot k).from ≡ false = rw is-from (sym (read_dead s v) ∙ g.alive) in
          let status = rw (← is-task) at w.0 in
          let may = rw (← is-task) at w.1 in
          rw m (bool_cases (a.dead j)
          (λ d. (Deliver.lose_granted a k, tie_lose_granted s k k_there x x_in.0 own.number is-task f v j is_finish is-from is-to own.maker d, loses_granted k (full 4 e) lives status may (rw is-to d)))
          (λ d. (Deliver.deliver_granted a k, tie_deliver_granted s k k_there x x_in.0 own.number is-task f v j is_finish is-from is-to own.maker d, delivers_granted k (full 4 e) lives status may (rw is-to d))))

      pub denied_moves : (a.slot k).tag ≡ 5 → message_at t k ≡ denied f x v j → Moved (Settle a) (deliver_step t k)
      unfolding deliver_step deliver_message discarded delivered fits goes_to
      denied_moves e m =
          let s = h.seen in
          let r = ranges (denied f x v j) m in
          let x_in = task_in x r.0.1 in
          let own = task-fits h x x_in.0 x_in.1 in
          let g = goes (denied f x v j) m refl in
          let w = waits (denied f x v j) g x_in refl in
          rw m (
            Deliver.deliver_denied a k,
            tie_deliver_denied s k k_there x x_in.0 own.number is-task own.maker,
            delivers_denied k (full 5 e) (rw is-from (sym (read_dead s v) ∙ g.alive)) (rw (← is-task) at w.0) (rw (← is-task) at w.1),
          )

      pub task_moves : (a.slot k).tag ≡ 6 → message_at t k ≡ task f x v j → Moved (Settle a) (deliver_step t k)
      unfolding deliver_step deliver_message discarded delivered fits goes_to deliver_task some_of
      task_moves e m =
          let s = h.seen in
          let r = ranges (task f x v j) m in
          let f_in = finish_in f r.0.0 in
          let x_in = task_in x r.0.1 in
          let f33 = (finish_fits_lem h f f_in.0 f_in.1).number in
          let x256 = (task-fits h x x_in.0 x_in.1).number in
          let v8 = place_in v r.1.0 in
          let j8 = place_in j r.1.1 in
          let g = goes (task f x v j) m refl in
          let lives : a.dead (a.slot k).to ≡ false = rw is-to (sym (read_dead s j) ∙ g.alive) in
          let is_denied : marked (deny_mask t f j) v ≡ a.locals.denied (a.slot k).finish (a.slot k).to (a.slot k).from = read_denied s f j f_in.0 f33 j8 v ∙ rw (is_finish, is-to, is-from) refl in
          rw m (bool_cases (marked (deny_mask t f j) v)
          (λ d. rw d (empty a k, tie_empty s k k_there, refuses_task k (full 6 e) lives (sym is_denied ∙ d)))
          (λ d. let w = every_each _ (some_other _ _ g.fit d) in
          rw d (
            Deliver.deliver_task a k,
            tie_deliver_task s k k_there x x_in.0 x256 is-task f v j is_finish is-from is-to f_in.0 f33 v8 j8,
            delivers_task k (full 6 e) lives (sym is_denied ∙ d) (rw is-task (sym (read_task_status s x x_in.0 x256) ∙ eqb-true (task_status t x) 3 w.0)),
          )))

      pub count_dropped_moves : (a.slot k).tag ≡ 10 → (a.slot k).number ≡ n → message_at t k ≡ count_dropped f x v j n → Moved (Settle a) (deliver_step t k)
      unfolding deliver_step deliver_message discarded delivered fits goes_to
      count_dropped_moves e is_number m =
          let s = h.seen in
          let r = ranges (count_dropped f x v j n) m in
          let f_in = finish_in f r.0 in
          let f33 = (finish_fits_lem h f f_in.0 f_in.1).number in
          let v8 = place_in v r.1.0 in
          let j8 = place_in j r.1.1 in
          let g = goes (count_dropped f x v j n) m refl in
          rw m (
            Deliver.deliver_count_dropped a k,
            tie_deliver_count_dropped s k k_there f x v j n is_finish is-task is-from is-to is_number f_in.0 f33 v8 j8,
            delivers_count_dropped k (full 10 e) (rw is-to (sym (read_dead s j) ∙ g.alive))
                (rw (is_finish, is-to, is-from, is_number) (omega (arith, leb-true (received t f j v) n g.fit, read_received s f j f_in.0 f33 j8 v v8))),
          )

    pub release_moves : (a.slot k).tag ≡ 8 → message_at t k ≡ release f → (a.slot k).finish ≡ f → Moved (Settle a) (deliver_step t k)
    unfolding deliver_step deliver_message discarded delivered fits goes_to
    release_moves e m is_finish =
        let s = h.seen in
        let f_in = finish_in f (ranges (release f) m) in
        let own = finish_fits_lem h f f_in.0 f_in.1 in
        let g = goes (release f) m refl in
        let w = every_each _ g.fit in
        rw m (
          Deliver.deliver_release a k,
          tie_deliver_release s k k_there f is_finish f_in.0 own.number own.opener,
          delivers_release k (full 8 e) (rw (is_finish, sym (read_home s f f_in.0 own.number), sym (read_dead s (home t f))) g.alive)
              (rw is_finish (sym (read_finish_status s f f_in.0 own.number) ∙ eqb-true (finish_status t f) 3 w.0))
              (rw is_finish (may_run_lem s (a.finishes.opener f) own.opener (rw (read_opener s f f_in.0 own.number) at w.1.0))),
        )
