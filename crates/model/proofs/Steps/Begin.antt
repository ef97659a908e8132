-- A begin establishes the invariant.
use Rattle.std.specs.Prelude.{◌≡◌, refl, Bool, true, false, ℕ, ◌≤◌, ◌<◌, eqb}
use Rattle.std.proofs.Common.{arith, ne_eqb}
use Rattle.model.specs.Base.{upd, upd_same, upd_other, on_false, is₂, is₃, is₂_false, is₃_false, sum_zero, both, eq_cases}
use Rattle.model.specs.State.{Message}
use Rattle.model.specs.Messages.{tallied, naming, tallied-none}
use Rattle.model.specs.Weights.{weigh, weigh_off, weigh_out}
use Rattle.model.specs.Effects.Begin.{begun}
use Rattle.model.specs.Inv.{Inv}
use Rattle.model.specs.Inv.Statuses.{Blocked}
use Rattle.model.specs.Inv.Locals.{LocalLive}

-- row 1 alone is made
row_one : (v x : ℕ) → 0 < upd (λ y. 0) 1 v x → x ≡ 1
row_one v x h = eq_cases x 1 (λ e. e) (λ n. absurd (omega (arith, upd_other (λ y. 0) 1 v x n)))

row_is : (v x : ℕ) → x ≡ 1 → upd (λ y. 0) 1 v x ≡ v
row_is v x e = rw e (upd_same (λ y. 0) 1 v)

row_most : (v x : ℕ) → upd (λ y. 0) 1 v x ≤ v
row_most v x = eq_cases x 1 (λ e. omega (arith, row_is v x e)) (λ n. omega (arith, upd_other (λ y. 0) 1 v x n))

module _ (n m : ℕ) (two : 2 ≤ n) where
  blocked : Blocked (begun n m)
  blocked b h = omega (
    arith,
    weigh_out true 6 6 (upd (λ t. 0) 1 5 b) (λ a _. omega (arith, row_most 5 b)),
    sum_zero 2 (λ t. weigh (is₂ 0 0 1 b) 1 2 (upd (λ t. 0) 1 5 t)) (λ t _. weigh_off (is₂ 0 0 1 b) 1 2 (upd (λ t. 0) 1 5 t) (is₂_false 0 0 1 b (λ e _. omega arith))),
    sum_zero 2 (λ f. weigh (eqb 0 b) 1 3 (upd (λ f. 0) 1 1 f)) (λ f _. weigh_off (eqb 0 b) 1 3 (upd (λ f. 0) 1 1 f) (ne_eqb 0 b (λ e. omega arith))),
  )

  local_live : LocalLive (begun n m)
  local_live f j = omega (
    arith,
    sum_zero 2 (λ t. weigh (is₃ 0 (upd (λ t. 0) 1 1 t) 0 1 f j) 5 6 (upd (λ t. 0) 1 5 t))
        (λ t _. weigh_off (is₃ 0 (upd (λ t. 0) 1 1 t) 0 1 f j) 5 6 (upd (λ t. 0) 1 5 t) (is₃_false 0 (upd (λ t. 0) 1 1 t) 0 1 f j (λ e _ _. omega arith))),
  )

  -- no message in flight
  none_of : (t : ℕ) (b : Message → Bool) (w : Message → ℕ) → 0 < t → tallied (begun n m) t b w ≡ 0
  none_of = tallied-none (begun n m) (λ k _. refl)

  none-naming : (t x : ℕ) → 0 < t → naming (begun n m) t x ≡ 0
  none-naming t x h = none_of t (λ m. eqb m.task x) (λ m. 1) h

  pub begin_holds : Inv (begun n m)
  begin_holds = record {
    places = two;
    dead_places = λ p d. both d refl;
    task_ranges = λ t a b. omega (arith, row_is 1 t (omega arith));
    main_tasks = λ t a b _. rw (row_is 1 t (omega arith), row_is 1 1 refl) (refl, refl, omega arith, refl);
    sent_tasks = λ t e. absurd (omega arith);
    task_statuses = λ t a b. omega (arith, row_is 5 t (omega arith));
    main_statuses = λ t a b _. omega (arith, row_is 5 t (omega arith));
    status_made = λ t h. omega (arith, row_one 5 t h);
    sent_made = λ t h. absurd (omega arith);
    finish_ranges = λ f a b. omega (arith, row_is 1 f (omega arith));
    root = omega (arith, row_is 1 1 refl);
    opened = λ f a b. absurd (omega arith);
    mains = λ f a b. omega (arith, row_is 1 (upd (λ f. 0) 1 1 f) (row_is 1 f (omega arith)));
    finish_statuses = λ f a b. omega (arith, row_is 1 f (omega arith));
    published_mark = λ f. omega arith;
    finish_made = λ f h. omega (arith, row_one 1 f h);
    published_made = λ f h. absurd (omega arith);
    blank_finishes = λ f _. (refl, refl);
    active = λ f e. (refl, omega (arith, row_is 5 (upd (λ f. 0) 1 1 f) (row_is 1 f (row_one 1 f (omega arith)))), omega (arith, row_most 5 (upd (λ f. 0) 1 1 f)));
    publishing = λ f e. absurd (omega (arith, row_most 1 f));
    waiting = λ f e. absurd (omega (arith, row_most 1 f));
    released = λ f e. absurd (omega (arith, row_most 1 f));
    lost = λ f e. absurd (omega (arith, row_most 1 f));
    dead_home = λ f a b d. both d refl;
    busy = λ t a b. refl;
    waiters = λ t a b. refl;
    lost_tasks = λ t e. absurd (omega (arith, row_most 5 t));
    first_task = λ t e. absurd (omega arith);
    first_lost = λ t e. absurd (omega arith);
    blocked = blocked;
    tags = λ k _. omega arith;
    names_finish = λ k _ a. absurd (omega arith);
    names_task = λ k _ a. absurd (omega arith);
    names_pair = λ k _ a. absurd (omega arith);
    names_places = λ k _ a. absurd (omega arith);
    publishes = λ k _ a. absurd (omega arith);
    published = λ k _ a. absurd (omega arith);
    publish_once = λ f. omega (arith, none_of 1 (λ m. eqb m.finish f) (λ m. 1) (omega arith), none_of 2 (λ m. eqb m.finish f) (λ m. 1) (omega arith));
    publish_some = λ f e. absurd (omega (arith, row_most 1 f));
    transits = λ k _ a. absurd (omega arith);
    lost_transits = λ k _ a. absurd (omega arith);
    on_wire = λ k _ a. absurd (omega arith);
    late = λ k _ a. absurd (omega arith);
    named_once = λ t. omega (arith, none-naming 1 t (omega arith), none-naming 2 t (omega arith), none-naming 3 t (omega arith), none-naming 4 t (omega arith), none-naming 5 t (omega arith), none-naming 6 t (omega arith));
    named_publish = λ t e. absurd (omega (arith, row_is 5 t (row_one 5 t (omega arith))));
    named_transit = λ t e. absurd (omega (arith, row_is 5 t (row_one 5 t (omega arith))));
    report_counts = λ k _ a. absurd (omega arith);
    report_book = λ k _ a. absurd (omega arith);
    release_some = λ f e. absurd (omega (arith, row_most 1 f));
    release_none = λ f _. none_of 8 (λ m. eqb m.finish f) (λ m. 1) (omega arith);
    ghosts = λ q g. omega (arith, none_of 9 (λ m. is₂ m.finish m.number q g) (λ m. 1) (omega arith), on_false (is₃ 0 0 0 1 1 q) 1 (is₃_false 0 0 0 1 1 q (λ e _ _. omega arith)), on_false false 1 refl);
    ghost_made = λ q g e. both e refl;
    ghost_ends = λ k _ a. absurd (omega arith);
    asks = λ k _ a. absurd (omega arith);
    questions = λ k _ a. absurd (omega arith);
    fresh_messages = λ k _ a. absurd (omega arith);
    fresh_locals = λ f j i _. (refl, refl, refl, refl);
    fresh_book = λ f i j _ p. absurd (omega arith);
    present_mark = λ f. omega arith;
    due_mark = λ f. omega arith;
    adopted_mark = λ f. omega arith;
    book_made = λ f p. absurd (omega arith);
    book_unreleased = λ f p. absurd (omega arith);
    active_book = λ f _. refl;
    book_counts = λ f _ p. absurd (omega arith);
    due_column = λ f p. absurd (omega arith);
    book_parent = λ f p. absurd (omega arith);
    adopted_dead = λ f p. absurd (omega arith);
    orphans = λ f p. absurd (omega arith);
    book_above = λ f p. absurd (omega arith);
    skipped = λ f x p. absurd (omega arith);
    cell_places = λ f i j h. absurd (omega arith);
    counted = λ f i j p. absurd (omega arith);
    counted_denied = λ f i j p. absurd (omega arith);
    no_answer = λ f i j p. absurd (omega arith);
    marked = λ f i j p. absurd (omega arith);
    asked_dead = λ f i j a. both a refl;
    sent_from = λ f i j p. absurd (omega arith);
    sent_most = λ f i j p. absurd (omega arith);
    not_from_self = λ f j. refl;
    sent_book = λ f i j h. absurd (omega arith);
    sent_tasks_most = λ f i j _. omega (arith, none_of 3 (λ m. is₃ m.finish m.from m.to f i j) (λ m. 1) (omega arith));
    local_live = local_live;
    reported_most = λ f j i. omega arith;
    pending = λ f j h. absurd (omega arith);
    unreported = λ f j i h. absurd (omega arith);
    reports_most = λ f i j _ _. omega (arith, none_of 7 (λ m. is₂ m.finish m.from f j) (λ m. m.counts i) (omega arith));
    denied_dead = λ f j i d. both d refl;
    local_book = λ f j h. absurd (omega arith);
  }
