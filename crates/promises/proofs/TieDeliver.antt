-- Deliver of tags 2, 3, 4, 5, 6, 8 and 10: the rule's tables are seen as the model's effect.
use mathlib.Core.Path.{◌≡◌, refl, sym, ap, ◌∙◌}
use mathlib.Core.Bool.{true, false, cond, ◌||◌}
use mathlib.Core.List.{List}
use Prim.Native.Nat.{ℕ, ◌+◌, ◌-◌, ◌<◌}
use native.Mathlib.Omega.{arith}
use Rattle.rules.specs.Messages.{none, transit, granted, denied, task, dropped, send}
use Rattle.rules.specs.Deliver
use Rattle.model.specs.Base.Cases.{both}
use Rattle.model.specs.Base.Updates.{upd, on, on_true, on_false, is₂, is₃, is₂-cases, is₃-cases, is₂_same, is₃_same, is₃_false}
use Rattle.model.specs.State.{State, with_task_status, with_live, with_sent, with_received, with_local_live, with_denied, with_slot}
use Rattle.model.specs.Messages
use Rattle.model.specs.Effects.Deliver.{empty, deliver_published, deliver_transit, refuse_transit, deliver_granted, lose_granted, deliver_denied, deliver_task, deliver_release, deliver_count_dropped}
use Rattle.promises.proofs.Seen.{Seen, same}
use Rattle.promises.proofs.Rows.{read_dead, read_task_from, read_task_at, read_task_maker, read_opener, seen_task_status, seen_finish_status, seen_published, seen_runs}
use Rattle.promises.proofs.Slots.{seen_send}
use Rattle.promises.proofs.BookCells.{read_live, read_sent, seen_live, seen_sent}
use Rattle.promises.proofs.LocalCells.{read_received, read_local_live, seen_received, seen_local_live, seen_denied}

-- a cell raised by one
raise₃ : (g : ℕ → ℕ → ℕ → ℕ) (a b c x y z : ℕ) → cond (is₃ a b c x y z) (g a b c + 1) (g x y z) ≡ g x y z + on (is₃ a b c x y z) 1
raise₃ g a b c x y z = is₃-cases a b c x y z
    (λ p q r. rw (sym p, sym q, sym r, is₃_same a b c, on_true true 1 refl) refl)
    (λ e. rw (e, on_false false 1 refl) (omega arith))

raise₂ : (g : ℕ → ℕ → ℕ) (a b x y : ℕ) → cond (is₂ a b x y) (g a b + 1) (g x y) ≡ g x y + on (is₂ a b x y) 1
raise₂ g a b x y = is₂-cases a b x y
    (λ p q. rw (sym p, sym q, is₂_same a b, on_true true 1 refl) refl)
    (λ e. rw (e, on_false false 1 refl) (omega arith))

-- a key with its last two numbers in the other order
is₃_swap : (a b c x y z : ℕ) → is₃ a b c x y z ≡ is₃ a c b x z y
is₃_swap a b c x y z = is₃-cases a b c x y z
    (λ p q r. rw (sym p, sym q, sym r, is₃_same a b c, is₃_same a c b) refl)
    (λ e. rw (e, is₃_false a c b x z y (λ p q r. both (rw (sym p, sym q, sym r) (is₃_same a b c)) e)) refl)

module _ {t : List ℕ} {a : State} (s : Seen t a) (k : ℕ) (k128 : k < 128) where
  -- a message discarded, or a task message whose sender is denied
  pub tie_empty : Seen (send t k none) (empty a k)
  tie_empty = seen_send s k k128 none tt

  module _ (x : ℕ) (x0 : 0 < x) (x256 : x < 256) (is : (a.slot k).task ≡ x) where
    pub tie_deliver_published : (f : ℕ) → (a.slot k).finish ≡ f → 0 < f → f < 33 → Seen (Deliver.deliver_published t k f x) (deliver_published a k)
    unfolding Deliver.deliver_published
    tie_deliver_published f e f0 f33 =
        rw (e, is, read_task_from s x x0 x256, read_task_at s x x0 x256)
        (seen_send (seen_task_status (seen_published (seen_finish_status s f 1 f0 f33) f f0 f33) x 2 x0 x256) k k128 (transit f x (a.tasks.from x) (a.tasks.at x)) tt)

    pub tie_deliver_denied : a.tasks.maker x < 256 → Seen (Deliver.deliver_denied t k x) (deliver_denied a k)
    unfolding Deliver.deliver_denied
    tie_deliver_denied m = rw (is, read_task_maker s x x0 x256) (seen_runs (seen_task_status tie_empty x 4 x0 x256) (a.tasks.maker x) m)

    module _ (f v j : ℕ) (is_finish : (a.slot k).finish ≡ f) (is-from : (a.slot k).from ≡ v) (is-to : (a.slot k).to ≡ j) where
      pub tie_deliver_granted : a.tasks.maker x < 256 → a.dead j ≡ false → Seen (Deliver.deliver_granted t k f x v j) (deliver_granted a k)
      unfolding Deliver.deliver_granted
      tie_deliver_granted m lives =
          rw (is, is_finish, is-from, is-to, read_task_maker s x x0 x256, read_dead s j, lives)
          (seen_runs (seen_task_status (seen_send s k k128 (task f x v j) tt) x 3 x0 x256) (a.tasks.maker x) m)

      pub tie_lose_granted : a.tasks.maker x < 256 → a.dead j ≡ true → Seen (Deliver.deliver_granted t k f x v j) (lose_granted a k)
      unfolding Deliver.deliver_granted
      tie_lose_granted m died = rw (is, read_task_maker s x x0 x256, read_dead s j, died) (seen_runs (seen_task_status tie_empty x 3 x0 x256) (a.tasks.maker x) m)

      module _ (f0 : 0 < f) (f33 : f < 33) (v8 : v < 8) (j8 : j < 8) where
        pub tie_deliver_transit : a.dead j ≡ false → Seen (Deliver.deliver_transit t k f x v j) (deliver_transit a k)
        unfolding Deliver.deliver_transit Deliver.counted
        tie_deliver_transit lives =
            rw (read_dead s j, lives, read_live s f f0 f33 v j v8 j8, read_sent s f f0 f33 v j v8 j8, is, is_finish, is-from, is-to)
            (same (seen_send (seen_sent (seen_live s f f0 f33 v v8 j (a.books.live f v j + 1) j8) f f0 f33 v v8 j (a.books.sent f v j + 1) j8) k k128 (granted f x v j) tt)
            (λ z. with_slot (upd a.slot k (Messages.granted f x v j)) (with_live (λ b i c. raise₃ a.books.live f v j b i c z) (with_sent (λ b i c. raise₃ a.books.sent f v j b i c z) a))))

        pub tie_refuse_transit : a.dead j ≡ true → Seen (Deliver.deliver_transit t k f x v j) (refuse_transit a k)
        unfolding Deliver.deliver_transit
        tie_refuse_transit died = rw (read_dead s j, died, is, is_finish, is-from, is-to) (seen_send s k k128 (denied f x v j) tt)

        pub tie_deliver_task : Seen (send (Deliver.arrived t f x v j) k none) (deliver_task a k)
        unfolding Deliver.arrived
        tie_deliver_task =
            rw (read_received s f j f0 f33 j8 v v8, read_local_live s f j f0 f33 j8, is, is_finish, is-from, is-to)
            (same (seen_send (seen_task_status (seen_local_live (seen_received s f j f0 f33 j8 v (a.locals.received f j v + 1) v8) f j f0 f33 j8 (a.locals.live f j + 1)) x 5 x0 x256) k k128 none tt)
            (λ z. with_slot (upd a.slot k Messages.none)
            (with_received (λ b c i. (raise₃ a.locals.received f j v b c i ∙ ap (λ y. a.locals.received b c i + on y 1) (is₃_swap f j v b c i)) z)
            (with_local_live (λ b c. raise₂ a.locals.live f j b c z) (with_task_status (upd a.tasks.status x 5) a)))))

  pub tie_deliver_release : (f : ℕ) → (a.slot k).finish ≡ f → 0 < f → f < 33 → a.finishes.opener f < 256 → Seen (Deliver.deliver_release t k f) (deliver_release a k)
  unfolding Deliver.deliver_release
  tie_deliver_release f e f0 f33 o = rw (e, read_opener s f f0 f33) (seen_runs (seen_finish_status tie_empty f 4 f0 f33) (a.finishes.opener f) o)

  pub tie_deliver_count_dropped : (f x v j n : ℕ) → (a.slot k).finish ≡ f → (a.slot k).task ≡ x → (a.slot k).from ≡ v → (a.slot k).to ≡ j → (a.slot k).number ≡ n → 0 < f → f < 33 → v < 8 → j < 8
      → Seen (Deliver.deliver_count_dropped t k f x v j n) (deliver_count_dropped a k)
  unfolding Deliver.deliver_count_dropped
  tie_deliver_count_dropped f x v j n is_finish is-task is-from is-to is_number f0 f33 v8 j8 =
      rw (read_received s f j f0 f33 j8 v v8, is_finish, is-task, is-from, is-to, is_number)
      (same (seen_send (seen_denied s f j f0 f33 j8 v v8) k k128 (dropped f x v j (n - a.locals.received f j v)) tt)
      (λ z. with_slot (upd a.slot k (Messages.dropped f x v j (n - a.locals.received f j v))) (with_denied (λ b c i. a.locals.denied b c i || is₃_swap f j v b c i z) a)))
