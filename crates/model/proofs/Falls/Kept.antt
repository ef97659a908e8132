-- Deliver, adopt, cancel and ask make no task and no finish, kill no place, and leave an ended task ended.
use Rattle.std.specs.Prelude.{◌≡◌, refl, ℕ, ◌<◌}
use Rattle.std.proofs.Common.{◌∙◌, arith}
use Rattle.model.specs.Base.{upd, upd_other, upd-cases}
use Rattle.model.specs.State.{State}
use Rattle.model.specs.Guards.{MayRun}
use Rattle.model.specs.Effects.End.{wake}
use Rattle.model.specs.Effects.Closing.{Closing, stays, ends_ghost, releases, vanishes}
use Rattle.model.specs.Step.{Settle, adopts, cancels, asks, discards, delivers_publish, delivers_published, delivers_transit, refuses_transit, delivers_granted, loses_granted, delivers_denied, delivers_task, refuses_task, delivers_report, delivers_release, delivers_ghost_ended, delivers_count_dropped, delivers_dropped}
use Rattle.model.proofs.Kept.{Kept, keeps, woken}

-- the closing test leaves them
closed : {s b : State} {f k : ℕ} {s' : State} → Closing b f k s' → Kept s b → Kept s s'
closed (stays c) p = p
closed (ends_ghost c a l e) p = search p
closed (releases c a h l e) p = search p
closed (vanishes c a h) p = search p

-- a write to a task that has not ended
written : (status : ℕ → ℕ) (x v t : ℕ) → (status x ≡ 7 → ⊥) → status t ≡ 7 → upd status x v t ≡ 7
written status x v t n e = upd_other status x v t (λ q. n (rw q at e)) ∙ e

-- a task that waited for transit, and its spawner
answered : (s : State) (x v t : ℕ) → v < 7 → s.tasks.status x ≡ 2 → MayRun s (s.tasks.maker x) → s.tasks.status t ≡ 7 → wake (s.tasks.maker x) (upd s.tasks.status x v) t ≡ 7
answered s x v t low waits may ended =
    let o = s.tasks.maker x in
    woken o (upd s.tasks.status x v) t
    (λ pos. upd-cases s.tasks.status (λ w. w ≡ 7 → ⊥) x v o (λ _ q. omega arith) (λ _ q. omega (arith, may pos)))
    (written s.tasks.status x v t (λ q. omega arith) ended)

pub settle_kept : {s s' : State} → Settle s s' → Kept s s'
settle_kept {s} (adopts f a b) = keeps s _ _ _ _ _ refl (λ t e. e)
settle_kept {s} (cancels f v k i a b c d e g) = closed g (keeps s _ _ _ _ _ refl (λ t e. e))
settle_kept {s} (asks f v j k a b c d e g h i l) = keeps s _ _ _ _ _ refl (λ t e. e)
settle_kept {s} (discards k a b) = keeps s _ _ _ _ _ refl (λ t e. e)
settle_kept {s} (delivers_publish k q a b c d e) = keeps s _ _ _ _ _ refl (λ t e. e)
settle_kept {s} (delivers_published k a b c d) = keeps s _ _ _ _ _ refl (λ t. written s.tasks.status (s.slot k).task 2 t (λ q. omega arith))
settle_kept {s} (delivers_transit k a b c d e) = keeps s _ _ _ _ _ refl (λ t e. e)
settle_kept {s} (refuses_transit k a b c d e) = keeps s _ _ _ _ _ refl (λ t e. e)
settle_kept {s} (delivers_granted k a b c d e) = keeps s _ _ _ _ _ refl (λ t. answered s (s.slot k).task 3 t (omega arith) c d)
settle_kept {s} (loses_granted k a b c d e) = keeps s _ _ _ _ _ refl (λ t. answered s (s.slot k).task 3 t (omega arith) c d)
settle_kept {s} (delivers_denied k a b c d) = keeps s _ _ _ _ _ refl (λ t. answered s (s.slot k).task 4 t (omega arith) c d)
settle_kept {s} (delivers_task k a b c d) = keeps s _ _ _ _ _ refl (λ t. written s.tasks.status (s.slot k).task 5 t (λ q. omega arith))
settle_kept {s} (refuses_task k a b c) = keeps s _ _ _ _ _ refl (λ t e. e)
settle_kept {s} (delivers_report k a b c d e g) = closed g (keeps s _ _ _ _ _ refl (λ t e. e))
settle_kept {s} (delivers_release k a b c d) = keeps s _ _ _ _ _ refl (λ t e. woken (s.finishes.opener (s.slot k).finish) s.tasks.status t (λ pos q. omega (arith, d pos)) e)
settle_kept {s} (delivers_ghost_ended k a b c d) = closed d (keeps s _ _ _ _ _ refl (λ t e. e))
settle_kept {s} (delivers_count_dropped k a b c) = keeps s _ _ _ _ _ refl (λ t e. e)
settle_kept {s} (delivers_dropped k a b c d e) = closed e (keeps s _ _ _ _ _ refl (λ t e. e))
