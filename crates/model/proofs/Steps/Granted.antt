-- The deliver of granted (4) keeps the invariant: the task is on the wire, in the slot of its grant; or lost with its dead receiver.
use Rattle.std.specs.Prelude.{◌≡◌, true, false, ℕ, ◌+◌, ◌<◌}
use Rattle.std.proofs.Math.Path.{refl}
use native.Mathlib.Omega.{arith}
use Rattle.model.specs.Base.{upd-cases, on, on_false, is₃, is₃_false, bool_cases, both}
use Rattle.model.specs.State.{State, Message}
use Rattle.model.specs.Messages.{none, task, between, tally_is, tally_else, tally_away, tallied_moves}
use Rattle.model.specs.Guards.{Full, MayRun}
use Rattle.model.specs.Effects.Deliver.{deliver_granted, lose_granted}
use Rattle.model.specs.Inv.{Inv}
use Rattle.model.specs.Inv.Messages as M
use Rattle.model.specs.Inv.Cells as C
use Rattle.model.proofs.Steps.Written as W
use Rattle.model.proofs.Steps.SettledTask.{settled_keeps}

module _ (s : State) (k : ℕ) (inv : Inv s) (full : Full s k 4) (from_lives : s.dead (s.slot k).from ≡ false)
    (waits : s.tasks.status (s.slot k).task ≡ 2) (may_run : MayRun s (s.tasks.maker (s.slot k).task)) where
  abbrev m₀ : Message
  m₀ = s.slot k

  -- what the grant counts for
  here : ℕ → ℕ → ℕ → ℕ
  here f i j = on (is₃ m₀.finish m₀.from m₀.to f i j) 1

  module _ (to_dead : s.dead (s.slot k).to ≡ true) where
    other_tag : (x : ℕ) → 0 < x → (x ≡ 4 → ⊥) → W.Elsewhere s k none full.range x
    other_tag x z n = ((λ q. n (omega (arith, full.tag))), (λ q. omega arith))

    -- a live receiver is another
    sent_from_lost : C.SentFrom (lose_granted s k)
    sent_from_lost f i j p a b = omega (
      arith,
      inv.sent_from f i j p a b,
      W.between_same s k none full.range 6 f i j (other_tag 6 (omega arith) (λ q. omega arith)),
      tallied_moves s k none full.range 4 (λ m. is₃ m.finish m.from m.to f i j) (λ m. 1),
      tally_away 4 m₀ (is₃ m₀.finish m₀.from m₀.to f i j) 1 (is₃_false m₀.finish m₀.from m₀.to f i j (λ _ _ q. both (rw q at to_dead) a)),
      tally_else 4 none (is₃ 0 0 0 f i j) 1 (λ q. omega arith),
    )

    pub loses_granted_keeps : Inv (lose_granted s k)
    loses_granted_keeps = settled_keeps s k 3 none inv full.range (omega (arith, full.tag)) waits (omega arith) (omega arith)
        (λ h. absurd (omega arith)) (λ h. absurd (omega arith)) (λ h. absurd (omega arith)) (λ e. absurd (omega arith)) (λ e. absurd (omega arith)) (λ h. absurd (omega arith))
        (W.questions s k none full.range (other_tag 6 (omega arith) (λ q. omega arith)) (other_tag 10 (omega arith) (λ q. omega arith)) inv.questions)
        sent_from_lost
        (W.sent_most s k none full.range (other_tag 6 (omega arith) (λ q. omega arith)) inv.sent_most)

  module _ (to-lives : s.dead (s.slot k).to ≡ false) where
    abbrev s' : State
    s' = deliver_granted s k

    abbrev new : Message
    new = task m₀.finish m₀.task m₀.from m₀.to

    grants_fall : (f i j : ℕ) → between s' 4 f i j + here f i j ≡ between s 4 f i j
    unfolding here
    grants_fall f i j = omega (
      arith,
      tallied_moves s k new full.range 4 (λ m. is₃ m.finish m.from m.to f i j) (λ m. 1),
      tally_is 4 m₀ (is₃ m₀.finish m₀.from m₀.to f i j) 1 full.tag,
      tally_else 4 new (is₃ m₀.finish m₀.from m₀.to f i j) 1 (λ q. omega arith),
    )

    wire_rises : (f i j : ℕ) → between s' 6 f i j ≡ between s 6 f i j + here f i j
    unfolding here
    wire_rises f i j = omega (
      arith,
      tallied_moves s k new full.range 6 (λ m. is₃ m.finish m.from m.to f i j) (λ m. 1),
      tally_else 6 m₀ (is₃ m₀.finish m₀.from m₀.to f i j) 1 (λ q. omega (arith, full.tag)),
      tally_is 6 new (is₃ m₀.finish m₀.from m₀.to f i j) 1 refl,
    )

    -- a dead sender is another
    away : (f i j : ℕ) → s.dead i ≡ true → here f i j ≡ 0
    unfolding here
    away f i j d = on_false (is₃ m₀.finish m₀.from m₀.to f i j) 1 (is₃_false m₀.finish m₀.from m₀.to f i j (λ _ q _. both d (rw q at from_lives)))

    questions : M.Questions s'
    questions l h = upd-cases s.slot (M.QuestionsOf s') k new l
        (λ _ e. absurd (omega arith))
        (λ _ e.
        let r = inv.questions l h e in
        let m = s.slot l in
        (r.0, omega (arith, r.1, wire_rises m.finish m.from m.to, away m.finish m.from m.to (inv.asks l h (omega arith)).0), r.2))

    sent_from : C.SentFrom s'
    sent_from f i j p a b = omega (arith, inv.sent_from f i j p a b, grants_fall f i j, wire_rises f i j)

    sent_most : C.SentMost s'
    sent_most f i j p a = bool_cases (s.dead i)
        (λ d. omega (arith, inv.sent_most f i j p a, wire_rises f i j, away f i j d))
        (λ d. omega (arith, inv.sent_from f i j p a d, grants_fall f i j, wire_rises f i j))

    pub delivers_granted_keeps : Inv s'
    delivers_granted_keeps =
        let old = inv.transits k full.range (omega (arith, full.tag)) (omega (arith, full.tag)) from_lives in
        settled_keeps s k 3 new inv full.range (omega (arith, full.tag)) waits (omega arith) (omega arith)
        (λ _. (omega arith, omega (arith, full.tag), omega (arith, full.tag), refl, refl)) (λ _. refl)
        (λ _ _. inv.names_pair k full.range (omega (arith, full.tag)) (omega (arith, full.tag)))
        (λ _. (refl, to-lives))
        (λ _ e. absurd (omega (arith, old.1)))
        (λ _ _. inv.fresh_messages k full.range (omega (arith, full.tag)) (λ q. omega (arith, full.tag)))
        questions sent_from sent_most
