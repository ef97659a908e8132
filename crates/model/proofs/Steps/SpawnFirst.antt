-- The first spawn of a main task whose finish is unpublished, with its publish, keeps the invariant.
use Rattle.std.specs.Prelude.{◌≡◌, refl, Bool, false, ℕ, suc, ◌+◌, ◌≤◌, ◌<◌, eqb}
use Rattle.std.proofs.Common.{sym, ap, ◌∙◌, arith, eqb-true, eq-eqb, ne_eqb}
use Rattle.model.specs.Base.{upd, upd_same, upd_other, upd-below, upd-cases, on, on_true, on_false, on-le, is₃, eq_cases, both}
use Rattle.model.specs.State.{State, Message, with_finish_status}
use Rattle.model.specs.Messages.{publish, naming, of_finish}
use Rattle.model.specs.Weights.{weigh_in, weigh_out}
use Rattle.model.specs.Guards.{Runs, Free}
use Rattle.model.specs.Effects.Spawn.{with_spawned, spawn_first}
use Rattle.model.specs.Inv.{Inv}
use Rattle.model.specs.Inv.Messages as M
use Rattle.model.specs.Inv.Cells as C
use Rattle.model.proofs.Facts.InFlight.{tallied_some}
use Rattle.model.proofs.Steps.Written as W
use Rattle.model.proofs.Steps.Sent.{Aside, NoReport, other_tag, rises, aside, no_report}
use Rattle.model.proofs.Steps.Spawned as N

module _ (s : State) (t p k : ℕ) (inv : Inv s) (runs : Runs s t) (place : p < s.places) (away : s.tasks.at t ≡ p → ⊥) (free : Free s k)
    (is_main : s.tasks.sent t ≡ 0) (unpublished : s.finishes.published (s.tasks.finish t) ≡ 0) (is-active : s.finishes.status (s.tasks.finish t) ≡ 1) where
  -- the finish, the new task, the publish
  abbrev f₀ : ℕ
  f₀ = s.tasks.finish t

  abbrev n : ℕ
  n = suc s.tasks.made

  abbrev m₀ : Message
  m₀ = publish f₀ n

  abbrev s' : State
  s' = spawn_first s t p k

  -- before the publish is sent
  abbrev s₁ : State
  s₁ = with_finish_status (upd s.finishes.status f₀ 2) (with_spawned t p 1 s)

  turns : 1 ≡ suc (s.finishes.published f₀)
  turns = omega arith

  by_finish : N.Turned s f₀ 1 s₁.finishes.status
  by_finish P g a b = upd-cases s.finishes.status P f₀ 2 g (λ q. a q refl) (λ ne. b (λ q _. ne q))

  spawns : N.Spawned s₁
  spawns = N.spawns s t p 1 s₁.finishes.status inv runs place away turns (λ _. (is_main, is-active)) by_finish

  was : (x w : ℕ) → s₁.tasks.status x ≡ w → (x ≡ n → w ≡ 1 → ⊥) → (w ≡ 6 → ⊥) → s.tasks.status x ≡ w
  was = N.was s t p 1 s₁.finishes.status inv runs place away turns (λ _. (is_main, is-active)) by_finish

  unnamed : naming s 1 n + naming s 2 n + naming s 3 n + naming s 4 n + naming s 5 n + naming s 6 n ≡ 0
  unnamed = N.unnamed s t p 1 s₁.finishes.status inv runs place away turns (λ _. (is_main, is-active)) by_finish

  tag : (x : ℕ) → 0 < x → (x ≡ 1 → ⊥) → W.Elsewhere s₁ k m₀ free.range x
  tag x z ne = other_tag s₁ k m₀ free.range free.tag x z (λ q. ne (sym q))

  rest : Aside s'
  rest = let e = spawns in aside s₁ k m₀ free.range free.tag (λ q. omega arith) (λ q. omega arith) (λ q. omega arith) (omega arith) (search e)

  no_reports : NoReport s'
  no_reports = let e = spawns in no_report s₁ k m₀ free.range free.tag (λ q. omega arith) (λ q. omega arith) (search e)

  names_finish : M.NamesFinish s'
  names_finish = W.each s₁ k m₀ free.range (M.NamesFinishOf s₁) inv.names_finish (λ _. inv.finish_made f₀ (omega arith))

  names_task : M.NamesTask s'
  names_task = W.each s₁ k m₀ free.range (M.NamesTaskOf s₁) spawns.names_task (λ _ _. simp upd_same (omega arith, omega arith, refl, refl))

  names_pair : M.NamesPair s'
  names_pair = W.each s₁ k m₀ free.range (M.NamesPairOf s₁) spawns.names_pair (λ h. absurd (omega arith))

  home_lives : s.dead (s.finishes.home f₀) ≡ false
  home_lives = (inv.active f₀ is-active).0

  -- an active finish that is unpublished has no book
  publishes : M.Publishes s'
  publishes = W.each s₁ k m₀ free.range (M.PublishesOf s₁) spawns.publishes
      (λ _. (inv.active_book f₀ is-active ∙ unpublished, unpublished, (λ _. simp upd_same (refl, refl)), (λ d. both d home_lives)))

  -- no other message of tags 1 and 2 is of the finish, which was active
  not_of : (l : ℕ) → l < s.slots → 1 ≤ (s.slot l).tag → (s.slot l).tag ≤ 2 → (s.slot l).finish ≡ f₀ → ⊥
  not_of l h a b q = eq_cases (s.slot l).tag 1
      (λ e. omega (arith, ((inv.publishes l h e).2 (ap (λ x. s.dead (s.finishes.home x)) q ∙ home_lives)).0, ap s.finishes.status q))
      (λ ne. omega (arith, (inv.published l h (omega arith)).2, ap s.finishes.status q))

  none_of : (x : ℕ) → 1 ≤ x → x ≤ 2 → of_finish s x f₀ ≡ 0
  none_of x l h = eq_cases (of_finish s x f₀) 0 (λ e. e)
      (λ some.
      let r = tallied_some s x (λ m. eqb m.finish f₀) (λ m. 1) (omega arith) in
      absurd (not_of r.0 r.1 (omega (arith, r.2)) (omega (arith, r.2)) (eqb-true (s.slot r.0).finish f₀ r.3)))

  of_rises : (g : ℕ) → of_finish s' 1 g ≡ of_finish s 1 g + on (eqb f₀ g) 1
  of_rises g = rises s₁ k m₀ free.range free.tag (λ m. eqb m.finish g) (λ m. 1) (omega arith)

  of_same : (g : ℕ) → of_finish s' 2 g ≡ of_finish s 2 g
  of_same g = W.of_same s₁ k m₀ free.range 2 g (tag 2 (omega arith) (λ q. omega arith))

  publish_once : M.PublishOnce s'
  publish_once g = eq_cases g f₀
      (λ q. rw q (omega (arith, of_rises f₀, of_same f₀, none_of 1 (omega arith) (omega arith), none_of 2 (omega arith) (omega arith), on-le (eqb f₀ f₀) 1)))
      (λ ne. omega (arith, of_rises g, of_same g, inv.publish_once g, on_false (eqb f₀ g) 1 (ne_eqb f₀ g (λ q. ne (sym q)))))

  publish_some : M.PublishSome s'
  publish_some g e = eq_cases g f₀
      (λ q. rw q (omega (arith, of_rises f₀, of_same f₀, none_of 1 (omega arith) (omega arith), none_of 2 (omega arith) (omega arith), on_true (eqb f₀ f₀) 1 (eq-eqb f₀ f₀ refl))))
      (λ ne. omega (arith, of_rises g, of_same g, inv.publish_some g (rw (upd_other s.finishes.status f₀ 2 g ne) at e), on_false (eqb f₀ g) 1 (ne_eqb f₀ g (λ q. ne (sym q)))))

  transits : M.Transits s'
  transits = W.each s₁ k m₀ free.range (M.TransitsOf s₁) spawns.transits (λ h. absurd (omega arith))

  lost_transits : M.LostTransits s'
  lost_transits = W.each s₁ k m₀ free.range (M.LostTransitsOf s₁) spawns.lost_transits (λ h. absurd (omega arith))

  -- the new task is named by its publish only
  naming_rises : (x : ℕ) → naming s' 1 x ≡ naming s 1 x + on (eqb n x) 1
  naming_rises x = rises s₁ k m₀ free.range free.tag (λ m. eqb m.task x) (λ m. 1) (omega arith)

  naming_same : (y x : ℕ) → 1 < y → naming s' y x ≡ naming s y x
  naming_same y x z = W.naming_same s₁ k m₀ free.range y x (tag y (omega arith) (λ q. omega arith))

  named_once : M.NamedOnce s'
  named_once x =
      let n₂ = naming_same 2 x (omega arith) in
      let n₃ = naming_same 3 x (omega arith) in
      let n₄ = naming_same 4 x (omega arith) in
      let n₅ = naming_same 5 x (omega arith) in
      let n₆ = naming_same 6 x (omega arith) in
      eq_cases x n
      (λ q. omega (arith, naming_rises x, rw (← q) at unnamed, on-le (eqb n x) 1))
      (λ ne. omega (arith, naming_rises x, inv.named_once x, on_false (eqb n x) 1 (ne_eqb n x (λ q. ne (sym q)))))

  named_publish : M.NamedPublish s'
  named_publish x e =
      let n₂ = naming_same 2 x (omega arith) in
      eq_cases x n
      (λ q. omega (arith, naming_rises x, rw (← q) at unnamed, on_true (eqb n x) 1 (eq-eqb n x (sym q))))
      (λ ne. omega (arith, naming_rises x, inv.named_publish x (was x 1 e (λ q _. ne q) (λ q. omega arith)), on_false (eqb n x) 1 (ne_eqb n x (λ q. ne (sym q)))))

  named_transit : M.NamedTransit s'
  named_transit = W.named_transit s₁ k m₀ free.range (tag 3 (omega arith) (λ q. omega arith)) (tag 4 (omega arith) (λ q. omega arith)) (tag 5 (omega arith) (λ q. omega arith))
      (λ x e. inv.named_transit x (was x 2 e (λ _ q. omega arith) (λ q. omega arith)))

  fresh_messages : M.FreshMessages s'
  fresh_messages = W.each s₁ k m₀ free.range (M.FreshMessagesOf s₁) inv.fresh_messages (λ h. absurd (omega arith))

  -- a task that waits for publish does not count
  sent_tasks_most : C.SentTasksMost s'
  sent_tasks_most f i j ne =
      let key : ℕ → Bool = λ x. is₃ (s.tasks.finish x) (s.tasks.from x) (s.tasks.at x) f i j in
      let key' : ℕ → Bool = λ x. is₃ (s'.tasks.finish x) (s'.tasks.from x) (s'.tasks.at x) f i j in
      omega (
        arith,
        inv.sent_tasks_most f i j ne,
        N.grows s t p 1 s₁.finishes.status inv runs place away turns (λ _. (is_main, is-active)) by_finish key key' 2 8 (λ x l. simp upd-below),
        weigh_in (key t) 2 8 5 (omega arith) (omega arith),
        weigh_in (key t) 2 8 6 (omega arith) (omega arith),
        weigh_out (key' n) 2 8 1 (λ l _. omega arith),
        W.between_same s₁ k m₀ free.range 3 f i j (tag 3 (omega arith) (λ q. omega arith)),
      )

  pub spawns_first_keeps : Inv (spawn_first s t p k)
  spawns_first_keeps = let e = spawns in let r = rest in let c = no_reports in search (
    names_finish,
    names_task,
    names_pair,
    publishes,
    publish_once,
    publish_some,
    transits,
    lost_transits,
    named_once,
    named_publish,
    named_transit,
    fresh_messages,
    sent_tasks_most,
    W.each s₁ k m₀ free.range (M.NamesPlacesOf s₁) inv.names_places (λ h. absurd (omega arith)),
  )
