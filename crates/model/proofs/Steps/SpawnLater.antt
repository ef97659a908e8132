-- A spawn whose finish is published, with its transit, keeps the invariant.
use Rattle.std.specs.Prelude.{◌≡◌, refl, Bool, false, ℕ, suc, ◌+◌, ◌<◌, eqb}
use Rattle.std.proofs.Common.{sym, ◌∙◌, arith, eq-eqb, ne_eqb}
use Rattle.model.specs.Base.{upd_same, upd-below, on, on_true, on_false, on-le, is₃, eq_cases, both}
use Rattle.model.specs.State.{State, Message, with_finish_status}
use Rattle.model.specs.Messages.{transit, naming}
use Rattle.model.specs.Weights.{weigh, weigh_in}
use Rattle.model.specs.Guards.{Runs, Free}
use Rattle.model.specs.Effects.Spawn.{with_spawned, spawn_later}
use Rattle.model.specs.Inv.{Inv}
use Rattle.model.specs.Inv.Messages as M
use Rattle.model.specs.Inv.Cells as C
use Rattle.model.proofs.Facts.{busy_counted}
use Rattle.model.proofs.Steps.Written as W
use Rattle.model.proofs.Steps.Sent.{Aside, NoReport, other_tag, rises, aside, no_report}
use Rattle.model.proofs.Steps.Spawned as N

module _ (s : State) (t p k : ℕ) (inv : Inv s) (runs : Runs s t) (place : p < s.places) (away : s.tasks.at t ≡ p → ⊥) (free : Free s k)
    (if-main : s.tasks.sent t ≡ 0 → (s.finishes.published (s.tasks.finish t) ≡ 0 → ⊥) × (s.finishes.status (s.tasks.finish t) ≡ 1)) where
  -- the finish, the new task, its transit
  abbrev f₀ : ℕ
  f₀ = s.tasks.finish t

  abbrev n : ℕ
  n = suc s.tasks.made

  abbrev m₀ : Message
  m₀ = transit f₀ n (s.tasks.at t) p

  abbrev s' : State
  s' = spawn_later s t p k

  -- before the transit is sent
  abbrev s₁ : State
  s₁ = with_finish_status s.finishes.status (with_spawned t p 2 s)

  runs_sent : (s.tasks.sent t ≡ 0 → ⊥) → s.tasks.sent t ≡ 1
  runs_sent ne = omega (arith, inv.task_ranges t runs.low runs.high)

  is_published : s.finishes.published f₀ ≡ 1
  is_published = eq_cases (s.finishes.published f₀) 0
      (λ z. absurd (eq_cases (s.tasks.sent t) 0
      (λ e. (if-main e).0 z)
      (λ ne. eq_cases (s.finishes.status f₀) 5
      (λ q. omega (arith, runs.running, inv.first_lost t (runs_sent ne) z q))
      (λ n₅. omega (arith, runs.running, (inv.first_task t (runs_sent ne) z n₅).1)))))
      (λ ne. omega (arith, inv.published_mark f₀))

  present : s.books.present f₀ ≡ 1
  present = eq_cases (s.tasks.sent t) 0
      (λ e. inv.active_book f₀ (if-main e).1 ∙ is_published)
      (λ ne. inv.local_book f₀ (s.tasks.at t) (busy_counted s inv t (runs_sent ne) (omega (arith, runs.running)) (omega (arith, runs.running))))

  turns : 2 ≡ suc (s.finishes.published f₀)
  turns = omega (arith, is_published)

  by_finish : N.Turned s f₀ 2 s.finishes.status
  by_finish P g a b = b (λ _ e. omega arith)

  spawns : N.Spawned s₁
  spawns = N.spawns s t p 2 s.finishes.status inv runs place away turns (λ e. absurd (omega arith)) by_finish

  was : (x w : ℕ) → s₁.tasks.status x ≡ w → (x ≡ n → w ≡ 2 → ⊥) → (w ≡ 6 → ⊥) → s.tasks.status x ≡ w
  was = N.was s t p 2 s.finishes.status inv runs place away turns (λ e. absurd (omega arith)) by_finish

  unnamed : naming s 1 n + naming s 2 n + naming s 3 n + naming s 4 n + naming s 5 n + naming s 6 n ≡ 0
  unnamed = N.unnamed s t p 2 s.finishes.status inv runs place away turns (λ e. absurd (omega arith)) by_finish

  tag : (x : ℕ) → 0 < x → (x ≡ 3 → ⊥) → W.Elsewhere s₁ k m₀ free.range x
  tag x z ne = other_tag s₁ k m₀ free.range free.tag x z (λ q. ne (sym q))

  rest : Aside s'
  rest = let e = spawns in aside s₁ k m₀ free.range free.tag (λ q. omega arith) (λ q. omega arith) (λ q. omega arith) (omega arith) (search e)

  no_reports : NoReport s'
  no_reports = let e = spawns in no_report s₁ k m₀ free.range free.tag (λ q. omega arith) (λ q. omega arith) (search e)

  names_finish : M.NamesFinish s'
  names_finish = W.each s₁ k m₀ free.range (M.NamesFinishOf s₁) inv.names_finish (λ _. omega (arith, inv.task_ranges t runs.low runs.high))

  names_task : M.NamesTask s'
  names_task = W.each s₁ k m₀ free.range (M.NamesTaskOf s₁) spawns.names_task (λ _ _. simp upd_same (omega arith, omega arith, refl, refl))

  names_pair : M.NamesPair s'
  names_pair = W.each s₁ k m₀ free.range (M.NamesPairOf s₁) spawns.names_pair (λ _ _. simp upd_same (refl, refl))

  publishes : M.Publishes s'
  publishes = W.each s₁ k m₀ free.range (M.PublishesOf s₁) spawns.publishes (λ e. absurd (omega arith))

  publish_once : M.PublishOnce s'
  publish_once = W.publish_once s₁ k m₀ free.range (tag 1 (omega arith) (λ q. omega arith)) (tag 2 (omega arith) (λ q. omega arith)) inv.publish_once

  publish_some : M.PublishSome s'
  publish_some = W.publish_some s₁ k m₀ free.range (tag 1 (omega arith) (λ q. omega arith)) (tag 2 (omega arith) (λ q. omega arith)) inv.publish_some

  at_alive : s.dead (s.tasks.at t) ≡ false
  at_alive = inv.busy t (omega (arith, runs.running)) (omega (arith, runs.running))

  transits : M.Transits s'
  transits = W.each s₁ k m₀ free.range (M.TransitsOf s₁) spawns.transits (λ _ _ _. simp upd_same (refl, present))

  lost_transits : M.LostTransits s'
  lost_transits = W.each s₁ k m₀ free.range (M.LostTransitsOf s₁) spawns.lost_transits (λ _ _ d. both d at_alive)

  -- the new task is named by its transit only
  naming_rises : (x : ℕ) → naming s' 3 x ≡ naming s 3 x + on (eqb n x) 1
  naming_rises x = rises s₁ k m₀ free.range free.tag (λ m. eqb m.task x) (λ m. 1) (omega arith)

  naming_same : (y x : ℕ) → 0 < y → (y ≡ 3 → ⊥) → naming s' y x ≡ naming s y x
  naming_same y x z ne = W.naming_same s₁ k m₀ free.range y x (tag y z ne)

  named_once : M.NamedOnce s'
  named_once x =
      let n₁ = naming_same 1 x (omega arith) (λ q. omega arith) in
      let n₂ = naming_same 2 x (omega arith) (λ q. omega arith) in
      let n₄ = naming_same 4 x (omega arith) (λ q. omega arith) in
      let n₅ = naming_same 5 x (omega arith) (λ q. omega arith) in
      let n₆ = naming_same 6 x (omega arith) (λ q. omega arith) in
      eq_cases x n
      (λ q. omega (arith, naming_rises x, rw (← q) at unnamed, on-le (eqb n x) 1))
      (λ ne. omega (arith, naming_rises x, inv.named_once x, on_false (eqb n x) 1 (ne_eqb n x (λ q. ne (sym q)))))

  named_publish : M.NamedPublish s'
  named_publish = W.named_publish s₁ k m₀ free.range (tag 1 (omega arith) (λ q. omega arith)) (tag 2 (omega arith) (λ q. omega arith))
      (λ x e. inv.named_publish x (was x 1 e (λ _ q. omega arith) (λ q. omega arith)))

  named_transit : M.NamedTransit s'
  named_transit x e =
      let n₄ = naming_same 4 x (omega arith) (λ q. omega arith) in
      let n₅ = naming_same 5 x (omega arith) (λ q. omega arith) in
      eq_cases x n
      (λ q. omega (arith, naming_rises x, rw (← q) at unnamed, on_true (eqb n x) 1 (eq-eqb n x (sym q))))
      (λ ne. omega (arith, naming_rises x, inv.named_transit x (was x 2 e (λ q _. ne q) (λ q. omega arith)), on_false (eqb n x) 1 (ne_eqb n x (λ q. ne (sym q)))))

  fresh_messages : M.FreshMessages s'
  fresh_messages = W.each s₁ k m₀ free.range (M.FreshMessagesOf s₁) inv.fresh_messages (λ _ _. is_published)

  -- one more asks for transit, and there is one more task of that pair
  sent_tasks_most : C.SentTasksMost s'
  sent_tasks_most f i j ne =
      let key : ℕ → Bool = λ x. is₃ (s.tasks.finish x) (s.tasks.from x) (s.tasks.at x) f i j in
      let key' : ℕ → Bool = λ x. is₃ (s'.tasks.finish x) (s'.tasks.from x) (s'.tasks.at x) f i j in
      let new : weigh (key' n) 2 8 2 ≡ on (is₃ f₀ (s.tasks.at t) p f i j) 1 = simp upd_same (weigh_in (is₃ f₀ (s.tasks.at t) p f i j) 2 8 2 (omega arith) (omega arith)) in
      omega (
        arith,
        inv.sent_tasks_most f i j ne,
        N.grows s t p 2 s.finishes.status inv runs place away turns (λ e. absurd (omega arith)) by_finish key key' 2 8 (λ x l. simp upd-below),
        weigh_in (key t) 2 8 5 (omega arith) (omega arith),
        weigh_in (key t) 2 8 6 (omega arith) (omega arith),
        new,
        rises s₁ k m₀ free.range free.tag (λ m. is₃ m.finish m.from m.to f i j) (λ m. 1) (omega arith),
      )

  pub spawns_later_keeps : Inv (spawn_later s t p k)
  spawns_later_keeps = let e = spawns in let r = rest in let c = no_reports in search (
    names_finish,
    names_task,
    names_pair,
    publishes,
    publish_once,
    publish_some,
    transits,
    lost_transits,
    named_once,
    named_publish,
    named_transit,
    fresh_messages,
    sent_tasks_most,
    W.each s₁ k m₀ free.range (M.NamesPlacesOf s₁) inv.names_places (λ h. absurd (omega arith)),
  )
