-- Ask keeps the invariant.
use Rattle.std.specs.Prelude.{◌≡◌, refl, true, false, ℕ, ◌<◌}
use Rattle.std.proofs.Common.{sym, ap, ◌∙◌, arith}
use Rattle.model.specs.Base.{upd-cases, on_or, on-cases, is₂, is₃, is₂_true, is₃_same, is₃_true, is₃_false, eq_cases, both, or_cases, or-false, or_left, or_right}
use Rattle.model.specs.State.{State, Message, with_asked}
use Rattle.model.specs.Messages.{count_dropped, tally_is, tally_else, tallied_moves}
use Rattle.model.specs.Guards.{HasBook, Free, Unasked}
use Rattle.model.specs.Effects.Repair.{ask}
use Rattle.model.specs.Inv.{Inv}
use Rattle.model.specs.Inv.Messages as M
use Rattle.model.specs.Inv.Cells as C
use Rattle.model.proofs.Steps.Written as W
use Rattle.model.proofs.Steps.Sent.{NoTask, NoReport, no_task, no_report}

module _ (s : State) (f v j k : ℕ) (inv : Inv s) (book : HasBook s f) (v-place : v < s.places) (j-place : j < s.places)
    (died : s.dead v ≡ true) (lives : s.dead j ≡ false) (some : 0 < s.books.live f v j) (unasked : Unasked s f v j) (free : Free s k) where
  abbrev s' : State
  s' = ask s f v j k

  abbrev m₀ : Message
  m₀ = count_dropped f 0 v j (s.books.sent f v j)

  -- before the question is sent
  abbrev s₁ : State
  s₁ = with_asked s'.books.asked s

  other_tag : (t : ℕ) → 0 < t → (t ≡ 10 → ⊥) → W.Elsewhere s₁ k m₀ free.range t
  other_tag t z n = ((λ q. omega (arith, free.tag)), (λ q. n (sym q)))

  -- an unpublished finish has a count in the home's own cell alone
  is_published : s.finishes.published f ≡ 1
  is_published = eq_cases (s.finishes.published f) 0
      (λ e.
      let h = s.finishes.home f in
      on-cases (is₂ h h v j) 1 (omega (arith, (inv.fresh_book f v j e book.present).1)) (λ t _.
      let q = is₂_true h h v j t in both died (ap s.dead (sym q.0 ∙ q.1) ∙ lives)))
      (λ n. omega (arith, inv.published_mark f))

  asks : M.Asks s'
  asks = W.each s₁ k m₀ free.range (M.AsksOf s₁)
      (λ l h t. let r = inv.asks l h t in (r.0, λ p. or_left (s.books.asked (s.slot l).finish (s.slot l).from (s.slot l).to) (is₃ f v j (s.slot l).finish (s.slot l).from (s.slot l).to) (r.1 p)))
      (λ _. (died, λ _. or_right (s.books.asked f v j) (is₃ f v j f v j) (is₃_same f v j)))

  questions : M.Questions s'
  questions l h = upd-cases s.slot (M.QuestionsOf s') k m₀ l
      (λ _ _. (lives, omega (arith, inv.sent_most f v j book.present lives, W.between_same s₁ k m₀ free.range 6 f v j (other_tag 6 (omega arith) (λ q. omega arith))), λ _. refl))
      (λ _ e. let r = inv.questions l h e in (r.0, omega (arith, r.1, W.between_same s₁ k m₀ free.range 6 (s.slot l).finish (s.slot l).from (s.slot l).to (other_tag 6 (omega arith) (λ q. omega arith))), r.2))

  fresh_book : M.FreshBook s'
  fresh_book g x y e p =
      let r = inv.fresh_book g x y e p in
      (r.0, r.1, or-false (s.books.asked g x y) (is₃ f v j g x y) r.2 (is₃_false f v j g x y (λ q _ _. omega (arith, is_published, ap s.finishes.published q))))

  marked : C.Marked s'
  marked g x y p a = omega (
    arith,
    inv.marked g x y p a,
    tallied_moves s k m₀ free.range 10 (λ m. is₃ m.finish m.from m.to g x y) (λ m. 1),
    tally_else 10 (s.slot k) (is₃ (s.slot k).finish (s.slot k).from (s.slot k).to g x y) 1 (λ q. omega (arith, free.tag)),
    tally_is 10 m₀ (is₃ f v j g x y) 1 refl,
    on_or (s.books.asked g x y) (is₃ f v j g x y) (λ t. let q = is₃_true f v j g x y t in rw (← q.0, ← q.1, ← q.2) unasked),
  )

  asked_dead : C.AskedDead s'
  asked_dead g x y e = or_cases (s.books.asked g x y) (is₃ f v j g x y) e (inv.asked_dead g x y) (λ t. ap s.dead (sym (is₃_true f v j g x y t).1) ∙ died)

  tasks : NoTask s'
  tasks = no_task s₁ k m₀ free.range free.tag (omega arith) (search inv)

  reports : NoReport s'
  reports = no_report s₁ k m₀ free.range free.tag (λ q. omega arith) (λ q. omega arith) (search inv)

  pub asks_keeps : Inv (ask s f v j k)
  asks_keeps = let n = tasks in let r = reports in search (
    asks,
    questions,
    fresh_book,
    marked,
    asked_dead,
    W.each s₁ k m₀ free.range (M.TagsOf s₁) inv.tags (omega arith),
    W.each s₁ k m₀ free.range (M.NamesFinishOf s₁) inv.names_finish (λ _. (book.low, book.high)),
    W.each s₁ k m₀ free.range (M.NamesPlacesOf s₁) inv.names_places (λ _. (v-place, j-place)),
    W.release_some s₁ k m₀ free.range (other_tag 8 (omega arith) (λ q. omega arith)) inv.release_some,
    W.release_none s₁ k m₀ free.range (other_tag 8 (omega arith) (λ q. omega arith)) inv.release_none,
    W.ghosts s₁ k m₀ free.range (other_tag 9 (omega arith) (λ q. omega arith)) inv.ghosts,
    W.each s₁ k m₀ free.range (M.GhostEndsOf s₁) inv.ghost_ends (λ e. absurd (omega arith)),
    W.each s₁ k m₀ free.range (M.FreshMessagesOf s₁) inv.fresh_messages (λ _ _. is_published),
  )
