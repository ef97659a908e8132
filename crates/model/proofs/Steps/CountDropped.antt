-- Deliver of count-dropped (10) keeps the invariant: the sender is denied, and the answer takes what will never be received.
use Rattle.std.specs.Prelude.{◌≡◌, refl, true, false, ℕ, ◌+◌, ◌-◌, ◌<◌}
use Rattle.std.proofs.Common.{sym, ap, ◌∙◌, arith}
use Rattle.model.specs.Base.{upd-cases, on, on_true, on_false, on-le, on_or, is₂, is₃, is₂_false, is₃_same, is₃_true, is₃_false, bool_cases, both, or_cases, or_left, or-false, or_false_left, or_false_right}
use Rattle.model.specs.State.{State, Message, with_denied}
use Rattle.model.specs.Messages.{dropped, answered, reports, tally_is, tally_else, tallied_moves}
use Rattle.model.specs.Weights.{mainly, ended}
use Rattle.model.specs.Guards.{Full}
use Rattle.model.specs.Effects.Deliver.{deliver_count_dropped}
use Rattle.model.specs.Inv.{Inv}
use Rattle.model.specs.Inv.Messages as M
use Rattle.model.specs.Inv.Cells as C
use Rattle.model.specs.Inv.Locals as L
use Rattle.model.proofs.Facts.InFlight.{tallied_ge}
use Rattle.model.proofs.Steps.Written as W

module _ (s : State) (k : ℕ) (inv : Inv s) (full : Full s k 10) where
  abbrev s' : State
  s' = deliver_count_dropped s k

  abbrev f₀ : ℕ
  f₀ = (s.slot k).finish

  abbrev v₀ : ℕ
  v₀ = (s.slot k).from

  abbrev j₀ : ℕ
  j₀ = (s.slot k).to

  abbrev m₀ : Message
  m₀ = dropped f₀ (s.slot k).task v₀ j₀ ((s.slot k).number - s.locals.received f₀ j₀ v₀)

  -- before the answer is sent
  abbrev s₁ : State
  s₁ = with_denied s'.locals.denied s

  other_tag : (t : ℕ) → 0 < t → (t ≡ 10 → ⊥) → (t ≡ 11 → ⊥) → W.Elsewhere s₁ k m₀ full.range t
  other_tag t z n m = ((λ q. n (sym q ∙ full.tag)), (λ q. m (sym q)))

  is_published : s.finishes.published f₀ ≡ 1
  is_published = inv.fresh_messages k full.range (omega (arith, full.tag)) (λ q. omega (arith, full.tag))

  sender_dead : s.dead v₀ ≡ true
  sender_dead = (inv.asks k full.range (omega (arith, full.tag))).0

  lives : s.dead j₀ ≡ false
  lives = (inv.questions k full.range full.tag).0

  -- the pair was not denied yet, where the book is present
  not_yet : s.books.present f₀ ≡ 1 → s.locals.denied f₀ j₀ v₀ ≡ false
  not_yet p = bool_cases (s.locals.denied f₀ j₀ v₀)
      (λ d. absurd (omega (
        arith,
        inv.marked f₀ v₀ j₀ p lives,
        tallied_ge s k 10 (λ m. is₃ m.finish m.from m.to f₀ v₀ j₀) (λ m. 1) full.range full.tag (is₃_same f₀ v₀ j₀),
        on_true (s.locals.denied f₀ j₀ v₀) 1 d,
        on-le (s.books.asked f₀ v₀ j₀) 1,
      )))
      (λ d. d)

  answers_rise : (f i j : ℕ) → answered s' f i j ≡ answered s f i j + on (is₃ f₀ v₀ j₀ f i j) m₀.number
  answers_rise f i j = omega (
    arith,
    tallied_moves s k m₀ full.range 11 (λ m. is₃ m.finish m.from m.to f i j) (λ m. m.number),
    tally_else 11 (s.slot k) (is₃ f₀ v₀ j₀ f i j) (s.slot k).number (λ q. omega (arith, full.tag)),
    tally_is 11 m₀ (is₃ f₀ v₀ j₀ f i j) m₀.number refl,
  )

  late_before : M.Late s₁
  late_before l h e p = or_left (s.locals.denied (s.slot l).finish (s.slot l).to (s.slot l).from) (is₃ f₀ v₀ j₀ (s.slot l).finish (s.slot l).from (s.slot l).to) (inv.late l h e p)

  questions : M.Questions s'
  questions l h = upd-cases s.slot (M.QuestionsOf s') k m₀ l
      (λ _ e. absurd (omega arith))
      (λ _ e. let r = inv.questions l h e in (r.0, omega (arith, r.1, W.between_same s₁ k m₀ full.range 6 (s.slot l).finish (s.slot l).from (s.slot l).to (other_tag 6 (omega arith) (λ q. omega arith) (λ q. omega arith))), r.2))

  fresh_locals : M.FreshLocals s'
  fresh_locals f j i e =
      let r = inv.fresh_locals f j i e in
      (r.0, r.1, r.2, or-false (s.locals.denied f j i) (is₃ f₀ v₀ j₀ f i j) r.3 (is₃_false f₀ v₀ j₀ f i j (λ q _ _. omega (arith, is_published, ap s.finishes.published q))))

  denied_dead : L.DeniedDead s'
  denied_dead f j i e = or_cases (s.locals.denied f j i) (is₃ f₀ v₀ j₀ f i j) e (inv.denied_dead f j i) (λ t. ap s.dead (sym (is₃_true f₀ v₀ j₀ f i j t).1) ∙ sender_dead)

  marked : C.Marked s'
  marked f i j p a = omega (
    arith,
    inv.marked f i j p a,
    tallied_moves s k m₀ full.range 10 (λ m. is₃ m.finish m.from m.to f i j) (λ m. 1),
    tally_is 10 (s.slot k) (is₃ f₀ v₀ j₀ f i j) 1 full.tag,
    tally_else 10 m₀ (is₃ f₀ v₀ j₀ f i j) 1 (λ q. omega arith),
    on_or (s.locals.denied f j i) (is₃ f₀ v₀ j₀ f i j) (λ t. let q = is₃_true f₀ v₀ j₀ f i j t in rw (← q.0, ← q.1, ← q.2) (not_yet (ap s.books.present q.0 ∙ p))),
  )

  counted : C.Counted s'
  counted f i j p a d = omega (arith, inv.counted f i j p a (or_false_left (s.locals.denied f j i) (is₃ f₀ v₀ j₀ f i j) d), W.reports_same s₁ k m₀ full.range f i j (other_tag 7 (omega arith) (λ q. omega arith) (λ q. omega arith)))

  no_answer : C.NoAnswer s'
  no_answer f i j p a d = omega (
    arith,
    inv.no_answer f i j p a (or_false_left (s.locals.denied f j i) (is₃ f₀ v₀ j₀ f i j) d),
    answers_rise f i j,
    on_false (is₃ f₀ v₀ j₀ f i j) m₀.number (or_false_right (s.locals.denied f j i) (is₃ f₀ v₀ j₀ f i j) d),
  )

  -- the pair itself: what was sent is received or dropped
  pair : s.books.present f₀ ≡ 1 → s.books.live f₀ v₀ j₀ + s.locals.reported f₀ j₀ v₀ + ended s f₀ v₀ j₀ ≡ s.locals.received f₀ j₀ v₀ + mainly s f₀ v₀ j₀ + reports s f₀ v₀ j₀ + answered s' f₀ v₀ j₀
  pair p =
      let q = inv.questions k full.range full.tag in
      let h = s.finishes.home f₀ in
      let d = not_yet p in
      omega (
        arith,
        inv.counted f₀ v₀ j₀ p lives d,
        inv.no_answer f₀ v₀ j₀ p lives d,
        q.1,
        q.2 p,
        answers_rise f₀ v₀ j₀,
        on_true (is₃ f₀ v₀ j₀ f₀ v₀ j₀) m₀.number (is₃_same f₀ v₀ j₀),
        on_false (is₂ h h v₀ j₀) 1 (is₂_false h h v₀ j₀ (λ x y. both sender_dead (ap s.dead (sym x ∙ y) ∙ lives))),
      )

  counted_denied : C.CountedDenied s'
  counted_denied f i j p a d = bool_cases (is₃ f₀ v₀ j₀ f i j)
      (λ t. let q = is₃_true f₀ v₀ j₀ f i j t in rw (← q.0, ← q.1, ← q.2) (omega (arith, pair (ap s.books.present q.0 ∙ p), W.reports_same s₁ k m₀ full.range f₀ v₀ j₀ (other_tag 7 (omega arith) (λ q. omega arith) (λ q. omega arith)))))
      (λ n. omega (
        arith,
        inv.counted_denied f i j p a (or_cases (s.locals.denied f j i) (is₃ f₀ v₀ j₀ f i j) d (λ x. x) (λ t. both t n)),
        answers_rise f i j,
        on_false (is₃ f₀ v₀ j₀ f i j) m₀.number n,
        W.reports_same s₁ k m₀ full.range f i j (other_tag 7 (omega arith) (λ q. omega arith) (λ q. omega arith)),
      ))

  pub delivers_count_dropped_keeps : Inv (deliver_count_dropped s k)
  delivers_count_dropped_keeps = search (
    questions,
    fresh_locals,
    counted,
    counted_denied,
    no_answer,
    marked,
    denied_dead,
    W.each s₁ k m₀ full.range (M.TagsOf s₁) inv.tags (omega arith),
    W.each s₁ k m₀ full.range (M.NamesFinishOf s₁) inv.names_finish (λ _. inv.names_finish k full.range (omega (arith, full.tag))),
    W.each s₁ k m₀ full.range (M.NamesTaskOf s₁) inv.names_task (λ _ h. absurd (omega arith)),
    W.each s₁ k m₀ full.range (M.NamesPairOf s₁) inv.names_pair (λ _ h. absurd (omega arith)),
    W.each s₁ k m₀ full.range (M.NamesPlacesOf s₁) inv.names_places (λ _. inv.names_places k full.range (omega (arith, full.tag))),
    W.each s₁ k m₀ full.range (M.PublishesOf s₁) inv.publishes (λ e. absurd (omega arith)),
    W.each s₁ k m₀ full.range (M.PublishedOf s₁) inv.published (λ e. absurd (omega arith)),
    W.publish_once s₁ k m₀ full.range (other_tag 1 (omega arith) (λ q. omega arith) (λ q. omega arith)) (other_tag 2 (omega arith) (λ q. omega arith) (λ q. omega arith)) inv.publish_once,
    W.publish_some s₁ k m₀ full.range (other_tag 1 (omega arith) (λ q. omega arith) (λ q. omega arith)) (other_tag 2 (omega arith) (λ q. omega arith) (λ q. omega arith)) inv.publish_some,
    W.each s₁ k m₀ full.range (M.TransitsOf s₁) inv.transits (λ _ h. absurd (omega arith)),
    W.each s₁ k m₀ full.range (M.LostTransitsOf s₁) inv.lost_transits (λ _ h. absurd (omega arith)),
    W.each s₁ k m₀ full.range (M.OnWireOf s₁) inv.on_wire (λ e. absurd (omega arith)),
    W.each s₁ k m₀ full.range (M.LateOf s₁) late_before (λ e. absurd (omega arith)),
    W.named_once s₁ k m₀ full.range (λ x z h. other_tag x z (λ q. omega arith) (λ q. omega arith)) inv.named_once,
    W.named_publish s₁ k m₀ full.range (other_tag 1 (omega arith) (λ q. omega arith) (λ q. omega arith)) (other_tag 2 (omega arith) (λ q. omega arith) (λ q. omega arith)) inv.named_publish,
    W.named_transit s₁ k m₀ full.range (other_tag 3 (omega arith) (λ q. omega arith) (λ q. omega arith)) (other_tag 4 (omega arith) (λ q. omega arith) (λ q. omega arith)) (other_tag 5 (omega arith) (λ q. omega arith) (λ q. omega arith)) inv.named_transit,
    W.each s₁ k m₀ full.range (M.ReportCountsOf s₁) inv.report_counts (λ e. absurd (omega arith)),
    W.each s₁ k m₀ full.range (M.ReportBookOf s₁) inv.report_book (λ e. absurd (omega arith)),
    W.release_some s₁ k m₀ full.range (other_tag 8 (omega arith) (λ q. omega arith) (λ q. omega arith)) inv.release_some,
    W.release_none s₁ k m₀ full.range (other_tag 8 (omega arith) (λ q. omega arith) (λ q. omega arith)) inv.release_none,
    W.ghosts s₁ k m₀ full.range (other_tag 9 (omega arith) (λ q. omega arith) (λ q. omega arith)) inv.ghosts,
    W.each s₁ k m₀ full.range (M.GhostEndsOf s₁) inv.ghost_ends (λ e. absurd (omega arith)),
    W.each s₁ k m₀ full.range (M.AsksOf s₁) inv.asks (λ _. inv.asks k full.range (omega (arith, full.tag))),
    W.each s₁ k m₀ full.range (M.FreshMessagesOf s₁) inv.fresh_messages (λ _ _. is_published),
    W.sent_from s₁ k m₀ full.range (other_tag 4 (omega arith) (λ q. omega arith) (λ q. omega arith)) (other_tag 6 (omega arith) (λ q. omega arith) (λ q. omega arith)) inv.sent_from,
    W.sent_most s₁ k m₀ full.range (other_tag 6 (omega arith) (λ q. omega arith) (λ q. omega arith)) inv.sent_most,
    W.sent_tasks_most s₁ k m₀ full.range (other_tag 3 (omega arith) (λ q. omega arith) (λ q. omega arith)) inv.sent_tasks_most,
    W.reports_most s₁ k m₀ full.range (other_tag 7 (omega arith) (λ q. omega arith) (λ q. omega arith)) inv.reports_most,
  )
