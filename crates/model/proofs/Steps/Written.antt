-- A slot written: the conjuncts that read the slots, carried from before the write to after it. A tag is elsewhere where it is
-- neither the old message's nor the new one's.
use Rattle.std.specs.Prelude.{◌≡◌, Bool, ℕ, ◌<◌, eqb}
use Rattle.std.proofs.Common.{arith}
use Rattle.model.specs.Base.{upd, upd-cases, is₂, is₃}
use Rattle.model.specs.State.{State, Message, with_slot}
use Rattle.model.specs.Messages.{tallied, of_finish, naming, between, reports, answered, tallied_same}
use Rattle.model.specs.Inv.Messages.{Each, QuestionsOf, PublishOnce, PublishSome, NamedOnce, NamedPublish, NamedTransit, ReleaseSome, ReleaseNone, Ghosts, Questions}
use Rattle.model.specs.Inv.Cells.{Counted, CountedDenied, NoAnswer, Marked, SentFrom, SentMost, SentTasksMost}
use Rattle.model.specs.Inv.Locals.{ReportsMost}

module _ (s : State) (k : ℕ) (m : Message) (in-range : k < s.slots) where
  abbrev s' : State
  s' = with_slot (upd s.slot k m) s

  -- what holds of each message before, and of the new one, holds of each after
  pub each : (P : Message → Type 0) → Each s P → P m → Each s' P
  each P old new l h = upd-cases s.slot P k m l (λ _. new) (λ _. old l h)

  abbrev pub Elsewhere : ℕ → Type 0
  Elsewhere t = ((s.slot k).tag ≡ t → ⊥) × (m.tag ≡ t → ⊥)

  same : (t : ℕ) (b : Message → Bool) (n : Message → ℕ) → Elsewhere t → tallied s' t b n ≡ tallied s t b n
  same t b n e = tallied_same s k m in-range t b n e.0 e.1

  pub of_same : (t f : ℕ) → Elsewhere t → of_finish s' t f ≡ of_finish s t f
  of_same t f e = same t (λ m. eqb m.finish f) (λ m. 1) e

  pub naming_same : (t x : ℕ) → Elsewhere t → naming s' t x ≡ naming s t x
  naming_same t x e = same t (λ m. eqb m.task x) (λ m. 1) e

  pub between_same : (t f i j : ℕ) → Elsewhere t → between s' t f i j ≡ between s t f i j
  between_same t f i j e = same t (λ m. is₃ m.finish m.from m.to f i j) (λ m. 1) e

  pub reports_same : (f i j : ℕ) → Elsewhere 7 → reports s' f i j ≡ reports s f i j
  reports_same f i j e = same 7 (λ m. is₂ m.finish m.from f j) (λ m. m.counts i) e

  pub answered_same : (f i j : ℕ) → Elsewhere 11 → answered s' f i j ≡ answered s f i j
  answered_same f i j e = same 11 (λ m. is₃ m.finish m.from m.to f i j) (λ m. m.number) e

  pub publish_once : Elsewhere 1 → Elsewhere 2 → PublishOnce s → PublishOnce s'
  publish_once a b c f = omega (arith, c f, of_same 1 f a, of_same 2 f b)

  pub publish_some : Elsewhere 1 → Elsewhere 2 → PublishSome s → PublishSome s'
  publish_some a b c f e = omega (arith, c f e, of_same 1 f a, of_same 2 f b)

  pub named_once : ((t : ℕ) → 0 < t → t < 7 → Elsewhere t) → NamedOnce s → NamedOnce s'
  named_once e c x = omega (
    arith,
    c x,
    naming_same 1 x (e 1 (omega arith) (omega arith)),
    naming_same 2 x (e 2 (omega arith) (omega arith)),
    naming_same 3 x (e 3 (omega arith) (omega arith)),
    naming_same 4 x (e 4 (omega arith) (omega arith)),
    naming_same 5 x (e 5 (omega arith) (omega arith)),
    naming_same 6 x (e 6 (omega arith) (omega arith)),
  )

  pub named_publish : Elsewhere 1 → Elsewhere 2 → NamedPublish s → NamedPublish s'
  named_publish a b c x e = omega (arith, c x e, naming_same 1 x a, naming_same 2 x b)

  pub named_transit : Elsewhere 3 → Elsewhere 4 → Elsewhere 5 → NamedTransit s → NamedTransit s'
  named_transit a b d c x e = omega (arith, c x e, naming_same 3 x a, naming_same 4 x b, naming_same 5 x d)

  pub release_some : Elsewhere 8 → ReleaseSome s → ReleaseSome s'
  release_some a c f e = omega (arith, c f e, of_same 8 f a)

  pub release_none : Elsewhere 8 → ReleaseNone s → ReleaseNone s'
  release_none a c f n = omega (arith, c f n, of_same 8 f a)

  pub ghosts : Elsewhere 9 → Ghosts s → Ghosts s'
  ghosts a c q g = omega (arith, c q g, same 9 (λ m. is₂ m.finish m.number q g) (λ m. 1) a)

  pub questions : Elsewhere 6 → Elsewhere 10 → Questions s → Questions s'
  questions a b c l h = upd-cases s.slot (QuestionsOf s') k m l
      (λ _ e. absurd (b.1 e))
      (λ _ e. let r = c l h e in (r.0, omega (arith, r.1, between_same 6 (s.slot l).finish (s.slot l).from (s.slot l).to a), r.2))

  pub counted : Elsewhere 7 → Counted s → Counted s'
  counted a c f i j p l d = omega (arith, c f i j p l d, reports_same f i j a)

  pub counted_denied : Elsewhere 7 → Elsewhere 11 → CountedDenied s → CountedDenied s'
  counted_denied a b c f i j p l d = omega (arith, c f i j p l d, reports_same f i j a, answered_same f i j b)

  pub no_answer : Elsewhere 11 → NoAnswer s → NoAnswer s'
  no_answer a c f i j p l d = omega (arith, c f i j p l d, answered_same f i j a)

  pub marked : Elsewhere 10 → Marked s → Marked s'
  marked a c f i j p l = omega (arith, c f i j p l, between_same 10 f i j a)

  pub sent_from : Elsewhere 4 → Elsewhere 6 → SentFrom s → SentFrom s'
  sent_from a b c f i j p l d = omega (arith, c f i j p l d, between_same 4 f i j a, between_same 6 f i j b)

  pub sent_most : Elsewhere 6 → SentMost s → SentMost s'
  sent_most a c f i j p l = omega (arith, c f i j p l, between_same 6 f i j a)

  pub sent_tasks_most : Elsewhere 3 → SentTasksMost s → SentTasksMost s'
  sent_tasks_most a c f i j n = omega (arith, c f i j n, between_same 3 f i j a)

  pub reports_most : Elsewhere 7 → ReportsMost s → ReportsMost s'
  reports_most a c f i j l n = omega (arith, c f i j l n, reports_same f i j a)
