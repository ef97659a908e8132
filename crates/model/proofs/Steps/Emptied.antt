-- A slot emptied: the conjuncts that last whatever its message was, and those that last where it went to the store.
use Rattle.std.specs.Prelude.{◌≡◌, Bool, ℕ, ◌+◌, ◌≤◌, ◌<◌, eqb}
use Rattle.std.proofs.Common.{arith}
use Rattle.model.specs.Base.{upd-cases, is₂, is₃}
use Rattle.model.specs.State.{State, Message}
use Rattle.model.specs.Messages.{none, tally, tallied, of_finish, naming, between, tally_else, tallied_moves}
use Rattle.model.specs.Effects.Deliver.{empty}
use Rattle.model.specs.Inv.Messages as M
use Rattle.model.specs.Inv.Cells as C
use Rattle.model.specs.Inv.Locals as L
use Rattle.model.proofs.Steps.Written as W

-- what is said of each message, and what bounds a sum of messages from above
pub record Lasting (s : State) : Type 0 where
  pub tags : M.Tags s
  pub names_finish : M.NamesFinish s
  pub names_task : M.NamesTask s
  pub names_pair : M.NamesPair s
  pub names_places : M.NamesPlaces s
  pub publishes : M.Publishes s
  pub published : M.Published s
  pub transits : M.Transits s
  pub lost_transits : M.LostTransits s
  pub on_wire : M.OnWire s
  pub late : M.Late s
  pub report_counts : M.ReportCounts s
  pub report_book : M.ReportBook s
  pub ghost_ends : M.GhostEnds s
  pub asks : M.Asks s
  pub fresh_messages : M.FreshMessages s
  pub questions : M.Questions s
  pub publish_once : M.PublishOnce s
  pub named_once : M.NamedOnce s
  pub no_answer : C.NoAnswer s
  pub sent_most : C.SentMost s
  pub sent_tasks_most : C.SentTasksMost s
  pub reports_most : L.ReportsMost s

-- what counts tags exactly that are not 7, 9 or 11
pub record Placed (s : State) : Type 0 where
  pub publish_some : M.PublishSome s
  pub named_publish : M.NamedPublish s
  pub named_transit : M.NamedTransit s
  pub release_some : M.ReleaseSome s
  pub marked : C.Marked s
  pub sent_from : C.SentFrom s

module _ (s : State) (k : ℕ) (in-range : k < s.slots) where
  abbrev s' : State
  s' = empty s k

  each : (P : Message → Type 0) → M.Each s P → P none → M.Each s' P
  each = W.each s k none in-range

  -- a sum falls by what the message counted for
  pub falls : (t : ℕ) (b : Message → Bool) (n : Message → ℕ) → 0 < t → tallied s' t b n + tally t (s.slot k) (b (s.slot k)) (n (s.slot k)) ≡ tallied s t b n
  falls t b n z = omega (arith, tallied_moves s k none in-range t b n, tally_else t none (b none) (n none) (λ q. omega arith))

  fewer_of : (t f : ℕ) → 0 < t → of_finish s' t f ≤ of_finish s t f
  fewer_of t f z = omega (arith, falls t (λ m. eqb m.finish f) (λ m. 1) z)

  fewer_naming : (t x : ℕ) → 0 < t → naming s' t x ≤ naming s t x
  fewer_naming t x z = omega (arith, falls t (λ m. eqb m.task x) (λ m. 1) z)

  fewer_between : (t f i j : ℕ) → 0 < t → between s' t f i j ≤ between s t f i j
  fewer_between t f i j z = omega (arith, falls t (λ m. is₃ m.finish m.from m.to f i j) (λ m. 1) z)

  pub release_none : M.ReleaseNone s → M.ReleaseNone s'
  release_none c f n = omega (arith, c f n, fewer_of 8 f (omega arith))

  pub lasts : Lasting s → Lasting s'
  lasts c = record {
    tags = each (M.TagsOf s) c.tags (omega arith);
    names_finish = each (M.NamesFinishOf s) c.names_finish (λ h. absurd (omega arith));
    names_task = each (M.NamesTaskOf s) c.names_task (λ h. absurd (omega arith));
    names_pair = each (M.NamesPairOf s) c.names_pair (λ h. absurd (omega arith));
    names_places = each (M.NamesPlacesOf s) c.names_places (λ h. absurd (omega arith));
    publishes = each (M.PublishesOf s) c.publishes (λ e. absurd (omega arith));
    published = each (M.PublishedOf s) c.published (λ e. absurd (omega arith));
    transits = each (M.TransitsOf s) c.transits (λ h. absurd (omega arith));
    lost_transits = each (M.LostTransitsOf s) c.lost_transits (λ h. absurd (omega arith));
    on_wire = each (M.OnWireOf s) c.on_wire (λ e. absurd (omega arith));
    late = each (M.LateOf s) c.late (λ e. absurd (omega arith));
    report_counts = each (M.ReportCountsOf s) c.report_counts (λ e. absurd (omega arith));
    report_book = each (M.ReportBookOf s) c.report_book (λ e. absurd (omega arith));
    ghost_ends = each (M.GhostEndsOf s) c.ghost_ends (λ e. absurd (omega arith));
    asks = each (M.AsksOf s) c.asks (λ h. absurd (omega arith));
    fresh_messages = each (M.FreshMessagesOf s) c.fresh_messages (λ h. absurd (omega arith));
    questions = λ l h. upd-cases s.slot (M.QuestionsOf s') k none l
        (λ _ e. absurd (omega arith))
        (λ _ e. let r = c.questions l h e in (r.0, omega (arith, r.1, fewer_between 6 (s.slot l).finish (s.slot l).from (s.slot l).to (omega arith)), r.2));
    publish_once = λ f. omega (arith, c.publish_once f, fewer_of 1 f (omega arith), fewer_of 2 f (omega arith));
    named_once = λ x. omega (
      arith,
      c.named_once x,
      fewer_naming 1 x (omega arith),
      fewer_naming 2 x (omega arith),
      fewer_naming 3 x (omega arith),
      fewer_naming 4 x (omega arith),
      fewer_naming 5 x (omega arith),
      fewer_naming 6 x (omega arith),
    );
    no_answer = λ f i j p l d. omega (arith, c.no_answer f i j p l d, falls 11 (λ m. is₃ m.finish m.from m.to f i j) (λ m. m.number) (omega arith));
    sent_most = λ f i j p l. omega (arith, c.sent_most f i j p l, fewer_between 6 f i j (omega arith));
    sent_tasks_most = λ f i j n. omega (arith, c.sent_tasks_most f i j n, fewer_between 3 f i j (omega arith));
    reports_most = λ f i j l n. omega (arith, c.reports_most f i j l n, falls 7 (λ m. is₂ m.finish m.from f j) (λ m. m.counts i) (omega arith));
  }

  -- a tag that the message does not have
  other_tag : (t : ℕ) → 0 < t → ((s.slot k).tag ≡ t → ⊥) → W.Elsewhere s k none in-range t
  other_tag t z n = (n, (λ q. omega arith))

  pub places : 7 ≤ (s.slot k).tag → ((s.slot k).tag ≡ 8 → ⊥) → ((s.slot k).tag ≡ 10 → ⊥) → Placed s → Placed s'
  places high n₈ n₁₀ c = record {
    publish_some = W.publish_some s k none in-range (low 1 (omega arith) (omega arith)) (low 2 (omega arith) (omega arith)) c.publish_some;
    named_publish = W.named_publish s k none in-range (low 1 (omega arith) (omega arith)) (low 2 (omega arith) (omega arith)) c.named_publish;
    named_transit = W.named_transit s k none in-range (low 3 (omega arith) (omega arith)) (low 4 (omega arith) (omega arith)) (low 5 (omega arith) (omega arith)) c.named_transit;
    release_some = W.release_some s k none in-range (other_tag 8 (omega arith) n₈) c.release_some;
    marked = W.marked s k none in-range (other_tag 10 (omega arith) n₁₀) c.marked;
    sent_from = W.sent_from s k none in-range (low 4 (omega arith) (omega arith)) (low 6 (omega arith) (omega arith)) c.sent_from;
  }
    where
      low : (t : ℕ) → 0 < t → t < 7 → W.Elsewhere s k none in-range t
      low t z h = other_tag t z (λ q. omega arith)
