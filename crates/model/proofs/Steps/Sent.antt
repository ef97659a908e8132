-- A message sent into an empty slot: what it does not touch, by its tag.
use Rattle.std.specs.Prelude.{◌≡◌, refl, Bool, ℕ, ◌+◌, ◌≤◌, ◌<◌}
use Rattle.std.proofs.Common.{arith}
use Rattle.model.specs.Base.{upd, on}
use Rattle.model.specs.State.{State, Message, with_slot}
use Rattle.model.specs.Messages.{tallied, tally_else, tally_is, tallied_moves}
use Rattle.model.specs.Inv.Messages as M
use Rattle.model.specs.Inv.Cells as C
use Rattle.model.specs.Inv.Locals as L
use Rattle.model.proofs.Steps.Written as W

-- what no publish, no transit and no report touches
pub record Aside (s : State) : Type 0 where
  pub tags : M.Tags s
  pub published : M.Published s
  pub on_wire : M.OnWire s
  pub late : M.Late s
  pub release_some : M.ReleaseSome s
  pub release_none : M.ReleaseNone s
  pub ghosts : M.Ghosts s
  pub ghost_ends : M.GhostEnds s
  pub asks : M.Asks s
  pub questions : M.Questions s
  pub no_answer : C.NoAnswer s
  pub marked : C.Marked s
  pub sent_from : C.SentFrom s
  pub sent_most : C.SentMost s

-- what no message touches that is no report and no answer to a count-dropped
pub record NoReport (s : State) : Type 0 where
  pub report_counts : M.ReportCounts s
  pub report_book : M.ReportBook s
  pub counted : C.Counted s
  pub counted_denied : C.CountedDenied s
  pub no_answer : C.NoAnswer s
  pub reports_most : L.ReportsMost s

-- what no message touches that names no task
pub record NoTask (s : State) : Type 0 where
  pub names_task : M.NamesTask s
  pub names_pair : M.NamesPair s
  pub publishes : M.Publishes s
  pub published : M.Published s
  pub publish_once : M.PublishOnce s
  pub publish_some : M.PublishSome s
  pub transits : M.Transits s
  pub lost_transits : M.LostTransits s
  pub on_wire : M.OnWire s
  pub late : M.Late s
  pub named_once : M.NamedOnce s
  pub named_publish : M.NamedPublish s
  pub named_transit : M.NamedTransit s
  pub sent_from : C.SentFrom s
  pub sent_most : C.SentMost s
  pub sent_tasks_most : C.SentTasksMost s

module _ (s : State) (k : ℕ) (m : Message) (in-range : k < s.slots) (is-empty : (s.slot k).tag ≡ 0) where
  -- a tag that is not the message's
  pub other_tag : (x : ℕ) → 0 < x → (m.tag ≡ x → ⊥) → W.Elsewhere s k m in-range x
  other_tag x z n = ((λ q. omega arith), n)

  -- the count of its tag rises by what it counts for
  pub rises : (b : Message → Bool) (n : Message → ℕ) → 0 < m.tag → tallied (with_slot (upd s.slot k m) s) m.tag b n ≡ tallied s m.tag b n + on (b m) (n m)
  rises b n z = omega (
    arith,
    tallied_moves s k m in-range m.tag b n,
    tally_else m.tag (s.slot k) (b (s.slot k)) (n (s.slot k)) (λ q. omega arith),
    tally_is m.tag m (b m) (n m) refl,
  )

  pub aside : (m.tag ≡ 2 → ⊥) → (m.tag ≡ 4 → ⊥) → (m.tag ≡ 6 → ⊥) → m.tag ≤ 7 → Aside s → Aside (with_slot (upd s.slot k m) s)
  aside n₂ n₄ n₆ low a =
      let tag_4 = other_tag 4 (omega arith) n₄ in
      let tag_6 = other_tag 6 (omega arith) n₆ in
      let tag_8 = other_tag 8 (omega arith) (λ q. omega arith) in
      let tag_9 = other_tag 9 (omega arith) (λ q. omega arith) in
      let tag_10 = other_tag 10 (omega arith) (λ q. omega arith) in
      let tag_11 = other_tag 11 (omega arith) (λ q. omega arith) in
      record {
        tags = W.each s k m in-range (M.TagsOf s) a.tags (omega arith);
        published = W.each s k m in-range (M.PublishedOf s) a.published (λ e. absurd (n₂ e));
        on_wire = W.each s k m in-range (M.OnWireOf s) a.on_wire (λ e. absurd (n₆ e));
        late = W.each s k m in-range (M.LateOf s) a.late (λ e. absurd (n₆ e));
        release_some = W.release_some s k m in-range tag_8 a.release_some;
        release_none = W.release_none s k m in-range tag_8 a.release_none;
        ghosts = W.ghosts s k m in-range tag_9 a.ghosts;
        ghost_ends = W.each s k m in-range (M.GhostEndsOf s) a.ghost_ends (λ e. absurd (omega arith));
        asks = W.each s k m in-range (M.AsksOf s) a.asks (λ h. absurd (omega arith));
        questions = W.questions s k m in-range tag_6 tag_10 a.questions;
        no_answer = W.no_answer s k m in-range tag_11 a.no_answer;
        marked = W.marked s k m in-range tag_10 a.marked;
        sent_from = W.sent_from s k m in-range tag_4 tag_6 a.sent_from;
        sent_most = W.sent_most s k m in-range tag_6 a.sent_most;
      }

  pub no_report : (m.tag ≡ 7 → ⊥) → (m.tag ≡ 11 → ⊥) → NoReport s → NoReport (with_slot (upd s.slot k m) s)
  no_report n₇ n₁₁ a =
      let tag_7 = other_tag 7 (omega arith) n₇ in
      let tag_11 = other_tag 11 (omega arith) n₁₁ in
      record {
        report_counts = W.each s k m in-range (M.ReportCountsOf s) a.report_counts (λ e. absurd (n₇ e));
        report_book = W.each s k m in-range (M.ReportBookOf s) a.report_book (λ e. absurd (n₇ e));
        counted = W.counted s k m in-range tag_7 a.counted;
        counted_denied = W.counted_denied s k m in-range tag_7 tag_11 a.counted_denied;
        no_answer = W.no_answer s k m in-range tag_11 a.no_answer;
        reports_most = W.reports_most s k m in-range tag_7 a.reports_most;
      }

  pub no_task : 7 ≤ m.tag → NoTask s → NoTask (with_slot (upd s.slot k m) s)
  no_task high a =
      let low : (x : ℕ) → 0 < x → x < 7 → W.Elsewhere s k m in-range x = λ x z h. other_tag x z (λ q. omega arith) in
      let tag_1 = low 1 (omega arith) (omega arith) in
      let tag_2 = low 2 (omega arith) (omega arith) in
      let tag_3 = low 3 (omega arith) (omega arith) in
      let tag_4 = low 4 (omega arith) (omega arith) in
      let tag_5 = low 5 (omega arith) (omega arith) in
      let tag_6 = low 6 (omega arith) (omega arith) in
      record {
        names_task = W.each s k m in-range (M.NamesTaskOf s) a.names_task (λ _ h. absurd (omega arith));
        names_pair = W.each s k m in-range (M.NamesPairOf s) a.names_pair (λ _ h. absurd (omega arith));
        publishes = W.each s k m in-range (M.PublishesOf s) a.publishes (λ e. absurd (omega arith));
        published = W.each s k m in-range (M.PublishedOf s) a.published (λ e. absurd (omega arith));
        publish_once = W.publish_once s k m in-range tag_1 tag_2 a.publish_once;
        publish_some = W.publish_some s k m in-range tag_1 tag_2 a.publish_some;
        transits = W.each s k m in-range (M.TransitsOf s) a.transits (λ _ h. absurd (omega arith));
        lost_transits = W.each s k m in-range (M.LostTransitsOf s) a.lost_transits (λ _ h. absurd (omega arith));
        on_wire = W.each s k m in-range (M.OnWireOf s) a.on_wire (λ e. absurd (omega arith));
        late = W.each s k m in-range (M.LateOf s) a.late (λ e. absurd (omega arith));
        named_once = W.named_once s k m in-range low a.named_once;
        named_publish = W.named_publish s k m in-range tag_1 tag_2 a.named_publish;
        named_transit = W.named_transit s k m in-range tag_3 tag_4 tag_5 a.named_transit;
        sent_from = W.sent_from s k m in-range tag_4 tag_6 a.sent_from;
        sent_most = W.sent_most s k m in-range tag_6 a.sent_most;
        sent_tasks_most = W.sent_tasks_most s k m in-range tag_3 a.sent_tasks_most;
      }
