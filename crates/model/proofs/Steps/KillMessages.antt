-- A kill keeps what the invariant says of messages: those going to the place vanish, the others are as they were.
use Rattle.std.specs.Prelude.{◌≡◌, refl, ◌⊎◌, Bool, true, false, ℕ, ◌≤◌, ◌<◌, eqb}
use Rattle.std.proofs.Common.{sym, ap, ◌∙◌, inl, inr, arith, eqb-true, ne_eqb}
use Rattle.model.specs.Base.{is₂, is₃, is₃_true, sum_ext, sum_mono, sum_zero, eq_cases, bool_cases, both, cond_cases}
use Rattle.model.specs.State.{State, Message}
use Rattle.model.specs.Messages.{none, goes_to, tally, tally_else, tally_away, tallied, of_finish, naming, between, reports, answered}
use Rattle.model.specs.Effects.Kill.{kill}
use Rattle.model.specs.Inv.{Inv}
use Rattle.model.specs.Inv.Messages as M
use Rattle.model.proofs.Steps.Losses.{going_home, going_from, going_to, stored, goes-home, goes_from, goes_to_lem}
use Rattle.model.proofs.Steps.KillRows.{Lives}
use Rattle.model.proofs.Steps.KillRows as K

-- what is shown
pub record KilledMessages (s : State) : Type 0 where
  pub tags : M.Tags s
  pub names_finish : M.NamesFinish s
  pub names_task : M.NamesTask s
  pub names_pair : M.NamesPair s
  pub names_places : M.NamesPlaces s
  pub publishes : M.Publishes s
  pub published : M.Published s
  pub publish_once : M.PublishOnce s
  pub publish_some : M.PublishSome s
  pub transits : M.Transits s
  pub lost_transits : M.LostTransits s
  pub on_wire : M.OnWire s
  pub late : M.Late s
  pub named_once : M.NamedOnce s
  pub named_publish : M.NamedPublish s
  pub named_transit : M.NamedTransit s
  pub report_counts : M.ReportCounts s
  pub report_book : M.ReportBook s
  pub release_some : M.ReleaseSome s
  pub release_none : M.ReleaseNone s
  pub ghosts : M.Ghosts s
  pub ghost_ends : M.GhostEnds s
  pub asks : M.Asks s
  pub questions : M.Questions s
  pub fresh_messages : M.FreshMessages s
  pub fresh_locals : M.FreshLocals s

module _ {s : State} {p : ℕ} (inv : Inv s) (place : Lives s p) where
  abbrev s' : State
  s' = kill s p

  abbrev goes : ℕ → Bool
  goes k = goes_to s.finishes.home (s.slot k) p

  -- what holds of an empty slot, and of each message that stays, holds of each
  each : (P : Message → Type 0) → P none → ((k : ℕ) → k < s.slots → goes k ≡ false → P (s.slot k)) → M.Each s' P
  each P z old k h = cond_cases P (goes k) none (s.slot k) (λ _. z) (λ e. old k h e)

  module _ (t : ℕ) (b : Message → Bool) (n : Message → ℕ) (full : 0 < t) where
    abbrev weight : Message → ℕ
    weight m = tally t m (b m) (n m)

    empty-weight : weight none ≡ 0
    empty-weight = tally_else t none (b none) (n none) (λ e. omega arith)

    -- no count of messages rises
    fewer : tallied s' t b n ≤ tallied s t b n
    fewer = sum_mono s.slots (λ k. weight (s'.slot k)) (λ k. weight (s.slot k))
        (λ k _. cond_cases (λ m. weight m ≤ weight (s.slot k)) (goes k) none (s.slot k) (λ _. omega (arith, empty-weight)) (λ _. omega arith))

    -- a count stays where no message of it goes to p, and is 0 where all do
    same : ((k : ℕ) → k < s.slots → (s.slot k).tag ≡ t → b (s.slot k) ≡ true → goes k ≡ true → ⊥) → tallied s' t b n ≡ tallied s t b n
    same stay = sum_ext s.slots (λ k. weight (s.slot k)) (λ k. weight (s'.slot k))
        (λ k h. cond_cases (λ m. weight m ≡ weight (s.slot k)) (goes k) none (s.slot k)
        (λ g. empty-weight ∙ sym (eq_cases (s.slot k).tag t
        (λ e. bool_cases (b (s.slot k)) (λ y. absurd (stay k h e y g)) (λ y. tally_away t (s.slot k) (b (s.slot k)) (n (s.slot k)) y))
        (λ ne. tally_else t (s.slot k) (b (s.slot k)) (n (s.slot k)) ne)))
        (λ _. refl))

    vanish : ((k : ℕ) → k < s.slots → (s.slot k).tag ≡ t → b (s.slot k) ≡ true → goes k ≡ true) → tallied s' t b n ≡ 0
    vanish all = sum_zero s.slots (λ k. weight (s'.slot k))
        (λ k h. cond_cases (λ m. weight m ≡ 0) (goes k) none (s.slot k)
        (λ _. empty-weight)
        (λ g. eq_cases (s.slot k).tag t
        (λ e. bool_cases (b (s.slot k)) (λ y. both (all k h e y) g) (λ y. tally_away t (s.slot k) (b (s.slot k)) (n (s.slot k)) y))
        (λ ne. tally_else t (s.slot k) (b (s.slot k)) (n (s.slot k)) ne)))

    same_stored : (t ≡ 2 → ⊥) → (t ≡ 8 → ⊥) → (4 ≤ t → t ≤ 6 → ⊥) → (t ≡ 10 → ⊥) → tallied s' t b n ≡ tallied s t b n
    same_stored c d e f = same (λ k _ q _ g. stored s.finishes.home (s.slot k) p g (λ w. c (sym q ∙ w)) (λ w. d (sym q ∙ w)) (λ l h. e (omega arith) (omega arith)) (λ w. f (sym q ∙ w)))

  -- counts that stay, by tag
  pub reports_same : (f i j : ℕ) → reports s' f i j ≡ reports s f i j
  reports_same f i j = same_stored 7 (λ m. is₂ m.finish m.from f j) (λ m. m.counts i) (omega arith) (λ e. omega arith) (λ e. omega arith) (λ _ h. omega arith) (λ e. omega arith)

  pub answered_same : (f i j : ℕ) → answered s' f i j ≡ answered s f i j
  answered_same f i j = same_stored 11 (λ m. is₃ m.finish m.from m.to f i j) (λ m. m.number) (omega arith) (λ e. omega arith) (λ e. omega arith) (λ _ h. omega arith) (λ e. omega arith)

  pub transits_same : (f i j : ℕ) → between s' 3 f i j ≡ between s 3 f i j
  transits_same f i j = same_stored 3 (λ m. is₃ m.finish m.from m.to f i j) (λ m. 1) (omega arith) (λ e. omega arith) (λ e. omega arith) (λ l _. omega arith) (λ e. omega arith)

  pub granted_same : (f i j : ℕ) → (i ≡ p → ⊥) → between s' 4 f i j ≡ between s 4 f i j
  granted_same f i j n = same 4 (λ m. is₃ m.finish m.from m.to f i j) (λ m. 1) (omega arith)
      (λ k _ e y g. let m = s.slot k in n (sym (is₃_true m.finish m.from m.to f i j y).1 ∙ going_from s.finishes.home m p g (omega arith) (omega arith)))

  pub to_same : (t f i j : ℕ) → (t ≡ 6) ⊎ (t ≡ 10) → (j ≡ p → ⊥) → between s' t f i j ≡ between s t f i j
  to_same t f i j (inl w) n = same t (λ m. is₃ m.finish m.from m.to f i j) (λ m. 1) (omega arith)
      (λ k _ e y g. let m = s.slot k in n (sym (is₃_true m.finish m.from m.to f i j y).2 ∙ going_to s.finishes.home m p g (inl (e ∙ w))))
  to_same t f i j (inr w) n = same t (λ m. is₃ m.finish m.from m.to f i j) (λ m. 1) (omega arith)
      (λ k _ e y g. let m = s.slot k in n (sym (is₃_true m.finish m.from m.to f i j y).2 ∙ going_to s.finishes.home m p g (inr (e ∙ w))))

  home_same : (t f : ℕ) → (t ≡ 2) ⊎ (t ≡ 8) → (s.finishes.home f ≡ p → ⊥) → of_finish s' t f ≡ of_finish s t f
  home_same t f (inl w) n = same t (λ m. eqb m.finish f) (λ m. 1) (omega arith)
      (λ k _ e y g. let m = s.slot k in n (ap s.finishes.home (sym (eqb-true m.finish f y)) ∙ going_home s.finishes.home m p g (λ l _. omega arith) (λ q. omega arith)))
  home_same t f (inr w) n = same t (λ m. eqb m.finish f) (λ m. 1) (omega arith)
      (λ k _ e y g. let m = s.slot k in n (ap s.finishes.home (sym (eqb-true m.finish f y)) ∙ going_home s.finishes.home m p g (λ _ h. omega arith) (λ q. omega arith)))

  -- the task that waits for publish is from its finish's home
  first_home : (t f : ℕ) → s.tasks.sent t ≡ 1 → s.tasks.finish t ≡ f → s.finishes.status f ≡ 2 → s.tasks.from t ≡ s.finishes.home f
  first_home t f e q w = rw q at (K.first_from inv place t e (rw q (inv.publishing f w).1) (λ x. omega (arith, w, ap s.finishes.status q)))

  first_kept : (t f : ℕ) → s.tasks.sent t ≡ 1 → s.tasks.finish t ≡ f → s.finishes.status f ≡ 2 → s.tasks.status t ≡ 1 → (s.finishes.home f ≡ p → ⊥) → s'.tasks.status t ≡ 1
  first_kept t f e q w v n = K.kept inv place t (λ l _ _. omega arith) (λ _ _ r. n (sym (first_home t f e q w) ∙ r)) ∙ v

  tags : M.Tags s'
  tags = each (M.TagsOf s') (omega arith) (λ k h _. inv.tags k h)

  names_finish : M.NamesFinish s'
  names_finish = each (M.NamesFinishOf s') (λ l. absurd (omega arith)) (λ k h _. inv.names_finish k h)

  names_task : M.NamesTask s'
  names_task = each (M.NamesTaskOf s') (λ l. absurd (omega arith)) (λ k h _. inv.names_task k h)

  names_pair : M.NamesPair s'
  names_pair = each (M.NamesPairOf s') (λ l. absurd (omega arith)) (λ k h _. inv.names_pair k h)

  names_places : M.NamesPlaces s'
  names_places = each (M.NamesPlacesOf s') (λ l. absurd (omega arith)) (λ k h _. inv.names_places k h)

  publishes : M.Publishes s'
  publishes = each (M.PublishesOf s') (λ e. absurd (omega arith)) (λ k h _ e.
      let r = inv.publishes k h e in
      let m = s.slot k in
      let v = s.finishes.home m.finish in
      let n = inv.names_task k h (omega arith) (omega arith) in (
        r.0,
        r.1,
        (λ a.
            let w = K.alive_was inv place v a in
            let x = r.2 w.1 in
            (K.finish_kept inv place m.finish w.0 ∙ x.0, first_kept m.task m.finish n.2 n.3 x.0 x.1 w.0)),
        (λ d. eq_cases v p
            (λ q. K.finish_gone inv place m.finish q (λ w. omega (arith, (r.2 (rw q place.alive)).0)))
            (λ ne. K.lost_stays inv place m.finish (r.3 (K.dead_was inv place v d ne)))),
      ))

  published : M.Published s'
  published = each (M.PublishedOf s') (λ e. absurd (omega arith)) (λ k h g e.
      let r = inv.published k h e in
      let m = s.slot k in
      let n = inv.names_task k h (omega arith) (omega arith) in
      let away : s.finishes.home m.finish ≡ p → ⊥ = λ q. both (goes-home s.finishes.home m p (inl e) q) g in (
        r.0,
        K.alive_stays inv place (s.finishes.home m.finish) away r.1,
        K.finish_kept inv place m.finish away ∙ r.2,
        first_kept m.task m.finish n.2 n.3 r.2 r.3 away,
      ))

  publish_once : M.PublishOnce s'
  publish_once f = omega (arith, inv.publish_once f, fewer 1 (λ m. eqb m.finish f) (λ m. 1) (omega arith), fewer 2 (λ m. eqb m.finish f) (λ m. 1) (omega arith))

  publish_some : M.PublishSome s'
  publish_some f e = omega (
    arith,
    inv.publish_some f (K.finish_was inv place f 2 e (λ q. omega arith)),
    same_stored 1 (λ m. eqb m.finish f) (λ m. 1) (omega arith) (λ q. omega arith) (λ q. omega arith) (λ l _. omega arith) (λ q. omega arith),
    home_same 2 f (inl refl) (K.home_other inv place f 2 e (λ q. omega arith) (λ q. omega arith)),
  )

  transits : M.Transits s'
  transits = each (M.TransitsOf s') (λ l. absurd (omega arith)) (λ k h _ l u a.
      let m = s.slot k in
      let w = K.alive_was inv place m.from a in
      let r = inv.transits k h l u w.1 in
      (K.kept inv place m.task (λ v _ _. omega (arith, r.0)) (λ _ _ q. w.0 (sym (inv.names_pair k h l (omega arith)).0 ∙ q)) ∙ r.0, r.1))

  lost_transits : M.LostTransits s'
  lost_transits = each (M.LostTransitsOf s') (λ l. absurd (omega arith)) (λ k h g l u d.
      let m = s.slot k in
      eq_cases m.from p
      (λ q.
      let r = inv.transits k h l u (rw q place.alive) in (
        eq_cases m.tag 3 (λ e. e) (λ n. both (goes_from s.finishes.home m p (omega arith) u q) g),
        K.gone_waiting inv place m.task (omega (arith, r.0)) (omega (arith, r.0)) ((inv.names_pair k h l (omega arith)).0 ∙ q),
      ))
      (λ n.
      let r = inv.lost_transits k h l u (K.dead_was inv place m.from d n) in
      (r.0, K.ended_kept inv place m.task 8 r.1 (omega arith))))

  -- a task or a question in flight goes to another place
  to_other : (k : ℕ) → goes k ≡ false → ((s.slot k).tag ≡ 6) ⊎ ((s.slot k).tag ≡ 10) → (s.slot k).to ≡ p → ⊥
  to_other k g e q = both (goes_to_lem s.finishes.home (s.slot k) p e q) g

  on_wire : M.OnWire s'
  on_wire = each (M.OnWireOf s') (λ e. absurd (omega arith)) (λ k h g e.
      let r = inv.on_wire k h e in
      (K.wire_kept inv place (s.slot k).task r.0, K.alive_stays inv place (s.slot k).to (to_other k g (inl e)) r.1))

  late : M.Late s'
  late = each (M.LateOf s') (λ e. absurd (omega arith)) (λ k h g e b. rw (ne_eqb (s.slot k).to p (to_other k g (inl e))) (inv.late k h e b))

  named_once : M.NamedOnce s'
  named_once t = omega (arith, inv.named_once t, less 1 (omega arith), less 2 (omega arith), less 3 (omega arith), less 4 (omega arith), less 5 (omega arith), less 6 (omega arith))
    where
      less : (x : ℕ) → 0 < x → naming s' x t ≤ naming s x t
      less x z = fewer x (λ m. eqb m.task t) (λ m. 1) z

  named_publish : M.NamedPublish s'
  named_publish t e =
      let w = K.waiting_was inv place t 1 e (omega arith) (omega arith) in
      omega (
        arith,
        inv.named_publish t w.0,
        same_stored 1 (λ m. eqb m.task t) (λ m. 1) (omega arith) (λ q. omega arith) (λ q. omega arith) (λ l _. omega arith) (λ q. omega arith),
        same 2 (λ m. eqb m.task t) (λ m. 1) (omega arith) (λ k h q y g.
            let m = s.slot k in
            let n = inv.names_task k h (omega arith) (omega arith) in
            w.1 (ap s.tasks.from (sym (eqb-true m.task t y)) ∙ first_home m.task m.finish n.2 n.3 (inv.published k h q).2
            ∙ going_home s.finishes.home m p g (λ l _. omega arith) (λ v. omega arith))),
      )

  named_transit : M.NamedTransit s'
  named_transit t e =
      let w = K.waiting_was inv place t 2 e (omega arith) (omega arith) in
      let waits : (x : ℕ) → 4 ≤ x → x ≤ 5 → naming s' x t ≡ naming s x t = λ x l u. same x (λ m. eqb m.task t) (λ m. 1) (omega arith) (λ k h q y g.
      let m = s.slot k in
      w.1 (ap s.tasks.from (sym (eqb-true m.task t y)) ∙ (inv.names_pair k h (omega arith) (omega arith)).0 ∙ going_from s.finishes.home m p g (omega arith) (omega arith))) in
      omega (
        arith,
        inv.named_transit t w.0,
        same_stored 3 (λ m. eqb m.task t) (λ m. 1) (omega arith) (λ q. omega arith) (λ q. omega arith) (λ l _. omega arith) (λ q. omega arith),
        waits 4 (omega arith) (omega arith),
        waits 5 (omega arith) (omega arith),
      )

  report_counts : M.ReportCounts s'
  report_counts = each (M.ReportCountsOf s') (λ e. absurd (omega arith)) (λ k h _. inv.report_counts k h)

  report_book : M.ReportBook s'
  report_book = each (M.ReportBookOf s') (λ e. absurd (omega arith)) (λ k h _ e a. inv.report_book k h e (K.alive_was inv place (s.slot k).from a).1)

  release_some : M.ReleaseSome s'
  release_some f e = omega (
    arith,
    inv.release_some f (K.finish_was inv place f 3 e (λ q. omega arith)),
    home_same 8 f (inr refl) (K.home_other inv place f 3 e (λ q. omega arith) (λ q. omega arith)),
  )

  -- a finish that waited for release and is lost had its release on its way to p
  release_none : M.ReleaseNone s'
  release_none f n₃ = eq_cases (s.finishes.status f) 3
      (λ e. eq_cases (s.finishes.home f) p
      (λ q. vanish 8 (λ m. eqb m.finish f) (λ m. 1) (omega arith)
      (λ k _ w y. goes-home s.finishes.home (s.slot k) p (inr w) (ap s.finishes.home (eqb-true (s.slot k).finish f y) ∙ q)))
      (λ n. absurd (n₃ (K.finish_kept inv place f n ∙ e))))
      (λ n. omega (arith, inv.release_none f n, fewer 8 (λ m. eqb m.finish f) (λ m. 1) (omega arith)))

  ghosts : M.Ghosts s'
  ghosts q g = omega (arith, inv.ghosts q g, same_stored 9 (λ m. is₂ m.finish m.number q g) (λ m. 1) (omega arith) (λ e. omega arith) (λ e. omega arith) (λ _ h. omega arith) (λ e. omega arith))

  ghost_ends : M.GhostEnds s'
  ghost_ends = each (M.GhostEndsOf s') (λ e. absurd (omega arith)) (λ k h _ e.
      let r = inv.ghost_ends k h e in (K.dead_stays inv place (s.finishes.home (s.slot k).number) r.0, r.1))

  asks : M.Asks s'
  asks = each (M.AsksOf s') (λ l. absurd (omega arith)) (λ k h _ l.
      let r = inv.asks k h l in (K.dead_stays inv place (s.slot k).from r.0, r.1))

  questions : M.Questions s'
  questions = each (M.QuestionsOf s') (λ e. absurd (omega arith)) (λ k h g e.
      let r = inv.questions k h e in
      let m = s.slot k in
      let n = to_other k g (inr e) in (
        K.alive_stays inv place m.to n r.0,
        rw (ne_eqb m.to p n) (omega (arith, r.1, fewer 6 (λ x. is₃ x.finish x.from x.to m.finish m.from m.to) (λ x. 1) (omega arith))),
        r.2,
      ))

  fresh_messages : M.FreshMessages s'
  fresh_messages = each (M.FreshMessagesOf s') (λ l. absurd (omega arith)) (λ k h _. inv.fresh_messages k h)

  fresh_locals : M.FreshLocals s'
  fresh_locals f j i e =
      let r = inv.fresh_locals f j i e in (
        cond_cases (λ w. w ≡ 0) (eqb j p) 0 (s.locals.received f j i) (λ _. refl) (λ _. r.0),
        cond_cases (λ w. w ≡ 0) (eqb j p) 0 (s.locals.reported f j i) (λ _. refl) (λ _. r.1),
        cond_cases (λ w. w ≡ 0) (eqb j p) 0 (s.locals.live f j) (λ _. refl) (λ _. r.2),
        cond_cases (λ w. w ≡ false) (eqb j p) false (s.locals.denied f j i) (λ _. refl) (λ _. r.3),
      )

  pub kill_messages : KilledMessages s'
  kill_messages = search (
    tags,
    names_finish,
    names_task,
    names_pair,
    names_places,
    publishes,
    published,
    publish_once,
    publish_some,
    transits,
    lost_transits,
    on_wire,
    late,
    named_once,
    named_publish,
    named_transit,
    report_counts,
    report_book,
    release_some,
    release_none,
    ghosts,
    ghost_ends,
    asks,
    questions,
    fresh_messages,
    fresh_locals,
  )
