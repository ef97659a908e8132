-- A message discarded, and the task message of a denied sender, keep the invariant.
use Rattle.std.specs.Prelude.{◌≡◌, ◌⊎◌, Bool, true, false, ℕ, ◌≤◌, ◌<◌, eqb}
use Rattle.std.proofs.Common.{sym, ap, ◌∙◌, inl, inr, arith, ne_eqb}
use Rattle.model.specs.Base.{on_false, is₂, is₃, is₂_same, is₂_false, is₃_false, bool_cases, both}
use Rattle.model.specs.State.{State, Message}
use Rattle.model.specs.Messages.{none, tally_away, tallied}
use Rattle.model.specs.Guards.{Discarded, publish_lost, transit_lost, report_lost, ghost_lost, answer_lost}
use Rattle.model.specs.Effects.Deliver.{empty}
use Rattle.model.specs.Inv.{Inv}
use Rattle.model.specs.Inv.Messages as M
use Rattle.model.specs.Inv.Cells as C
use Rattle.model.proofs.Facts.InFlight.{tallied_ge}
use Rattle.model.proofs.Steps.Written as W
use Rattle.model.proofs.Steps.Emptied as D

module _ (s : State) (k : ℕ) (inv : Inv s) (in-range : k < s.slots) where
  abbrev s' : State
  s' = empty s k

  -- a key that the message does not have
  kept : (t : ℕ) (b : Message → Bool) (n : Message → ℕ) → 0 < t → b (s.slot k) ≡ false → tallied s' t b n ≡ tallied s t b n
  kept t b n z e = omega (arith, D.falls s k in-range t b n z, tally_away t (s.slot k) (b (s.slot k)) (n (s.slot k)) e)

  -- the laws that count exactly are left to show
  emptied : M.PublishSome s' → M.NamedPublish s' → M.NamedTransit s' → M.ReleaseSome s' → M.Ghosts s' → C.Marked s' → C.SentFrom s' → C.Counted s' → C.CountedDenied s' → Inv (empty s k)
  emptied publish_some named_publish named_transit release_some ghosts marked sent_from counted counted_denied = search (
    publish_some,
    named_publish,
    named_transit,
    release_some,
    ghosts,
    counted,
    counted_denied,
    marked,
    sent_from,
    D.lasts s k in-range (search inv),
    D.release_none s k in-range inv.release_none,
  )

  module _ (a : ℕ) (is : (s.slot k).tag ≡ a) where
    other_tag : (t : ℕ) → 0 < t → (t ≡ a → ⊥) → W.Elsewhere s k none in-range t
    other_tag t z n = ((λ q. n (sym q ∙ is)), (λ q. omega arith))

    publish_some : (a ≡ 1 → ⊥) → (a ≡ 2 → ⊥) → M.PublishSome s'
    publish_some p q = W.publish_some s k none in-range (other_tag 1 (omega arith) (λ e. p (sym e))) (other_tag 2 (omega arith) (λ e. q (sym e))) inv.publish_some

    named_publish : (a ≡ 1 → ⊥) → (a ≡ 2 → ⊥) → M.NamedPublish s'
    named_publish p q = W.named_publish s k none in-range (other_tag 1 (omega arith) (λ e. p (sym e))) (other_tag 2 (omega arith) (λ e. q (sym e))) inv.named_publish

    named_transit : (3 ≤ a → a ≤ 5 → ⊥) → M.NamedTransit s'
    named_transit n = W.named_transit s k none in-range (other_tag 3 (omega arith) (λ e. n (omega arith) (omega arith))) (other_tag 4 (omega arith) (λ e. n (omega arith) (omega arith))) (other_tag 5 (omega arith) (λ e. n (omega arith) (omega arith))) inv.named_transit

    release_some : (a ≡ 8 → ⊥) → M.ReleaseSome s'
    release_some n = W.release_some s k none in-range (other_tag 8 (omega arith) (λ e. n (sym e))) inv.release_some

    ghosts : (a ≡ 9 → ⊥) → M.Ghosts s'
    ghosts n = W.ghosts s k none in-range (other_tag 9 (omega arith) (λ e. n (sym e))) inv.ghosts

    marked : (a ≡ 10 → ⊥) → C.Marked s'
    marked n = W.marked s k none in-range (other_tag 10 (omega arith) (λ e. n (sym e))) inv.marked

    sent_from : (a ≡ 4 → ⊥) → (a ≡ 6 → ⊥) → C.SentFrom s'
    sent_from p q = W.sent_from s k none in-range (other_tag 4 (omega arith) (λ e. p (sym e))) (other_tag 6 (omega arith) (λ e. q (sym e))) inv.sent_from

    counted : (a ≡ 7 → ⊥) → C.Counted s'
    counted n = W.counted s k none in-range (other_tag 7 (omega arith) (λ e. n (sym e))) inv.counted

    counted_denied : (a ≡ 7 → ⊥) → (a ≡ 11 → ⊥) → C.CountedDenied s'
    counted_denied n m = W.counted_denied s k none in-range (other_tag 7 (omega arith) (λ e. n (sym e))) (other_tag 11 (omega arith) (λ e. m (sym e))) inv.counted_denied

  -- 1, home dead: its finish is not publishing, and its task does not wait
  no_publish : (s.slot k).tag ≡ 1 → s.dead (s.finishes.home (s.slot k).finish) ≡ true → Inv (empty s k)
  no_publish e d = emptied
      (λ f p. omega (
        arith,
        inv.publish_some f p,
        kept 1 (λ m. eqb m.finish f) (λ m. 1) (omega arith) (ne_eqb (s.slot k).finish f (λ q. both d (ap (λ x. s.dead (s.finishes.home x)) q ∙ (inv.publishing f p).0))),
        W.of_same s k none in-range 2 f (other_tag 1 e 2 (omega arith) (λ q. omega arith)),
      ))
      (λ x p. omega (
        arith,
        inv.named_publish x p,
        kept 1 (λ m. eqb m.task x) (λ m. 1) (omega arith) (ne_eqb (s.slot k).task x (λ q. omega (arith, lost-task, ap s.tasks.status q))),
        W.naming_same s k none in-range 2 x (other_tag 1 e 2 (omega arith) (λ q. omega arith)),
      ))
      (named_transit 1 e (λ h _. omega arith)) (release_some 1 e (λ q. omega arith)) (ghosts 1 e (λ q. omega arith)) (marked 1 e (λ q. omega arith))
      (sent_from 1 e (λ q. omega arith) (λ q. omega arith)) (counted 1 e (λ q. omega arith)) (counted_denied 1 e (λ q. omega arith) (λ q. omega arith))
    where
      lost-task : s.tasks.status (s.slot k).task ≡ 8
      lost-task =
          let r = inv.publishes k in-range e in
          let n = inv.names_task k in-range (omega arith) (omega arith) in
          inv.first_lost (s.slot k).task n.2 (rw n.3 r.1) (rw n.3 (r.3 d))

  -- 3 from a dead place: its task is lost
  no_transit : (s.slot k).tag ≡ 3 → s.dead (s.slot k).from ≡ true → Inv (empty s k)
  no_transit e d = emptied
      (publish_some 3 e (λ q. omega arith) (λ q. omega arith)) (named_publish 3 e (λ q. omega arith) (λ q. omega arith))
      (λ x p. omega (
        arith,
        inv.named_transit x p,
        kept 3 (λ m. eqb m.task x) (λ m. 1) (omega arith) (ne_eqb (s.slot k).task x (λ q. omega (arith, (inv.lost_transits k in-range (omega arith) (omega arith) d).1, ap s.tasks.status q))),
        W.naming_same s k none in-range 4 x (other_tag 3 e 4 (omega arith) (λ q. omega arith)),
        W.naming_same s k none in-range 5 x (other_tag 3 e 5 (omega arith) (λ q. omega arith)),
      ))
      (release_some 3 e (λ q. omega arith)) (ghosts 3 e (λ q. omega arith)) (marked 3 e (λ q. omega arith))
      (sent_from 3 e (λ q. omega arith) (λ q. omega arith)) (counted 3 e (λ q. omega arith)) (counted_denied 3 e (λ q. omega arith) (λ q. omega arith))

  -- 7 from a dead place: cells of live receivers do not count it
  no_report : (s.slot k).tag ≡ 7 → s.dead (s.slot k).from ≡ true → Inv (empty s k)
  no_report e d = emptied
      (publish_some 7 e (λ q. omega arith) (λ q. omega arith)) (named_publish 7 e (λ q. omega arith) (λ q. omega arith)) (named_transit 7 e (λ _ h. omega arith))
      (release_some 7 e (λ q. omega arith)) (ghosts 7 e (λ q. omega arith)) (marked 7 e (λ q. omega arith)) (sent_from 7 e (λ q. omega arith) (λ q. omega arith))
      (λ f i j p a n. omega (arith, inv.counted f i j p a n, same f i j a))
      (λ f i j p a n. omega (arith, inv.counted_denied f i j p a n, same f i j a, W.answered_same s k none in-range f i j (other_tag 7 e 11 (omega arith) (λ q. omega arith))))
    where
      same : (f i j : ℕ) → s.dead j ≡ false → tallied s' 7 (λ m. is₂ m.finish m.from f j) (λ m. m.counts i) ≡ tallied s 7 (λ m. is₂ m.finish m.from f j) (λ m. m.counts i)
      same f i j a = kept 7 (λ m. is₂ m.finish m.from f j) (λ m. m.counts i) (omega arith) (is₂_false (s.slot k).finish (s.slot k).from f j (λ _ q. both d (ap s.dead q ∙ a)))

  -- 9 always finds its book
  no_ghost_lost : (s.slot k).tag ≡ 9 → s.books.present (s.slot k).finish ≡ 0 → ⊥
  no_ghost_lost e z =
      let m = s.slot k in
      let q = m.finish in
      let g = m.number in
      bool_cases (s.books.ghosts q g)
      (λ t. omega (arith, (inv.ghost_made q g t).2))
      (λ n. omega (
        arith,
        inv.ghosts q g,
        on_false (s.books.ghosts q g) 1 n,
        tallied_ge s k 9 (λ m. is₂ m.finish m.number q g) (λ m. 1) in-range e (is₂_same q g),
      ))

  -- 11 to a dead place, or with no book: no cell counts it
  no_answer_lost : (s.slot k).tag ≡ 11 → (s.dead (s.slot k).to ≡ true) ⊎ (s.books.present (s.slot k).finish ≡ 0) → Inv (empty s k)
  no_answer_lost e why = emptied
      (publish_some 11 e (λ q. omega arith) (λ q. omega arith)) (named_publish 11 e (λ q. omega arith) (λ q. omega arith)) (named_transit 11 e (λ _ h. omega arith))
      (release_some 11 e (λ q. omega arith)) (ghosts 11 e (λ q. omega arith)) (marked 11 e (λ q. omega arith)) (sent_from 11 e (λ q. omega arith) (λ q. omega arith))
      (counted 11 e (λ q. omega arith))
      (λ f i j p a n. omega (
        arith,
        inv.counted_denied f i j p a n,
        kept 11 (λ m. is₃ m.finish m.from m.to f i j) (λ m. m.number) (omega arith) (is₃_false (s.slot k).finish (s.slot k).from (s.slot k).to f i j (λ x _ y. clash why p a x y)),
        W.reports_same s k none in-range f i j (other_tag 11 e 7 (omega arith) (λ q. omega arith)),
      ))
    where
      clash : {f j : ℕ} → (s.dead (s.slot k).to ≡ true) ⊎ (s.books.present (s.slot k).finish ≡ 0) → s.books.present f ≡ 1 → s.dead j ≡ false → (s.slot k).finish ≡ f → (s.slot k).to ≡ j → ⊥
      clash (inl d) p a x y = both d (ap s.dead y ∙ a)
      clash (inr z) p a x y = omega (arith, ap s.books.present x)

  pub discards_keeps : Discarded s k → Inv (empty s k)
  discards_keeps (publish_lost e d) = no_publish e d
  discards_keeps (transit_lost e (inl d)) = no_transit e d
  discards_keeps (transit_lost e (inr z)) = bool_cases (s.dead (s.slot k).from) (no_transit e) (λ a. absurd (omega (arith, (inv.transits k in-range (omega arith) (omega arith) a).1)))
  discards_keeps (report_lost e (inl d)) = no_report e d
  discards_keeps (report_lost e (inr z)) = bool_cases (s.dead (s.slot k).from) (no_report e) (λ a. absurd (omega (arith, inv.report_book k in-range e a)))
  discards_keeps (ghost_lost e z) = absurd (no_ghost_lost e z)
  discards_keeps (answer_lost e why) = no_answer_lost e why

  -- 6 of a denied sender: the sender is dead, and cells of live senders do not count it
  pub refuses_task_keeps : (s.slot k).tag ≡ 6 → s.locals.denied (s.slot k).finish (s.slot k).to (s.slot k).from ≡ true → Inv (empty s k)
  refuses_task_keeps e d = emptied
      (publish_some 6 e (λ q. omega arith) (λ q. omega arith)) (named_publish 6 e (λ q. omega arith) (λ q. omega arith)) (named_transit 6 e (λ _ h. omega arith))
      (release_some 6 e (λ q. omega arith)) (ghosts 6 e (λ q. omega arith)) (marked 6 e (λ q. omega arith))
      (λ f i j p a b. omega (
        arith,
        inv.sent_from f i j p a b,
        kept 6 (λ m. is₃ m.finish m.from m.to f i j) (λ m. 1) (omega arith) (is₃_false (s.slot k).finish (s.slot k).from (s.slot k).to f i j (λ _ q _. both (inv.denied_dead (s.slot k).finish (s.slot k).to (s.slot k).from d) (ap s.dead q ∙ b))),
        W.between_same s k none in-range 4 f i j (other_tag 6 e 4 (omega arith) (λ q. omega arith)),
      ))
      (counted 6 e (λ q. omega arith)) (counted_denied 6 e (λ q. omega arith) (λ q. omega arith))
