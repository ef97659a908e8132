-- Every deliver, adopt, cancel and ask lowers the work: they come to an end.
pub mod Parts
pub mod Books
pub mod Closing
pub mod Repair
pub mod Deliver
pub mod Kept
use Rattle.std.specs.Prelude.{◌≡◌, true, false, ℕ, ◌≤◌, ◌<◌}
use Rattle.std.proofs.Common.{sym, ap, ◌∙◌, arith}
use Rattle.model.specs.Base.{on_false, is₃, is₃_false, both}
use Rattle.model.specs.State.{State}
use Rattle.model.specs.Messages.{none}
use Rattle.model.specs.Guards.{Full, Discarded, publish_lost, transit_lost, report_lost, ghost_lost, answer_lost}
use Rattle.model.specs.Effects.Deliver.{empty, deliver_transit, deliver_report, deliver_ghost_ended, deliver_dropped}
use Rattle.model.specs.Step.{Settle, adopts, cancels, asks, discards, delivers_publish, delivers_published, delivers_transit, refuses_transit, delivers_granted, loses_granted, delivers_denied, delivers_task, refuses_task, delivers_report, delivers_release, delivers_ghost_ended, delivers_count_dropped, delivers_dropped}
use Rattle.model.specs.Inv.{Inv}
use Rattle.model.proofs.Steps.Cancel.{cleared}
use Rattle.model.proofs.Steps.Report as R
use Rattle.model.proofs.Steps.GhostEnded as G
use Rattle.model.proofs.Steps.Dropped as D
use Rattle.model.specs.Work.{way, work}
use Rattle.model.proofs.Falls.Books.{message_falls, unread_work}
use Rattle.model.proofs.Falls.Closing.{closing_work}
use Rattle.model.proofs.Falls.Repair.{adopt_falls, cancel_falls, ask_falls}
use Rattle.model.proofs.Falls.Deliver.{publish-work, published-work, release-work, live-work}

-- a message that the store discards
discard_falls : (s : State) (k : ℕ) → k < s.slots → Discarded s k → work (empty s k) < work s
unfolding way
discard_falls s k l (publish_lost e _) = message_falls s s k none (omega arith) l e (omega arith)
discard_falls s k l (transit_lost e _) = message_falls s s k none (omega arith) l e (omega arith)
discard_falls s k l (report_lost e _) = message_falls s s k none (omega arith) l e (omega arith)
discard_falls s k l (ghost_lost e _) = message_falls s s k none (omega arith) l e (omega arith)
discard_falls s k l (answer_lost e _) = message_falls s s k none (omega arith) l e (omega arith)

-- a live receiver's cell raised
raised : (s : State) (k : ℕ) → s.dead (s.slot k).to ≡ false → (f i v : ℕ) → s.dead v ≡ true → (deliver_transit s k).books.live f i v ≤ s.books.live f i v
raised s k lives f i v d = omega (arith, on_false (is₃ (s.slot k).finish (s.slot k).from (s.slot k).to f i v) 1 (is₃_false (s.slot k).finish (s.slot k).from (s.slot k).to f i v (λ _ _ e. both d (ap s.dead (sym e) ∙ lives))))

-- what comes before a closing test
report_falls : (s : State) (k : ℕ) → Full s k 7 → work (deliver_report s k) < work s
unfolding way
report_falls s k full = message_falls s _ k _ (live-work s _ _ (λ f i v _. omega arith)) full.range full.tag (omega arith)

ghost_ended_falls : (s : State) (k : ℕ) → Full s k 9 → work (deliver_ghost_ended s k) < work s
unfolding way
ghost_ended_falls s k full = message_falls s _ k _ (unread_work s _ _ _) full.range full.tag (omega arith)

dropped_falls : (s : State) (k : ℕ) → Full s k 11 → work (deliver_dropped s k) < work s
unfolding way
dropped_falls s k full = message_falls s _ k _ (live-work s _ _ (λ f i v _. omega arith)) full.range full.tag (omega arith)

pub settle_falls : {s s' : State} → Inv s → Settle s s' → work s' < work s
unfolding way
settle_falls {s} inv (adopts f a b) = omega (arith, adopt_falls s f a b)
settle_falls {s} inv (cancels f v k i a b c d e g) = omega (arith, cancel_falls s f v i inv a b c d e, closing_work (cleared s f v inv c d) a.present g)
settle_falls {s} inv (asks f v j k a b c d e g h i l) = ask_falls s f v j k a b c d e h l
settle_falls {s} inv (discards k a b) = discard_falls s k a b
settle_falls {s} inv (delivers_publish k q a b c d e) = message_falls s _ k _ (publish-work s (s.slot k).finish q inv c d) a.range a.tag (omega arith)
settle_falls {s} inv (delivers_published k a b c d) = message_falls s _ k _ (published-work s _ (s.slot k).finish (inv.published k a.range a.tag).0) a.range a.tag (omega arith)
settle_falls {s} inv (delivers_transit k a b c d e) = message_falls s _ k _ (live-work s _ _ (raised s k e)) a.range a.tag (omega arith)
settle_falls {s} inv (refuses_transit k a b c d e) = message_falls s s k _ (omega arith) a.range a.tag (omega arith)
settle_falls {s} inv (delivers_granted k a b c d e) = message_falls s _ k _ (unread_work s _ _ _) a.range a.tag (omega arith)
settle_falls {s} inv (loses_granted k a b c d e) = message_falls s _ k _ (unread_work s _ _ _) a.range a.tag (omega arith)
settle_falls {s} inv (delivers_denied k a b c d) = message_falls s _ k _ (unread_work s _ _ _) a.range a.tag (omega arith)
settle_falls {s} inv (delivers_task k a b c d) = message_falls s _ k _ (unread_work s _ _ _) a.range a.tag (omega arith)
settle_falls {s} inv (refuses_task k a b c) = message_falls s s k _ (omega arith) a.range a.tag (omega arith)
settle_falls {s} inv (delivers_report k a b c d e g) = omega (arith, report_falls s k a, closing_work (R.lowered s k inv a d e) c g)
settle_falls {s} inv (delivers_release k a b c d) = message_falls s _ k _ (release-work s _ (s.slot k).finish (inv.present_mark (s.slot k).finish)) a.range a.tag (omega arith)
settle_falls {s} inv (delivers_ghost_ended k a b c d) = omega (arith, ghost_ended_falls s k a, closing_work (G.removed s k inv a) b d)
settle_falls {s} inv (delivers_count_dropped k a b c) = message_falls s _ k _ (unread_work s _ _ _) a.range a.tag (omega arith)
settle_falls {s} inv (delivers_dropped k a b c d e) = omega (arith, dropped_falls s k a, closing_work (D.lowered s k inv a b d) c e)
