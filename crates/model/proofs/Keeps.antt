-- Every move keeps the invariant.
use Rattle.std.specs.Prelude.{ℕ}
use Rattle.model.specs.State.{State}
use Rattle.model.specs.Step.{Spawn, spawns_first, spawns_later, End, ends_unpublished, ends_published, ends_other, ends_last, Kill, kills, Settle, adopts, cancels, asks, discards, delivers_publish, delivers_published, delivers_transit, refuses_transit, delivers_granted, loses_granted, delivers_denied, delivers_task, refuses_task, delivers_report, delivers_release, delivers_ghost_ended, delivers_count_dropped, delivers_dropped, Move, spawns, opens, ends, loses, settles}
use Rattle.model.specs.Inv.{Inv}
use Rattle.model.proofs.Steps.SpawnFirst.{spawns_first_keeps}
use Rattle.model.proofs.Steps.SpawnLater.{spawns_later_keeps}
use Rattle.model.proofs.Steps.Open.{opens_keeps}
use Rattle.model.proofs.Steps.EndUnpublished.{ends_unpublished_keeps}
use Rattle.model.proofs.Steps.EndPublished.{ends_published_keeps}
use Rattle.model.proofs.Steps.EndOther.{ends_other_keeps}
use Rattle.model.proofs.Steps.EndLast.{ends_last_keeps}
use Rattle.model.proofs.Steps.Kill.{kills_keeps}
use Rattle.model.proofs.Steps.Adopt.{adopts_keeps}
use Rattle.model.proofs.Steps.Cancel.{cancels_keeps}
use Rattle.model.proofs.Steps.Ask.{asks_keeps}
use Rattle.model.proofs.Steps.Discard.{discards_keeps, refuses_task_keeps}
use Rattle.model.proofs.Steps.Publish.{delivers_publish_keeps}
use Rattle.model.proofs.Steps.Published.{delivers_published_keeps}
use Rattle.model.proofs.Steps.Transit.{delivers_transit_keeps, refuses_transit_keeps}
use Rattle.model.proofs.Steps.Granted.{delivers_granted_keeps, loses_granted_keeps}
use Rattle.model.proofs.Steps.Denied.{delivers_denied_keeps}
use Rattle.model.proofs.Steps.Task.{delivers_task_keeps}
use Rattle.model.proofs.Steps.Report.{delivers_report_keeps}
use Rattle.model.proofs.Steps.Release.{delivers_release_keeps}
use Rattle.model.proofs.Steps.GhostEnded.{delivers_ghost_ended_keeps}
use Rattle.model.proofs.Steps.CountDropped.{delivers_count_dropped_keeps}
use Rattle.model.proofs.Steps.Dropped.{delivers_dropped_keeps}

spawn_keeps : {s : State} {t p : ℕ} {s' : State} → Inv s → Spawn s t p s' → Inv s'
spawn_keeps {s} {t = t} {p = p} inv (spawns_first k r b c d e g h) = spawns_first_keeps s t p k inv r b c d e g h
spawn_keeps {s} {t = t} {p = p} inv (spawns_later k r b c d e) = spawns_later_keeps s t p k inv r b c d e

end_keeps : {s : State} {t : ℕ} {s' : State} → Inv s → End s t s' → Inv s'
end_keeps {s} {t = t} inv (ends_unpublished r b c d e) = ends_unpublished_keeps s t inv r b c d e
end_keeps {s} {t = t} inv (ends_published k r b c d e) = ends_published_keeps s t k inv r b c d e
end_keeps {s} {t = t} inv (ends_other r b c) = ends_other_keeps s t inv r b c
end_keeps {s} {t = t} inv (ends_last k r b c d e) = ends_last_keeps s t k inv r b c d

settle_keeps : {s s' : State} → Inv s → Settle s s' → Inv s'
settle_keeps {s} inv (adopts f a b) = adopts_keeps s f inv a
settle_keeps {s} inv (cancels f v k i a b c d e g) = cancels_keeps s f v inv c d a.present g
settle_keeps {s} inv (asks f v j k a b c d e g h i l) = asks_keeps s f v j k inv a b c d e g h l
settle_keeps {s} inv (discards k a b) = discards_keeps s k inv a b
settle_keeps {s} inv (delivers_publish k q a b c d e) = delivers_publish_keeps s k q inv a b c d e
settle_keeps {s} inv (delivers_published k a b c d) = delivers_published_keeps s k inv a b c d
settle_keeps {s} inv (delivers_transit k a b c d e) = delivers_transit_keeps s k inv a b c d e
settle_keeps {s} inv (refuses_transit k a b c d e) = refuses_transit_keeps s k inv a b c d e
settle_keeps {s} inv (delivers_granted k a b c d e) = delivers_granted_keeps s k inv a b c d e
settle_keeps {s} inv (loses_granted k a b c d e) = loses_granted_keeps s k inv a b c d e
settle_keeps {s} inv (delivers_denied k a b c d) = delivers_denied_keeps s k inv a b c d
settle_keeps {s} inv (delivers_task k a b c d) = delivers_task_keeps s k inv a b c d
settle_keeps {s} inv (refuses_task k a b c) = refuses_task_keeps s k inv a.range a.tag c
settle_keeps {s} inv (delivers_report k a b c d e g) = delivers_report_keeps s k inv a d e c g
settle_keeps {s} inv (delivers_release k a b c d) = delivers_release_keeps s k inv a c d
settle_keeps {s} inv (delivers_ghost_ended k a b c d) = delivers_ghost_ended_keeps s k inv a b d
settle_keeps {s} inv (delivers_count_dropped k a b c) = delivers_count_dropped_keeps s k inv a
settle_keeps {s} inv (delivers_dropped k a b c d e) = delivers_dropped_keeps s k inv a b d c e

kill_keeps : {s : State} {p : ℕ} {s' : State} → Inv s → Kill s p s' → Inv s'
kill_keeps {s} {p = p} inv (kills a b c) = kills_keeps s p inv a b c

pub move_keeps : {s s' : State} → Inv s → Move s s' → Inv s'
move_keeps inv (spawns t p m) = spawn_keeps inv m
move_keeps {s} inv (opens t r) = opens_keeps s t inv r
move_keeps inv (ends t m) = end_keeps inv m
move_keeps inv (loses p m) = kill_keeps inv m
move_keeps inv (settles m) = settle_keeps inv m
