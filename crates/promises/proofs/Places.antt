-- Every move leaves the number of places.
use mathlib.Core.Path.{◌≡◌, refl}
use Prim.Native.Nat.{ℕ}
use Rattle.model.specs.State.{State}
use Rattle.model.specs.Effects.Closing.{Closing, stays, ends_ghost, releases, vanishes}
use Rattle.model.specs.Step.{Spawn, spawns_first, spawns_later, End, ends_unpublished, ends_published, ends_other, ends_last, Kill, kills, Settle, adopts, cancels, asks, discards, delivers_publish, delivers_published, delivers_transit, refuses_transit, delivers_granted, loses_granted, delivers_denied, delivers_task, refuses_task, delivers_report, delivers_release, delivers_ghost_ended, delivers_count_dropped, delivers_dropped, Move, spawns, opens, ends, loses, settles}

closing_places : {s : State} {f k : ℕ} {s' : State} → Closing s f k s' → s'.places ≡ s.places
closing_places (stays c) = refl
closing_places (ends_ghost c a b d) = refl
closing_places (releases c a b d e) = refl
closing_places (vanishes c a b) = refl

spawn_places : {s : State} {t p : ℕ} {s' : State} → Spawn s t p s' → s'.places ≡ s.places
spawn_places (spawns_first k r b c d e g h) = refl
spawn_places (spawns_later k r b c d e) = refl

end_places : {s : State} {t : ℕ} {s' : State} → End s t s' → s'.places ≡ s.places
end_places (ends_unpublished r b c d e) = refl
end_places (ends_published k r b c d e) = refl
end_places (ends_other r b c) = refl
end_places (ends_last k r b c d e) = refl

settle_places : {s s' : State} → Settle s s' → s'.places ≡ s.places
settle_places (adopts f a b) = refl
settle_places (cancels f v k i a b c d e g) = closing_places g
settle_places (asks f v j k a b c d e g h i l) = refl
settle_places (discards k a b) = refl
settle_places (delivers_publish k q a b c d e) = refl
settle_places (delivers_published k a b c d) = refl
settle_places (delivers_transit k a b c d e) = refl
settle_places (refuses_transit k a b c d e) = refl
settle_places (delivers_granted k a b c d e) = refl
settle_places (loses_granted k a b c d e) = refl
settle_places (delivers_denied k a b c d) = refl
settle_places (delivers_task k a b c d) = refl
settle_places (refuses_task k a b c) = refl
settle_places (delivers_report k a b c d e g) = closing_places g
settle_places (delivers_release k a b c d) = refl
settle_places (delivers_ghost_ended k a b c d) = closing_places d
settle_places (delivers_count_dropped k a b c) = refl
settle_places (delivers_dropped k a b c d e) = closing_places e

kill_places : {s : State} {p : ℕ} {s' : State} → Kill s p s' → s'.places ≡ s.places
kill_places (kills a b c) = refl

pub move_places : {s s' : State} → Move s s' → s'.places ≡ s.places
move_places (spawns t p m) = spawn_places m
move_places (opens t r) = refl
move_places (ends t m) = end_places m
move_places (loses p m) = kill_places m
move_places (settles m) = settle_places m
