-- Release, "then or later": a released finish stays released under every move.
use Rattle.std.specs.Prelude.{◌≡◌, refl, Bool, true, false, cond, ◌&&◌, ℕ, suc, eqb}
use Rattle.std.proofs.Common.{ap, ◌∙◌, arith}
use Rattle.model.specs.Base.{upd, upd_other}
use Rattle.model.specs.State.{State, Finishes}
use Rattle.model.specs.Effects.Kill.{loses_finish}
use Rattle.model.specs.Effects.Closing.{Closing, stays, ends_ghost, releases, vanishes}
use Rattle.model.specs.Step.{Spawn, spawns_first, spawns_later, End, ends_unpublished, ends_published, ends_other, ends_last, Kill, kills, Settle, adopts, cancels, asks, discards, delivers_publish, delivers_published, delivers_transit, refuses_transit, delivers_granted, loses_granted, delivers_denied, delivers_task, refuses_task, delivers_report, delivers_release, delivers_ghost_ended, delivers_count_dropped, delivers_dropped, Move, spawns, opens, ends, loses, settles}
use Rattle.model.specs.Inv.{Inv}

-- the closing test leaves the finishes
closing_finishes : {s : State} {f k : ℕ} {s' : State} → Closing s f k s' → s'.finishes ≡ s.finishes
closing_finishes (stays c) = refl
closing_finishes (ends_ghost c a l e) = refl
closing_finishes (releases c a h l e) = refl
closing_finishes (vanishes c a h) = refl

closed : {s : State} {x k : ℕ} {s' : State} (f : ℕ) → Closing s x k s' → s.finishes.status f ≡ 4 → s'.finishes.status f ≡ 4
closed f c r = ap (λ (F : Finishes). F.status f) (closing_finishes c) ∙ r

-- a write to a finish that is not released
elsewhere : (status : ℕ → ℕ) (x v f : ℕ) → (status x ≡ 4 → ⊥) → status f ≡ 4 → upd status x v f ≡ 4
elsewhere status x v f n r = rw (upd_other status x v f (λ q. n (rw q at r))) r

-- a kill leaves what is released
spared : (p home v : ℕ) → v ≡ 4 → cond (loses_finish p home v) 5 v ≡ 4
unfolding loses_finish
spared p home v e = rw e (go (eqb home p))
  where
    go : (b : Bool) → ◌≡◌ {A = ℕ} (cond (b && false) 5 4) 4
    go true = refl
    go false = refl

spawn_stays : {s : State} {t p : ℕ} {s' : State} (f : ℕ) → Inv s → Spawn s t p s' → s.finishes.status f ≡ 4 → s'.finishes.status f ≡ 4
spawn_stays {s} {t = t} f inv (spawns_first k a b c d e g st) r = elsewhere s.finishes.status (s.tasks.finish t) 2 f (λ q. omega arith) r
spawn_stays f inv (spawns_later k a b c d e) r = r

end_stays : {s : State} {t : ℕ} {s' : State} (f : ℕ) → Inv s → End s t s' → s.finishes.status f ≡ 4 → s'.finishes.status f ≡ 4
end_stays {s} {t = t} f inv (ends_unpublished a b c st e) r = elsewhere s.finishes.status (s.tasks.finish t) 4 f (λ q. omega arith) r
end_stays {s} {t = t} f inv (ends_published k a b c st e) r = elsewhere s.finishes.status (s.tasks.finish t) 3 f (λ q. omega arith) r
end_stays f inv (ends_other a b c) r = r
end_stays f inv (ends_last k a b c d e) r = r

settle_stays : {s s' : State} (f : ℕ) → Inv s → Settle s s' → s.finishes.status f ≡ 4 → s'.finishes.status f ≡ 4
settle_stays f inv (adopts x a b) r = r
settle_stays f inv (cancels x v k i a b c d e g) r = closed f g r
settle_stays f inv (asks x v j k a b c d e g h i l) r = r
settle_stays f inv (discards k a b) r = r
settle_stays f inv (delivers_publish k q a b c d e) r = r
settle_stays {s} f inv (delivers_published k a b st c) r = elsewhere s.finishes.status (s.slot k).finish 1 f (λ q. omega arith) r
settle_stays f inv (delivers_transit k a b c d e) r = r
settle_stays f inv (refuses_transit k a b c d e) r = r
settle_stays f inv (delivers_granted k a b c d e) r = r
settle_stays f inv (loses_granted k a b c d e) r = r
settle_stays f inv (delivers_denied k a b c d) r = r
settle_stays f inv (delivers_task k a b c d) r = r
settle_stays f inv (refuses_task k a b c) r = r
settle_stays f inv (delivers_report k a b c d e g) r = closed f g r
settle_stays {s} f inv (delivers_release k a b st c) r = elsewhere s.finishes.status (s.slot k).finish 4 f (λ q. omega arith) r
settle_stays f inv (delivers_ghost_ended k a b c d) r = closed f d r
settle_stays f inv (delivers_count_dropped k a b c) r = r
settle_stays f inv (delivers_dropped k a b c d e) r = closed f e r

kill_stays : {s : State} {p : ℕ} {s' : State} (f : ℕ) → Inv s → Kill s p s' → s.finishes.status f ≡ 4 → s'.finishes.status f ≡ 4
kill_stays {s} {p = p} f inv (kills a b c) r = spared p (s.finishes.home f) (s.finishes.status f) r

pub released_stays : {s s' : State} (f : ℕ) → Inv s → Move s s' → s.finishes.status f ≡ 4 → s'.finishes.status f ≡ 4
released_stays f inv (spawns t p m) r = spawn_stays f inv m r
released_stays {s} f inv (opens t a) r = elsewhere s.finishes.status (suc s.finishes.made) 1 f (λ q. omega (arith, inv.finish_made (suc s.finishes.made) (omega arith))) r
released_stays f inv (ends t m) r = end_stays f inv m r
released_stays f inv (loses p m) r = kill_stays f inv m r
released_stays f inv (settles m) r = settle_stays f inv m r
