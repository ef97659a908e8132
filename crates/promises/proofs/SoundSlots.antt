-- The slots of good tables are sound, by tag.
use mathlib.Core.Path.{◌≡◌, refl}
use mathlib.Core.Bool.{Bool, true}
use mathlib.Core.List.{List, [], ◌∷◌}
use Prim.Native.Nat.{ℕ, ◌+◌, ◌*◌, ◌≤◌, ◌<◌}
use native.Mathlib.Omega.{arith}
use lib.Dec.{ltb, leb}
use lib.ListN.{drop}
use lib.Seq.{drop-drop}
use borrow.Author.Tests.{lt-ltb, le-leb}
use Rattle.tables.specs.Walks.{every}
use Rattle.tables.proofs.Walks.{Each, each_every}
use Rattle.rules.specs.Fields
use Rattle.rules.specs.Messages.{publish, transit, dropped, tagged, from_slot, message_at}
use Rattle.rules.specs.Sound.{message_fits, slot_sound}
use Rattle.model.specs.Base.Updates.{on-cases, is₂, is₂_same}
use Rattle.model.specs.State.{Message}
use Rattle.model.specs.Inv.{Inv}
use Rattle.model.proofs.Facts.InFlight.{tallied_ge}
use Rattle.promises.specs.View.{view}
use Rattle.promises.proofs.Rows.{read_places, read_tasks_made, read_finishes_made}
use Rattle.promises.proofs.Slots.{counts_at, read_message, read_tag}
use Rattle.promises.proofs.Good.{Good, as_seen}
use Rattle.promises.proofs.Tags.{by_tag}
use Rattle.promises.proofs.Named.{in_flight}

module _ (t : List ℕ) (good : Good t) (k : ℕ) (k128 : k < 128) where
  abbrev m : Message
  m = (view t).slot k

  abbrev ps : ℕ
  ps = (view t).places

  abbrev ts : ℕ
  ts = (view t).tasks.made

  abbrev fs : ℕ
  fs = (view t).finishes.made

  inv : Inv (view t)
  inv = good.inv

  range : k < (view t).slots
  range = in_flight good k k128

  -- a ghost that ended was one of the ghosts of its parent, and these are made
  ghost_named : m.tag ≡ 9 → (0 < m.number) × (m.number ≤ fs)
  ghost_named e = on-cases ((view t).books.ghosts m.finish m.number) 1
      (omega (arith, inv.ghosts m.finish m.number, tallied_ge (view t) k 9 (λ x. is₂ x.finish x.number m.finish m.number) (λ x. 1) range e (is₂_same m.finish m.number)))
      (λ g _. omega (arith, inv.ghost_made m.finish m.number g))

  -- each names a made finish; l are the other tests of its tag
  named : 1 ≤ m.tag → (l : List Bool) → Each l → every (leb 1 m.finish ∷ leb m.finish fs ∷ l) ≡ true
  named h l rest = let r = inv.names_finish k range h in
      each_every (leb 1 m.finish ∷ leb m.finish fs ∷ l) (le-leb 1 m.finish r.0, (le-leb m.finish fs r.1, rest))

  message-fits : (counts : List ℕ)
      → message_fits ps ts fs (tagged m.tag m.finish m.task m.from m.to m.number counts) ≡ true
  unfolding message_fits tagged
  message-fits counts = by_tag m.tag (inv.tags k range)
      (λ e. rw e refl)
      (λ e. rw e (waits (omega arith) (omega arith)))
      (λ e. rw e (waits (omega arith) (omega arith)))
      (λ e. rw e (moves (omega arith) (omega arith)))
      (λ e. rw e (moves (omega arith) (omega arith)))
      (λ e. rw e (moves (omega arith) (omega arith)))
      (λ e. rw e (moves (omega arith) (omega arith)))
      (λ e. rw e (named (omega arith) (ltb m.from ps ∷ []) (lt-ltb m.from ps (inv.names_places k range (omega arith)).0, tt)))
      (λ e. rw e (named (omega arith) [] tt))
      (λ e. let r = ghost_named e in rw e (named (omega arith) (leb 1 m.number ∷ leb m.number fs ∷ []) (le-leb 1 m.number r.0, (le-leb m.number fs r.1, tt))))
      (λ e. rw e (asks (omega arith)))
      (λ e. rw e (asks (omega arith)))
    where
      waits : 1 ≤ m.tag → m.tag ≤ 2 → message_fits ps ts fs (publish m.finish m.task) ≡ true
      waits l h = let n = inv.names_task k range l (omega arith) in
          named l (leb 1 m.task ∷ leb m.task ts ∷ []) (le-leb 1 m.task n.0, (le-leb m.task ts n.1, tt))

      moves : 3 ≤ m.tag → m.tag ≤ 6 → message_fits ps ts fs (transit m.finish m.task m.from m.to) ≡ true
      moves l h =
          let n = inv.names_task k range (omega arith) h in
          let p = inv.names_pair k range l h in
          let r = inv.task_ranges m.task n.0 n.1 in
          named (omega arith) (leb 1 m.task ∷ leb m.task ts ∷ ltb m.from ps ∷ ltb m.to ps ∷ [])
          (le-leb 1 m.task n.0, (le-leb m.task ts n.1, (lt-ltb m.from ps (omega arith), (lt-ltb m.to ps (omega arith), tt))))

      asks : 10 ≤ m.tag → message_fits ps ts fs (dropped m.finish m.task m.from m.to m.number) ≡ true
      asks l = let p = inv.names_places k range (omega arith) in
          named (omega arith) (ltb m.from ps ∷ ltb m.to ps ∷ []) (lt-ltb m.from ps p.0, (lt-ltb m.to ps p.1, tt))

  pub slot_sound_lem : slot_sound (Fields.places t) (Fields.tasks_made t) (Fields.finishes_made t) (drop (13056 + 16 * k) t) k ≡ true
  unfolding slot_sound message_at from_slot
  slot_sound_lem =
      let s = as_seen good in
      let x = tagged m.tag m.finish m.task m.from m.to m.number (counts_at t k) in
      rw (← drop-drop (16 * k) 13056 t, read_tag s k k128, read_message s k k128, read_places s, read_tasks_made s, read_finishes_made s)
      (each_every (leb m.tag 11 ∷ message_fits ps ts fs x ∷ []) (le-leb m.tag 11 (inv.tags k range), (message-fits (counts_at t k), tt)))
