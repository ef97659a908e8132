-- The message of slot k taken out and, at most, a reply put there that names the same finish and task: what every such deliver keeps.
use Rattle.std.specs.Prelude.{◌≡◌, refl, ℕ, ◌+◌, ◌≤◌, ◌<◌, eqb}
use Rattle.std.proofs.Common.{sym, ◌∙◌, arith}
use Rattle.model.specs.Base.{upd, on, sum-upd, eq_cases}
use Rattle.model.specs.State.{State, Message, with_slot}
use Rattle.model.specs.Messages.{naming}
use Rattle.model.specs.Inv.{Inv}
use Rattle.model.specs.Inv.Messages as M
use Rattle.model.specs.Inv.Cells as C
use Rattle.model.specs.Inv.Locals as L
use Rattle.model.proofs.Facts.Alone.{names, names_is, names-none, all_names}
use Rattle.model.proofs.Steps.Written as W

-- what is shown
pub record Replied (s : State) : Type 0 where
  pub tags : M.Tags s
  pub names_finish : M.NamesFinish s
  pub names_task : M.NamesTask s
  pub names_places : M.NamesPlaces s
  pub report_counts : M.ReportCounts s
  pub report_book : M.ReportBook s
  pub ghost_ends : M.GhostEnds s
  pub asks : M.Asks s
  pub named_once : M.NamedOnce s
  pub release_some : M.ReleaseSome s
  pub release_none : M.ReleaseNone s
  pub ghosts : M.Ghosts s
  pub counted : C.Counted s
  pub counted_denied : C.CountedDenied s
  pub no_answer : C.NoAnswer s
  pub marked : C.Marked s
  pub reports_most : L.ReportsMost s

-- the reply copies finish and task; or there is none, and the slot is empty
abbrev pub Copies : State → ℕ → Message → Type 0
Copies s k m = 1 ≤ m.tag → (m.tag ≤ 6) × (1 ≤ (s.slot k).tag) × ((s.slot k).tag ≤ 6) × (m.finish ≡ (s.slot k).finish) × (m.task ≡ (s.slot k).task)

module _ (s : State) (k : ℕ) (m : Message) (inv : Inv s) (in-range : k < s.slots) (copies : Copies s k m) (old_low : (s.slot k).tag ≤ 6) where
  abbrev s' : State
  s' = with_slot (upd s.slot k m) s

  short : m.tag ≤ 6
  short = eq_cases m.tag 0 (λ e. omega arith) (λ n. (copies (omega arith)).0)

  tags : M.Tags s'
  tags = W.each s k m in-range (M.TagsOf s) inv.tags (omega (arith, short))

  names_finish : M.NamesFinish s'
  names_finish = W.each s k m in-range (M.NamesFinishOf s) inv.names_finish (λ l. let c = copies l in rw c.3 (inv.names_finish k in-range c.1))

  names_task : M.NamesTask s'
  names_task = W.each s k m in-range (M.NamesTaskOf s) inv.names_task (λ l _. let c = copies l in rw (c.3, c.4) (inv.names_task k in-range c.1 c.2))

  names_places : M.NamesPlaces s'
  names_places = W.each s k m in-range (M.NamesPlacesOf s) inv.names_places (λ l. absurd (omega (arith, short)))

  report_counts : M.ReportCounts s'
  report_counts = W.each s k m in-range (M.ReportCountsOf s) inv.report_counts (λ e. absurd (omega (arith, short)))

  report_book : M.ReportBook s'
  report_book = W.each s k m in-range (M.ReportBookOf s) inv.report_book (λ e. absurd (omega (arith, short)))

  ghost_ends : M.GhostEnds s'
  ghost_ends = W.each s k m in-range (M.GhostEndsOf s) inv.ghost_ends (λ e. absurd (omega (arith, short)))

  asks : M.Asks s'
  asks = W.each s k m in-range (M.AsksOf s) inv.asks (λ l. absurd (omega (arith, short)))

  same_name : 1 ≤ m.tag → (x : ℕ) → names m x ≡ names (s.slot k) x
  same_name l x =
      let c = copies l in
      let same : on (eqb m.task x) 1 ≡ on (eqb (s.slot k).task x) 1 = rw c.4 refl in
      names_is m x l c.0 ∙ same ∙ sym (names_is (s.slot k) x c.1 c.2)

  -- a reply names the task in the old message's stead
  pub named_same : 1 ≤ m.tag → (x : ℕ) → naming s' 1 x + naming s' 2 x + naming s' 3 x + naming s' 4 x + naming s' 5 x + naming s' 6 x
      ≡ naming s 1 x + naming s 2 x + naming s 3 x + naming s 4 x + naming s 5 x + naming s 6 x
  named_same l x = omega (arith, all_names s x, all_names s' x, sum-upd s.slots (λ _ m. names m x) s.slot k m in-range, same_name l x)

  named_once : M.NamedOnce s'
  named_once x = eq_cases m.tag 0
      (λ e. omega (arith, inv.named_once x, all_names s x, all_names s' x, sum-upd s.slots (λ _ m. names m x) s.slot k m in-range, names-none m x e))
      (λ n. omega (arith, inv.named_once x, named_same (omega arith) x))

  -- a message of tag 1 to 6 taken out leaves the sums of the higher tags
  high : (t : ℕ) → 6 < t → W.Elsewhere s k m in-range t
  high t l = ((λ q. omega arith), (λ q. omega (arith, short)))

  release_some : M.ReleaseSome s'
  release_some = W.release_some s k m in-range (high 8 (omega arith)) inv.release_some

  release_none : M.ReleaseNone s'
  release_none = W.release_none s k m in-range (high 8 (omega arith)) inv.release_none

  ghosts : M.Ghosts s'
  ghosts = W.ghosts s k m in-range (high 9 (omega arith)) inv.ghosts

  counted : C.Counted s'
  counted = W.counted s k m in-range (high 7 (omega arith)) inv.counted

  counted_denied : C.CountedDenied s'
  counted_denied = W.counted_denied s k m in-range (high 7 (omega arith)) (high 11 (omega arith)) inv.counted_denied

  no_answer : C.NoAnswer s'
  no_answer = W.no_answer s k m in-range (high 11 (omega arith)) inv.no_answer

  marked : C.Marked s'
  marked = W.marked s k m in-range (high 10 (omega arith)) inv.marked

  reports_most : L.ReportsMost s'
  reports_most = W.reports_most s k m in-range (high 7 (omega arith)) inv.reports_most

  pub replies : Replied s'
  replies = search (
    tags,
    names_finish,
    names_task,
    names_places,
    report_counts,
    report_book,
    ghost_ends,
    asks,
    named_once,
    release_some,
    release_none,
    ghosts,
    counted,
    counted_denied,
    no_answer,
    marked,
    reports_most,
  )
