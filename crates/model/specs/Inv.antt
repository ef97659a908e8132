-- The whole invariant behind demand 3, as one record of named conjuncts.
pub mod Rows
pub mod Statuses
pub mod Messages
pub mod Books
pub mod Cells
pub mod Locals
use Rattle.std.specs.Prelude.{ℕ}
use Rattle.model.specs.State.{State}
use Rattle.model.specs.Inv.Rows.{Places, DeadPlaces, TaskRanges, MainTasks, SentTasks, TaskStatuses, MainStatuses, StatusMade, SentMade, FinishRanges, Root, Opened, Mains, FinishStatuses, PublishedMark, FinishMade, PublishedMade, BlankFinishes}
use Rattle.model.specs.Inv.Statuses.{Active, Publishing, Waiting, Released, Lost, DeadHome, Busy, Waiters, LostTasks, FirstTask, FirstLost, Blocked}
use Rattle.model.specs.Inv.Messages.{Tags, NamesFinish, NamesTask, NamesPair, NamesPlaces, Publishes, Published, PublishOnce, PublishSome, Transits, LostTransits, OnWire, Late, NamedOnce, NamedPublish, NamedTransit, ReportCounts, ReportBook, ReleaseSome, ReleaseNone, Ghosts, GhostMade, GhostEnds, Asks, Questions, FreshMessages, FreshLocals, FreshBook}
use Rattle.model.specs.Inv.Books.{PresentMark, DueMark, AdoptedMark, BookMade, BookUnreleased, ActiveBook, BookCountsBut, DueColumn, BookParent, AdoptedDead, Orphans, BookAbove, Skipped}
use Rattle.model.specs.Inv.Cells.{CellPlaces, Counted, CountedDenied, NoAnswer, Marked, AskedDead, SentFrom, SentMost, NotFromSelf, SentBook, SentTasksMost}
use Rattle.model.specs.Inv.Locals.{LocalLive, ReportedMost, Pending, Unreported, ReportsMost, DeniedDead, LocalBook}

-- All of it, but that the closing test of the book of x may still have to be made.
pub record InvBut (x : ℕ) (s : State) : Type 0 where
  -- Rows
  pub places : Places s
  pub dead_places : DeadPlaces s
  pub task_ranges : TaskRanges s
  pub main_tasks : MainTasks s
  pub sent_tasks : SentTasks s
  pub task_statuses : TaskStatuses s
  pub main_statuses : MainStatuses s
  pub status_made : StatusMade s
  pub sent_made : SentMade s
  pub finish_ranges : FinishRanges s
  pub root : Root s
  pub opened : Opened s
  pub mains : Mains s
  pub finish_statuses : FinishStatuses s
  pub published_mark : PublishedMark s
  pub finish_made : FinishMade s
  pub published_made : PublishedMade s
  pub blank_finishes : BlankFinishes s
  -- Statuses
  pub active : Active s
  pub publishing : Publishing s
  pub waiting : Waiting s
  pub released : Released s
  pub lost : Lost s
  pub dead_home : DeadHome s
  pub busy : Busy s
  pub waiters : Waiters s
  pub lost_tasks : LostTasks s
  pub first_task : FirstTask s
  pub first_lost : FirstLost s
  pub blocked : Blocked s
  -- Messages
  pub tags : Tags s
  pub names_finish : NamesFinish s
  pub names_task : NamesTask s
  pub names_pair : NamesPair s
  pub names_places : NamesPlaces s
  pub publishes : Publishes s
  pub published : Published s
  pub publish_once : PublishOnce s
  pub publish_some : PublishSome s
  pub transits : Transits s
  pub lost_transits : LostTransits s
  pub on_wire : OnWire s
  pub late : Late s
  pub named_once : NamedOnce s
  pub named_publish : NamedPublish s
  pub named_transit : NamedTransit s
  pub report_counts : ReportCounts s
  pub report_book : ReportBook s
  pub release_some : ReleaseSome s
  pub release_none : ReleaseNone s
  pub ghosts : Ghosts s
  pub ghost_made : GhostMade s
  pub ghost_ends : GhostEnds s
  pub asks : Asks s
  pub questions : Questions s
  pub fresh_messages : FreshMessages s
  pub fresh_locals : FreshLocals s
  pub fresh_book : FreshBook s
  -- Books
  pub present_mark : PresentMark s
  pub due_mark : DueMark s
  pub adopted_mark : AdoptedMark s
  pub book_made : BookMade s
  pub book_unreleased : BookUnreleased s
  pub active_book : ActiveBook s
  pub book_counts : BookCountsBut x s
  pub due_column : DueColumn s
  pub book_parent : BookParent s
  pub adopted_dead : AdoptedDead s
  pub orphans : Orphans s
  pub book_above : BookAbove s
  pub skipped : Skipped s
  -- Cells
  pub cell_places : CellPlaces s
  pub counted : Counted s
  pub counted_denied : CountedDenied s
  pub no_answer : NoAnswer s
  pub marked : Marked s
  pub asked_dead : AskedDead s
  pub sent_from : SentFrom s
  pub sent_most : SentMost s
  pub not_from_self : NotFromSelf s
  pub sent_book : SentBook s
  pub sent_tasks_most : SentTasksMost s
  -- Locals
  pub local_live : LocalLive s
  pub reported_most : ReportedMost s
  pub pending : Pending s
  pub unreported : Unreported s
  pub reports_most : ReportsMost s
  pub denied_dead : DeniedDead s
  pub local_book : LocalBook s

-- There is no finish 0: the whole.
abbrev pub Inv : State → Type 0
Inv s = InvBut 0 s
