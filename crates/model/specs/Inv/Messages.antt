-- Messages: what each in flight says of the tables, and how many there are.
use Rattle.std.specs.Prelude.{◌≡◌, true, false, ℕ, ◌+◌, ◌≤◌, ◌<◌}
use Rattle.model.specs.Base.{on, is₃}
use Rattle.model.specs.State.{State, Message}
use Rattle.model.specs.Messages.{of_finish, naming, between, endings}
use Rattle.model.specs.Weights.{mainly}

-- of each message in flight
abbrev pub Each : State → (Message → Type 0) → Type 0
Each s P = (k : ℕ) → k < s.slots → P (s.slot k)

-- M0: tags to 11; a message names a made finish; 1 to 6 name a sent task of it; 3 to 6 its from and its at as to; 7 on have places.
abbrev pub TagsOf : State → Message → Type 0
TagsOf s m = m.tag ≤ 11

abbrev pub Tags : State → Type 0
Tags s = Each s (TagsOf s)

abbrev pub NamesFinishOf : State → Message → Type 0
NamesFinishOf s m = 1 ≤ m.tag → (0 < m.finish) × (m.finish ≤ s.finishes.made)

abbrev pub NamesFinish : State → Type 0
NamesFinish s = Each s (NamesFinishOf s)

abbrev pub NamesTaskOf : State → Message → Type 0
NamesTaskOf s m = 1 ≤ m.tag → m.tag ≤ 6
    → (0 < m.task) × (m.task ≤ s.tasks.made) × (s.tasks.sent m.task ≡ 1) × (s.tasks.finish m.task ≡ m.finish)

abbrev pub NamesTask : State → Type 0
NamesTask s = Each s (NamesTaskOf s)

abbrev pub NamesPairOf : State → Message → Type 0
NamesPairOf s m = 3 ≤ m.tag → m.tag ≤ 6
    → (s.tasks.from m.task ≡ m.from) × (s.tasks.at m.task ≡ m.to)

abbrev pub NamesPair : State → Type 0
NamesPair s = Each s (NamesPairOf s)

abbrev pub NamesPlacesOf : State → Message → Type 0
NamesPlacesOf s m = 7 ≤ m.tag → (m.from < s.places) × (m.to < s.places)

abbrev pub NamesPlaces : State → Type 0
NamesPlaces s = Each s (NamesPlacesOf s)

-- M1, tag 1: no book, unpublished. Home alive: publishing, and the task has status 1. Home dead: lost.
abbrev pub PublishesOf : State → Message → Type 0
PublishesOf s m = m.tag ≡ 1
    → (s.books.present m.finish ≡ 0) × (s.finishes.published m.finish ≡ 0)
    × (s.dead (s.finishes.home m.finish) ≡ false → (s.finishes.status m.finish ≡ 2) × (s.tasks.status m.task ≡ 1))
    × (s.dead (s.finishes.home m.finish) ≡ true → s.finishes.status m.finish ≡ 5)

abbrev pub Publishes : State → Type 0
Publishes s = Each s (PublishesOf s)

-- M1, tag 2: the book is present, home alive, publishing, and the task has status 1.
abbrev pub PublishedOf : State → Message → Type 0
PublishedOf s m = m.tag ≡ 2
    → (s.books.present m.finish ≡ 1) × (s.dead (s.finishes.home m.finish) ≡ false)
    × (s.finishes.status m.finish ≡ 2) × (s.tasks.status m.task ≡ 1)

abbrev pub Published : State → Type 0
Published s = Each s (PublishedOf s)

-- M1: at most one of tags 1 and 2 for each f; exactly one while f is publishing.
abbrev pub PublishOnce : State → Type 0
PublishOnce s = (f : ℕ) → of_finish s 1 f + of_finish s 2 f ≤ 1

abbrev pub PublishSome : State → Type 0
PublishSome s = (f : ℕ) → s.finishes.status f ≡ 2 → of_finish s 1 f + of_finish s 2 f ≡ 1

-- M3, tags 3, 4, 5: from alive: the task waits for transit, and the book is present; from dead: tag 3, and the task is lost.
abbrev pub TransitsOf : State → Message → Type 0
TransitsOf s m = 3 ≤ m.tag → m.tag ≤ 5 → s.dead m.from ≡ false
    → (s.tasks.status m.task ≡ 2) × (s.books.present m.finish ≡ 1)

abbrev pub Transits : State → Type 0
Transits s = Each s (TransitsOf s)

abbrev pub LostTransitsOf : State → Message → Type 0
LostTransitsOf s m = 3 ≤ m.tag → m.tag ≤ 5 → s.dead m.from ≡ true
    → (m.tag ≡ 3) × (s.tasks.status m.task ≡ 8)

abbrev pub LostTransits : State → Type 0
LostTransits s = Each s (LostTransitsOf s)

-- M3, tag 6: the task is on the wire, its at alive; where the book is absent, from is denied at to (and so, by L3, dead).
abbrev pub OnWireOf : State → Message → Type 0
OnWireOf s m = m.tag ≡ 6 → (s.tasks.status m.task ≡ 3) × (s.dead m.to ≡ false)

abbrev pub OnWire : State → Type 0
OnWire s = Each s (OnWireOf s)

abbrev pub LateOf : State → Message → Type 0
LateOf s m = m.tag ≡ 6 → s.books.present m.finish ≡ 0 → s.locals.denied m.finish m.to m.from ≡ true

abbrev pub Late : State → Type 0
Late s = Each s (LateOf s)

-- MT: each task is named by at most one message of tags 1 to 6; status 1: by one of 1, 2; status 2: by one of 3, 4, 5.
abbrev pub NamedOnce : State → Type 0
NamedOnce s = (t : ℕ) → naming s 1 t + naming s 2 t + naming s 3 t + naming s 4 t + naming s 5 t + naming s 6 t ≤ 1

abbrev pub NamedPublish : State → Type 0
NamedPublish s = (t : ℕ) → s.tasks.status t ≡ 1 → naming s 1 t + naming s 2 t ≡ 1

abbrev pub NamedTransit : State → Type 0
NamedTransit s = (t : ℕ) → s.tasks.status t ≡ 2 → naming s 3 t + naming s 4 t + naming s 5 t ≡ 1

-- M7: some count is above 0. From alive: the book is present.
abbrev pub ReportCountsOf : State → Message → Type 0
ReportCountsOf s m = m.tag ≡ 7 → (i : ℕ) × (0 < m.counts i)

abbrev pub ReportCounts : State → Type 0
ReportCounts s = Each s (ReportCountsOf s)

abbrev pub ReportBookOf : State → Message → Type 0
ReportBookOf s m = m.tag ≡ 7 → s.dead m.from ≡ false → s.books.present m.finish ≡ 1

abbrev pub ReportBook : State → Type 0
ReportBook s = Each s (ReportBookOf s)

-- M8: #{tag 8 of f} = [f waits for release and has no book].
abbrev pub ReleaseSome : State → Type 0
ReleaseSome s = (f : ℕ) → s.finishes.status f ≡ 3 → of_finish s 8 f + s.books.present f ≡ 1

abbrev pub ReleaseNone : State → Type 0
ReleaseNone s = (f : ℕ) → (s.finishes.status f ≡ 3 → ⊥) → of_finish s 8 f ≡ 0

-- M9: #{tag 9 of q, g} + [book g present, adopted, its parent q] = [g in ghosts of q].
abbrev pub Ghosts : State → Type 0
Ghosts s = (q g : ℕ) → endings s q g + on (is₃ (s.books.present g) (s.books.adopted g) (s.books.parent g) 1 1 q) 1 ≡ on (s.books.ghosts q g) 1

-- M9: a ghost of q is a made finish above q, and q's book is present.
abbrev pub GhostMade : State → Type 0
GhostMade s = (q g : ℕ) → s.books.ghosts q g ≡ true → (q < g) × (g ≤ s.finishes.made) × (s.books.present q ≡ 1)

-- M9, tag 9: the ghost's home is dead, and it has no book.
abbrev pub GhostEndsOf : State → Message → Type 0
GhostEndsOf s m = m.tag ≡ 9 → (s.dead (s.finishes.home m.number) ≡ true) × (s.books.present m.number ≡ 0)

abbrev pub GhostEnds : State → Type 0
GhostEnds s = Each s (GhostEndsOf s)

-- M10, tags 10 and 11: from dead; if the book is present, the pair is asked.
abbrev pub AsksOf : State → Message → Type 0
AsksOf s m = 10 ≤ m.tag
    → (s.dead m.from ≡ true)
    × (s.books.present m.finish ≡ 1 → s.books.asked m.finish m.from m.to ≡ true)

abbrev pub Asks : State → Type 0
Asks s = Each s (AsksOf s)

-- M10, tag 10: to alive; number ≥ received + c6, and, if the book is present, number = sent.
abbrev pub QuestionsOf : State → Message → Type 0
QuestionsOf s m = m.tag ≡ 10
    → (s.dead m.to ≡ false)
    × (s.locals.received m.finish m.to m.from + between s 6 m.finish m.from m.to ≤ m.number)
    × (s.books.present m.finish ≡ 1 → m.number ≡ s.books.sent m.finish m.from m.to)

abbrev pub Questions : State → Type 0
Questions s = Each s (QuestionsOf s)

-- U: an unpublished finish has no message but tags 1 and 2 (of a ghost's end, 9, nothing is asked: no step turns on it);
abbrev pub FreshMessagesOf : State → Message → Type 0
FreshMessagesOf s m = 3 ≤ m.tag → (m.tag ≡ 9 → ⊥) → s.finishes.published m.finish ≡ 1

abbrev pub FreshMessages : State → Type 0
FreshMessages s = Each s (FreshMessagesOf s)

-- U: its local books are 0 everywhere;
abbrev pub FreshLocals : State → Type 0
FreshLocals s = (f j i : ℕ) → s.finishes.published f ≡ 0
    → (s.locals.received f j i ≡ 0) × (s.locals.reported f j i ≡ 0) × (s.locals.live f j ≡ 0) × (s.locals.denied f j i ≡ false)

-- U: a present book has 1 in the home's own cell and no other count (that its live count there is 1 is K2, where it has no ghost).
abbrev pub FreshBook : State → Type 0
FreshBook s = (f i j : ℕ) → s.finishes.published f ≡ 0 → s.books.present f ≡ 1
    → (s.books.sent f i j ≡ mainly s f i j) × (s.books.live f i j ≤ mainly s f i j) × (s.books.asked f i j ≡ false)
