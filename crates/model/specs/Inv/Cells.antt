-- The cells of present books at live receivers: one law for i = j, i alive and i dead.
use Rattle.std.specs.Prelude.{◌≡◌, true, false, ℕ, ◌+◌, ◌≤◌, ◌<◌}
use Rattle.model.specs.Base.{on, is₃}
use Rattle.model.specs.State.{State}
use Rattle.model.specs.Messages.{between, reports, answered}
use Rattle.model.specs.Weights.{tasks_with, mainly, ended}

-- Rows and columns at or above the place count are 0.
abbrev pub CellPlaces : State → Type 0
CellPlaces s = (f i j : ℕ) → 0 < s.books.live f i j → (i < s.places) × (j < s.places)

-- not denied: live + P = sent + q7; the main task, once ended, has left live for a report.
abbrev pub Counted : State → Type 0
Counted s = (f i j : ℕ) → s.books.present f ≡ 1 → s.dead j ≡ false → s.locals.denied f j i ≡ false
    → s.books.live f i j + s.locals.reported f j i + ended s f i j ≡ s.books.sent f i j + reports s f i j

-- denied: live + P = R + q7, and what an answer on its way (11) will take.
abbrev pub CountedDenied : State → Type 0
CountedDenied s = (f i j : ℕ) → s.books.present f ≡ 1 → s.dead j ≡ false → s.locals.denied f j i ≡ true
    → s.books.live f i j + s.locals.reported f j i + ended s f i j ≡ s.locals.received f j i + mainly s f i j + reports s f i j + answered s f i j

-- not denied: no answer is on its way.
abbrev pub NoAnswer : State → Type 0
NoAnswer s = (f i j : ℕ) → s.books.present f ≡ 1 → s.dead j ≡ false → s.locals.denied f j i ≡ false → answered s f i j ≡ 0

-- asked: a 10 in flight or denied, not both; not asked: neither.
abbrev pub Marked : State → Type 0
Marked s = (f i j : ℕ) → s.books.present f ≡ 1 → s.dead j ≡ false → on (s.books.asked f i j) 1 ≡ between s 10 f i j + on (s.locals.denied f j i) 1

-- asked (i, j) → i dead.
abbrev pub AskedDead : State → Type 0
AskedDead s = (f i j : ℕ) → s.books.asked f i j ≡ true → s.dead i ≡ true

-- i alive: sent = R + c4 + c6.
abbrev pub SentFrom : State → Type 0
SentFrom s = (f i j : ℕ) → s.books.present f ≡ 1 → s.dead j ≡ false → s.dead i ≡ false
    → s.books.sent f i j ≡ s.locals.received f j i + mainly s f i j + between s 4 f i j + between s 6 f i j

-- any i: R + c6 ≤ sent.
abbrev pub SentMost : State → Type 0
SentMost s = (f i j : ℕ) → s.books.present f ≡ 1 → s.dead j ≡ false → s.locals.received f j i + mainly s f i j + between s 6 f i j ≤ s.books.sent f i j

-- i = j: R = 0.
abbrev pub NotFromSelf : State → Type 0
NotFromSelf s = (f j : ℕ) → s.locals.received f j j ≡ 0

-- 0: an absent book has sent nothing.
abbrev pub SentBook : State → Type 0
SentBook s = (f i j : ℕ) → 0 < s.books.sent f i j → s.books.present f ≡ 1

-- What was sent, and what asks for transit, are tasks of that pair: so that no count leaves 0 to 255.
abbrev pub SentTasksMost : State → Type 0
SentTasksMost s = (f i j : ℕ) → (i ≡ j → ⊥)
    → s.books.sent f i j + between s 3 f i j
    ≤ tasks_with s (λ t. is₃ (s.tasks.finish t) (s.tasks.from t) (s.tasks.at t) f i j) 2 8
