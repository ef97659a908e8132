-- Deliver of the message in slot k, by tag; a message made by a deliver takes that slot. 7, 9 and 11: before the closing test.
use Rattle.std.specs.Prelude.{false, cond, ◌||◌, ℕ, ◌+◌, ◌-◌}
use Rattle.model.specs.Base.{upd, on, is₂, is₃}
use Rattle.model.specs.State.{State, with_task_status, with_finish_status, with_published, with_books, with_ghosts, with_live, with_sent, with_received, with_local_live, with_denied, with_slot}
use Rattle.model.specs.Messages.{none, published, transit, granted, denied, task, dropped, tally}
use Rattle.model.specs.Effects.End.{wake}

-- A slot emptied: discarded, or the task message of a denied sender.
abbrev pub empty : State → ℕ → State
empty s k = with_slot (upd s.slot k none) s

-- a book with live and sent 1 at home, home; its parent is q
abbrev pub with_book : ℕ → ℕ → ℕ → State → State
with_book f h q s =
    let b = s.books in
    with_books (record {
      present = upd b.present f 1;
      parent = upd b.parent f q;
      due = upd b.due f 0;
      adopted = upd b.adopted f 0;
      ghosts = upd b.ghosts f (λ g. false);
      live = upd b.live f (λ i j. on (is₂ h h i j) 1);
      sent = upd b.sent f (λ i j. on (is₂ h h i j) 1);
      asked = upd b.asked f (λ i j. false);
    }) s

-- 1 publish: a book; its parent q is the nearest ancestor with a store book, 0 if none. Reply 2.
abbrev pub deliver_publish : State → ℕ → ℕ → State
deliver_publish s k q =
    let m = s.slot k in
    with_slot (upd s.slot k (published m.finish m.task))
    (with_book m.finish (s.finishes.home m.finish) q s)

-- 2 published: finish active and published; its waiting task to status 2; reply 3.
abbrev pub deliver_published : State → ℕ → State
deliver_published s k =
    let m = s.slot k in
    with_slot (upd s.slot k (transit m.finish m.task (s.tasks.from m.task) (s.tasks.at m.task)))
    (with_task_status (upd s.tasks.status m.task 2)
    (with_published (upd s.finishes.published m.finish 1)
    (with_finish_status (upd s.finishes.status m.finish 1) s)))

-- 3 transit: live and sent up by one, reply 4;
abbrev pub deliver_transit : State → ℕ → State
deliver_transit s k =
    let m = s.slot k in
    with_slot (upd s.slot k (granted m.finish m.task m.from m.to))
    (with_live (λ f i j. s.books.live f i j + on (is₃ m.finish m.from m.to f i j) 1)
    (with_sent (λ f i j. s.books.sent f i j + on (is₃ m.finish m.from m.to f i j) 1) s))

-- receiver dead: reply 5.
abbrev pub refuse_transit : State → ℕ → State
refuse_transit s k =
    let m = s.slot k in
    with_slot (upd s.slot k (denied m.finish m.task m.from m.to)) s

-- 4 granted: task on the wire, its spawner runs,
abbrev pub with_granted : ℕ → State → State
with_granted t s = with_task_status (wake (s.tasks.maker t) (upd s.tasks.status t 3)) s

-- reply 6;
abbrev pub deliver_granted : State → ℕ → State
deliver_granted s k =
    let m = s.slot k in
    with_slot (upd s.slot k (task m.finish m.task m.from m.to)) (with_granted m.task s)

-- receiver dead: the same without the reply.
abbrev pub lose_granted : State → ℕ → State
lose_granted s k = empty (with_granted (s.slot k).task s) k

-- 5 denied: task dropped, its spawner runs.
abbrev pub deliver_denied : State → ℕ → State
deliver_denied s k =
    let t = (s.slot k).task in
    empty (with_task_status (wake (s.tasks.maker t) (upd s.tasks.status t 4)) s) k

-- 6 task: received and live up, task runs.
abbrev pub deliver_task : State → ℕ → State
deliver_task s k =
    let m = s.slot k in
    with_slot (upd s.slot k none)
    (with_received (λ f j i. s.locals.received f j i + on (is₃ m.finish m.from m.to f i j) 1)
    (with_local_live (λ f j. s.locals.live f j + on (is₂ m.finish m.to f j) 1)
    (with_task_status (upd s.tasks.status m.task 5) s)))

-- 7 report: column lowered by the counts,
abbrev pub deliver_report : State → ℕ → State
deliver_report s k =
    let m = s.slot k in
    empty (with_live (λ f i j. s.books.live f i j - tally 7 m (is₂ m.finish m.from f j) (m.counts i)) s) k

-- 8 release: released; opener, if any, runs.
abbrev pub deliver_release : State → ℕ → State
deliver_release s k =
    let f = (s.slot k).finish in
    empty (with_finish_status (upd s.finishes.status f 4) (with_task_status (wake (s.finishes.opener f) s.tasks.status) s)) k

-- 9 ghost-ended: ghost removed,
abbrev pub deliver_ghost_ended : State → ℕ → State
deliver_ghost_ended s k =
    let m = s.slot k in
    empty (with_ghosts (λ q g. cond (is₂ m.finish m.number q g) false (s.books.ghosts q g)) s) k

-- 10 count-dropped: sender denied; reply 11 with sent less received.
abbrev pub deliver_count_dropped : State → ℕ → State
deliver_count_dropped s k =
    let m = s.slot k in
    with_slot (upd s.slot k (dropped m.finish m.task m.from m.to (m.number - s.locals.received m.finish m.to m.from)))
    (with_denied (λ f j i. s.locals.denied f j i || is₃ m.finish m.from m.to f i j) s)

-- 11 dropped: cell lowered,
abbrev pub deliver_dropped : State → ℕ → State
deliver_dropped s k =
    let m = s.slot k in
    empty (with_live (λ f i j. s.books.live f i j - tally 11 m (is₃ m.finish m.from m.to f i j) m.number) s) k
