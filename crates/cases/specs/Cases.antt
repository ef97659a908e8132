-- Both sides of each edge: the nine starred cases, and one of our own, as a single list. Each is a schedule from zero tables, the lines that it
-- prints, and what holds of the tables that it ends with.
use Rattle.std.specs.Prelude.{Bool, true, List, [], ◌∷◌, ℕ, ◌≡◌, eqb}
use Rattle.tables.specs.Bytes.{byte}
use Rattle.tables.specs.Walks.{every}
use Rattle.tables.specs.Layout.{place, slot_row}
use Rattle.rules.specs.Fields.{places, dead_mask}
use Rattle.rules.specs.Books.{book_of, total}
use Rattle.rules.specs.PrintedRun.{Line, Run, took, ends, replayed}

pub record Case : Type 0 where
  pub schedule : List ℕ
  pub lines : List Line
  pub facts : List ℕ → Bool

-- a run prints these lines, and the facts hold of the tables that it ends with
pub record Shows (r : Run) (l : List Line) (facts : List ℕ → Bool) : Type 0 where
  pub prints : r.lines ≡ l
  pub ends_so : facts r.tables ≡ true

abbrev pub Holds : Case → Type 0
Holds c = Shows (replayed c.schedule) c.lines c.facts

-- the single statement: every case of a list holds
pub data AllHold : List Case → Type 0 where
  none_left : AllHold []
  also : {c : Case} {cs : List Case} → Holds c → AllHold cs → AllHold (c ∷ cs)

-- a record before a schedule
abbrev rec : ℕ → ℕ → ℕ → ℕ → List ℕ → List ℕ
rec k a b c s = k ∷ a ∷ b ∷ c ∷ s

unfoldable pub nothing_more : List ℕ → Bool
nothing_more t = true

-- Records in hex (A): 09030000 01010100, five times 04000000, ..
unfoldable pub to_record7 : List ℕ → List ℕ
to_record7 s = rec 9 3 0 0 (rec 1 1 1 0 (rec 4 0 0 0 (rec 4 0 0 0 (rec 4 0 0 0 (rec 4 0 0 0 (rec 4 0 0 0 s))))))

unfoldable pub lines_to7 : List Line → List Line
lines_to7 l = took 1 9 0 ∷ took 2 1 0 ∷ took 3 4 0 ∷ took 4 4 0 ∷ took 5 4 0 ∷ took 6 4 0 ∷ took 7 4 0 ∷ l

-- A through record 7, then the case
unfoldable pub A7 : Case → Case
A7 c = record { schedule = to_record7 c.schedule; lines = lines_to7 c.lines; facts = c.facts }

-- .. 03010000 04000000 03020000, twice 04000000. Whole output.
unfoldable pub edge_A : Case
edge_A = record {
  schedule = rec 3 1 0 0 (rec 4 0 0 0 (rec 3 2 0 0 (rec 4 0 0 0 (rec 4 0 0 0 []))));
  lines = took 8 3 0 ∷ took 9 4 0 ∷ took 10 3 0 ∷ took 11 4 0 ∷ took 12 4 0 ∷ ends 0 4 0 ∷ [];
  facts = nothing_more;
}

-- Begin 1 and 9 refused 2; 2 and 8 done.
unfoldable pub edge_begin : Case
edge_begin = record {
  schedule = rec 9 1 0 0 (rec 9 9 0 0 (rec 9 2 0 0 (rec 9 8 0 0 [])));
  lines = took 1 9 2 ∷ took 2 9 2 ∷ took 3 9 0 ∷ took 4 9 0 ∷ ends 1 1 0 ∷ [];
  facts = λ t. eqb (places t) 8;
}

-- Begin, end task 1: finish 1 released with no message.
unfoldable pub edge_end : Case
edge_end = record {
  schedule = rec 9 3 0 0 (rec 3 1 0 0 []);
  lines = took 1 9 0 ∷ took 2 3 0 ∷ ends 0 4 0 ∷ [];
  facts = nothing_more;
}

-- A through record 7, kill 1: cancel 1,1 refused 4; adopt 1, then cancel done, total 1.
unfoldable pub edge_cancel : Case
edge_cancel = record {
  schedule = rec 5 1 0 0 (rec 7 1 1 0 (rec 6 1 0 0 (rec 7 1 1 0 [])));
  lines = took 8 5 0 ∷ took 9 7 4 ∷ took 10 6 0 ∷ took 11 7 0 ∷ ends 1 1 0 ∷ [];
  facts = λ t. eqb (total (book_of t 1)) 1;
}

-- There, end task 1 after the kill but before the adopt: its deliver is refused 5.
unfoldable pub edge_held : Case
edge_held = record {
  schedule = rec 5 1 0 0 (rec 3 1 0 0 (rec 4 0 0 0 []));
  lines = took 8 5 0 ∷ took 9 3 0 ∷ took 10 4 5 ∷ ends 0 3 1 ∷ [];
  facts = nothing_more;
}

-- Three places, A through record 7; task 2 spawns to place 2, its transit is delivered and the granted message is not,
-- then kill 1. Adopt, cancel 1,1, ask 1,1,2 ..
unfoldable pub to_ask : List ℕ → List ℕ
to_ask s = rec 1 2 2 0 (rec 4 0 0 0 (rec 5 1 0 0 (rec 6 1 0 0 (rec 7 1 1 0 (rec 8 1 1 2 s)))))

unfoldable pub lines_to_ask : List Line → List Line
lines_to_ask l = took 8 1 0 ∷ took 9 4 0 ∷ took 10 5 0 ∷ took 11 6 0 ∷ took 12 7 0 ∷ took 13 8 0 ∷ l

-- .. the reply says 1 dropped.
unfoldable pub edge_dropped : Case
edge_dropped = record {
  schedule = to_ask (rec 4 0 0 0 []);
  lines = lines_to_ask (took 14 4 0 ∷ ends 1 1 1 ∷ []);
  facts = λ t. every (eqb (byte t (place (slot_row 0) 0)) 11 ∷ eqb (byte t (place (slot_row 0) 5)) 1 ∷ []);
}

-- There, the ask again: 4.
unfoldable pub edge_again : Case
edge_again = record {
  schedule = to_ask (rec 8 1 1 2 []);
  lines = lines_to_ask (took 14 8 4 ∷ ends 1 1 1 ∷ []);
  facts = nothing_more;
}

-- Our own: the same with the granted and the task message delivered before the kill: sent 1, received 1, the reply says 0.
unfoldable pub edge_received : Case
edge_received = record {
  schedule =
      rec 1 2 2 0
      (rec 4 0 0 0 (rec 4 0 0 0 (rec 4 0 0 0 (rec 5 1 0 0 (rec 6 1 0 0 (rec 7 1 1 0 (rec 8 1 1 2 (rec 4 0 0 0 []))))))));
  lines =
      took 8 1 0 ∷ took 9 4 0 ∷ took 10 4 0 ∷ took 11 4 0 ∷ took 12 5 0 ∷ took 13 6 0 ∷ took 14 7 0 ∷ took 15 8 0 ∷ took 16 4 0
      ∷ ends 2 1 1 ∷ [];
  facts = λ t. every (eqb (byte t (place (slot_row 0) 0)) 11 ∷ eqb (byte t (place (slot_row 0) 5)) 0 ∷ []);
}

-- Kill 0 refused 3; kill 1 twice, the second 3.
unfoldable pub edge_kill : Case
edge_kill = record {
  schedule = rec 9 3 0 0 (rec 5 0 0 0 (rec 5 1 0 0 (rec 5 1 0 0 [])));
  lines = took 1 9 0 ∷ took 2 5 3 ∷ took 3 5 0 ∷ took 4 5 3 ∷ ends 1 1 0 ∷ [];
  facts = λ t. eqb (dead_mask t) 2;
}

-- Empty slot: 4. Slot 128: 2.
unfoldable pub edge_slot : Case
edge_slot = record {
  schedule = rec 9 3 0 0 (rec 4 0 0 0 (rec 4 128 0 0 []));
  lines = took 1 9 0 ∷ took 2 4 4 ∷ took 3 4 2 ∷ ends 1 1 0 ∷ [];
  facts = nothing_more;
}

abbrev pub cases : List Case
cases =
    A7 edge_A ∷ edge_begin ∷ edge_end ∷ A7 edge_cancel ∷ A7 edge_held ∷ A7 edge_dropped ∷ A7 edge_again ∷ A7 edge_received ∷ edge_kill ∷ edge_slot ∷ []
