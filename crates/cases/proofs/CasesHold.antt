-- The cases hold: each computed over `answer` and `after` themselves, all under one statement.
use mathlib.Core.Path.{◌≡◌, refl, ap}
use mathlib.Core.Bool.{Bool, true}
use mathlib.Core.List.{List, [], ◌∷◌}
use Prim.Native.Nat.{ℕ}
use lib.ListN.{set}
use Rattle.tables.specs.Layout.{place, task_row, finish_row}
use Rattle.tables.specs.Bytes.{part, over, write}
use Rattle.tables.specs.Bits.{bit_at, mask, marked, with_mark, without_mark}
use Rattle.tables.specs.Walks.{every, some_of, every_part, first_part, count_parts, each_part, change_parts, some_below, every_below, sum_bytes}
use Rattle.rules.specs.Fields.{running, active, book_place, received_place, local_live_place, task_made, finish_made, in_session, is_main, may_run, runs}
use Rattle.rules.specs.Messages.{message, no_counts, bytes_of, tagged, message_in, from_slot, message_at, send, goes_to, is_empty, lowest_empty, slots_full}
use Rattle.rules.specs.Action.{only0, action_named, action_of}
use Rattle.rules.specs.Books.{book_of, total, column, ghosts, with_book, clear_row, cleared_column, lower_row, lowered_column, dead_column, under_repair, owed_cell, owes}
use Rattle.rules.specs.Sound.{head_sound, task_fits, finish_fits, parent_fits, book_fits, message_fits, task_sound, finish_sound, book_sound, slot_sound, tasks_sound, finishes_sound, books_sound, slots_sound, rows_sound, sound}
use Rattle.rules.specs.Closing.{closes, without_book, closed_book, closing_test, closing_sends}
use Rattle.rules.specs.Begin.{zero_tables, begin_step}
use Rattle.rules.specs.Spawn.{with_sent, first_spawn, later_spawn, is_first, spawn_step, spawn_wanted}
use Rattle.rules.specs.Open.{opened, open_step}
use Rattle.rules.specs.End.{end_unpublished, end_published, end_main, less_each, received_row, reported_row, end_last, end_earlier, end_other, end_step, end_sends, end_main_wanted, each_at_most, end_other_wanted, end_wanted}
use Rattle.rules.specs.Kill.{loses_task, kill_task, loses_finish, kill_finish, kill_book, kill_local, kill_slot, kill_step}
use Rattle.rules.specs.Adopt.{orphan, adopt_book, with_ghosts, adopt_step}
use Rattle.rules.specs.Cancel.{cancelled, cancel_step}
use Rattle.rules.specs.Ask.{ask_step}
use Rattle.rules.specs.Deliver.{book_absent, discarded, waits_for_repair, held, lowers, fits, deliver_wanted, climb_stops, nearest, new_book, deliver_publish, deliver_published, counted, deliver_transit, deliver_granted, deliver_denied, arrived, deliver_task, deliver_report, deliver_release, without_ghost, deliver_ghost_ended, deliver_count_dropped, deliver_dropped, delivered, deliver_message, deliver_step}
use Rattle.rules.specs.Refusals.{wrong_length, no_action, unsound, not_there, wrong_place, not_ready, must_wait, no_room, unwanted, first_of, step_refusals, refusals, answer}
use Rattle.rules.specs.Step.{step, after}
use Rattle.rules.specs.Quiet.{is_running, running_tasks, is_full, messages_in_flight, calm_book, quiet}
use Rattle.rules.specs.PrintedRun.{last_line, before, run, replayed}
use Rattle.cases.specs.Cases.{Case, Shows, Holds, AllHold, none_left, also, cases, nothing_more, to_record7, lines_to7, A7, to_ask, lines_to_ask, edge_A, edge_begin, edge_end, edge_cancel, edge_held, edge_dropped, edge_again, edge_received, edge_kill, edge_slot}
use Rattle.cases.proofs.Runs.{same_line, leads, rest, is_nil, matches, matches_shows}

-- a run of a schedule with every rule of document 01 opened
unfoldable pub computed : ℕ → List ℕ → Case → Bool
unfolding part over write bit_at mask marked with_mark without_mark every some_of every_part first_part count_parts each_part change_parts some_below every_below sum_bytes task_made finish_made in_session is_main may_run runs message no_counts bytes_of tagged message_in from_slot message_at send goes_to is_empty lowest_empty slots_full only0 action_named action_of book_of total column ghosts with_book clear_row cleared_column lower_row lowered_column dead_column under_repair owed_cell owes head_sound task_fits finish_fits parent_fits book_fits message_fits task_sound finish_sound book_sound slot_sound tasks_sound finishes_sound books_sound slots_sound rows_sound sound closes without_book closed_book closing_test closing_sends zero_tables begin_step with_sent first_spawn later_spawn is_first spawn_step spawn_wanted opened open_step end_unpublished end_published end_main less_each received_row reported_row end_last end_earlier end_other end_step end_sends end_main_wanted each_at_most end_other_wanted end_wanted loses_task kill_task loses_finish kill_finish kill_book kill_local kill_slot kill_step orphan adopt_book with_ghosts adopt_step cancelled cancel_step ask_step book_absent discarded waits_for_repair held lowers fits deliver_wanted climb_stops nearest new_book deliver_publish deliver_published counted deliver_transit deliver_granted deliver_denied arrived deliver_task deliver_report deliver_release without_ghost deliver_ghost_ended deliver_count_dropped deliver_dropped delivered deliver_message deliver_step wrong_length no_action unsound not_there wrong_place not_ready must_wait no_room unwanted first_of step_refusals refusals answer step after is_running running_tasks is_full messages_in_flight calm_book quiet last_line same_line leads rest is_nil matches
computed n t c = matches n t c.schedule c.lines c.facts

-- the tables after A's record 7: task 2 of finish 1 runs at place 1, which has received it from place 0
unfoldable tables7 : List ℕ
unfolding zero_tables write over new_book
tables7 =
    write (write (write (write (write (write (write zero_tables
    (place 0 0) (3 ∷ 0 ∷ 2 ∷ 1 ∷ []))
    (place (task_row 1) 0) (0 ∷ 0 ∷ 1 ∷ running ∷ 0 ∷ 0 ∷ []))
    (place (task_row 2) 0) (0 ∷ 1 ∷ 1 ∷ running ∷ 1 ∷ 1 ∷ []))
    (place (finish_row 1) 0) (0 ∷ 0 ∷ 0 ∷ active ∷ 1 ∷ 1 ∷ []))
    (book_place 1) (set (set (new_book 0 0) 9 1) 73 1))
    (received_place 1 1 0) (1 ∷ []))
    (local_live_place 1 1) (1 ∷ [])

-- A through record 7, whatever follows
to_record_7 : (s : List ℕ) → run 1 zero_tables (to_record7 s) ≡ record { lines = lines_to7 (run 8 tables7 s).lines; tables = (run 8 tables7 s).tables }
unfolding computed run before to_record7 lines_to7 tables7
to_record_7 s = refl

computed_shows : (n : ℕ) (t : List ℕ) (c : Case) → computed n t c ≡ true → Shows (run n t c.schedule) c.lines c.facts
unfolding computed
computed_shows n t c h = matches_shows n t c.schedule c.lines c.facts h

from_zero : (c : Case) → computed 1 zero_tables c ≡ true → Holds c
unfolding replayed
from_zero c h = computed_shows 1 zero_tables c h

from_record_7 : (c : Case) → computed 8 tables7 c ≡ true → Holds (A7 c)
unfolding replayed A7
from_record_7 c h =
    let shows = computed_shows 8 tables7 c h in
    rw (to_record_7 c.schedule) (record { prints = ap lines_to7 shows.prints; ends_so = shows.ends_so })

A_computed : computed 8 tables7 edge_A ≡ true
unfolding computed tables7 nothing_more edge_A
A_computed = refl {a = true}

begin_computed : computed 1 zero_tables edge_begin ≡ true
unfolding computed edge_begin
begin_computed = refl {a = true}

end_computed : computed 1 zero_tables edge_end ≡ true
unfolding computed nothing_more edge_end
end_computed = refl {a = true}

cancel_computed : computed 8 tables7 edge_cancel ≡ true
unfolding computed tables7 edge_cancel
cancel_computed = refl {a = true}

held_computed : computed 8 tables7 edge_held ≡ true
unfolding computed tables7 nothing_more edge_held
held_computed = refl {a = true}

dropped_computed : computed 8 tables7 edge_dropped ≡ true
unfolding computed tables7 to_ask lines_to_ask edge_dropped
dropped_computed = refl {a = true}

again_computed : computed 8 tables7 edge_again ≡ true
unfolding computed tables7 to_ask lines_to_ask nothing_more edge_again
again_computed = refl {a = true}

received_computed : computed 8 tables7 edge_received ≡ true
unfolding computed tables7 edge_received
received_computed = refl {a = true}

kill_computed : computed 1 zero_tables edge_kill ≡ true
unfolding computed edge_kill
kill_computed = refl {a = true}

slot_computed : computed 1 zero_tables edge_slot ≡ true
unfolding computed nothing_more edge_slot
slot_computed = refl {a = true}

-- Those marked * are proved over the rules themselves, as a single list under a single statement.
pub cases_hold : AllHold cases
cases_hold =
    also (from_record_7 edge_A A_computed)
    (also (from_zero edge_begin begin_computed)
    (also (from_zero edge_end end_computed)
    (also (from_record_7 edge_cancel cancel_computed)
    (also (from_record_7 edge_held held_computed)
    (also (from_record_7 edge_dropped dropped_computed)
    (also (from_record_7 edge_again again_computed)
    (also (from_record_7 edge_received received_computed)
    (also (from_zero edge_kill kill_computed)
    (also (from_zero edge_slot slot_computed) none_left)))))))))
