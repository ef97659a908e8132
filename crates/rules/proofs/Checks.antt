-- What the proof of a check unfolds: the refusals after 7, 1 and 8, to their tests.
use Rattle.std.specs.Prelude.{⊤}
use Rattle.tables.specs.Walks.{every, some_of}
use Rattle.rules.specs.Refusals.{step_answer, step_refusals, first_of, not_there, wrong_place, not_ready, must_wait, no_room, unwanted}

unfoldable pub refusal_tests : ⊤
unfolding step_answer step_refusals first_of not_there wrong_place not_ready must_wait no_room unwanted every some_of
refusal_tests = tt
