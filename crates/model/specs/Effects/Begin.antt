-- Begin clears all; task 1 runs at place 0 as main task of finish 1, active.
use Rattle.std.specs.Prelude.{false, ℕ}
use Rattle.model.specs.Base.{upd}
use Rattle.model.specs.State.{State}
use Rattle.model.specs.Messages.{none}

-- n places, m slots
abbrev pub begun : ℕ → ℕ → State
begun n m =
    record {
      places = n;
      slots = m;
      dead = λ p. false;
      tasks = record {
        made = 1;
        from = λ t. 0;
        at = λ t. 0;
        finish = upd (λ t. 0) 1 1;
        status = upd (λ t. 0) 1 5;
        sent = λ t. 0;
        maker = λ t. 0;
      };
      finishes = record {
        made = 1;
        home = λ f. 0;
        opener = λ f. 0;
        parent = λ f. 0;
        status = upd (λ f. 0) 1 1;
        published = λ f. 0;
        main = upd (λ f. 0) 1 1;
      };
      books = record {
        present = λ f. 0;
        parent = λ f. 0;
        due = λ f. 0;
        adopted = λ f. 0;
        ghosts = λ f g. false;
        live = λ f i j. 0;
        sent = λ f i j. 0;
        asked = λ f i j. false;
      };
      locals = record {
        received = λ f j i. 0;
        reported = λ f j i. 0;
        live = λ f j. 0;
        denied = λ f j i. false;
      };
      slot = λ k. none;
    }
