-- The tables of a session are good: a taken begin makes them so, and every other record leaves them or is a move.
use mathlib.Core.Path.{◌≡◌, refl, sym, subst}
use mathlib.Core.Bool.{true, false}
use mathlib.Core.List.{List, [], ◌∷◌, ◌++◌}
use Prim.Native.Nat.{ℕ, ◌≤◌}
use native.Mathlib.Omega.{arith}
use lib.Dec.{eqb}
use borrow.Author.Tests.{eqb-true, leb-true}
use Rattle.tables.proofs.Walks.{every_each}
use Rattle.rules.specs.Action.{Action, unknown, spawn, open_finish, end, deliver, kill, adopt, cancel, ask, begin, action_of}
use Rattle.rules.specs.Begin.{begin_step}
use Rattle.rules.specs.Refusals.{not_there, answer}
use Rattle.rules.specs.Step.{step, after}
use Rattle.rules.specs.Sessions.{is_begin, takes_begin, no_begin, played}
use Rattle.rules.proofs.Taken.{StepTaken, taken, not-not}
use Rattle.model.specs.Base.Cases.{bool_cases, both}
use Rattle.model.specs.Inv.{Inv}
use Rattle.model.proofs.Steps.Begin.{begin_holds}
use Rattle.model.proofs.Keeps.{move_keeps}
use Rattle.model.proofs.Promises.Stays.{released_stays}
use Rattle.promises.specs.View.{view}
use Rattle.promises.proofs.Tests.{not_both}
use Rattle.promises.proofs.Rows.{read_places}
use Rattle.promises.proofs.Good.{Good, as_seen}
use Rattle.promises.proofs.SoundTables.{good_held}
use Rattle.promises.proofs.TieBegin.{tie_begin}
use Rattle.promises.proofs.StepBytes.{begin_bytes, action_bytes}
use Rattle.promises.proofs.Steps.{action_moves}
use Rattle.promises.proofs.Places.{move_places}

-- ---- a begin
begin_good : (n : ℕ) → 2 ≤ n → n ≤ 8 → Good (begin_step n)
begin_good n two most =
    let s = tie_begin n in
    record { whole = s.whole; bytes = begin_bytes n (omega arith); places_most = omega (arith, read_places s); inv = subst Inv (sym s.is) (begin_holds n 128 two) }

starts : {t : List ℕ} (x : Action) → is_begin x ≡ true → StepTaken t x → Good (step t x)
unfolding is_begin not_there step
starts unknown b own = both b refl
starts (spawn k p) b own = both b refl
starts (open_finish k) b own = both b refl
starts (end k) b own = both b refl
starts (deliver k) b own = both b refl
starts (kill p) b own = both b refl
starts (adopt f) b own = both b refl
starts (cancel f v) b own = both b refl
starts (ask f v j) b own = both b refl
starts (begin n) b own = let r = every_each _ (not-not _ own.there) in begin_good n (leb-true 2 n r.0) (leb-true n 8 r.1.0)

pub begun_good : (t b : List ℕ) → takes_begin t b ≡ true → Good (after t b)
unfolding takes_begin after
begun_good t b e =
    let w = every_each _ e in
    rw w.1.0 (starts (action_of b) w.0 (taken t b (eqb-true (answer t b) 0 w.1.0)).own)

-- ---- what comes after it: good tables, and what was released still is
pub record Follows (t u : List ℕ) : Type 0 where
  pub good : Good u
  pub released : (f : ℕ) → (view t).finishes.status f ≡ 4 → (view u).finishes.status f ≡ 4

module _ {t : List ℕ} (good : Good t) (r : List ℕ) (other : takes_begin t r ≡ false) where
  moves_on : eqb (answer t r) 0 ≡ true → Follows t (step t (action_of r))
  unfolding takes_begin
  moves_on e =
      let k = taken t r (eqb-true (answer t r) 0 e) in
      let x = action_of r in
      let n : is_begin (action_of r) ≡ false = bool_cases (is_begin (action_of r)) (λ b. both e (not_both _ _ other b)) (λ b. b) in
      let m = action_moves (good_held t good) good.inv x k.action n k.own in
      record {
        good = record {
          whole = m.1.whole;
          bytes = action_bytes (good_held t good) x n k.own;
          places_most = omega (arith, read_places m.1, move_places m.2, read_places (as_seen good), good.places_most);
          inv = subst Inv (sym m.1.is) (move_keeps good.inv m.2);
        };
        released = λ f q. rw m.1.is (released_stays f good.inv m.2 q);
      }

  pub follows : Follows t (after t r)
  unfolding after
  follows = bool_cases (eqb (answer t r) 0) (λ e. rw e (moves_on e)) (λ e. rw e (record { good = good; released = λ f q. q }))

pub all_follow : {t : List ℕ} → Good t → (rs : List (List ℕ)) → no_begin t rs ≡ true → Follows t (played t rs)
unfolding no_begin played
all_follow {t} good [] n = record { good = good; released = λ f q. q }
all_follow {t} good (r ∷ rs) n = bool_cases (takes_begin t r)
    (λ e. both n (rw e refl))
    (λ e. let o = follows good r e in let p = all_follow {t = after t r} o.good rs (rw e at n) in record { good = p.good; released = λ f q. p.released f (o.released f q) })

-- ---- records, and then later ones
pub played_later : (t : List ℕ) (rs later : List (List ℕ)) → played t (rs ++ later) ≡ played (played t rs) later
unfolding played
played_later t [] later = refl
played_later t (r ∷ rs) later = played_later (after t r) rs later

pub no_begin_first : (t : List ℕ) (rs later : List (List ℕ)) → no_begin t (rs ++ later) ≡ true → no_begin t rs ≡ true
unfolding no_begin
no_begin_first t [] later n = refl
no_begin_first t (r ∷ rs) later n = bool_cases (takes_begin t r) (λ e. both n (rw e refl)) (λ e. rw e (no_begin_first (after t r) rs later (rw e at n)))

pub no_begin_later : (t : List ℕ) (rs later : List (List ℕ)) → no_begin t (rs ++ later) ≡ true → no_begin (played t rs) later ≡ true
unfolding no_begin played
no_begin_later t [] later n = n
no_begin_later t (r ∷ rs) later n = bool_cases (takes_begin t r) (λ e. both n (rw e refl)) (λ e. no_begin_later (after t r) rs later (rw e at n))
