-- What a row of a status counts for in the sums over tasks and finishes.
use Rattle.std.specs.Prelude.{◌≡◌, refl, Bool, true, false, ◌&&◌, ℕ, suc, ◌≤◌, ◌<◌, leb}
use Rattle.std.proofs.Common.{arith, le-leb, leb-true}
use Rattle.model.specs.Base.{on, on_true, on_false, on_zero, on-cases, and_left, and_right, bool_cases, sum, is₂}
use Rattle.model.specs.State.{State}

-- 1 for a row that passes a test of its key, with a status from lo to hi
unfoldable pub weigh : Bool → ℕ → ℕ → ℕ → ℕ
weigh b lo hi v = on b (on (leb lo v && leb v hi) 1)

pub weigh_in : (b : Bool) (lo hi v : ℕ) → lo ≤ v → v ≤ hi → weigh b lo hi v ≡ on b 1
unfolding weigh
weigh_in b lo hi v p q = rw (le-leb lo v p, le-leb v hi q, on_true true 1 refl)

pub weigh_out : (b : Bool) (lo hi v : ℕ) → (lo ≤ v → v ≤ hi → ⊥) → weigh b lo hi v ≡ 0
unfolding weigh
weigh_out b lo hi v n = bool_cases (leb lo v && leb v hi)
    (λ e. absurd (n (leb-true lo v (and_left (leb lo v) (leb v hi) e)) (leb-true v hi (and_right (leb lo v) (leb v hi) e))))
    (λ e. rw (on_false (leb lo v && leb v hi) 1 e) (on_zero b))

pub weigh_off : (b : Bool) (lo hi v : ℕ) → b ≡ false → weigh b lo hi v ≡ 0
unfolding weigh
weigh_off b lo hi v e = on_false b (on (leb lo v && leb v hi) 1) e

pub weigh-le : (b : Bool) (lo hi v : ℕ) → weigh b lo hi v ≤ on b 1
unfolding weigh on
weigh-le b lo hi v = go b (leb lo v && leb v hi)
  where
    go : (b c : Bool) → on b (on c 1) ≤ on b 1
    go true true = omega arith
    go true false = omega arith
    go false c = omega arith

-- what is counted has its key and its status
pub weigh_some : (b : Bool) (lo hi v : ℕ) → 0 < weigh b lo hi v → (b ≡ true) × (lo ≤ v) × (v ≤ hi)
unfolding weigh
weigh_some b lo hi v h = on-cases b (on (leb lo v && leb v hi) 1) h (λ t h₁. on-cases (leb lo v && leb v hi) 1 h₁ (λ e _.
    (t, leb-true lo v (and_left (leb lo v) (leb v hi) e), leb-true v hi (and_right (leb lo v) (leb v hi) e))))

-- the sum over the tasks, or over the finishes, of the rows with key b and status from lo to hi
abbrev pub tasks_with : State → (ℕ → Bool) → ℕ → ℕ → ℕ
tasks_with s b lo hi = sum (suc s.tasks.made) (λ t. weigh (b t) lo hi (s.tasks.status t))

abbrev pub finishes_with : State → (ℕ → Bool) → ℕ → ℕ → ℕ
finishes_with s b lo hi = sum (suc s.finishes.made) (λ f. weigh (b f) lo hi (s.finishes.status f))

-- the main task's count in the home's own cell: from the publish on, and once it ended
abbrev pub mainly : State → ℕ → ℕ → ℕ → ℕ
mainly s f i j = on (is₂ (s.finishes.home f) (s.finishes.home f) i j) 1

abbrev pub ended : State → ℕ → ℕ → ℕ → ℕ
ended s f i j = weigh (is₂ (s.finishes.home f) (s.finishes.home f) i j) 3 5 (s.finishes.status f)
