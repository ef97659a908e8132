-- Sums over the rows where one row is new.
use Rattle.std.specs.Prelude.{◌≡◌, refl, Bool, ℕ, suc, ◌+◌, ◌≤◌, ◌<◌}
use Rattle.std.proofs.Common.{arith}
use Rattle.model.specs.Base.{upd, upd_same, upd-below, sum, sum-suc, sum_ext, sum-upd}
use Rattle.model.specs.Weights.{weigh}

-- a new row with status v; keys of old rows are as they were
pub grown : (m : ℕ) (b b' : ℕ → Bool) (status : ℕ → ℕ) (v lo hi : ℕ) → ((x : ℕ) → x < suc m → b' x ≡ b x)
    → sum (suc (suc m)) (λ x. weigh (b' x) lo hi (upd status (suc m) v x)) ≡ sum (suc m) (λ x. weigh (b x) lo hi (status x)) + weigh (b' (suc m)) lo hi v
grown m b b' status v lo hi same =
    let last : weigh (b' (suc m)) lo hi (upd status (suc m) v (suc m)) ≡ weigh (b' (suc m)) lo hi v = rw upd_same refl in
    omega (
      arith,
      sum-suc (suc m) (λ x. weigh (b' x) lo hi (upd status (suc m) v x)),
      sum_ext (suc m) (λ x. weigh (b x) lo hi (status x)) (λ x. weigh (b' x) lo hi (upd status (suc m) v x)) (λ x h. rw (same x h, upd-below status (suc m) v x h) refl),
      last,
    )

-- besides, the row t becomes blocked
pub grown_blocked : (m t : ℕ) (b b' : ℕ → Bool) (status : ℕ → ℕ) (v lo hi : ℕ) → t ≤ m → ((x : ℕ) → x < suc m → b' x ≡ b x)
    → sum (suc (suc m)) (λ x. weigh (b' x) lo hi (upd (upd status t 6) (suc m) v x)) + weigh (b t) lo hi (status t)
    ≡ sum (suc m) (λ x. weigh (b x) lo hi (status x)) + weigh (b t) lo hi 6 + weigh (b' (suc m)) lo hi v
grown_blocked m t b b' status v lo hi l same =
    omega (arith, grown m b b' (upd status t 6) v lo hi same, sum-upd (suc m) (λ x w. weigh (b x) lo hi w) status t 6 (omega arith))
