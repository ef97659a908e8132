-- A table after a walk over parts in which its rows stand: row x is in part Y x, from its byte O x on.
use mathlib.Core.Path.{◌≡◌, refl, sym, ap, ◌∙◌, fun_ext}
use mathlib.Core.Bool.{Bool, cond, ◌&&◌}
use mathlib.Core.Logic.{inr}
use mathlib.Core.List.{List}
use Prim.Native.Nat.{ℕ, zero, suc, ◌+◌, ◌*◌, ◌≤◌, ◌<◌}
use native.Mathlib.Nat.{mul-suc, mul-le-mul_left}
use native.Mathlib.Omega.{arith}
use lib.Dec.{eqb, ltb}
use lib.ListN.{set, length, length-set, replicate, length-replicate}
use lib.Seq.{get_or-set_same, get_or-set_other}
use borrow.Author.Tests.{eq-eqb, ne_eqb, lt-ltb, ltb-true, ltb-false}
use Rattle.tables.specs.Bytes.{byte, part}
use Rattle.tables.specs.Walks.{change_parts}
use Rattle.tables.proofs.Writes.{byte-part, length_part}
use Rattle.tables.proofs.Changes.{Keeps, byte_change_in, byte_change_out}
use Rattle.model.specs.Base.Cases.{eq_cases, bool_cases, and_left, and_right}
use Rattle.promises.specs.View.{Table, within, cell}
use Rattle.promises.proofs.Cells.{within_split, within_true, cell_in, cell_out, cell_ext}

pub zeros_at : (n i : ℕ) → byte (replicate {A = ℕ} n 0) i ≡ 0
zeros_at zero i = refl
zeros_at (suc n) zero = refl
zeros_at (suc n) (suc i) = zeros_at n i

module _ (T : Table) (w i n k : ℕ) (t : List ℕ) (fits : k + w * n ≤ length t) (Y O : ℕ → ℕ)
    (stands : (x j : ℕ) → j < T.wide → T.first ≤ x → x < T.end → (T.at x j ≡ k + (w * Y x + (O x + j))) × (O x + j < w)) where
  -- the part in which row x stands
  abbrev pub its : ℕ → List ℕ
  its x = part t (k + w * Y x) w

  pub its_byte : (x j : ℕ) → j < T.wide → T.first ≤ x → x < T.end → byte (its x) (O x + j) ≡ cell t T x j
  its_byte x j a b c =
      let s = stands x j a b c in
      let z : k + w * Y x + (O x + j) ≡ T.at x j = omega (arith, s.0) in
      byte-part t (k + w * Y x) w (O x + j) s.1 ∙ ap (byte t) z ∙ sym (cell_in T t x j a b c)

  cell_parts : (g : List ℕ → ℕ → List ℕ) → Keeps g w
      → cell (change_parts g w i n k t) T ≡ (λ x j. cond (within T x j && ltb (Y x) n) (byte (g (its x) (i + Y x)) (O x + j)) (cell t T x j))
  cell_parts g keeps = cell_ext T (change_parts g w i n k t) (λ x j. cond (within T x j && ltb (Y x) n) (byte (g (its x) (i + Y x)) (O x + j)) (cell t T x j))
      (λ x j a b c. let s = stands x j a b c in rw (within_true T x j a b c, s.0) (bool_cases (ltb (Y x) n)
      (λ e. rw e (byte_change_in g w keeps n i k (Y x) (O x + j) t (ltb-true (Y x) n e) s.1 fits))
      (λ e. rw (e, cell_in T t x j a b c, s.0)
      (byte_change_out g w keeps n i k (k + (w * Y x + (O x + j))) t fits (inr (omega (arith, mul-le-mul_left {m = n} {n = Y x} w (ltb-false (Y x) n e))))))))
      (λ x j e. rw e (cell_out T t x j e))

  -- a walk that writes byte c of each part
  pub walk_set : (c : ℕ) (h : List ℕ → ℕ → ℕ) → c < w
      → cell (change_parts (λ m x. set m c (h m x)) w i n k t) T ≡ (λ x j. cond (eqb (O x + j) c && (within T x j && ltb (Y x) n)) (h (its x) (i + Y x)) (cell t T x j))
  walk_set c h hc = cell_parts (λ m x. set m c (h m x)) (λ m x l. length-set m c (h m x) ∙ l) ∙ fun_ext (λ x. fun_ext (λ j. bool_cases (within T x j && ltb (Y x) n)
      (λ e. let s = within_split T x j (and_left (within T x j) (ltb (Y x) n) e) in
      let l : length (its x) ≡ w = length_part t (k + w * Y x) w (omega (arith, mul-suc w (Y x), mul-le-mul_left {m = suc (Y x)} {n = n} w (ltb-true (Y x) n (and_right (within T x j) (ltb (Y x) n) e)))) in
      rw e (eq_cases (O x + j) c
      (λ d. rw (d, eq-eqb c c refl) (get_or-set_same (its x) c (h (its x) (i + Y x)) 0 (omega arith)))
      (λ d. rw (ne_eqb (O x + j) c d) (get_or-set_other (its x) c (O x + j) (h (its x) (i + Y x)) 0 d ∙ its_byte x j s.0 s.1 s.2))))
      (λ e. rw e (bool_cases (eqb (O x + j) c) (λ d. rw d refl) (λ d. rw d refl)))))

  -- a walk over all of its rows that makes the parts 0 where a test holds
  pub walk_clear : (b : List ℕ → ℕ → Bool) → ((x : ℕ) → T.first ≤ x → x < T.end → Y x < n)
      → cell (change_parts (λ m x. cond (b m x) (replicate w 0) m) w i n k t) T ≡ (λ x j. cond (b (its x) (i + Y x)) 0 (cell t T x j))
  walk_clear b all = cell_parts (λ m x. cond (b m x) (replicate w 0) m) keeps ∙ fun_ext (λ x. fun_ext (λ j. bool_cases (within T x j)
      (λ e. let s = within_split T x j e in
      rw (e, lt-ltb (Y x) n (all x s.1 s.2)) (bool_cases (b (its x) (i + Y x))
      (λ d. rw d (zeros_at w (O x + j))) (λ d. rw d (its_byte x j s.0 s.1 s.2))))
      (λ e. rw (e, cell_out T t x j e) (bool_cases (b (its x) (i + Y x)) (λ d. rw d refl) (λ d. rw d refl)))))
    where
      keeps : Keeps (λ m x. cond (b m x) (replicate w 0) m) w
      keeps m x l = bool_cases (b m x) (λ e. rw e (length-replicate {A = ℕ} w 0)) (λ e. rw e l)
