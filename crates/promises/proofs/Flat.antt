-- Arrays of three indices, held eight rows to a finish: after a write of one cell, of one row, of all rows of a finish, of one row of each.
use mathlib.Core.Path.{◌≡◌, refl, sym, ◌∙◌, fun_ext}
use mathlib.Core.Bool.{true, false, cond, ◌&&◌}
use Prim.Native.Nat.{ℕ, ◌+◌, ◌-◌, ◌*◌, ◌/◌, ◌%◌, ◌≤◌, ◌<◌}
use native.Mathlib.Omega.{arith}
use lib.Dec.{eqb, ltb, leb}
use borrow.Author.Tests.{eq-eqb, ne_eqb, ltb-true, ltb-false, leb-true, lt-ltb, le-leb}
use Rattle.model.specs.Base.Cases.{eq_cases, bool_cases, and_left, and_right, both}
use Rattle.model.specs.Base.Updates.{upd, upd_same, upd_other, is₂, is₃, is₂_same, is₃_same, is₂-cases, is₃-cases}
use Rattle.promises.specs.View.{flat}
use Rattle.promises.proofs.Cells.{upd_cell}

pub flat_in : (c : ℕ → ℕ → ℕ) (f i j : ℕ) → 0 < f → i < 8 → flat c f i j ≡ c (8 * (f - 1) + i) j
unfolding flat
flat_in c f i j a b = rw (lt-ltb i 8 b, le-leb 1 f a)

flat_out : (c : ℕ → ℕ → ℕ) (f i j : ℕ) → (ltb i 8 && leb 1 f) ≡ false → flat c f i j ≡ 0
unfolding flat
flat_out c f i j e = rw e

pub flat_ext : (c : ℕ → ℕ → ℕ) (g : ℕ → ℕ → ℕ → ℕ)
    → ((f i j : ℕ) → 0 < f → i < 8 → c (8 * (f - 1) + i) j ≡ g f i j) → ((f i j : ℕ) → (ltb i 8 && leb 1 f) ≡ false → g f i j ≡ 0)
    → flat c ≡ g
flat_ext c g h z = fun_ext (λ f. fun_ext (λ i. fun_ext (λ j. bool_cases (ltb i 8 && leb 1 f)
    (λ e. let a = leb-true 1 f (and_right (ltb i 8) (leb 1 f) e) in let b = ltb-true i 8 (and_left (ltb i 8) (leb 1 f) e) in
    flat_in c f i j a b ∙ h f i j a b)
    (λ e. flat_out c f i j e ∙ sym (z f i j e)))))

-- 0 outside the square, where rows have eight columns
pub flat_off : (c : ℕ → ℕ → ℕ) → ((y j : ℕ) → 8 ≤ j → c y j ≡ 0) → (f i j : ℕ) → (ltb i 8 && ltb j 8) ≡ false → flat c f i j ≡ 0
unfolding flat
flat_off c z f i j e = bool_cases (ltb i 8)
    (λ p. rw p (bool_cases (leb 1 f)
    (λ q. rw q (z (8 * (f - 1) + i) j (bool_cases (ltb j 8) (λ l. both (rw (p, l) refl) e) (λ l. ltb-false j 8 l))))
    (λ q. rw q refl)))
    (λ p. rw p refl)

module _ (c : ℕ → ℕ → ℕ) (k a : ℕ) (pos : 0 < k) (small : a < 8) where
  there : (ltb a 8 && leb 1 k) ≡ true
  there = rw (lt-ltb a 8 small, le-leb 1 k pos)

  pub flat-set : (b v : ℕ) → flat (upd_cell c (8 * (k - 1) + a) b v) ≡ (λ f i j. cond (is₃ k a b f i j) v (flat c f i j))
  flat-set b v = flat_ext (upd_cell c (8 * (k - 1) + a) b v) (λ f i j. cond (is₃ k a b f i j) v (flat c f i j))
      (λ f i j p s. is₃-cases k a b f i j
      (λ x y z. rw (sym x, sym y, sym z, is₃_same k a b, eq-eqb b b refl, upd_same (λ y. c y b) (8 * (k - 1) + a) v) refl)
      (λ e. rw (e, flat_in c f i j p s) (eq_cases j b
      (λ z. rw (eq-eqb j b z) (upd_other (λ y. c y j) (8 * (k - 1) + a) v (8 * (f - 1) + i)
      (λ q. let x : f ≡ k = omega arith in let y : i ≡ a = omega arith in both (rw (x, y, z) (is₃_same k a b)) e)))
      (λ z. rw (ne_eqb j b z) refl))))
      (λ f i j n. is₃-cases k a b f i j (λ x y z. both there (rw (x, y) n)) (λ e. rw e (flat_out c f i j n)))

  pub flat_row : (r : ℕ → ℕ) → flat (upd c (8 * (k - 1) + a) r) ≡ (λ f i j. cond (is₂ k a f i) (r j) (flat c f i j))
  flat_row r = flat_ext (upd c (8 * (k - 1) + a) r) (λ f i j. cond (is₂ k a f i) (r j) (flat c f i j))
      (λ f i j p s. is₂-cases k a f i
      (λ x y. rw (sym x, sym y, is₂_same k a, upd_same c (8 * (k - 1) + a) r) refl)
      (λ e. rw (
        e,
        flat_in c f i j p s,
        upd_other c (8 * (k - 1) + a) r (8 * (f - 1) + i)
            (λ q. let x : f ≡ k = omega arith in let y : i ≡ a = omega arith in both (rw (x, y) (is₂_same k a)) e),
      ) refl))
      (λ f i j n. is₂-cases k a f i (λ x y. both there (rw (x, y) n)) (λ e. rw e (flat_out c f i j n)))

-- all rows of k
pub flat_square : (c : ℕ → ℕ → ℕ) (k : ℕ) (r : ℕ → ℕ → ℕ) → 0 < k → ((i j : ℕ) → 8 ≤ i → r i j ≡ 0)
    → flat (λ y j. cond (eqb (y / 8) (k - 1)) (r (y % 8) j) (c y j)) ≡ upd (flat c) k r
flat_square c k r pos z = flat_ext (λ y j. cond (eqb (y / 8) (k - 1)) (r (y % 8) j) (c y j)) (upd (flat c) k r)
    (λ f i j p s. let d : (8 * (f - 1) + i) / 8 ≡ f - 1 = omega arith in let o : (8 * (f - 1) + i) % 8 ≡ i = omega arith in
    rw (d, o) (eq_cases f k
    (λ e. rw (e, eq-eqb (k - 1) (k - 1) refl, upd_same (flat c) k r) refl)
    (λ e. rw (ne_eqb (f - 1) (k - 1) (λ q. e (omega arith)), upd_other (flat c) k r f e) (sym (flat_in c f i j p s)))))
    (λ f i j n. eq_cases f k
    (λ e. rw (e, upd_same (flat c) k r) (z i j (bool_cases (ltb i 8) (λ l. both (rw (l, le-leb 1 k pos) refl) (rw e at n)) (λ l. ltb-false i 8 l))))
    (λ e. rw (upd_other (flat c) k r f e) (flat_out c f i j n)))

-- row p of each finish becomes 0
pub flat_clear : (c : ℕ → ℕ → ℕ) (p : ℕ) → flat (λ y j. cond (eqb (y % 8) p) 0 (c y j)) ≡ (λ f i j. cond (eqb i p) 0 (flat c f i j))
flat_clear c p = flat_ext (λ y j. cond (eqb (y % 8) p) 0 (c y j)) (λ f i j. cond (eqb i p) 0 (flat c f i j))
    (λ f i j a b. let e : (8 * (f - 1) + i) % 8 ≡ i = omega arith in rw (e, flat_in c f i j a b) refl)
    (λ f i j n. bool_cases (eqb i p) (λ e. rw e refl) (λ e. rw e (flat_out c f i j n)))
