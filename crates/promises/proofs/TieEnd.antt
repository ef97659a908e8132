-- End, in its four ways: the rule's tables are seen as the model's effect.
use mathlib.Core.Path.{◌≡◌, refl, sym, ap, ◌∙◌}
use mathlib.Core.Bool.{true, false, cond}
use mathlib.Core.List.{List}
use Prim.Native.Nat.{ℕ, ◌-◌, ◌<◌}
use native.Mathlib.Omega.{arith}
use lib.Dec.{eqb}
use lib.ListN.{set, length, length-set}
use lib.Seq.{get_or-set_same, get_or-set_other}
use borrow.Author.Tests.{eq-eqb, ne_eqb}
use Rattle.tables.specs.Bytes.{byte}
use Rattle.rules.specs.Messages.{no_counts, report}
use Rattle.rules.specs.End
use Rattle.rules.specs.End.{less_each, received_row, reported_row}
use Rattle.model.specs.Base.Cases.{eq_cases}
use Rattle.model.specs.Base.Updates.{upd, on, on_true, on_false, is₂, is₂-cases, is₂_same}
use Rattle.model.specs.State.{State, with_task_status, with_finish_status, with_local_live, with_reported, with_slot}
use Rattle.model.specs.Messages
use Rattle.model.specs.Effects.End.{end_unpublished, end_published, end_other, end_last}
use Rattle.promises.proofs.Seen.{Seen, same}
use Rattle.promises.proofs.Walks.{zeros_at}
use Rattle.promises.proofs.Rows.{read_opener, seen_task_status, seen_finish_status, seen_runs}
use Rattle.promises.proofs.Slots.{seen_send}
use Rattle.promises.proofs.LocalCells.{read_local_live, read_received_row, read_reported_row, received_row_length, seen_local_live, seen_reported}
use Rattle.rules.proofs.Less.{less_at, less_length}

-- count 1 for h
home_count : (h : ℕ) → h < 8 → (i : ℕ) → byte (set no_counts h 1) i ≡ on (eqb h i) 1
unfolding no_counts
home_count h h8 i = eq_cases h i
    (λ e. rw (← e, eq-eqb h h refl, on_true true 1 refl) (get_or-set_same no_counts h 1 0 h8))
    (λ e. rw (ne_eqb h i e, on_false false 1 refl) (get_or-set_other no_counts h i 1 0 (λ z. e (sym z)) ∙ zeros_at 8 i))

home-counts-length : (h : ℕ) → length (set no_counts h 1) ≡ 8
unfolding no_counts
home-counts-length h = length-set no_counts h 1

-- a cell lowered by one
lower₂ : (g : ℕ → ℕ → ℕ) (a b x y v : ℕ) → v ≡ g a b - 1 → cond (is₂ a b x y) v (g x y) ≡ g x y - on (is₂ a b x y) 1
lower₂ g a b x y v h = is₂-cases a b x y
    (λ p q. rw (h, sym p, sym q, is₂_same a b, on_true true 1 refl) refl)
    (λ e. rw (e, on_false false 1 refl) (omega arith))

-- reported becomes received, at one book
moved : (g r : ℕ → ℕ → ℕ → ℕ) (a b x y i v : ℕ) → v ≡ r a b i → cond (is₂ a b x y) v (g x y i) ≡ cond (is₂ a b x y) (r x y i) (g x y i)
moved g r a b x y i v h = is₂-cases a b x y (λ p q. rw (h, sym p, sym q, is₂_same a b) refl) (λ e. rw e refl)

module _ {t : List ℕ} {a : State} (s : Seen t a) (k f : ℕ) (k0 : 0 < k) (k256 : k < 256) (is : a.tasks.finish k ≡ f) (f0 : 0 < f) (f33 : f < 33) where
  pub tie_end_unpublished : a.finishes.opener f < 256 → Seen (End.end_unpublished t k f) (end_unpublished a k)
  unfolding End.end_unpublished
  tie_end_unpublished o = rw (is, read_opener s f f0 f33) (seen_runs (seen_finish_status (seen_task_status s k 7 k0 k256) f 4 f0 f33) (a.finishes.opener f) o)

  pub tie_end_published : (i : ℕ) → i < 128 → a.finishes.home f < 8 → Seen (End.end_published t k f (a.finishes.home f) i) (end_published a k i)
  unfolding End.end_published
  tie_end_published i i128 h8 =
      let h = a.finishes.home f in
      rw is (same (seen_send (seen_finish_status (seen_task_status s k 7 k0 k256) f 3 f0 f33) i i128 (report f h (set no_counts h 1)) (home-counts-length h))
      (λ z. with_slot (upd a.slot i (Messages.report f h (λ j. home_count h h8 j z))) (with_finish_status (upd a.finishes.status f 3) (with_task_status (upd a.tasks.status k 7) a))))

  module _ (p : ℕ) (is_at : a.tasks.at k ≡ p) (p8 : p < 8) where
    pub tie_end_earlier : Seen (End.end_earlier t k f p) (end_other a k)
    unfolding End.end_earlier
    tie_end_earlier =
        rw (is, is_at) (same (seen_local_live (seen_task_status s k 7 k0 k256) f p f0 f33 p8 _)
        (λ z. with_local_live (λ x y. lower₂ a.locals.live f p x y _ (ap (λ n. n - 1) (read_local_live s f p f0 f33 p8)) z) (with_task_status (upd a.tasks.status k 7) a)))

    pub tie_end_last : (i : ℕ) → i < 128 → a.locals.live f p ≡ 1 → Seen (End.end_last t k f p i) (end_last a k i)
    unfolding End.end_last
    tie_end_last i i128 one =
        let R = received_row t f p in
        let n : length R ≡ 8 = received_row_length s f p f0 f33 p8 in
        rw (is, is_at) (same (seen_send (seen_reported (seen_local_live (seen_task_status s k 7 k0 k256) f p f0 f33 p8 0) f p f0 f33 p8 R n) i i128 (report f p (less_each R (reported_row t f p))) (less_length R (reported_row t f p) ∙ n))
        (λ z. with_slot (upd a.slot i (Messages.report f p (λ j. count j z)))
        (with_reported (λ x y j. moved a.locals.reported a.locals.received f p x y j (byte R j) (read_received_row s f p f0 f33 p8 j) z)
        (with_local_live (λ x y. lower₂ a.locals.live f p x y 0 (omega arith) z) (with_task_status (upd a.tasks.status k 7) a)))))
      where
        count : (j : ℕ) → byte (less_each (received_row t f p) (reported_row t f p)) j ≡ a.locals.received f p j - a.locals.reported f p j
        count j = less_at (received_row t f p) (reported_row t f p) j ∙ rw (read_received_row s f p f0 f33 p8 j, read_reported_row s f p f0 f33 p8 j) refl
