-- Deliver of tag 1: the climb is to the nearest ancestor with a store book, and the rule's tables are seen as the model's effect.
use mathlib.Core.Path.{◌≡◌, refl, ap}
use mathlib.Core.Bool.{Bool, true, false}
use mathlib.Core.List.{List}
use Prim.Native.Nat.{ℕ, zero, suc, ◌≤◌, ◌<◌}
use native.Mathlib.Omega.{arith}
use borrow.Author.Tests.{ne_eqb}
use Rattle.tables.specs.Walks.{some_of}
use Rattle.rules.specs.Fields.{parent}
use Rattle.rules.specs.Messages.{published}
use Rattle.rules.specs.Deliver
use Rattle.rules.specs.Deliver.{climb_stops, nearest}
use Rattle.model.specs.Base.Cases.{eq_cases}
use Rattle.model.specs.State.{State}
use Rattle.model.specs.Nesting.{Nearest, none_above, found, higher}
use Rattle.model.specs.Effects.Deliver.{deliver_publish}
use Rattle.promises.proofs.Seen.{Seen}
use Rattle.promises.proofs.Rows.{read_parent, read_home}
use Rattle.promises.proofs.Slots.{seen_send}
use Rattle.promises.proofs.BookCells.{read_present}
use Rattle.promises.proofs.NewBooks.{seen_new_book}

climb_ends : (t : List ℕ) (n f : ℕ) → climb_stops t f ≡ true → nearest t (suc n) f ≡ f
unfolding nearest
climb_ends t n f e = ap (λ (b : Bool). elim b as (λ _. ℕ) [ true ↦ f | false ↦ nearest t n (parent t f) ]) e

climb_goes_on : (t : List ℕ) (n f : ℕ) → climb_stops t f ≡ false → nearest t (suc n) f ≡ nearest t n (parent t f)
unfolding nearest
climb_goes_on t n f e = ap (λ (b : Bool). elim b as (λ _. ℕ) [ true ↦ f | false ↦ nearest t n (parent t f) ]) e

-- made numbers up to m: parents fall, and present is a mark
module _ {t : List ℕ} {a : State} (s : Seen t a) (m : ℕ) (m32 : m ≤ 32)
    (falls : (x : ℕ) → 0 < x → x ≤ m → a.finishes.parent x < x) (mark : (x : ℕ) → 0 < x → x ≤ m → a.books.present x ≤ 1) where
  pub climb : (n f : ℕ) → f < n → f ≤ m → Nearest a.finishes.parent a.books.present f (nearest t n f)
  unfolding climb_stops some_of
  climb zero f h l = absurd (omega arith)
  climb (suc n) f h l = eq_cases f 0
      (λ e. rw (climb_ends t n f (rw e refl), e) none_above)
      (λ e. let f0 : 0 < f = omega arith in let f33 : f < 33 = omega arith in
      let up = falls f f0 l in
      eq_cases (a.books.present f) 1
      (λ y. rw (climb_ends t n f (rw (ne_eqb f 0 e, read_present s f f0 f33, y) refl)) (found f0 y))
      (λ y. rw (climb_goes_on t n f (rw (ne_eqb f 0 e, read_present s f f0 f33, ne_eqb (a.books.present f) 1 y) refl), read_parent s f f0 f33)
      (higher f0 (omega (arith, mark f f0 l)) (climb n (a.finishes.parent f) (omega arith) (omega arith)))))

pub tie_deliver_publish : {t : List ℕ} {a : State} → Seen t a → (k f x : ℕ) → k < 128 → (a.slot k).finish ≡ f → (a.slot k).task ≡ x → 0 < f → f < 33 → a.finishes.home f < 8
    → Seen (Deliver.deliver_publish t k f x) (deliver_publish a k (nearest t 32 (a.finishes.parent f)))
unfolding Deliver.deliver_publish
tie_deliver_publish {t} {a} s k f x k128 is_finish is-task f0 f33 h8 =
    rw (is_finish, is-task, read_home s f f0 f33, read_parent s f f0 f33)
    (seen_send (seen_new_book (a.finishes.home f) (nearest t 32 (a.finishes.parent f)) h8 s f f0 f33) k k128 (published f x) tt)
