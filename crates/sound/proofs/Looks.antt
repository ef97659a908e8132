-- The rules' tests of a row look only at the row's own bytes.
use Rattle.std.proofs.Common.{◌≡◌, ℕ, ◌<◌, ◌≤◌, List, [], ◌∷◌, take, drop, refl, arith, leb}
use Rattle.std.proofs.lemmas.List.{get_or-take, drop-take, take-take}
use Rattle.tables.specs.Bytes.{byte, part}
use Rattle.tables.specs.Walks.{every}
use Rattle.rules.specs.Messages.{message_in, tagged}
use Rattle.rules.specs.Sound.{task_fits, finish_fits, book_fits, message_fits, task_sound, finish_sound, book_sound, slot_sound}

-- a test of the first six bytes
six_bytes : {A : Type 0} (q : ℕ → ℕ → ℕ → ℕ → ℕ → ℕ → A) (l : ℕ) (m : List ℕ) → 5 < l
    → q (byte (take l m) 0) (byte (take l m) 1) (byte (take l m) 2) (byte (take l m) 3) (byte (take l m) 4) (byte (take l m) 5) ≡ q (byte m 0) (byte m 1) (byte m 2) (byte m 3) (byte m 4) (byte m 5)
six_bytes q l m h =
    let same : (j : ℕ) → j ≤ 5 → byte (take l m) j ≡ byte m j = λ j k. get_or-take l m j 0 (omega arith) in
    rw (same 0 (omega arith), same 1 (omega arith), same 2 (omega arith), same 3 (omega arith), same 4 (omega arith), same 5 (omega arith)) refl

pub task_looks : (ps fs : ℕ) (m : List ℕ) (x : ℕ) → task_sound ps fs (take 8 m) x ≡ task_sound ps fs m x
unfolding task_sound
task_looks ps fs m x = six_bytes (task_fits ps fs x) 8 m (omega arith)

pub finish_looks : (ps ts : ℕ) (m : List ℕ) (x : ℕ) → finish_sound ps ts (take 8 m) x ≡ finish_sound ps ts m x
unfolding finish_sound
finish_looks ps ts m x = six_bytes (finish_fits ps ts x) 8 m (omega arith)

pub book_looks : (fs : ℕ) (m : List ℕ) (x : ℕ) → book_sound fs (take 8 m) x ≡ book_sound fs m x
unfolding book_sound
book_looks fs m x = six_bytes (λ a b c d _ _. book_fits fs x a b c d) 8 m (omega arith)

pub slot_looks : (ps ts fs : ℕ) (m : List ℕ) (x : ℕ) → slot_sound ps ts fs (take 16 m) x ≡ slot_sound ps ts fs m x
unfolding slot_sound message_in part
slot_looks ps ts fs m x =
    rw (drop-take 8 8 m, take-take 8 8 (drop 8 m) (omega arith))
    (six_bytes (λ tag f k v j n. every (leb tag 11 ∷ message_fits ps ts fs (tagged tag f k v j n (take 8 (drop 8 m))) ∷ [])) 16 m (omega arith))
