-- A change of each part in turn is a write of each part in turn: a loop of changes, the length and each byte after it.
use mathlib.Core.Path.{◌≡◌, refl, sym, ap, ◌∙◌}
use mathlib.Core.Logic.{◌⊎◌, inl, inr}
use mathlib.Core.List.{List, ◌++◌}
use Prim.Native.Nat.{ℕ, zero, suc, ◌+◌, ◌-◌, ◌*◌, ◌≤◌, ◌<◌}
use native.Mathlib.Nat.{add-zero, mul-suc, mul-zero}
use native.Mathlib.Numerals.{add-one}
use native.Mathlib.Omega.{arith}
use lib.ListN.{length, drop, take, length-append, length-drop, take-append-drop, get_or-append}
use lib.Seq.{drop-drop, length-take-le, drop-append-add, get_or-drop, get_or-take, get_or-append-add}
use Rattle.tables.specs.Bytes.{byte, part, write}
use Rattle.tables.specs.Walks.{each_part, change_parts}
use Rattle.tables.proofs.Writes.{write-append, write_mid}

pub change_none : (g : List ℕ → ℕ → List ℕ) (w i k : ℕ) (t : List ℕ) → t ≡ change_parts g w i 0 k t
unfolding change_parts each_part
change_none g w i k t = sym (take-append-drop k t)

pub change_done : (g : List ℕ → ℕ → List ℕ) (w i n k : ℕ) (t u : List ℕ) (j : ℕ) → n ≤ j → j ≤ n → u ≡ change_parts g w i j k t → u ≡ change_parts g w i n k t
change_done g w i n k t u j h l e = let z : j ≡ n = omega arith in e ∙ ap (λ (x : ℕ). change_parts g w i x k t) z

-- g makes as long a part of a part
abbrev pub Keeps : (List ℕ → ℕ → List ℕ) → ℕ → Type 0
Keeps g w = (m : List ℕ) (i : ℕ) → length m ≡ w → length (g m i) ≡ w

module _ (g : List ℕ → ℕ → List ℕ) (w : ℕ) (keeps : Keeps g w) where
  new-length : (i : ℕ) (m : List ℕ) → w ≤ length m → length (g (take w m) i) ≡ w
  new-length i m h = keeps (take w m) i (length-take-le w m h)

  -- one part more is one write more
  each_turn : (n i : ℕ) (m : List ℕ) → w * suc n ≤ length m
      → each_part g w i (suc n) m ≡ write (each_part g w i n m) (w * n) (g (take w (drop (w * n) m)) (i + n))
  unfolding each_part
  each_turn zero i m h =
      let hw : w ≤ length m = omega (arith, mul-suc w 0, mul-zero w) in
      let e : length (g (take w m) i) ≡ w = new-length i m hw in
      let z : 0 + length (g (take w m) i) ≡ w = omega arith in
      rw (mul-zero w, add-zero i) (sym (write_mid (g (take w m) i) m 0 (omega arith) ∙ ap (λ (k : ℕ). g (take w m) i ++ drop k m) z))
  each_turn (suc n) i m h =
      let hw : w ≤ length m = omega (arith, mul-suc w (suc n)) in
      let e : length (g (take w m) i) ≡ w = new-length i m hw in
      let hm : w * suc n ≤ length (drop w m) = rw (length-drop w m) (omega (arith, mul-suc w (suc n))) in
      let y : w + w * n ≡ w * suc n = omega (arith, mul-suc w n) in
      let z : length (g (take w m) i) + w * n ≡ w * suc n = omega arith in
      let x : suc i + n ≡ i + suc n = omega arith in
      ap (λ (r : List ℕ). g (take w m) i ++ r) (each_turn n (suc i) (drop w m) hm)
      ∙ sym (write-append (g (take w m) i) (each_part g w (suc i) n (drop w m)) (w * n) (g (take w (drop (w * n) (drop w m))) (suc i + n)))
      ∙ rw (z, drop-drop (w * n) w m, y, x) refl

  -- what comes after the parts done is as it was
  each_rest : (n i : ℕ) (m : List ℕ) → w * n ≤ length m → drop (w * n) (each_part g w i n m) ≡ drop (w * n) m
  unfolding each_part
  each_rest zero i m h = refl
  each_rest (suc n) i m h =
      let hw : w ≤ length m = omega (arith, mul-suc w n) in
      let e : length (g (take w m) i) ≡ w = new-length i m hw in
      let hm : w * n ≤ length (drop w m) = rw (length-drop w m) (omega (arith, mul-suc w n)) in
      let y : w + w * n ≡ w * suc n = omega (arith, mul-suc w n) in
      let z : w * suc n ≡ length (g (take w m) i) + w * n = omega arith in
      ap (λ (k : ℕ). drop k (g (take w m) i ++ each_part g w (suc i) n (drop w m))) z
      ∙ drop-append-add (g (take w m) i) (each_part g w (suc i) n (drop w m)) (w * n)
      ∙ each_rest n (suc i) (drop w m) hm
      ∙ drop-drop (w * n) w m ∙ ap (λ (k : ℕ). drop k m) y

  each_length : (n i : ℕ) (m : List ℕ) → w * n ≤ length m → length (each_part g w i n m) ≡ length m
  unfolding each_part
  each_length zero i m h = refl
  each_length (suc n) i m h =
      let hw : w ≤ length m = omega (arith, mul-suc w n) in
      let hm : w * n ≤ length (drop w m) = rw (length-drop w m) (omega (arith, mul-suc w n)) in
      length-append (g (take w m) i) (each_part g w (suc i) n (drop w m))
      ∙ omega (arith, new-length i m hw, each_length n (suc i) (drop w m) hm, length-drop w m)

  pub length_change : (n i k : ℕ) (t : List ℕ) → k + w * n ≤ length t → length (change_parts g w i n k t) ≡ length t
  unfolding change_parts
  length_change n i k t h =
      let hm : w * n ≤ length (drop k t) = rw (length-drop k t) (omega arith) in
      length-append (take k t) (each_part g w i n (drop k t))
      ∙ omega (arith, length-take-le k t (omega arith), each_length n i (drop k t) hm, length-drop k t)

  change_rest : (n i k : ℕ) (t : List ℕ) → k + w * n ≤ length t → drop (k + w * n) (change_parts g w i n k t) ≡ drop (k + w * n) t
  unfolding change_parts
  change_rest n i k t h =
      let l : length (take k t) ≡ k = length-take-le k t (omega arith) in
      let hm : w * n ≤ length (drop k t) = rw (length-drop k t) (omega arith) in
      ap (λ (x : ℕ). drop (x + w * n) (take k t ++ each_part g w i n (drop k t))) (sym l)
      ∙ drop-append-add (take k t) (each_part g w i n (drop k t)) (w * n)
      ∙ each_rest n i (drop k t) hm
      ∙ drop-drop (w * n) k t

  -- a turn of the loop, as the code has its facts: u' is u with part n, which is number x and stands at `at`, rewritten
  pub change_more : (n i k at x : ℕ) (t u u' : List ℕ) → k + w * (n + 1) ≤ length t → u ≡ change_parts g w i n k t
      → u' ≡ write u at (g (part u at w) x) → k + w * n ≡ at → i + n ≡ x → u' ≡ change_parts g w i (n + 1) k t
  unfolding change_parts part
  change_more n i k at x t u u' h e q place number =
      let hs : k + w * suc n ≤ length t = rw (← add-one n) h in
      let l : length (take k t) ≡ k = length-take-le k t (omega arith) in
      let hm : w * suc n ≤ length (drop k t) = rw (length-drop k t) (omega arith) in
      let z : k + w * n ≡ length (take k t) + w * n = omega arith in
      let rest = change_rest n i k t (omega (arith, mul-suc w n)) in
      let same : drop (k + w * n) u ≡ drop (w * n) (drop k t) = rw e (rest ∙ sym (drop-drop (w * n) k t)) in
      q ∙ rw (← place, ← number, same, e, z, add-one n)
      (write-append (take k t) (each_part g w i n (drop k t)) (w * n) (g (take w (drop (w * n) (drop k t))) (i + n))
      ∙ ap (λ (r : List ℕ). take k t ++ r) (sym (each_turn n i (drop k t) hm)))

  -- each byte: of the parts, and of what stands before and after them
  each_in : (n i y j : ℕ) (m : List ℕ) → y < n → j < w → w * n ≤ length m → byte (each_part g w i n m) (w * y + j) ≡ byte (g (take w (drop (w * y) m)) (i + y)) j
  unfolding each_part
  each_in zero i y j m a b h = absurd (omega arith)
  each_in (suc n) i zero j m a b h =
      let e : length (g (take w m) i) ≡ w = new-length i m (omega (arith, mul-suc w n)) in
      let z : w * 0 + j ≡ j = omega (arith, mul-zero w) in
      rw (z, mul-zero w, add-zero i) (get_or-append (g (take w m) i) (each_part g w (suc i) n (drop w m)) 0 j (omega arith))
  each_in (suc n) i (suc y) j m a b h =
      let e : length (g (take w m) i) ≡ w = new-length i m (omega (arith, mul-suc w n)) in
      let hm : w * n ≤ length (drop w m) = rw (length-drop w m) (omega (arith, mul-suc w n)) in
      let z : w * suc y + j ≡ length (g (take w m) i) + (w * y + j) = omega (arith, mul-suc w y) in
      let v : w * suc y ≡ w + w * y = omega (arith, mul-suc w y) in
      let u : i + suc y ≡ suc i + y = omega arith in
      ap (λ (k : ℕ). byte (g (take w m) i ++ each_part g w (suc i) n (drop w m)) k) z
      ∙ get_or-append-add (g (take w m) i) (each_part g w (suc i) n (drop w m)) (w * y + j) 0
      ∙ each_in n (suc i) y j (drop w m) (omega arith) b hm
      ∙ rw (drop-drop (w * y) w m, v, u) refl

  pub byte_change_in : (n i k y j : ℕ) (t : List ℕ) → y < n → j < w → k + w * n ≤ length t
      → byte (change_parts g w i n k t) (k + (w * y + j)) ≡ byte (g (part t (k + w * y) w) (i + y)) j
  unfolding change_parts part
  byte_change_in n i k y j t a b h =
      let e : length (take k t) ≡ k = length-take-le k t (omega arith) in
      let hm : w * n ≤ length (drop k t) = rw (length-drop k t) (omega arith) in
      let z : k + (w * y + j) ≡ length (take k t) + (w * y + j) = omega arith in
      ap (λ (x : ℕ). byte (take k t ++ each_part g w i n (drop k t)) x) z
      ∙ get_or-append-add (take k t) (each_part g w i n (drop k t)) (w * y + j) 0
      ∙ each_in n i y j (drop k t) a b hm
      ∙ rw (drop-drop (w * y) k t) refl

  pub byte_change_out : (n i k q : ℕ) (t : List ℕ) → k + w * n ≤ length t → (q < k) ⊎ (k + w * n ≤ q) → byte (change_parts g w i n k t) q ≡ byte t q
  unfolding change_parts
  byte_change_out n i k q t h (inl b) =
      let e : length (take k t) ≡ k = length-take-le k t (omega arith) in
      get_or-append (take k t) (each_part g w i n (drop k t)) 0 q (omega arith) ∙ get_or-take k t q 0 b
  byte_change_out n i k q t h (inr b) =
      let z : q ≡ k + w * n + (q - (k + w * n)) = omega arith in
      rw z (sym (get_or-drop (k + w * n) (change_parts g w i n k t) (q - (k + w * n)) 0)
      ∙ ap (λ (r : List ℕ). byte r (q - (k + w * n))) (change_rest n i k t h)
      ∙ get_or-drop (k + w * n) t (q - (k + w * n)) 0)
