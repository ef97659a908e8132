-- The lent tables are a list of bytes. One byte, a part and a run of bytes are read and written here, total on any list.
use Rattle.std.specs.Prelude.{List, [], ◌∷◌, ℕ, zero, suc, get_or, drop, take}

-- the byte at place k; 0 past the end
abbrev pub byte : List ℕ → ℕ → ℕ
byte t k = get_or t k 0

-- the n bytes from place k on
unfoldable pub part : List ℕ → ℕ → ℕ → List ℕ
part t k n = take n (drop k t)

-- the front of t replaced by vs; nothing is written past the end
unfoldable pub over : List ℕ → List ℕ → List ℕ
over [] t = t
over (v ∷ vs) [] = []
over (v ∷ vs) (x ∷ t) = v ∷ over vs t

-- the bytes from place k on replaced by vs
unfoldable pub write : List ℕ → ℕ → List ℕ → List ℕ
write [] k vs = []
write (x ∷ t) zero vs = over vs (x ∷ t)
write (x ∷ t) (suc k) vs = x ∷ write t k vs
