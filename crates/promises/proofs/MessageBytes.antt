-- Messages of bytes, and the small writes that the rules share.
use mathlib.Core.Bool.{Bool, true, false, cond, ◌||◌}
use mathlib.Core.List.{List}
use Prim.Native.Nat.{ℕ, zero, suc, ◌+◌, ◌*◌, ◌<◌}
use native.Mathlib.Omega.{arith}
use lib.Dec.{eqb}
use lib.ListN.{drop}
use lib.Seq.{get_or-drop}
use borrow.Author.Tests.{ne_eqb}
use Rattle.tables.specs.Bytes.{byte, part}
use Rattle.tables.specs.Bits.{bit_at, with_mark}
use Rattle.tables.specs.Layout.{place, task_row}
use Rattle.tables.proofs.Bits.{mask_lt}
use Rattle.rules.specs.Fields.{runs}
use Rattle.rules.specs.Messages.{Message, none, publish, published, transit, granted, denied, task, report, release, ghost_ended, count_dropped, dropped, message, no_counts, bytes_of, tagged, message_in, message_at, from_slot, send, slot_place}
use Rattle.promises.proofs.Bytes.{Bytes, bytes_set, bytes_write, bytes_part, bytes_more, bytes_zeros}

-- ---- messages of bytes
abbrev pub Small : Message → Type 0
Small none = Unit
Small (publish f k) = (f < 256) × (k < 256)
Small (published f k) = (f < 256) × (k < 256)
Small (transit f k v j) = (f < 256) × (k < 256) × (v < 256) × (j < 256)
Small (granted f k v j) = (f < 256) × (k < 256) × (v < 256) × (j < 256)
Small (denied f k v j) = (f < 256) × (k < 256) × (v < 256) × (j < 256)
Small (task f k v j) = (f < 256) × (k < 256) × (v < 256) × (j < 256)
Small (report f v counts) = (f < 256) × (v < 256) × Bytes counts
Small (release f) = f < 256
Small (ghost_ended q g) = (q < 256) × (g < 256)
Small (count_dropped f k v j n) = (f < 256) × (k < 256) × (v < 256) × (j < 256) × (n < 256)
Small (dropped f k v j n) = (f < 256) × (k < 256) × (v < 256) × (j < 256) × (n < 256)

small_fields : (tag f k v j n : ℕ) {counts : List ℕ} → tag < 256 → f < 256 → k < 256 → v < 256 → j < 256 → n < 256 → Bytes counts → Bytes (message tag f k v j n counts)
unfolding message
small_fields tag f k v j n a b c d e g h = bytes_more a (bytes_more b (bytes_more c (bytes_more d (bytes_more e (bytes_more g (bytes_more (omega arith) (bytes_more (omega arith) h)))))))

small_bytes : (x : Message) → Small x → Bytes (bytes_of x)
unfolding bytes_of no_counts
small_bytes none h = small_fields 0 0 0 0 0 0 (omega arith) (omega arith) (omega arith) (omega arith) (omega arith) (omega arith) (bytes_zeros 8)
small_bytes (publish f k) h = small_fields 1 f k 0 0 0 (omega arith) h.0 h.1 (omega arith) (omega arith) (omega arith) (bytes_zeros 8)
small_bytes (published f k) h = small_fields 2 f k 0 0 0 (omega arith) h.0 h.1 (omega arith) (omega arith) (omega arith) (bytes_zeros 8)
small_bytes (transit f k v j) h = small_fields 3 f k v j 0 (omega arith) h.0 h.1 h.2 h.3 (omega arith) (bytes_zeros 8)
small_bytes (granted f k v j) h = small_fields 4 f k v j 0 (omega arith) h.0 h.1 h.2 h.3 (omega arith) (bytes_zeros 8)
small_bytes (denied f k v j) h = small_fields 5 f k v j 0 (omega arith) h.0 h.1 h.2 h.3 (omega arith) (bytes_zeros 8)
small_bytes (task f k v j) h = small_fields 6 f k v j 0 (omega arith) h.0 h.1 h.2 h.3 (omega arith) (bytes_zeros 8)
small_bytes (report f v counts) h = small_fields 7 f 0 v 0 0 (omega arith) h.0 (omega arith) h.1 (omega arith) (omega arith) h.2
small_bytes (release f) h = small_fields 8 f 0 0 0 0 (omega arith) h (omega arith) (omega arith) (omega arith) (omega arith) (bytes_zeros 8)
small_bytes (ghost_ended q g) h = small_fields 9 q 0 0 0 g (omega arith) h.0 (omega arith) (omega arith) (omega arith) h.1 (bytes_zeros 8)
small_bytes (count_dropped f k v j n) h = small_fields 10 f k v j n (omega arith) h.0 h.1 h.2 h.3 h.4 (bytes_zeros 8)
small_bytes (dropped f k v j n) h = small_fields 11 f k v j n (omega arith) h.0 h.1 h.2 h.3 h.4 (bytes_zeros 8)

pub bytes_send : {t : List ℕ} → Bytes t → (k : ℕ) (x : Message) → Small x → Bytes (send t k x)
unfolding send
bytes_send h k x l = bytes_write h (slot_place k) (small_bytes x l)

small_tagged : (tag f k v j n : ℕ) (counts : List ℕ) → f < 256 → k < 256 → v < 256 → j < 256 → n < 256 → Bytes counts → Small (tagged tag f k v j n counts)
unfolding tagged
small_tagged zero f k v j n counts a b c d e g = tt
small_tagged (suc zero) f k v j n counts a b c d e g = (a, b)
small_tagged (suc (suc zero)) f k v j n counts a b c d e g = (a, b)
small_tagged (suc (suc (suc zero))) f k v j n counts a b c d e g = (a, b, c, d)
small_tagged (suc (suc (suc (suc zero)))) f k v j n counts a b c d e g = (a, b, c, d)
small_tagged (suc (suc (suc (suc (suc zero))))) f k v j n counts a b c d e g = (a, b, c, d)
small_tagged (suc (suc (suc (suc (suc (suc zero)))))) f k v j n counts a b c d e g = (a, b, c, d)
small_tagged (suc (suc (suc (suc (suc (suc (suc zero))))))) f k v j n counts a b c d e g = (a, c, g)
small_tagged (suc (suc (suc (suc (suc (suc (suc (suc zero)))))))) f k v j n counts a b c d e g = a
small_tagged (suc (suc (suc (suc (suc (suc (suc (suc (suc zero))))))))) f k v j n counts a b c d e g = (a, e)
small_tagged (suc (suc (suc (suc (suc (suc (suc (suc (suc (suc zero)))))))))) f k v j n counts a b c d e g = (a, b, c, d, e)
small_tagged (suc (suc (suc (suc (suc (suc (suc (suc (suc (suc (suc zero))))))))))) f k v j n counts a b c d e g = (a, b, c, d, e)
small_tagged (suc (suc (suc (suc (suc (suc (suc (suc (suc (suc (suc (suc m)))))))))))) f k v j n counts a b c d e g =
    let x = suc (suc (suc (suc (suc (suc (suc (suc (suc (suc (suc (suc m))))))))))) in
    rw (ne_eqb x 1 (λ q. omega arith), ne_eqb x 2 (λ q. omega arith), ne_eqb x 3 (λ q. omega arith), ne_eqb x 4 (λ q. omega arith), ne_eqb x 5 (λ q. omega arith), ne_eqb x 6 (λ q. omega arith), ne_eqb x 7 (λ q. omega arith), ne_eqb x 8 (λ q. omega arith), ne_eqb x 9 (λ q. omega arith), ne_eqb x 10 (λ q. omega arith), ne_eqb x 11 (λ q. omega arith)) tt

-- the message in a slot of tables of bytes
pub small_message : {t : List ℕ} → Bytes t → (k : ℕ) → Small (message_at t k)
unfolding message_at message_in from_slot
small_message {t} h k = let m = from_slot t k in
    let b : (q : ℕ) → byte (from_slot t k) q < 256 = λ q. rw (get_or-drop (16 * k) (drop (slot_place 0) t) q 0, get_or-drop (slot_place 0) t (16 * k + q) 0) (h.small (13056 + (16 * k + q))) in
    small_tagged (byte m 0) (byte m 1) (byte m 2) (byte m 3) (byte m 4) (byte m 5) (part m 8 8) (b 1) (b 2) (b 3) (b 4) (b 5) (bytes_part (record { small = b }) 8 8)

-- ---- small writes
pub mark_small : (m k : ℕ) → with_mark m k < 256
unfolding with_mark
mark_small m k = mask_lt 8 (λ j. eqb j k || bit_at m j)

pub either : (b : Bool) (x y : ℕ) → x < 256 → y < 256 → cond b x y < 256
either true x y p q = p
either false x y p q = q

pub bytes_cond : {t u : List ℕ} (b : Bool) → Bytes t → Bytes u → Bytes (cond b t u)
bytes_cond true p q = p
bytes_cond false p q = q

pub bytes_runs : {t : List ℕ} → Bytes t → (o : ℕ) → Bytes (runs t o)
unfolding runs
bytes_runs h o = bytes_cond (eqb o 0) h (bytes_set h (place (task_row o) 3) 5 (omega arith))
