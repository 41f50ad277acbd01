-- Numbers written lowest byte first, in std's words: what `from_le_bytes` reads and `to_le_bytes` writes.
-- Assumes nothing.
use mathlib.Core.Path.{◌≡◌, refl, sym, ap, ap₂, ◌∙◌}
use mathlib.Core.List.{List, [], ◌∷◌}
use Prim.Native.Nat.{ℕ, zero, suc, ◌+◌, ◌-◌, ◌*◌, ◌/◌, ◌%◌, ◌^◌, ◌≤◌, ◌<◌}
use native.Mathlib.Nat.{pow-zero, pow-suc, mul_comm, div-div-eq-div-mul, le_of_lt}
use native.Mathlib.Omega.{arith}
use lib.ListN.{length, take, get_or}
use lib.Seq.{take-suc, take_all, length-take-le}
use Rattle.std.specs.Int.{Width, byte_len, byte_at, byte_worth, bytes_low_first, sum_through, to_le_bytes, from_le_bytes}
use Rattle.ground.specs.Lists.{part}
use Rattle.ground.proofs.Parts.{part_length}
use Rattle.splices.specs.Bytes.{num, bytes_of}
use Rattle.splices.proofs.Chunks.{num-append}

from_place : (i k n : ℕ) → bytes_of k (n / 256 ^ i) ≡ bytes_low_first i k n
unfolding bytes_of
from_place i zero n = refl
from_place i (suc k) n = ap₂ (λ (x : ℕ) (r : List ℕ). x ∷ r) (lowest i) (ap (bytes_of k) next ∙ from_place (suc i) k n)
  where
    lowest : (i : ℕ) → n / 256 ^ i % 256 ≡ byte_at i n
    lowest zero = rw pow-zero (omega arith)
    lowest (suc i) = refl

    next : n / 256 ^ i / 256 ≡ n / 256 ^ suc i
    next = div-div-eq-div-mul n (256 ^ i) 256 ∙ ap (λ (m : ℕ). n / m) (sym (pow-suc 256 i))

pub bytes_is : (w : Width) (n : ℕ) → bytes_of (byte_len w) n ≡ to_le_bytes w n
bytes_is w n =
    let e : n ≡ n / 256 ^ 0 = rw pow-zero (omega arith) in
    ap (bytes_of (byte_len w)) e ∙ from_place 0 (byte_len w) n

up_to : (l : List ℕ) (k : ℕ) → k < length l → sum_through (λ i. byte_worth i (get_or l i 0)) k ≡ num (take (suc k) l)
unfolding num
up_to [] zero h = absurd (omega arith)
up_to (x ∷ l) zero h = omega arith
up_to l (suc k) h =
    let x : ℕ = get_or l (suc k) 0 in
    let e : length (take (suc k) l) ≡ suc k = length-take-le (suc k) l (le_of_lt h) in
    let v : num (x ∷ []) ≡ x = omega arith in
    ap (λ (n : ℕ). n + x * 256 ^ suc k) (up_to l k (omega arith))
    ∙ sym (ap num (take-suc l (suc k) 0 h)
    ∙ num-append (take (suc k) l) (x ∷ [])
    ∙ ap₂ (λ (n m : ℕ). num (take (suc k) l) + 256 ^ n * m) e v
    ∙ ap (λ (n : ℕ). num (take (suc k) l) + n) (mul_comm (256 ^ suc k) x))

pub num_is : (w : Width) (l : List ℕ) → 0 < byte_len w → length l ≡ byte_len w → num l ≡ from_le_bytes w l
num_is w l p e =
    let s : suc (byte_len w - 1) ≡ byte_len w = omega arith in
    sym (up_to l (byte_len w - 1) (omega arith) ∙ ap num (take_all (suc (byte_len w - 1)) l (omega arith)))

-- an array of the bytes at a place
pub read_is : (w : Width) (t b : List ℕ) (at : ℕ) → 0 < byte_len w → at + byte_len w ≤ length t → b ≡ part at (byte_len w) t
    → from_le_bytes w b ≡ num (part at (byte_len w) t)
read_is w t b at p h e = sym (num_is w b p (ap length e ∙ part_length t at (byte_len w) h)) ∙ ap num e
