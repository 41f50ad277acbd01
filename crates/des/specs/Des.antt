-- DES (FIPS 46-3, ANSI X3.92) on natural numbers: a block of w bits is a number below 2 ^ w, its leftmost bit the highest.
-- The boxes are handed in as a list of 512 entries; FIPS 46-3's own is `boxes`.
-- Assumes nothing.
use Rattle.std.specs.Prelude.{Bool, true, List, [], ◌∷◌, reverse, ℕ, zero, suc, ◌+◌, ◌-◌, ◌*◌, ◌/◌, ◌%◌, ◌^◌, ltb, leb, eqb, get_or, take, drop}
use Rattle.std.specs.Int.Bits.{bit_xor}
use Rattle.ground.specs.Choice.{both, one}
use Rattle.des.specs.Tables.{initial, final, expansion, spread, choice1, choice2, shifts, boxes}

-- the digit of x that counts 2 ^ k
abbrev pub bit : ℕ → ℕ → ℕ
bit x k = x / 2 ^ k % 2

-- acc followed by the bits of the w-bit number x that the table names
unfoldable pub select : (width x sofar : ℕ) (table : List ℕ) → ℕ
select w x acc [] = acc
select w x acc (t ∷ ts) = select w x (2 * acc + bit x (w - t)) ts

abbrev pub permute : List ℕ → ℕ → ℕ → ℕ
permute table w x = select w x 0 table

-- ---- the cipher function

-- where the entry of box i for the six bits v stands: the outer two bits name the row, the inner four the column
abbrev pub box_at : ℕ → ℕ → ℕ
box_at i v = 64 * i + 16 * (v / 32 * 2 + v % 2) + v / 2 % 16

unfoldable pub box : List ℕ → ℕ → ℕ → ℕ
box s i v = get_or s (box_at i v) 0

-- the boxes from i on, n of them, each on its six bits of the 48-bit number b
unfoldable pub substitute_from : (boxes : List ℕ) (x sofar i n : ℕ) → ℕ
substitute_from s b acc i zero = acc
substitute_from s b acc i (suc n) = substitute_from s b (16 * acc + box s i (b / 2 ^ (42 - 6 * i) % 64)) (suc i) n

abbrev pub substituted : List ℕ → ℕ → ℕ
substituted s b = substitute_from s b 0 0 8

-- the cipher function f(R, K)
unfoldable pub mixed : List ℕ → ℕ → ℕ → ℕ
mixed s r k = permute spread 32 (substituted s (bit_xor (permute expansion 32 r) k))

-- ---- the rounds

-- a round for each key, and the halves exchanged at the end
unfoldable pub feistel : List ℕ → List ℕ → ℕ → ℕ → ℕ
feistel s [] l r = r * 2 ^ 32 + l
feistel s (k ∷ ks) l r = feistel s ks r (bit_xor l (mixed s r k))

-- the block x under the round keys ks, by the boxes s
unfoldable pub cipher_by : List ℕ → List ℕ → ℕ → ℕ
cipher_by s ks x =
    permute final 64 (feistel s ks (permute initial 64 x / 2 ^ 32) (permute initial 64 x % 2 ^ 32))

abbrev pub cipher : List ℕ → ℕ → ℕ
cipher ks x = cipher_by boxes ks x

-- ---- the round keys

-- a 28-bit number rotated left by s
unfoldable pub rotated : ℕ → ℕ → ℕ
rotated s c = c * 2 ^ s % 2 ^ 28 + c / 2 ^ (28 - s)

-- the round keys of the shifts, from the halves C and D on
unfoldable pub keys_from : List ℕ → ℕ → ℕ → List ℕ
keys_from [] c d = []
keys_from (s ∷ ss) c d = permute choice2 56 (rotated s c * 2 ^ 28 + rotated s d) ∷ keys_from ss (rotated s c) (rotated s d)

-- the sixteen round keys of a key, first to last
unfoldable pub schedule_of : ℕ → List ℕ
schedule_of key = keys_from shifts (permute choice1 64 key / 2 ^ 28) (permute choice1 64 key % 2 ^ 28)

-- ---- the two ways

abbrev pub enciphered : ℕ → ℕ → ℕ
enciphered key x = cipher (schedule_of key) x

abbrev pub deciphered : ℕ → ℕ → ℕ
deciphered key x = cipher (reverse (schedule_of key)) x

-- ---- what the tables keep

-- row i of the boxes' table, of 32
unfoldable pub row : ℕ → List ℕ
row i = take 16 (drop (16 * i) boxes)

-- how often v stands in a list
unfoldable pub times : ℕ → List ℕ → ℕ
times v [] = 0
times v (x ∷ xs) = one (eqb x v) + times v xs

-- each entry of the table numbers a bit of a w-bit number
unfoldable pub named : ℕ → List ℕ → Bool
named w [] = true
named w (t ∷ ts) = both (both (ltb 0 t) (leb t w)) (named w ts)
