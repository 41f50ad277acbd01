-- The MAC of ISO 8731-1 (document 01, 'Digest and checksum'; document 001, 5.5): blocks of 8, the last filled with zero bytes,
-- start vector zero, all 64 bits count. `e` enciphers a block under the key.
-- Assumes nothing.
use Rattle.std.specs.Prelude.{ℕ, zero, suc, ◌+◌, ◌*◌, ◌/◌, List, [], ◌∷◌, ◌++◌, map, length, take, drop, replicate, bit_xor}
use Rattle.des.specs.Des.{enciphered}
use Rattle.text.specs.Characters.{internal}

-- acc followed by bytes, highest first, as a number
unfoldable pub bytes_from : ℕ → List ℕ → ℕ
bytes_from acc [] = acc
bytes_from acc (b ∷ l) = bytes_from (acc * 256 + b) l

-- the first eight bytes as a block; zero bytes fill it
unfoldable pub block_of : List ℕ → ℕ
block_of l = bytes_from 0 (take 8 (l ++ replicate 8 0))

-- the first n blocks
unfoldable pub blocks_from : ℕ → List ℕ → List ℕ
blocks_from zero l = []
blocks_from (suc n) l = block_of l ∷ blocks_from n (drop 8 l)

-- how many blocks n bytes fill: divided by 8, rounded up
abbrev pub block_count : ℕ → ℕ
block_count n = (n + 7) / 8

abbrev pub blocks : List ℕ → List ℕ
blocks l = blocks_from (block_count (length l)) l

-- each block joined to what came before by exclusive or, and enciphered
unfoldable pub chained : (ℕ → ℕ) → ℕ → List ℕ → ℕ
chained e c [] = c
chained e c (b ∷ bs) = chained e (e (bit_xor c b)) bs

unfoldable pub mac : (ℕ → ℕ) → List ℕ → ℕ
mac e l = chained e 0 (blocks l)

-- the checksum: the working key over characters 0 to 143, in the internal code
unfoldable pub checksum_of : ℕ → List ℕ → ℕ
checksum_of key message = mac (enciphered key) (map internal (take 144 message))
