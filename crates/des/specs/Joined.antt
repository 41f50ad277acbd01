-- The boxes joined with P, as code lends them: each entry is what one box adds to a round's result. That the cipher by such a table is FIPS
-- 46-3's is a law (proofs/).
-- Assumes nothing.
use Rattle.std.specs.Prelude.{List, [], ◌∷◌, ◌++◌, ℕ, zero, suc, ◌+◌, ◌-◌, ◌*◌, ◌/◌, ◌%◌, ◌^◌, get_or}
use Rattle.std.specs.Int.Bits.{bit_xor}
use Rattle.des.specs.Tables.{initial, final, expansion, spread, boxes}
use Rattle.des.specs.Des.{permute, box}

-- ---- the table

-- what box i adds for the six bits v: its four bits at their place, spread by P
unfoldable pub joined_entry : (boxes : List ℕ) (i v : ℕ) → ℕ
joined_entry s i v = permute spread 32 (box s i v * 16 ^ (7 - i))

-- the entries of box i for the six bits from v on, n of them
unfoldable pub joined_box : (boxes : List ℕ) (i v n : ℕ) → List ℕ
joined_box s i v zero = []
joined_box s i v (suc n) = joined_entry s i v ∷ joined_box s i (suc v) n

-- the boxes from i on, n of them
unfoldable pub joined_from : (boxes : List ℕ) (i n : ℕ) → List ℕ
joined_from s i zero = []
joined_from s i (suc n) = joined_box s i 0 64 ++ joined_from s (suc i) n

-- FIPS 46-3's own
unfoldable pub joined : List ℕ
joined = joined_from boxes 0 8

-- ---- the cipher by such a table

-- the entries of the boxes from i on, n of them, each for its six bits of the 48-bit number b
unfoldable pub entries_from : (table : List ℕ) (b sofar i n : ℕ) → ℕ
entries_from t b acc i zero = acc
entries_from t b acc i (suc n) = entries_from t b (bit_xor acc (get_or t (64 * i + b / 2 ^ (42 - 6 * i) % 64) 0)) (suc i) n

unfoldable pub joined_mixed : (table : List ℕ) (r k : ℕ) → ℕ
joined_mixed t r k = entries_from t (bit_xor (permute expansion 32 r) k) 0 0 8

-- a round for each key, and the halves exchanged at the end
unfoldable pub joined_rounds : (table keys : List ℕ) (l r : ℕ) → ℕ
joined_rounds t [] l r = r * 2 ^ 32 + l
joined_rounds t (k ∷ ks) l r = joined_rounds t ks r (bit_xor l (joined_mixed t r k))

-- the block x under the round keys ks
unfoldable pub joined_by : (table keys : List ℕ) (x : ℕ) → ℕ
joined_by t ks x =
    permute final 64 (joined_rounds t ks (permute initial 64 x / 2 ^ 32) (permute initial 64 x % 2 ^ 32))

-- ---- without the permutations

-- what is done between the initial permutation and its inverse: the rounds, on the two halves in one number, the left one above
unfoldable pub between_by : (table keys : List ℕ) (halves : ℕ) → ℕ
between_by t ks y = joined_rounds t ks (y / 2 ^ 32) (y % 2 ^ 32)
