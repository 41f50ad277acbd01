-- Odd parity (document 01, 'Keys'; document 001, 6.1.3). A key is eight bytes: a number below 2 ^ 64, highest byte first.
-- Assumes nothing.
use Rattle.std.specs.Prelude.{ℕ, zero, suc, ◌+◌, ◌-◌, ◌*◌, ◌/◌, ◌%◌, Bool, true, ◌==◌}
use Rattle.ground.specs.Choice.{both}

-- how many of the n lowest bits of x are ones
unfoldable pub ones : ℕ → ℕ → ℕ
ones zero x = 0
ones (suc n) x = x % 2 + ones n (x / 2)

-- the byte with its lowest bit set so that the count of ones is odd: 36 hex gives 37, FF gives FE
unfoldable pub parity_byte : ℕ → ℕ
parity_byte b = b / 2 * 2 + (1 - ones 7 (b / 2) % 2)

-- the n lowest bytes of x, each with its parity set
unfoldable pub parity_bytes : ℕ → ℕ → ℕ
parity_bytes zero x = 0
parity_bytes (suc n) x = parity_bytes n (x / 256) * 256 + parity_byte (x % 256)

-- a key with its parity set
abbrev pub with_parity : ℕ → ℕ
with_parity x = parity_bytes 8 x

-- each of the n lowest bytes of x has an odd count of ones
unfoldable pub odd_bytes : ℕ → ℕ → Bool
odd_bytes zero x = true
odd_bytes (suc n) x = both (ones 8 (x % 256) % 2 == 1) (odd_bytes n (x / 256))

-- a key, or a part of one, has odd parity
abbrev pub odd_parity : ℕ → Bool
odd_parity x = odd_bytes 8 x
