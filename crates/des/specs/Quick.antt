-- What the private parts of the code compute, in the machine's own operations. No public promise names them.
-- Assumes nothing.
use Rattle.std.specs.Prelude.{List, [], ◌∷◌, ℕ, ◌+◌, ◌*◌, ◌/◌, ◌%◌, ◌^◌}
use Rattle.std.specs.Int.Bits.{bit_xor, bit_and}
use Rattle.des.specs.Des.{rotated}

-- the bits of x that the mask names change places with those d above them
abbrev pub delta_swap : (distance mask x : ℕ) → ℕ
delta_swap d m x =
    bit_xor (bit_xor x (bit_and (bit_xor (x / 2 ^ d) x) m)) (bit_and (bit_xor (x / 2 ^ d) x) m * 2 ^ d % 2 ^ 64)

-- a 32-bit number with its last bit before it and its first bit behind it
abbrev pub wrapped : ℕ → ℕ
wrapped r = bit_xor (bit_xor (r % 2 * 2 ^ 33 % 2 ^ 64) (r * 2 ^ 1 % 2 ^ 64)) (r / 2 ^ 31)

pub record Term : Type 0 where
  pub by : ℕ
  pub mask : ℕ

-- z joined with each term of y, shifted down
abbrev pub terms : ℕ → ℕ → List Term → ℕ
terms y z [] = z
terms y z (t ∷ ts) = terms y (bit_xor z (bit_and (y / 2 ^ t.by) t.mask)) ts

-- the same, shifted up
abbrev pub raised : ℕ → ℕ → List Term → ℕ
raised y z [] = z
raised y z (t ∷ ts) = raised y (bit_xor z (bit_and (y * 2 ^ t.by % 2 ^ 64) t.mask)) ts

-- ---- the permuted choices: a first term, and the others joined to it

abbrev pub ups1 : List Term
ups1 =
    record { by = 16; mask = 0x000000ff00000000 } ∷
    record { by = 20; mask = 0x000000000ff00000 } ∷ []

abbrev pub downs1 : List Term
downs1 =
    record { by = 16; mask = 0x0000ff0000000000 } ∷
    record { by = 24; mask = 0x00000000f0000000 } ∷
    record { by = 28; mask = 0x00000000000ff000 } ∷
    record { by = 4; mask = 0x0000000000000ff0 } ∷
    record { by = 48; mask = 0x000000000000000f } ∷ []

-- PC-1 of a number whose IP is y
abbrev pub choice1_net : ℕ → ℕ
choice1_net y = terms y (raised y (bit_and (y * 2 ^ 24 % 2 ^ 64) 0x00ff000000000000) ups1) downs1

abbrev pub ups2 : List Term
ups2 =
    record { by = 1; mask = 0x000080100000 } ∷
    record { by = 2; mask = 0x002800000000 } ∷
    record { by = 3; mask = 0x000000004440 } ∷
    record { by = 4; mask = 0x000000001000 } ∷
    record { by = 5; mask = 0x800000000000 } ∷
    record { by = 7; mask = 0x400000000000 } ∷
    record { by = 8; mask = 0x000000800100 } ∷
    record { by = 10; mask = 0x000000088000 } ∷
    record { by = 12; mask = 0x110000000000 } ∷
    record { by = 17; mask = 0x000000040000 } ∷
    record { by = 18; mask = 0x000000400000 } ∷ []

abbrev pub downs2 : List Term
downs2 =
    record { by = 1; mask = 0x000000000800 } ∷
    record { by = 2; mask = 0x008008000000 } ∷
    record { by = 3; mask = 0x000400000008 } ∷
    record { by = 4; mask = 0x000000200000 } ∷
    record { by = 5; mask = 0x000000000020 } ∷
    record { by = 8; mask = 0x000000000200 } ∷
    record { by = 9; mask = 0x040000020000 } ∷
    record { by = 10; mask = 0x001004002010 } ∷
    record { by = 11; mask = 0x000220000000 } ∷
    record { by = 12; mask = 0x0a4000000000 } ∷
    record { by = 15; mask = 0x000000000080 } ∷
    record { by = 18; mask = 0x000042000004 } ∷
    record { by = 20; mask = 0x000100000000 } ∷
    record { by = 21; mask = 0x000010000000 } ∷
    record { by = 24; mask = 0x000000000001 } ∷
    record { by = 26; mask = 0x000000000002 } ∷
    record { by = 30; mask = 0x000001000000 } ∷ []

-- PC-2
abbrev pub choice2_net : ℕ → ℕ
choice2_net x = terms x (raised x (bit_and x 0x200000010000) ups2) downs2

-- ---- the halves C and D in one 56-bit number

-- both rotated left by s
unfoldable pub turned : ℕ → ℕ → ℕ
turned s x = rotated s (x / 2 ^ 28) * 2 ^ 28 + rotated s (x % 2 ^ 28)

-- both after each of the shifts
unfoldable pub turned_from : List ℕ → ℕ → List ℕ
turned_from [] x = []
turned_from (s ∷ ss) x = turned s x ∷ turned_from ss (turned s x)

-- both rotated by s in the machine's operations: the bits that stay in their half, and those that come round, d below
abbrev pub turn_net : (shift mask rest under x : ℕ) → ℕ
turn_net s m d n x = bit_xor (bit_and (x * 2 ^ s % 2 ^ 64) m) (bit_and (x / 2 ^ d) n)
