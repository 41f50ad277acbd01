-- Keys (document 01, 'Keys'; document 001, 6.1.2 to 6.1.4 and 6.4).
-- Assumes nothing.
use Rattle.std.specs.Prelude.{ℕ, ◌+◌, ◌/◌, ◌^◌, bit_xor, nat_lt}
use Rattle.ground.specs.Choice.{pick}
use Rattle.des.specs.Des.{enciphered, deciphered}
use Rattle.keys.specs.Parity.{with_parity}

-- a transport key is the XOR of two odd-parity parts, parity then set
unfoldable pub combined : ℕ → ℕ → ℕ
combined part1 part2 = with_parity (bit_xor part1 part2)

-- the check value: the first three bytes of eight zero bytes enciphered
unfoldable pub check_value : ℕ → ℕ
check_value key = enciphered key 0 / 2 ^ 40

-- working key 0: eight zero bytes deciphered under the transport key, parity set
unfoldable pub working_key0 : ℕ → ℕ
working_key0 transport = with_parity (deciphered transport 0)

-- generation 1 follows 0 and 9
unfoldable pub next_generation : ℕ → ℕ
next_generation g = pick (nat_lt g 9) (g + 1) 1
