-- Numbers written in characters: decimal digits, and hex digits 0-9 A-F, highest first.
-- Assumes nothing.
use Rattle.std.specs.Prelude.{ℕ, zero, suc, ◌+◌, ◌-◌, ◌*◌, ◌/◌, ◌%◌, List, [], ◌∷◌, ◌++◌, ltb}
use Rattle.ground.specs.Choice.{pick}
use Rattle.text.specs.Characters.{digit, hex_digit}

-- what a digit counts; any other character counts 0
unfoldable pub digit_value : ℕ → ℕ
digit_value c = pick (digit c) (c - 0x30) 0

-- the same of a hex digit
unfoldable pub hex_value : ℕ → ℕ
hex_value c = pick (digit c) (c - 0x30) (pick (hex_digit c) (c - 0x37) 0)

-- acc followed by the digits of l
unfoldable pub decimal_from : ℕ → List ℕ → ℕ
decimal_from acc [] = acc
decimal_from acc (c ∷ l) = decimal_from (acc * 10 + digit_value c) l

-- the number that digits write
abbrev pub decimal : List ℕ → ℕ
decimal l = decimal_from 0 l

unfoldable pub hex_from : ℕ → List ℕ → ℕ
hex_from acc [] = acc
hex_from acc (c ∷ l) = hex_from (acc * 16 + hex_value c) l

-- the number that hex digits write
abbrev pub hex : List ℕ → ℕ
hex l = hex_from 0 l

-- the character of a number below 16
unfoldable pub hex_character : ℕ → ℕ
hex_character v = pick (ltb v 10) (0x30 + v) (0x37 + v)

-- the n lowest hex digits of x
unfoldable pub hex_digits : ℕ → ℕ → List ℕ
hex_digits zero x = []
hex_digits (suc n) x = hex_digits n (x / 16) ++ (hex_character (x % 16) ∷ [])

-- the n lowest digits of x
unfoldable pub decimal_digits : ℕ → ℕ → List ℕ
decimal_digits zero x = []
decimal_digits (suc n) x = decimal_digits n (x / 10) ++ ((0x30 + x % 10) ∷ [])

-- ---- the same in any base to sixteen

-- what a digit of the base b counts, 0-9 and then A-F; any other character counts 0
unfoldable pub value_in : ℕ → ℕ → ℕ
value_in b c = pick (ltb (hex_value c) b) (hex_value c) 0

-- acc followed by the digits of l
unfoldable pub number_from : ℕ → ℕ → List ℕ → ℕ
number_from b acc [] = acc
number_from b acc (c ∷ l) = number_from b (acc * b + value_in b c) l

-- the n lowest digits of x
unfoldable pub digits_in : ℕ → ℕ → ℕ → List ℕ
digits_in b zero x = []
digits_in b (suc n) x = digits_in b n (x / b) ++ (hex_character (x % b) ∷ [])
