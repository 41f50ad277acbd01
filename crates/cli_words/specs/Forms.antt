-- The forms of the program's words: design section 7. A word of another form is bad, and says no value.
-- Assumes nothing.
use Rattle.std.specs.Prelude.{ℕ, Bool, true, false, suc, ◌+◌, ◌-◌, ◌^◌, List, [], ◌∷◌, ◌++◌, map, eqb, ltb, length, take, get_or, replicate, None, Option, Some, Result, Ok, Err}
use Rattle.std.specs.Int.Bits.{bit_or}
use Rattle.ground.specs.Choice.{both, pick, between}
use Rattle.ground.specs.Lists.{all, same}
use Rattle.text.specs.Characters.{digit, hex_digit, padded}
use Rattle.text.specs.Numbers.{decimal, hex}
use Rattle.text.specs.Letters.{letters}
use Rattle.cli_words.specs.declared.BadLine.{BadLine}
use Rattle.cli_words.specs.declared.Dates.{Dates}
use Rattle.cli_words.specs.Parts.{ended_by, split_at}

-- low to high digits, whose number fits 32 bits
unfoldable pub number_of : ℕ → ℕ → List ℕ → Option ℕ
number_of low high s =
    pick (both (between low high (length s)) (both (all digit s) (ltb (decimal (take 19 s)) 4294967296)))
    (Some (decimal (take 19 s)))
    None

-- a number from least to most
unfoldable pub in_range : ℕ → ℕ → Option ℕ → Option ℕ
in_range least most None = None
in_range least most (Some n) = pick (between least most n) (Some n) None

-- bytes a read: 1 to 65536
unfoldable pub read_of : List ℕ → Option ℕ
read_of s = in_range 1 65536 (number_of 1 5 s)

-- as many hex digits as the width says, of which 16 count
unfoldable pub block_of : ℕ → List ℕ → Option ℕ
block_of width s = pick (both (eqb (length s) width) (all hex_digit s)) (Some (hex (take 16 s))) None

-- yes or no
unfoldable pub choice_of : List ℕ → Option Bool
choice_of s = pick (same s (letters "yes")) (Some true) (pick (same s (letters "no")) (Some false) None)

-- an identity in 17 characters, then its qualifier in 8
unfoldable pub who_of : List ℕ → List ℕ → List ℕ
who_of identity qualifier = padded 17 identity ++ padded 8 qualifier

-- ---- types

-- the types as they are written
unfoldable pub type_texts : List (List ℕ)
type_texts =
    letters "1" ∷ letters "2" ∷ letters "3" ∷ letters "4" ∷ letters "5" ∷ letters "6" ∷ letters "7" ∷ letters "8" ∷
    letters "9" ∷ letters "10" ∷ letters "11" ∷ letters "12" ∷ letters "13" ∷ letters "14" ∷ letters "15" ∷ letters "16" ∷ []

-- one place more
unfoldable pub further : Option ℕ → Option ℕ
further None = None
further (Some n) = Some (suc n)

-- the place of a text among others, from 0, if it is one of them
unfoldable pub place_in : List (List ℕ) → List ℕ → Option ℕ
place_in [] p = None
place_in (t ∷ ts) p = pick (same p t) (Some 0) (further (place_in ts p))

-- the bit of a type: type k is bit k - 1
unfoldable pub bit_of : List ℕ → Option ℕ
bit_of p = place_in type_texts p

-- a set with bits more, where each of them is the bit of a type
unfoldable pub with_types : ℕ → List (Option ℕ) → Option ℕ
with_types set [] = Some set
with_types set (None ∷ ks) = None
with_types set (Some k ∷ ks) = with_types (bit_or set (2 ^ k)) ks

-- types between commas, as `1,3,16`; `-` is none
unfoldable pub types_of : List ℕ → Option ℕ
types_of s = pick (same s (letters "-")) (Some 0) (with_types 0 (map bit_of (split_at 0x2C s)))

-- ---- holidays

-- one CR at the end of a line is no part of it
unfoldable pub without_cr : List ℕ → List ℕ
without_cr l = pick (eqb (get_or l (length l - 1) 0) 0x0D) (take (length l - 1) l) l

-- the date of a line: six digits
unfoldable pub date_of : List ℕ → Option ℕ
date_of line = number_of 6 6 (without_cr line)

-- the numbers before the first that is bad
unfoldable pub leading : List (Option ℕ) → List ℕ
leading [] = []
leading (None ∷ ns) = []
leading (Some n ∷ ns) = n ∷ leading ns

-- dates, with zeros in the places past them
unfoldable pub kept : List ℕ → Dates
kept ds = record { count = length ds; dates = ds ++ replicate (201 - length ds) 0 }

-- what the lines that are looked at say: their dates, or the number of the first that is none and the dates before it
unfoldable pub told : List (Option ℕ) → Result Dates BadLine
told ns =
    pick (eqb (length (leading ns)) (length ns))
    (Ok (kept (leading ns)))
    (Err (record { line = length (leading ns) + 1; before = kept (leading ns) }))

-- a date a line, which LF ends; 201 lines are looked at
unfoldable pub holidays_of : List ℕ → Result Dates BadLine
holidays_of s = told (map date_of (take 201 (ended_by 0x0A s)))
