-- Words and a file as the program is given them, and what the definitions say of each: computed.
-- Assumes nothing.
use Rattle.std.specs.Prelude.{None, Some, Result, Ok, Err}
use mathlib.Core.Path.{◌≡◌, refl}
use mathlib.Core.List.{List, [], ◌∷◌, ◌++◌, map}
use Prim.Native.Nat.{ℕ}
use lib.ListN.{take}
use Rattle.ground.specs.Choice.{both, pick, between}
use Rattle.ground.specs.Lists.{all, same}
use Rattle.text.specs.Letters.{letters}
use Rattle.text.specs.Numbers.{decimal_from, digit_value}
use Rattle.cli_words.specs.declared.BadLine.{BadLine}
use Rattle.cli_words.specs.declared.Dates.{Dates}
use Rattle.cli_words.specs.Parts.{on_first, ended_by, split_at}
use Rattle.cli_words.specs.Forms.{type_texts, further, place_in, bit_of, with_types, types_of}
use Rattle.cli_words.specs.Forms.{number_of, without_cr, date_of, leading, kept, told, holidays_of}

-- types in any order, and one twice; none; a zero before a digit, no number between commas, at the end or alone, 17
pub types_said : map types_of (letters "1,3,16" ∷ letters "16,1,1" ∷ letters "-" ∷ [])
    ≡ Some 0x8005 ∷ Some 0x8001 ∷ Some 0 ∷ []
unfolding letters ended_by on_first split_at type_texts further place_in bit_of with_types types_of same all both pick
types_said = refl

pub types_refused : map types_of
    (letters "01" ∷ letters "1,,3" ∷ letters "1," ∷ letters ",1" ∷ [] ∷ letters "17" ∷ letters "0" ∷ letters "--" ∷ [])
    ≡ None ∷ None ∷ None ∷ None ∷ None ∷ None ∷ None ∷ None ∷ []
unfolding letters ended_by on_first split_at type_texts further place_in bit_of with_types types_of same all both pick
types_refused = refl

abbrev lf : List ℕ
lf = 0x0A ∷ []

abbrev crlf : List ℕ
crlf = 0x0D ∷ 0x0A ∷ []

-- how many dates, and the first three places; where a line is none, after its number
abbrev said : Result Dates BadLine → Result (ℕ × List ℕ) (ℕ × ℕ × List ℕ)
said (Ok d) = Ok (d.count, take 3 d.dates)
said (Err b) = Err (b.line, b.before.count, take 3 b.before.dates)

-- a line ends at LF or CR LF, and the last may lack it; an empty line is no date
pub lines_read : said (holidays_of (letters "941224" ++ (crlf ++ letters "941226"))) ≡ Ok (2, 941224 ∷ 941226 ∷ 0 ∷ [])
unfolding letters ended_by on_first without_cr date_of leading kept told holidays_of number_of decimal_from digit_value all both pick between
lines_read = refl

pub line_refused : said (holidays_of (letters "941224" ++ (lf ++ (lf ++ letters "941226")))) ≡ Err (2, 1, 941224 ∷ 0 ∷ 0 ∷ [])
unfolding letters ended_by on_first without_cr date_of leading kept told holidays_of number_of decimal_from digit_value all both pick between
line_refused = refl
