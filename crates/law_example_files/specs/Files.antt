-- Small files, and what the whole-file answer says to each (document 01, 'Reading the file').
-- Assumes nothing.
use Rattle.std.specs.Prelude.{ℕ, ◌+◌, Bool, false, List, [], ◌∷◌, ◌++◌, length, take, drop, replicate}
use Prim.Native.String.{String}
use Rattle.ground.specs.Lists.{same}
use Rattle.text.specs.Characters.{blank, padded}
use Rattle.text.specs.Numbers.{decimal}
use Rattle.text.specs.Letters.{letters}
use Rattle.message.specs.Layout.{field, field_text}
use Rattle.opening.specs.declared.Opening.{Opening}
use Rattle.whole_file.specs.Records.{lf, cr, items_from}
use Rattle.whole_file.specs.WholeFile.{Given, Standing, outside, told_of, whole_file}
use Rattle.law_examples.specs.Bank.{bank_with, esi, suo, var}

unfoldable pub opening : Opening
opening = record { today = record { yymmdd = 941017 }; time = 091500; kind = 1; clock = 0 }

-- what is shown of a reply: the bytes of the file up to it, its length, its code
unfoldable pub shown : List Given → List ℕ
shown [] = []
shown (g ∷ l) = g.at ∷ length g.reply ∷ decimal (field_text (field 5) g.reply) ∷ shown l

unfoldable pub answers : List ℕ → List ℕ → Bool
answers file expected = same (shown (whole_file opening (bank_with []) file).given) expected

-- a line
unfoldable pub line : String → List ℕ
line s = letters s ++ (lf ∷ [])

-- the replies one after the other
unfoldable pub replied : List Given → List ℕ
replied [] = []
replied (g ∷ l) = g.reply ++ replied l

-- the notice of the one reply to a file
unfoldable pub notices : List ℕ → String → Bool
notices file text =
    same (field_text (field 20) (replied (whole_file opening (bank_with []) file).given)) (padded 60 (letters "09:15:00 " ++ letters text))

-- document 01's one whole reply, with document 02's value
unfoldable pub hello : List ℕ
hello =
    letters ">>ESI237120E1010FRONT 4         SMH" ++
    replicate 25 blank ++
    letters "003701234567             00000000000000000" ++
    replicate 58 blank ++
    letters "0" ++
    replicate 16 blank ++
    letters "09:15:00 MUOTOVIRHE KENTÄSSÄ SANOMATUNNUS HELLO" ++
    replicate 13 blank

-- ---- before an ESI is accepted: every reply is an ESI (237)

abbrev pub early_files : List Bool
early_files =
    -- HELLO, with the whole reply of document 01 and its value; an empty file; a lone LF
    same (replied (whole_file opening (bank_with []) (letters "HELLO")).given) hello ∷
    answers (letters "HELLO") (5 ∷ 237 ∷ 1010 ∷ []) ∷
    answers [] [] ∷
    answers (lf ∷ []) (1 ∷ 237 ∷ 1010 ∷ []) ∷
    -- a CR alone is a record; CR and CR CR before the LF
    answers (cr ∷ []) (1 ∷ 237 ∷ 1010 ∷ []) ∷
    answers (letters ">>ESI16112" ++ (cr ∷ lf ∷ [])) (12 ∷ 237 ∷ 1032 ∷ []) ∷
    answers (letters ">>ESI16112" ++ (cr ∷ cr ∷ lf ∷ [])) (13 ∷ 237 ∷ 1032 ∷ []) ∷
    -- an ESI alone: under 11 characters, a length that isn't digits,
    -- one that isn't the layout's, cut short, characters over that aren't blank
    answers (line ">>ESI16112") (11 ∷ 237 ∷ 1032 ∷ []) ∷
    answers (line ">>ESI1X1120") (12 ∷ 237 ∷ 1010 ∷ []) ∷
    answers (line ">>ESI160120") (12 ∷ 237 ∷ 1011 ∷ []) ∷
    answers (line ">>ESI161120") (12 ∷ 237 ∷ 1032 ∷ []) ∷
    -- a length from the layout's to 500 is collected, and here cut short; 501 is not
    answers (line ">>ESI162120") (12 ∷ 237 ∷ 1032 ∷ []) ∷
    answers (line ">>ESI500999") (12 ∷ 237 ∷ 1032 ∷ []) ∷
    answers (line ">>ESI501999") (12 ∷ 237 ∷ 1011 ∷ []) ∷
    answers (letters ">>ESI161120" ++ replicate 150 blank ++ letters "X") (162 ∷ 237 ∷ 1010 ∷ []) ∷
    -- any other first record, a SUO too
    answers (line ">>SUO128120" ++ line ">>ESI161120") (12 ∷ 237 ∷ 1010 ∷ []) ∷
    -- the value: the first five characters, or fewer, without the CR before an LF; the length field, of surplus characters too
    notices (letters "HELLO, BANK") "MUOTOVIRHE KENTÄSSÄ SANOMATUNNUS HELLO" ∷
    notices (letters "HE" ++ (cr ∷ lf ∷ [])) "MUOTOVIRHE KENTÄSSÄ SANOMATUNNUS HE" ∷
    notices (letters "HE" ++ (cr ∷ [])) "MUOTOVIRHE KENTÄSSÄ SANOMATUNNUS HE?" ∷
    notices (0x1F ∷ 0x20 ∷ 0x7E ∷ 0x7F ∷ 0xC4 ∷ []) "MUOTOVIRHE KENTÄSSÄ SANOMATUNNUS ? ~??" ∷
    notices (line ">>ESI1X1120") "MUOTOVIRHE KENTÄSSÄ SANOMAPITUUS 1X1" ∷
    notices (line ">>ESI160120") "ARVOVIRHE KENTÄSSÄ SANOMAPITUUS 160" ∷
    notices (letters ">>ESI161120" ++ replicate 150 blank ++ letters "X") "MUOTOVIRHE KENTÄSSÄ SANOMAPITUUS 161" ∷ []

-- ---- after it

-- that ESI with another length and version
unfoldable pub stating : String → List ℕ
stating text = take 5 esi ++ letters text ++ drop 11 esi

-- a file that begins with that ESI, which is accepted: 1001 after 162 bytes
unfoldable pub goes_on : List ℕ → List ℕ → Bool
goes_on rest expected = answers (esi ++ (lf ∷ []) ++ rest) (162 ∷ 237 ∷ 1001 ∷ expected)

abbrev pub later_files : List Bool
later_files =
    -- records outside a frame: one 1023; VAR starts no message there; a later ESI
    goes_on (line "A" ++ line ">>VAR161120" ++ line "") (164 ∷ 317 ∷ 1023 ∷ []) ∷
    goes_on (line ">>ESI") (168 ∷ 237 ∷ 1011 ∷ []) ∷
    -- the end of the file in a SUO, in a VAR, in data
    goes_on (letters ">>SUO128120") (173 ∷ 317 ∷ 1032 ∷ []) ∷
    goes_on (line ">>SUO12812" ++ letters ">>VAR161120") (184 ∷ 317 ∷ 1032 ∷ []) ∷
    goes_on (line ">>SUO12812" ++ letters "DATA") (177 ∷ 317 ∷ 1024 ∷ []) ∷
    -- a second SUO, with and without LF; a later ESI in a frame
    goes_on (line ">>SUO12812" ++ line ">>SUO12812") (184 ∷ 317 ∷ 1024 ∷ 184 ∷ 317 ∷ 1024 ∷ []) ∷
    goes_on (line ">>SUO12812" ++ letters ">>SUO128120") (184 ∷ 317 ∷ 1024 ∷ 184 ∷ 317 ∷ 1032 ∷ []) ∷
    goes_on (line ">>SUO12812" ++ line ">>ESI") (179 ∷ 317 ∷ 1024 ∷ []) ∷
    -- one CR before the LF goes, a second is a character over, and so is one that no LF follows
    answers (esi ++ (cr ∷ lf ∷ [])) (163 ∷ 237 ∷ 1001 ∷ []) ∷
    answers (esi ++ (cr ∷ cr ∷ lf ∷ [])) (164 ∷ 237 ∷ 1010 ∷ []) ∷
    answers (esi ++ (cr ∷ [])) (162 ∷ 237 ∷ 1010 ∷ []) ∷
    -- a newer release: judged by its known fields, of which only the checksum is another; what lies past the stated length must be blank;
    -- 120 has an exact length, 115 is too old
    answers (stating "163130" ++ letters "?~" ++ (lf ∷ [])) (164 ∷ 237 ∷ 1020 ∷ []) ∷
    answers (stating "163130" ++ letters "?~ X" ++ (lf ∷ [])) (166 ∷ 237 ∷ 1010 ∷ []) ∷
    answers (stating "163130" ++ letters "?") (162 ∷ 237 ∷ 1032 ∷ []) ∷
    answers (stating "163120" ++ letters "?~" ++ (lf ∷ [])) (164 ∷ 237 ∷ 1011 ∷ []) ∷
    answers (stating "163115" ++ letters "?~" ++ (lf ∷ [])) (164 ∷ 237 ∷ 1012 ∷ []) ∷
    -- a message over several records, and blanks over in the last one
    answers (take 80 esi ++ (lf ∷ []) ++ drop 80 esi ++ letters "  " ++ (lf ∷ [])) (165 ∷ 237 ∷ 1001 ∷ []) ∷ []

-- ---- a batch after the ESI: accepted, its VAR ends 129 + 12 + 6 + 162 bytes on; and with one character of its data changed

unfoldable pub batch : String → List ℕ
batch amount = suo ++ (lf ∷ []) ++ line "PAYMENT 1  " ++ line amount ++ var ++ (lf ∷ [])

abbrev pub good_batch : Bool
good_batch = goes_on (batch "12.50") (471 ∷ 317 ∷ 1001 ∷ [])

abbrev pub changed_batch : Bool
changed_batch = goes_on (batch "12.51") (471 ∷ 317 ∷ 1019 ∷ [])

-- ---- near the size limit

-- outside a frame, after an accepted ESI
unfoldable pub late_standing : Standing
late_standing = record { situation = outside false; table = bank_with []; made = 0; sender = replicate 25 0 }

-- what is answered to the last bytes of a file of which all but these were read
unfoldable pub late_answers : ℕ → List ℕ → List ℕ → Bool
late_answers at rest expected =
    same (shown (told_of opening (at + length rest) late_standing (items_from at [] rest)).given) expected

abbrev pub long_files : List Bool
long_files =
    -- a record whose LF is the last byte allowed is settled, and the byte past it gives 1034, whatever it is
    late_answers 4294967293 (letters "A" ++ (lf ∷ [])) (4294967295 ∷ 317 ∷ 1023 ∷ []) ∷
    late_answers 4294967293 (letters "A" ++ (lf ∷ lf ∷ [])) (4294967295 ∷ 317 ∷ 1023 ∷ 4294967296 ∷ 317 ∷ 1034 ∷ []) ∷
    late_answers 4294967293 (letters "AB" ++ (lf ∷ [])) (4294967296 ∷ 317 ∷ 1034 ∷ []) ∷
    -- a file of exactly the limit ends normally, and an open frame past it gets nothing else
    late_answers 4294967293 (letters "AB") (4294967295 ∷ 317 ∷ 1023 ∷ []) ∷
    late_answers 4294967284 (line ">>SUO12812" ++ letters "AB") (4294967296 ∷ 317 ∷ 1034 ∷ []) ∷ []
