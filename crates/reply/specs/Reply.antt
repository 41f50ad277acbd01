-- The bank's replies, ESI and PTE, full and bare: a reply is the list of its fields (document 01, 'Replies').
-- Assumes nothing.
use Rattle.std.specs.Prelude.{ℕ, ◌/◌, ◌%◌, List, [], ◌∷◌, ◌++◌, leb, length, take, drop, replicate, None, Option, Some}
use Rattle.ground.specs.Choice.{pick}
use Rattle.ground.specs.Lists.{overlay}
use Rattle.text.specs.Characters.{blank, padded}
use Rattle.text.specs.Numbers.{decimal_digits, hex_digits}
use Rattle.text.specs.Letters.{letters}
use Rattle.des.specs.Des.{enciphered}
use Rattle.digest.specs.Mac.{checksum_of}
use Rattle.message.specs.Layout.{field, subfield, field_text}
use Rattle.message.specs.Contents.{held_in}
use Rattle.notice.specs.Codes.{code_in, codes, text_of}
use Rattle.reply.specs.declared.Answering.{Answering}

-- ---- what single fields say

-- the time given at opening, hhmmss, as HH:MM:SS
unfoldable pub clock_text : ℕ → List ℕ
clock_text t =
    decimal_digits 2 (t / 10000) ++ letters ":" ++ decimal_digits 2 (t / 100 % 100) ++ letters ":" ++ decimal_digits 2 (t % 100)

-- ILMOITUS: the time, a blank, the text, cut where the 60 characters end
unfoldable pub notice_of : Answering → List ℕ
notice_of a = padded 60 (clock_text a.time ++ letters " " ++ text_of a.code a.field (held_in a.contents))

-- sixteen hex digits of a key's number, or blanks
unfoldable pub hex_or : Option ℕ → List ℕ
hex_or None = replicate 16 blank
hex_or (Some x) = hex_digits 16 x

-- the checksum of a reply's first 144 characters, under the message's working key if held; in the bare form blanks
unfoldable pub summed : Option ℕ → List ℕ → Option ℕ
summed None h = None
summed (Some key) h = Some (checksum_of key h)

unfoldable pub checksum_key : Answering → List ℕ → Option ℕ
checksum_key a h = pick a.bare None (summed a.working h)

-- the key to enclose, enciphered under the transport key of the message's generation; none where there is no such key
unfoldable pub sealed : (transport enclosed : Option ℕ) → Option ℕ
sealed None enclosed = None
sealed (Some transport) None = None
sealed (Some transport) (Some key) = Some (enciphered transport key)

-- a bare reply encloses none
unfoldable pub enclosed_key : Answering → Option ℕ
enclosed_key a = pick a.bare None (sealed a.transport a.enclosed)

-- field 18 is 1 where a key is enclosed, else 0
unfoldable pub sealed_flag : Option ℕ → List ℕ
sealed_flag None = letters "0"
sealed_flag (Some x) = letters "1"

-- ---- the fields in their order

-- what a field says: its number and its characters
pub record Said : Type 0 where
  pub number : ℕ
  pub text : List ℕ

abbrev pub said : ℕ → List ℕ → Said
said n v = record { number = n; text = v }

-- the characters of some fields, one after the other
unfoldable pub joined : List Said → List ℕ
joined [] = []
joined (f ∷ fs) = f.text ++ joined fs

-- fields 1 to 7: message, length, version 120, K or E, code, software, method SMH
abbrev pub opening_fields : Answering → List Said
opening_fields a =
    said (field 1) (pick a.pte (letters ">>PTE") (letters ">>ESI")) ∷
    said (field 2) (pick a.pte (letters "317") (letters "237")) ∷
    said (field 3) (letters "120") ∷
    said (field 4) (pick (code_in a.code codes).accepted (letters "K") (letters "E")) ∷
    said (field 5) (decimal_digits 4 a.code) ∷
    said (field 6) a.software ∷
    said (field 7) (letters "SMH") ∷ []

-- fields 8 to 16: 8 is the message's sender, 9 its receiver; 10 to 13, 15 repeat the message (a frame's SUO), 16 the VAR; 14 is blank
abbrev pub full_fields : Answering → List Said
full_fields a =
    said (subfield 8 1) (field_text (subfield 9 1) a.message) ∷
    said (subfield 8 2) (field_text (subfield 9 2) a.message) ∷
    said (subfield 9 1) (field_text (subfield 8 1) a.message) ∷
    said (subfield 9 2) (field_text (subfield 8 2) a.message) ∷
    said (field 10) (field_text (field 10) a.message) ∷
    said (field 11) (field_text (field 11) a.message) ∷
    said (subfield 12 1) (field_text (subfield 12 1) a.message) ∷
    said (subfield 12 2) (field_text (subfield 12 2) a.message) ∷
    said (subfield 12 3) (field_text (subfield 12 3) a.message) ∷
    said (field 13) (field_text (field 13) a.message) ∷
    said (field 14) (replicate 9 blank) ∷
    said (field 15) (field_text (field 15) a.message) ∷
    said (field 16) (field_text (field 16) a.closing) ∷ []

-- the bare form: 8 blank, 9 this bank, 10 to 12 zeros, 13 to 16 blank
abbrev pub bare_fields : Answering → List Said
bare_fields a =
    said (subfield 8 1) (replicate 17 blank) ∷
    said (subfield 8 2) (replicate 8 blank) ∷
    said (subfield 9 1) (take 17 a.bank) ∷
    said (subfield 9 2) (drop 17 a.bank) ∷
    said (field 10) (letters "0") ∷
    said (field 11) (letters "0") ∷
    said (subfield 12 1) (letters "000000") ∷
    said (subfield 12 2) (letters "000000") ∷
    said (subfield 12 3) (letters "000") ∷
    said (field 13) (replicate 1 blank) ∷
    said (field 14) (replicate 9 blank) ∷
    said (field 15) (replicate 16 blank) ∷
    said (field 16) (replicate 16 blank) ∷ []

abbrev pub body_fields : Answering → List Said
body_fields a = pick a.bare (bare_fields a) (full_fields a)

-- the characters of fields 1 to 16, which the checksum is over
unfoldable pub head : Answering → List ℕ
head a = joined (opening_fields a ++ body_fields a)

-- fields 17 to 20, checksum, key enclosed or not, that key, ILMOITUS; and in a PTE field 21, blank
abbrev pub closing_fields : Answering → List Said
closing_fields a =
    said (field 17) (hex_or (checksum_key a (head a))) ∷
    said (field 18) (sealed_flag (enclosed_key a)) ∷
    said (field 19) (hex_or (enclosed_key a)) ∷
    said (field 20) (notice_of a) ∷
    pick a.pte (said (field 21) (replicate 80 blank) ∷ []) []

abbrev pub reply_fields : Answering → List Said
reply_fields a = opening_fields a ++ body_fields a ++ closing_fields a

-- ---- the reply

unfoldable pub reply_of : Answering → List ℕ
reply_of a = joined (reply_fields a)

-- bank ESI 237, PTE 317
unfoldable pub reply_length : Answering → ℕ
reply_length a = pick a.pte 317 237

-- what writing a reply leaves of the room lent for it: where it fits, the reply and the bytes past it as they were
unfoldable pub replied : Answering → List ℕ → List ℕ
replied a room = pick (leb (reply_length a) (length room)) (overlay (reply_of a) room) room

-- how many characters were written: none where the room is too short
unfoldable pub written_length : Answering → List ℕ → ℕ
written_length a room = pick (leb (reply_length a) (length room)) (reply_length a) 0
