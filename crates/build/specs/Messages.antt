-- The customer's messages as they are built, each the list of its fields (document 02, R-6; document 001, appendix 1). The version is 120.
-- Assumes nothing.
use Rattle.std.specs.Prelude.{ℕ, List, [], ◌∷◌, ◌++◌, take, drop, replicate}
use Rattle.text.specs.Characters.{blank}
use Rattle.text.specs.Numbers.{decimal_digits, hex_digits}
use Rattle.text.specs.Letters.{letters}
use Rattle.des.specs.Des.{enciphered}
use Rattle.digest.specs.Mac.{checksum_of}
use Rattle.message.specs.Layout.{field, subfield, field_text}
use Rattle.message.specs.declared.Kind.{Kind}
use Rattle.message.specs.declared.Kind.TheVariants.{Esi, Suo, Var}
use Rattle.reply.specs.Reply.{Said, said, joined}
use Rattle.desk.specs.declared.Held.{Held}

-- ---- ESI and SUO

-- fields 1 and 2
unfoldable pub tag_of : Kind → List ℕ
tag_of Esi = letters ">>ESI"
tag_of Suo = letters ">>SUO"
tag_of Var = letters ">>VAR"

unfoldable pub size_of : Kind → List ℕ
size_of Esi = letters "161"
size_of Suo = letters "128"
size_of Var = letters "161"

-- fields 1 to 7
abbrev pub opening_fields : Kind → (software method : List ℕ) → List Said
opening_fields kind software method =
    said (field 1) (tag_of kind) ∷
    said (field 2) (size_of kind) ∷
    said (field 3) (letters "120") ∷
    said (field 4) (letters " ") ∷
    said (field 5) (letters "0000") ∷
    said (field 6) software ∷
    said (field 7) method ∷ []

-- fields 8 to 14: to the bank from the desk's own, under its current keys
abbrev pub middle_fields : Held → (stamp : List ℕ) (area : ℕ) → List Said
middle_fields h stamp area =
    said (subfield 8 1) (take 17 h.bank) ∷
    said (subfield 8 2) (drop 17 h.bank) ∷
    said (subfield 9 1) (take 17 h.own) ∷
    said (subfield 9 2) (drop 17 h.own) ∷
    said (field 10) (decimal_digits 1 h.transport.generation) ∷
    said (field 11) (decimal_digits 1 h.working.generation) ∷
    said (subfield 12 1) (take 6 stamp) ∷
    said (subfield 12 2) (take 6 (drop 6 stamp)) ∷
    said (subfield 12 3) (drop 12 stamp) ∷
    said (field 13) (area ∷ []) ∷
    said (field 14) (replicate 9 blank) ∷ []

abbrev pub front_fields : Kind → Held → (software method stamp : List ℕ) (area : ℕ) → List Said
front_fields kind h software method stamp area = opening_fields kind software method ++ middle_fields h stamp area

-- the checksum of fields 1 to 16 under a working key, and the request for keys
abbrev pub closing_fields : (working : ℕ) (before : List Said) (request : ℕ) → List Said
closing_fields working before request =
    said (field 17) (hex_digits 16 (checksum_of working (joined before))) ∷
    said (field 18) (request ∷ []) ∷ []

-- an ESI: 13, 15 and 16 are blank
abbrev pub esi_front : Held → (software stamp : List ℕ) → List Said
esi_front h software stamp =
    front_fields Esi h software (letters "SMH") stamp blank ++
    (said (field 15) (replicate 16 blank) ∷
    said (field 16) (replicate 16 blank) ∷ [])

unfoldable pub esi_built : Held → (software stamp : List ℕ) (request : ℕ) → List ℕ
esi_built h software stamp request =
    joined (esi_front h software stamp ++ closing_fields h.working.key (esi_front h software stamp) request)

-- a SUO: field 15 is the one-time key, enciphered under the transport key
unfoldable pub suo_built : Held → (software method stamp : List ℕ) (area once : ℕ) → List ℕ
suo_built h software method stamp area once =
    joined
    (front_fields Suo h software method stamp area ++
    (said (field 15) (hex_digits 16 (enciphered h.transport.key once)) ∷ []))

-- ---- a VAR repeats the SUO's fields 3 to 6 and 8 to 15; its method is SMH, its field 16 the digest

abbrev pub var_front : (suo : List ℕ) (digest : ℕ) → List Said
var_front suo digest =
    said (field 1) (tag_of Var) ∷
    said (field 2) (size_of Var) ∷
    said (field 3) (field_text (field 3) suo) ∷
    said (field 4) (field_text (field 4) suo) ∷
    said (field 5) (field_text (field 5) suo) ∷
    said (field 6) (field_text (field 6) suo) ∷
    said (field 7) (letters "SMH") ∷
    said (subfield 8 1) (field_text (subfield 8 1) suo) ∷
    said (subfield 8 2) (field_text (subfield 8 2) suo) ∷
    said (subfield 9 1) (field_text (subfield 9 1) suo) ∷
    said (subfield 9 2) (field_text (subfield 9 2) suo) ∷
    said (field 10) (field_text (field 10) suo) ∷
    said (field 11) (field_text (field 11) suo) ∷
    said (subfield 12 1) (field_text (subfield 12 1) suo) ∷
    said (subfield 12 2) (field_text (subfield 12 2) suo) ∷
    said (subfield 12 3) (field_text (subfield 12 3) suo) ∷
    said (field 13) (field_text (field 13) suo) ∷
    said (field 14) (field_text (field 14) suo) ∷
    said (field 15) (field_text (field 15) suo) ∷
    said (field 16) (hex_digits 16 digest) ∷ []

unfoldable pub var_built : (suo : List ℕ) (working digest request : ℕ) → List ℕ
var_built suo working digest request =
    joined (var_front suo digest ++ closing_fields working (var_front suo digest) request)
