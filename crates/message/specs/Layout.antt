-- The fields of the security messages: number, name and length (document 001, table L1-1; document 01, 'Message fields').
-- Assumes nothing.
use Rattle.std.specs.Prelude.{ℕ, ◌+◌, ◌*◌, ◌/◌, List, [], ◌∷◌, eqb, take}
use Prim.Native.String.{String}
use Rattle.ground.specs.Choice.{pick}
use Rattle.ground.specs.Lists.{part}
use Rattle.text.specs.Letters.{letters}
use Rattle.message.specs.declared.Kind.{Kind}
use Rattle.message.specs.declared.Kind.TheVariants.{Esi, Suo, Var}

-- ---- a field's number: ten times the number, and the part, so that 81 is field 8.1 and 20 is field 2

abbrev pub field : ℕ → ℕ
field n = 10 * n

abbrev pub subfield : (n part : ℕ) → ℕ
subfield n part = 10 * n + part

-- where a check or a reply names no field
abbrev pub no_field : ℕ
no_field = 0

-- the whole field's number: 8 of field 8.1
abbrev pub whole_number : ℕ → ℕ
whole_number n = n / 10

-- ---- the layout

pub record Field : Type 0 where
  pub number : ℕ
  pub name : List ℕ
  pub length : ℕ

abbrev pub laid : ℕ → String → ℕ → Field
laid n s l = record { number = n; name = letters s; length = l }

-- adjoining from offset 0
abbrev pub fields : List Field
fields =
    laid (field 1) "SANOMATUNNUS" 5 ∷
    laid (field 2) "SANOMAPITUUS" 3 ∷
    laid (field 3) "VERSIO" 3 ∷
    laid (field 4) "ONNISTUMISKOODI" 1 ∷
    laid (field 5) "ILMOITUSKOODI" 4 ∷
    laid (field 6) "OHJELMISTO" 16 ∷
    laid (field 7) "MENETELMÄ" 3 ∷
    laid (subfield 8 1) "VAST.TUNNUS" 17 ∷
    laid (subfield 8 2) "VAST.TARKENNE" 8 ∷
    laid (subfield 9 1) "LÄH.TUNNUS" 17 ∷
    laid (subfield 9 2) "LÄH.TARKENNE" 8 ∷
    laid (field 10) "SIIRTOAVAINNO" 1 ∷
    laid (field 11) "KÄYTTÖAVAINNO" 1 ∷
    laid (subfield 12 1) "PÄIVÄYS" 6 ∷
    laid (subfield 12 2) "KELLONAIKA" 6 ∷
    laid (subfield 12 3) "LEIMANUMERO" 3 ∷
    laid (field 13) "SUOJAUSALUE" 1 ∷
    laid (field 14) "VARALLA" 9 ∷
    laid (field 15) "KERTA-AVAIN" 16 ∷
    laid (field 16) "TIIVISTE" 16 ∷
    laid (field 17) "TARKISTE" 16 ∷
    laid (field 18) "AVAINVAIHTO" 1 ∷
    laid (field 19) "UUSIAVAIN" 16 ∷
    laid (field 20) "ILMOITUS" 60 ∷
    laid (field 21) "KUITTAUS" 80 ∷ []

-- the characters that the first fields of a list take
unfoldable pub total : List Field → ℕ
total [] = 0
total (f ∷ fs) = f.length + total fs

-- where the field with that number begins
unfoldable pub offset_in : ℕ → List Field → ℕ
offset_in n [] = 0
offset_in n (f ∷ fs) = pick (eqb f.number n) 0 (f.length + offset_in n fs)

unfoldable pub width_in : ℕ → List Field → ℕ
width_in n [] = 0
width_in n (f ∷ fs) = pick (eqb f.number n) f.length (width_in n fs)

unfoldable pub name_in : ℕ → List Field → List ℕ
name_in n [] = []
name_in n (f ∷ fs) = pick (eqb f.number n) f.name (name_in n fs)

-- the characters of a field in a message
unfoldable pub field_text : ℕ → List ℕ → List ℕ
field_text n m = part (offset_in n fields) (width_in n fields) m

-- a customer's ESI and VAR have fields 1 to 18, SUO 1 to 15
unfoldable pub layout : Kind → List Field
layout Esi = take 22 fields
layout Suo = take 19 fields
layout Var = take 22 fields

-- customer ESI and VAR 161, SUO 128
unfoldable pub layout_length : Kind → ℕ
layout_length k = total (layout k)

-- the bank's ESI has fields 1 to 20, the PTE all 21
abbrev pub bank_esi : List Field
bank_esi = take 24 fields

abbrev pub pte : List Field
pte = fields
