-- The notice codes and their texts (document 001, table 2), K or E, and bare or full (document 01, 'Replies').
-- Assumes nothing.
use Rattle.std.specs.Prelude.{ℕ, Bool, true, false, List, [], ◌∷◌, ◌++◌, map, eqb}
use Prim.Native.String.{String}
use Rattle.ground.specs.Choice.{pick, between}
use Rattle.text.specs.Letters.{letters}
use Rattle.message.specs.Layout.{Field, field, laid, fields, name_in}

-- a code: its text before and after the field's name NNN, whether it names a field, whether the field's contents VVV follow the name, K or
-- E, bare or full
pub record Code : Type 0 where
  pub code : ℕ
  pub before : List ℕ
  pub names : Bool
  pub shows : Bool
  pub after : List ℕ
  pub accepted : Bool
  pub bare : Bool

-- K, with the whole reply
abbrev pub taken : ℕ → String → Code
taken c s = record { code = c; before = letters s; names = false; shows = false; after = []; accepted = true; bare = false }

-- E, with the whole reply
abbrev pub refused : ℕ → String → Code
refused c s = record { code = c; before = letters s; names = false; shows = false; after = []; accepted = false; bare = false }

-- E, in the bare form
abbrev pub barely : ℕ → String → Code
barely c s = record { code = c; before = letters s; names = false; shows = false; after = []; accepted = false; bare = true }

-- E, in the bare form, with the field's name and its contents
abbrev pub faulty : ℕ → String → Code
faulty c s = record { code = c; before = letters s; names = true; shows = true; after = []; accepted = false; bare = true }

abbrev pub codes : List Code
codes =
    taken 1001 "HYVÄKSYTTY" ∷
    taken 1002 "HYVÄKSYTTY, AVAINVAIHTO" ∷
    taken 1003 "HYVÄKSYTTY, AVAINVAIHTO HYVÄKSYTTY" ∷
    taken 1004 "HYVÄKSYTTY, AVAINVAIHTO HYLÄTTY" ∷
    taken 1005 "HYVÄKSYTTY, AVAINVAIHTO LIIAN USEIN" ∷
    faulty 1010 "MUOTOVIRHE KENTÄSSÄ " ∷
    faulty 1011 "ARVOVIRHE KENTÄSSÄ " ∷
    barely 1012 "VERSIO ON LIIAN VANHA" ∷
    refused 1013 "SIIRTOAVAIN EI OLE VOIMASSA" ∷
    refused 1014 "KÄYTTÖAVAIN EI OLE VOIMASSA" ∷
    refused 1015 "PÄIVÄYS ON LIIAN VANHA" ∷
    refused 1016 "PÄIVÄYS ON ETEENPÄIN" ∷
    refused 1017 "KERTA-AVAIN ON JO KÄYTETTY" ∷
    refused 1018 "AIKALEIMA ON JO KÄYTETTY" ∷
    refused 1019 "TIIVISTE EI TÄSMÄÄ" ∷
    refused 1020 "TARKISTE EI TÄSMÄÄ" ∷
    barely 1021 "VASTAANOTTAJA ON VÄÄRIN" ∷
    barely 1023 "SUO-SANOMA PUUTTUU" ∷
    barely 1024 "VAR-SANOMA PUUTTUU" ∷
    refused 1025 "SUOJAUSOIKEUTTA EI OLE" ∷
    record {
      code = 1026;
      before = letters "KENTTÄ ";
      names = true;
      shows = false;
      after = letters ": SUO-SANOMA <> VAR-SANOMA";
      accepted = false;
      bare = false;
    } ∷
    refused 1031 "KERTA-AVAIMEN PARITEETTI EI TÄSMÄÄ" ∷
    barely 1032 "TURVASANOMA LIIAN LYHYT" ∷
    barely 1033 "ASIAKASTUNNUS VIRHEELLINEN" ∷
    refused 1034 "JÄRJESTELMÄVIRHE" ∷
    barely 1035 "PATUN KÄYTÖSTÄ EI OLE SOVITTU" ∷
    taken 1036 "HYVÄKSYTTY, VAIHTOJAKSO KATKAISTU" ∷
    taken 1037 "HYVÄKSYTTY, VAIHTOJAKSON KATKAISU HYLÄTTY" ∷ []

-- a number that is no code has no text, is refused and bare
abbrev pub no_code : Code
no_code = record { code = 0; before = []; names = false; shows = false; after = []; accepted = false; bare = true }

unfoldable pub code_in : ℕ → List Code → Code
code_in n [] = no_code
code_in n (c ∷ cs) = pick (eqb c.code n) c (code_in n cs)

-- the names that 1026 uses for whole groups: fields 8, 9 and 12
abbrev pub groups : List Field
groups = laid (field 8) "VASTAANOTTAJA" 25 ∷ laid (field 9) "LÄHETTÄJÄ" 25 ∷ laid (field 12) "AIKALEIMA" 15 ∷ []

-- the field's name: 8.1 to 9.2 and 12.1 to 12.3 by their own
unfoldable pub field_name : ℕ → List ℕ
field_name n = name_in n (fields ++ groups)

-- bytes outside 20 to 7E are shown as `?`
unfoldable pub shown_byte : ℕ → ℕ
shown_byte b = pick (between 0x20 0x7E b) b 0x3F

-- VVV: one blank, then the field as received
unfoldable pub value_text : List ℕ → List ℕ
value_text contents = letters " " ++ map shown_byte contents

-- the text of a code, with the field's name where it names one, and its contents where it shows them
unfoldable pub text_of : (code number : ℕ) (contents : List ℕ) → List ℕ
text_of code number contents =
    (code_in code codes).before ++
    pick (code_in code codes).names (field_name number) [] ++
    pick (code_in code codes).shows (value_text contents) [] ++
    (code_in code codes).after
