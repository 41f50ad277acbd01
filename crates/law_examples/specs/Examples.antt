-- P1 to P8 of document 01, 'Examples', as tests over the definitions.
-- Assumes nothing.
use Rattle.std.specs.Prelude.{ℕ, Bool, true, List, [], ◌∷◌, map, eqb}
use Prim.Native.String.{String}
use Rattle.ground.specs.Choice.{both, fails}
use Rattle.ground.specs.Lists.{same}
use Rattle.text.specs.Characters.{internal}
use Rattle.text.specs.Letters.{letters}
use Rattle.digest.specs.Kept.{kept}
use Rattle.digest.specs.declared.Method.TheVariants.{Skh, Ske}
use Rattle.calendar.specs.Dates.{real_date, day_number}
use Rattle.calendar.specs.Banking.{weekday}
use Rattle.keys.specs.Parity.{parity_byte}
use Rattle.message.specs.declared.Extent.TheVariants.{Whole}
use Rattle.verdict.specs.Outcomes.{esi_outcome}
use Rattle.law_examples.specs.Bank.{bank_with, esi}

-- the code that answers an ESI with the stamp 941015, collected whole, on a day and with some holidays
unfoldable pub code_on : List ℕ → ℕ → ℕ
code_on holidays today =
    (esi_outcome (bank_with holidays) (record { today = record { yymmdd = today }; kind = 1; clock = 0; made = 0 })
    (record { extent = Whole; blank = true; text = esi })).code

-- an example: document 01's name for it, and whether it holds
pub record Example : Type 0 where
  pub label : String
  pub holds : Bool

abbrev pub example : String → Bool → Example
example l h = record { label = l; holds = h }

-- P1 `a` gives 41; `#` gives 20. P2 `AB··`, `C` (· a blank): SKH `ABC`, SKE `AB··C`. P3 `A#·` under SKH: 41 20. P4 a blank record under
-- SKH: nothing. P5 parity of 36 is 37, of FF is FE. P6 stamp 941015 (a Saturday) no holidays: accepted Sunday 941023, 1015 on 941024.
-- P7 with 941019 a holiday: accepted 941024, 1015 on 941025. P8 000229 is real, 010229 isn't.
abbrev pub examples : List Example
examples =
    example "P1" (eqb (internal 0x61) 0x41) ∷
    example "P1" (eqb (internal 0x23) 0x20) ∷
    example "P2" (same (kept Skh (letters "AB  " ∷ letters "C" ∷ [])) (letters "ABC")) ∷
    example "P2" (same (kept Ske (letters "AB  " ∷ letters "C" ∷ [])) (letters "AB  C")) ∷
    example "P3" (same (kept Skh (letters "A# " ∷ [])) (0x41 ∷ 0x20 ∷ [])) ∷
    example "P4" (same (kept Skh (letters "    " ∷ [])) []) ∷
    example "P5" (eqb (parity_byte 0x36) 0x37) ∷
    example "P5" (eqb (parity_byte 0xFF) 0xFE) ∷
    example "P6" (eqb (weekday (day_number 941015)) 5) ∷
    example "P6" (eqb (weekday (day_number 941023)) 6) ∷
    example "P6" (eqb (code_on [] 941023) 1001) ∷
    example "P6" (eqb (code_on [] 941024) 1015) ∷
    example "P7" (eqb (code_on (941019 ∷ []) 941024) 1001) ∷
    example "P7" (eqb (code_on (941019 ∷ []) 941025) 1015) ∷
    example "P8" (real_date 000229) ∷
    example "P8" (fails (real_date 010229)) ∷ []

-- every one holds
unfoldable pub hold_all : List Bool → Bool
hold_all [] = true
hold_all (b ∷ l) = both b (hold_all l)

abbrev pub outcomes : List Example → List Bool
outcomes l = map (λ e. e.holds) l
