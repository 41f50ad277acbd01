-- The form of what the bank sends back: 3032, 3010 and 3011 as document 01 has 1032, 1010 and 1011, with the reply's layout (document 02,
-- R-5).
-- Assumes nothing.
use Rattle.std.specs.Prelude.{ℕ, Bool, List, [], ◌∷◌, ◌++◌, eqb, ltb, length, drop}
use Rattle.ground.specs.Choice.{both, either, fails, pick}
use Rattle.ground.specs.Lists.{same}
use Rattle.text.specs.Characters.{all_blank}
use Rattle.text.specs.Numbers.{decimal}
use Rattle.text.specs.Letters.{letters}
use Rattle.calendar.specs.Dates.{real_date, real_time}
use Rattle.message.specs.Layout.{Field, field, subfield, no_field, total, field_text, bank_esi, pte}
use Rattle.message.specs.declared.Check.{Check}
use Rattle.message.specs.Rules.{Rule, Form, only, rule, one_of, format_holds, value_holds, each_field}
use Rattle.message.specs.declared.About.TheVariants.{Answered}
use Rattle.desk_form.specs.declared.Reply.{Reply}
use Rattle.desk_form.specs.declared.Reply.TheVariants.{Esi, Pte}
use Rattle.desk_form.specs.declared.Test.{Test}
use Rattle.desk_form.specs.declared.Test.TheVariants.{Format, Value}

-- ---- the layout

-- the bank's ESI has fields 1 to 20, the PTE all 21
unfoldable pub reply_layout : Reply → List Field
reply_layout Esi = bank_esi
reply_layout Pte = pte

-- bank ESI 237, PTE 317
unfoldable pub reply_size : Reply → ℕ
reply_size k = total (reply_layout k)

-- the identifier that is awaited
unfoldable pub awaited : Reply → List ℕ
awaited Esi = letters ">>ESI"
awaited Pte = letters ">>PTE"

-- field 18 is 1: a key is enclosed
unfoldable pub encloses : List ℕ → Bool
encloses r = same (letters "1") (field_text (field 18) r)

-- ---- the form

-- fields 15 to 17, where used, are sixteen of 0-9 A-F, and 19 if 18 is 1: 17 in both, 15 and 16 in a PTE
unfoldable pub reply_hexes : Reply → (enclosed : Bool) → List ℕ
reply_hexes Esi enclosed = field 17 ∷ pick enclosed (field 19 ∷ []) []
reply_hexes Pte enclosed = field 15 ∷ field 16 ∷ field 17 ∷ pick enclosed (field 19 ∷ []) []

-- length is the layout's; version is 110 or 120; 4 K or E; 6 not all blank; method SMH; date and time real; 14 blank; 18 0 or 1; 19 blank
-- unless 18 is 1
unfoldable pub both_rules : Reply → List Rule
both_rules k =
    rule (field 2) (λ text. eqb (decimal text) (reply_size k)) ∷
    rule (field 3) (λ text. one_of (letters "110" ∷ letters "120" ∷ []) text) ∷
    rule (field 4) (λ text. one_of (letters "K" ∷ letters "E" ∷ []) text) ∷
    rule (field 6) (λ text. fails (all_blank text)) ∷
    rule (field 7) (λ text. same (letters "SMH") text) ∷
    rule (subfield 12 1) (λ text. real_date (decimal text)) ∷
    rule (subfield 12 2) (λ text. real_time (decimal text)) ∷
    rule (field 14) (λ text. all_blank text) ∷
    rule (field 18) (λ text. one_of (letters "0" ∷ letters "1" ∷ []) text) ∷
    record { number = field 19; holds = λ r. only (fails (encloses r)) (all_blank (field_text (field 19) r)) } ∷ []

-- field 13 S or A (blank in ESI); 15 and 16 blank in ESI
unfoldable pub each_rules : Reply → List Rule
each_rules Esi =
    rule (field 13) (λ text. all_blank text) ∷
    rule (field 15) (λ text. all_blank text) ∷
    rule (field 16) (λ text. all_blank text) ∷ []
each_rules Pte = rule (field 13) (λ text. one_of (letters "S" ∷ letters "A" ∷ []) text) ∷ []

abbrev pub reply_form : Reply → (enclosed : Bool) → Form
reply_form k enclosed =
    record { fields = reply_layout k; hexes = reply_hexes k enclosed; rules = both_rules k ++ each_rules k }

-- ---- the checks of form

-- another identifier than the awaited one is a fault of field 1's format; characters past the layout must be blank (field 2)
unfoldable pub reply_format_fails : Reply → List ℕ → ℕ → Bool
reply_format_fails k r n =
    either (both (eqb n (field 1)) (fails (same (awaited k) (field_text (field 1) r))))
    (fails (format_holds (reply_form k (encloses r)) (all_blank (drop (reply_size k) r)) n (field_text n r)))

unfoldable pub reply_value_fails : Reply → List ℕ → ℕ → Bool
reply_value_fails k r n = fails (value_holds (reply_form k (encloses r)) n r)

-- by what the field is tested for
unfoldable pub fails_in : Test → Reply → List ℕ → ℕ → Bool
fails_in Format = reply_format_fails
fails_in Value = reply_value_fails

-- 3032 shorter than the layout; 3010 lowest field first; 3011 likewise
unfoldable pub reply_checks : Reply → List ℕ → List Check
reply_checks k r =
    (record { code = 3032; field = no_field; about = Answered; failed = ltb (length r) (reply_size k) } ∷ []) ++
    each_field 3010 Answered (reply_format_fails k r) (reply_layout k) ++
    each_field 3011 Answered (reply_value_fails k r) (reply_layout k)
