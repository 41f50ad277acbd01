-- What makes a message well formed: each rule of each field is one check, in the order in which faults are told (document 01,
-- 'Message fields', 'Reading the file', 'Order of checks').
-- Assumes nothing.
use Rattle.std.specs.Prelude.{ℕ, Bool, true, false, List, [], ◌∷◌, ◌++◌, eqb, leb}
use Rattle.ground.specs.Choice.{both, either, fails}
use Rattle.ground.specs.Lists.{all, member, same}
use Rattle.text.specs.Characters.{digit, field_character, hex_digit, all_blank}
use Rattle.text.specs.Numbers.{decimal}
use Rattle.text.specs.Letters.{letters}
use Rattle.calendar.specs.Dates.{real_date, real_time}
use Rattle.message.specs.Layout.{Field, field, subfield, no_field, whole_number, layout, layout_length, field_text}
use Rattle.message.specs.declared.Check.{Check}
use Rattle.message.specs.declared.Kind.{Kind}
use Rattle.message.specs.declared.Kind.TheVariants.{Esi, Suo, Var}
use Rattle.message.specs.declared.Extent.{Extent}
use Rattle.message.specs.declared.Extent.TheVariants.{Whole, TooShort, LengthNotDigits, OtherLength, CutShort}
use Rattle.message.specs.declared.About.{About}
use Rattle.message.specs.declared.Collected.{Collected}

-- ---- a kind's form: its fields in their order, those that are hex digits, and the rules on values

-- a rule: the field that it is about, and what the message must be
pub record Rule : Type 0 where
  pub number : ℕ
  pub holds : List ℕ → Bool

pub record Form : Type 0 where
  pub fields : List Field
  pub hexes : List ℕ
  pub rules : List Rule

-- fields 15 to 17, where used, are sixteen of 0-9 A-F: 15 in SUO and VAR, 16 in VAR, 17 in ESI and VAR
unfoldable pub hex_fields : Kind → List ℕ
hex_fields Esi = field 17 ∷ []
hex_fields Suo = field 15 ∷ []
hex_fields Var = field 15 ∷ field 16 ∷ field 17 ∷ []

-- a test that is made only where it is asked
abbrev pub only : Bool → Bool → Bool
only asked holds = either (fails asked) holds

-- a rule on the characters of its own field
abbrev pub rule : ℕ → (List ℕ → Bool) → Rule
rule n f = record { number = n; holds = λ m. f (field_text n m) }

-- one of some texts
unfoldable pub one_of : List (List ℕ) → List ℕ → Bool
one_of [] text = false
one_of (x ∷ l) text = either (same x text) (one_of l text)

-- method SMH, in SUO SKH or SKE
unfoldable pub methods : Kind → List (List ℕ)
methods Esi = letters "SMH" ∷ []
methods Suo = letters "SKH" ∷ letters "SKE" ∷ []
methods Var = letters "SMH" ∷ []

-- version 110 or 120
unfoldable pub is_exact : List ℕ → Bool
is_exact m = one_of (letters "110" ∷ letters "120" ∷ []) (field_text (field 3) m)

-- length is the layout's for version 110 or 120, which have exact lengths
unfoldable pub length_rules : Kind → List Rule
length_rules kind =
    record { number = field 2; holds = λ m. only (is_exact m) (eqb (decimal (field_text (field 2) m)) (layout_length kind)) } ∷ []

-- field 4 blank, 5 is 0000, 6 not all blank; method; date and time real
unfoldable pub common_rules : Kind → List Rule
common_rules kind =
    rule (field 4) (λ text. all_blank text) ∷
    rule (field 5) (λ text. same (letters "0000") text) ∷
    rule (field 6) (λ text. fails (all_blank text)) ∷
    rule (field 7) (λ text. one_of (methods kind) text) ∷
    rule (subfield 12 1) (λ text. real_date (decimal text)) ∷
    rule (subfield 12 2) (λ text. real_time (decimal text)) ∷
    rule (field 14) (λ text. all_blank text) ∷ []

-- field 13 S or A (blank in ESI); 14 blank; 15 and 16 blank in ESI; 18 is 0, 1 or 2
unfoldable pub own_rules : Kind → List Rule
own_rules Esi =
    rule (field 13) (λ text. all_blank text) ∷
    rule (field 15) (λ text. all_blank text) ∷
    rule (field 16) (λ text. all_blank text) ∷
    rule (field 18) (λ text. one_of (letters "0" ∷ letters "1" ∷ letters "2" ∷ []) text) ∷ []
own_rules Suo = rule (field 13) (λ text. one_of (letters "S" ∷ letters "A" ∷ []) text) ∷ []
own_rules Var =
    rule (field 13) (λ text. one_of (letters "S" ∷ letters "A" ∷ []) text) ∷
    rule (field 18) (λ text. one_of (letters "0" ∷ letters "1" ∷ letters "2" ∷ []) text) ∷ []

abbrev pub form_of : Kind → Form
form_of kind = record { fields = layout kind; hexes = hex_fields kind; rules = length_rules kind ++ (common_rules kind ++ own_rules kind) }

-- ---- format (1010)

-- field n with these characters: fields 1 to 16 use only the field characters; fields 2, 3, 5, 10, 11 and 12 are digits; hex digits where
-- used; characters over in a message's last record must be blank (field 2)
unfoldable pub format_holds : Form → Bool → ℕ → List ℕ → Bool
format_holds form blank_over n text =
    both (only (leb (whole_number n) 16) (all field_character text))
    (both (only (member (whole_number n) (2 ∷ 3 ∷ 5 ∷ 10 ∷ 11 ∷ 12 ∷ [])) (all digit text))
    (both (only (member n form.hexes) (all hex_digit text)) (only (eqb n (field 2)) blank_over)))

-- ---- value (1011)

-- what some rules ask of field n in a message; a field without a rule may hold anything
unfoldable pub obeys : List Rule → ℕ → List ℕ → Bool
obeys [] n m = true
obeys (r ∷ rs) n m = both (only (eqb r.number n) (r.holds m)) (obeys rs n m)

abbrev pub value_holds : Form → ℕ → List ℕ → Bool
value_holds form n m = obeys form.rules n m

-- ---- the checks of form

-- shorter than the layout (1032): the first record under 11 characters, or cut short by the file's end
unfoldable pub is_short : Extent → Bool
is_short Whole = false
is_short TooShort = true
is_short LengthNotDigits = false
is_short OtherLength = false
is_short CutShort = true

-- a message that is one record alone has the fault that made it so, and no other is looked for
unfoldable pub format_fails : Form → Extent → Bool → List ℕ → ℕ → Bool
format_fails form Whole blank_over m n = fails (format_holds form blank_over n (field_text n m))
format_fails form TooShort blank_over m n = false
format_fails form LengthNotDigits blank_over m n = eqb n (field 2)
format_fails form OtherLength blank_over m n = false
format_fails form CutShort blank_over m n = false

unfoldable pub value_fails : Form → Extent → List ℕ → ℕ → Bool
value_fails form Whole m n = fails (value_holds form n m)
value_fails form TooShort m n = false
value_fails form LengthNotDigits m n = false
value_fails form OtherLength m n = eqb n (field 2)
value_fails form CutShort m n = false

-- one check for each of some fields, in their order
unfoldable pub each_field : ℕ → About → (ℕ → Bool) → List Field → List Check
each_field code about broken [] = []
each_field code about broken (f ∷ fs) =
    record { code = code; field = f.number; about = about; failed = broken f.number } ∷ each_field code about broken fs

-- 1032; 1010 lowest field first; 1011 likewise
unfoldable pub form_checks : Form → About → Collected → List Check
form_checks form about m =
    (record { code = 1032; field = no_field; about = about; failed = is_short m.extent } ∷ []) ++
    each_field 1010 about (format_fails form m.extent m.blank m.text) form.fields ++
    each_field 1011 about (value_fails form m.extent m.text) form.fields
