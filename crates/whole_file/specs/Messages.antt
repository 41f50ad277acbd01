-- How records make a message (document 01, 'Reading the file'; document 02, R-2).
-- Assumes nothing.
use Rattle.std.specs.Prelude.{ℕ, min, Bool, true, false, List, ◌++◌, ltb, length, take, drop, replicate, None, Option, Some}
use Prim.Native.String.{String}
use Rattle.ground.specs.Choice.{fails, pick, between}
use Rattle.ground.specs.Lists.{all, same}
use Rattle.text.specs.Characters.{digit, all_blank}
use Rattle.text.specs.Numbers.{decimal}
use Rattle.text.specs.Letters.{letters}
use Rattle.des.specs.Des.{deciphered}
use Rattle.changeover.specs.Held.{held_key}
use Rattle.table.specs.Table.{Table, place_of, customer_in}
use Rattle.message.specs.Layout.{field, field_text, layout_length}
use Rattle.message.specs.Fields.{sender_of, transport_generation_of, once_field_of}
use Rattle.message.specs.Order.{first_failing}
use Rattle.message.specs.Rules.{form_of, form_checks}
use Rattle.message.specs.declared.Kind.{Kind}
use Rattle.message.specs.declared.Kind.TheVariants.{Suo}
use Rattle.message.specs.declared.Extent.{Extent}
use Rattle.message.specs.declared.Extent.TheVariants.{Whole, TooShort, LengthNotDigits, OtherLength, CutShort}
use Rattle.message.specs.declared.About.TheVariants.{Answered}
use Rattle.verdict.specs.Outcomes.{is_sound}
use Rattle.message.specs.declared.Collected.{Collected}

-- a record whose first five characters are these
unfoldable pub begins : String → List ℕ → Bool
begins s chars = same (take 5 chars) (letters s)

-- ---- what a message's first record tells

-- as many characters settle whether the message is that record alone
abbrev pub head_length : ℕ
head_length = 11

-- a message may have grown to as many characters, with the old fields in place (document 001, 4.5)
abbrev pub most_length : ℕ
most_length = 500

-- field 2, which states the message's length
abbrev pub stated_length : List ℕ → List ℕ
stated_length chars = field_text (field 2) chars

-- a message whose first record is under 11 characters is that record alone; otherwise a length that isn't digits, or isn't from the
-- layout's to 500, makes a faulty message of that one record; else it is collected whole, and judged afterwards
unfoldable pub extent_of : Kind → List ℕ → Extent
extent_of kind chars =
    pick (ltb (length chars) head_length) TooShort
    (pick (fails (all digit (stated_length chars))) LengthNotDigits
    (pick (fails (between (layout_length kind) most_length (decimal (stated_length chars)))) OtherLength Whole))

unfoldable pub is_whole : Extent → Bool
is_whole Whole = true
is_whole TooShort = false
is_whole LengthNotDigits = false
is_whole OtherLength = false
is_whole CutShort = false

-- ---- a message as its records come

-- the length that a message under way has to reach: the one that it states, and none goes past 500
unfoldable pub wanted_length : List ℕ → ℕ
wanted_length chars = min (decimal (stated_length chars)) most_length

-- it is not yet reached
unfoldable pub wants_more : List ℕ → Bool
wants_more chars = ltb (length chars) (wanted_length chars)

-- a collected message has room for the known fields of the longest kind; zeros after the last
abbrev pub text_room : ℕ
text_room = 161

-- the known fields are the first characters, as many as the layout has; the rest is passed over
unfoldable pub known_text : Kind → List ℕ → List ℕ
known_text kind chars = take text_room (take (layout_length kind) chars ++ replicate text_room 0)

-- a message by its characters; those over in its last record, past the stated length, are blank or not
unfoldable pub collected_as : Kind → Extent → List ℕ → Collected
collected_as kind extent chars =
    record { extent = extent; blank = all_blank (drop (wanted_length chars) chars); text = known_text kind chars }

-- ---- the one-time key

-- field 15 deciphered under a transport key, if there is one
unfoldable pub one_time : Option ℕ → List ℕ → Option ℕ
one_time None suo = None
one_time (Some transport) suo = Some (deciphered transport (once_field_of suo))

-- the transport key of the generation that a SUO names, if its sender is there and holds it
unfoldable pub transport_held : Table → Option ℕ → List ℕ → Option ℕ
transport_held t (Some i) suo = held_key (customer_in t i).transport (transport_generation_of suo)
transport_held t None suo = None

-- at the SUO's end: under the transport key generation it names, if it is held then
unfoldable pub one_time_of : Table → List ℕ → Option ℕ
one_time_of t suo = one_time (transport_held t (place_of t (sender_of suo)) suo) suo

-- a faulty SUO carries none
unfoldable pub once_of : Table → Collected → Option ℕ
once_of t m = pick (is_sound (first_failing (form_checks (form_of Suo) Answered m))) (one_time_of t m.text) None
