-- The order of checks (document 01, 'Order of checks'): each order is one list, and the first failing check gives the code.
-- Assumes nothing.
use Rattle.std.specs.Prelude.{ℕ, ◌-◌, ◌/◌, ◌%◌, ◌^◌, Bool, true, false, List, [], ◌∷◌, ◌++◌, eqb, ltb, leb, length, None, Option, Some}
use Rattle.ground.specs.Choice.{both, either, fails}
use Rattle.ground.specs.Lists.{same}
use Rattle.calendar.specs.Dates.{is_before}
use Rattle.calendar.specs.Banking.{too_old}
use Rattle.calendar.specs.declared.Date.{Date}
use Rattle.keys.specs.Parity.{odd_parity}
use Rattle.digest.specs.Mac.{checksum_of}
use Rattle.customer.specs.declared.Customer.{Customer}
use Rattle.changeover.specs.Held.{held_key, good_for}
use Rattle.acceptance.specs.Stamps.{holds_stamp, live_stamps, once_used}
use Rattle.table.specs.Table.{Table, place_of, is_unknown}
use Rattle.table.specs.Named.{named}
use Rattle.message.specs.Layout.{field, no_field, field_text}
use Rattle.message.specs.declared.Check.{Check}
use Rattle.message.specs.Rules.{form_of, form_checks}
use Rattle.message.specs.Fields.{receiver_of, sender_of, stamp_text_of, stamp_of, date_of_stamp, version_of, transport_generation_of}
use Rattle.message.specs.Fields.{working_generation_of, digest_field_of, checksum_field_of}
use Rattle.message.specs.declared.Kind.TheVariants.{Esi, Suo, Var}
use Rattle.message.specs.declared.About.TheVariants.{Answered, Closing}
use Rattle.message.specs.declared.Collected.{Collected}
use Rattle.checks.specs.declared.Frame.{Frame}

-- a check that names no field, and one that names a field of the message that is answered (an ESI, a frame's SUO)
abbrev pub check : (code : ℕ) (failed : Bool) → Check
check c f = record { code = c; field = no_field; about = Answered; failed = f }

abbrev pub check_field : (code number : ℕ) (failed : Bool) → Check
check_field c n f = record { code = c; field = n; about = Answered; failed = f }

-- ---- what single checks ask

-- data type n, given at opening, is among the customer's: bit n - 1 of the types; there is no type 0
unfoldable pub type_allowed : (types data_type : ℕ) → Bool
type_allowed types n = both (ltb 0 n) (eqb (types / 2 ^ (n - 1) % 2) 1)

-- the checksum of a message under a working key is not the one it carries; without a key none is
unfoldable pub checksum_differs : Option ℕ → List ℕ → Bool
checksum_differs None m = true
checksum_differs (Some key) m = fails (eqb (checksum_of key m) (checksum_field_of m))

-- the digest is not the one that the VAR carries, or no characters are left
unfoldable pub digest_differs : Option ℕ → ℕ → Bool
digest_differs None d = true
digest_differs (Some x) d = fails (eqb x d)

unfoldable pub is_missing : Option ℕ → Bool
is_missing None = true
is_missing (Some k) = false

unfoldable pub key_or0 : Option ℕ → ℕ
key_or0 None = 0
key_or0 (Some k) = k

-- ---- the checks that both orders share

-- 1012: a version below 120 other than 110, or below the floor
unfoldable pub too_old_version : (floor version : ℕ) → Bool
too_old_version floor version = either (ltb version floor) (both (ltb version 120) (fails (eqb version 110)))

-- 1012 version too old; 1021 receiver not this bank; 1033 sender unknown (qualifiers count); 1035 known but not agreed
unfoldable pub party_checks : Table → List ℕ → List Check
party_checks t m =
    check 1012 (too_old_version t.settings.floor (version_of m)) ∷
    check 1021 (fails (same (receiver_of m) t.settings.bank)) ∷
    check 1033 (is_unknown (place_of t (sender_of m))) ∷
    check 1035 (fails (named t (sender_of m)).agreed) ∷ []

-- 1015 more than five banking days lie after the stamp's date and up to today; 1016 date after today; 1018 the customer holds that stamp
unfoldable pub stamp_checks : Table → Customer → (today : Date) (m : List ℕ) → List Check
stamp_checks t c today m =
    check 1015 (too_old t.holidays (date_of_stamp m) today) ∷
    check 1016 (is_before today (date_of_stamp m)) ∷
    check 1018 (holds_stamp c (stamp_of m)) ∷ []

-- 1034: 64 accepted stamps not too old are held
unfoldable pub room_checks : Table → Customer → (today : Date) → List Check
room_checks t c today = check 1034 (leb 64 (length (live_stamps t.holidays today c))) ∷ []

-- ---- the ESI

-- 1013 and 1014: a generation neither current, nor previous with the stamp's date up to its last day; 1020 the checksum
unfoldable pub esi_key_checks : Customer → List ℕ → List Check
esi_key_checks c m =
    check 1013 (fails (good_for c.transport (transport_generation_of m) (date_of_stamp m))) ∷
    check 1014 (fails (good_for c.working (working_generation_of m) (date_of_stamp m))) ∷
    check 1020 (checksum_differs (held_key c.working (working_generation_of m)) m) ∷ []

unfoldable pub esi_checks : Table → (today : Date) → Collected → List Check
esi_checks t today m =
    let c : Customer = named t (sender_of m.text) in
    form_checks (form_of Esi) Answered m ++
    party_checks t m.text ++
    stamp_checks t c today m.text ++
    esi_key_checks c m.text ++
    room_checks t c today

-- ---- the frame

-- 1025: the data type given at opening is not allowed
unfoldable pub type_checks : Customer → (data_type : ℕ) → List Check
type_checks c data_type = check 1025 (fails (type_allowed c.types data_type)) ∷ []

-- the same field of SUO and VAR
abbrev pub unequal : (field : ℕ) (a b : List ℕ) → Check
unequal n a b = check_field 1026 n (fails (same a b))

-- first unequal of version, receiver, sender, fields 15, 10, 11, 13, 12
unfoldable pub pair_checks : (suo var : List ℕ) → List Check
pair_checks suo var =
    unequal (field 3) (field_text (field 3) suo) (field_text (field 3) var) ∷
    unequal (field 8) (receiver_of suo) (receiver_of var) ∷
    unequal (field 9) (sender_of suo) (sender_of var) ∷
    unequal (field 15) (field_text (field 15) suo) (field_text (field 15) var) ∷
    unequal (field 10) (field_text (field 10) suo) (field_text (field 10) var) ∷
    unequal (field 11) (field_text (field 11) suo) (field_text (field 11) var) ∷
    unequal (field 13) (field_text (field 13) suo) (field_text (field 13) var) ∷
    unequal (field 12) (stamp_text_of suo) (stamp_text_of var) ∷ []

-- 1013 also where no such key was held at SUO's end; 1017 an accepted batch of this customer, its stamp not yet too old, had the same
-- one-time key; 1031 its parity; 1019 also where no characters are left
unfoldable pub key_checks : Table → Customer → (today : Date) → Frame → List Check
key_checks t c today f =
    let m : List ℕ = f.suo.text in
    let date : Date = date_of_stamp m in
    check 1013 (either (is_missing f.once) (fails (good_for c.transport (transport_generation_of m) date))) ∷
    check 1014 (fails (good_for c.working (working_generation_of m) date)) ∷
    check 1017 (once_used t.holidays today c (key_or0 f.once)) ∷
    check 1031 (fails (odd_parity (key_or0 f.once))) ∷
    check 1019 (digest_differs f.digest (digest_field_of f.var.text)) ∷
    check 1020 (checksum_differs (held_key c.working (working_generation_of m)) f.var.text) ∷ []

unfoldable pub frame_checks : Table → (today : Date) (data_type : ℕ) → Frame → List Check
frame_checks t today data_type f =
    let c : Customer = named t (sender_of f.suo.text) in
    form_checks (form_of Suo) Answered f.suo ++
    form_checks (form_of Var) Closing f.var ++
    party_checks t f.suo.text ++
    type_checks c data_type ++
    pair_checks f.suo.text f.var.text ++
    stamp_checks t c today f.suo.text ++
    key_checks t c today f ++
    room_checks t c today
