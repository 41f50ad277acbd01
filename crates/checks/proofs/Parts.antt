-- The two orders, part by part: lists joined from the left are the same lists joined from the right.
-- Assumes nothing.
use mathlib.Core.Path.{◌≡◌}
use mathlib.Core.List.{List, ◌++◌, append_assoc}
use Prim.Native.Nat.{ℕ}
use Rattle.calendar.specs.declared.Date.{Date}
use Rattle.customer.specs.declared.Customer.{Customer}
use Rattle.table.specs.Table.{Table}
use Rattle.table.specs.Named.{named}
use Rattle.message.specs.declared.Check.{Check}
use Rattle.message.specs.Rules.{form_of, form_checks}
use Rattle.message.specs.Fields.{sender_of}
use Rattle.message.specs.declared.Kind.TheVariants.{Esi, Suo, Var}
use Rattle.message.specs.declared.About.TheVariants.{Answered, Closing}
use Rattle.checks.specs.Checks.{party_checks, stamp_checks, room_checks, esi_key_checks, type_checks, pair_checks, key_checks, esi_checks}
use Rattle.checks.specs.Checks.{frame_checks}
use Rattle.message.specs.declared.Collected.{Collected}
use Rattle.checks.specs.declared.Frame.{Frame}

five : (a b c d e : List Check) → (((a ++ b) ++ c) ++ d) ++ e ≡ a ++ (b ++ (c ++ (d ++ e)))
five a b c d e = simp append_assoc

eight : (a b c d e f g h : List Check)
    → ((((((a ++ b) ++ c) ++ d) ++ e) ++ f) ++ g) ++ h ≡ a ++ (b ++ (c ++ (d ++ (e ++ (f ++ (g ++ h))))))
eight a b c d e f g h = simp append_assoc

-- an ESI, with the sender's record
abbrev pub esi_parts : Table → Customer → (today : Date) → Collected → List Check
esi_parts t c today m =
    form_checks (form_of Esi) Answered m
    ++ (party_checks t m.text ++ (stamp_checks t c today m.text ++ (esi_key_checks c m.text ++ room_checks t c today)))

-- a frame, with the sender's record
abbrev pub frame_parts : Table → Customer → (today : Date) (kind : ℕ) → Frame → List Check
frame_parts t c today kind f =
    form_checks (form_of Suo) Answered f.suo
    ++ (form_checks (form_of Var) Closing f.var
    ++ (party_checks t f.suo.text
    ++ (type_checks c kind
    ++ (pair_checks f.suo.text f.var.text
    ++ (stamp_checks t c today f.suo.text ++ (key_checks t c today f ++ room_checks t c today))))))

pub esi_parts_lem : (t : Table) (today : Date) (m : Collected) → esi_checks t today m ≡ esi_parts t (named t (sender_of m.text)) today m
unfolding esi_checks
esi_parts_lem t today m =
    let c = named t (sender_of m.text) in
    five (form_checks (form_of Esi) Answered m) (party_checks t m.text) (stamp_checks t c today m.text) (esi_key_checks c m.text)
    (room_checks t c today)

pub frame_parts_lem : (t : Table) (today : Date) (kind : ℕ) (f : Frame)
    → frame_checks t today kind f ≡ frame_parts t (named t (sender_of f.suo.text)) today kind f
unfolding frame_checks
frame_parts_lem t today kind f =
    let c = named t (sender_of f.suo.text) in
    eight (form_checks (form_of Suo) Answered f.suo) (form_checks (form_of Var) Closing f.var) (party_checks t f.suo.text)
    (type_checks c kind)
    (pair_checks f.suo.text f.var.text) (stamp_checks t c today f.suo.text) (key_checks t c today f) (room_checks t c today)
