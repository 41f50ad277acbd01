-- What the desk checks of a reply, in document 02's order, and which key it keeps (R-5; document 001, 4.3.4 and 4.4.4).
-- Assumes nothing.
use Rattle.std.specs.Prelude.{ℕ, Bool, true, List, [], ◌∷◌, ◌++◌, eqb, ltb, length, get_or, None, Option, Some, Err, Ok, Result}
use Rattle.ground.specs.Choice.{both, fails, pick}
use Rattle.ground.specs.Lists.{all, same}
use Rattle.text.specs.Characters.{digit}
use Rattle.text.specs.Numbers.{decimal, hex}
use Rattle.text.specs.Letters.{letters}
use Rattle.des.specs.Des.{deciphered}
use Rattle.keys.specs.Parity.{odd_parity}
use Rattle.keys.specs.Keys.{next_generation}
use Rattle.message.specs.Layout.{field, field_text, fields, offset_in}
use Rattle.message.specs.declared.Check.{Check}
use Rattle.message.specs.Order.{first_failing}
use Rattle.message.specs.Rules.{one_of}
use Rattle.message.specs.Fields.{receiver_of, sender_of, stamp_text_of, transport_generation_of, working_generation_of}
use Rattle.message.specs.declared.Fault.{Fault}
use Rattle.checks.specs.Checks.{check, check_field, checksum_differs, key_or0}
use Rattle.verdict.specs.Outcomes.{is_sound}
use Rattle.desk_form.specs.Replies.{encloses, reply_checks}
use Rattle.desk_form.specs.declared.Reply.TheVariants.{Esi, Pte}
use Rattle.desk.specs.Held.{key_named}
use Rattle.desk.specs.declared.Keys.{Keys}
use Rattle.desk.specs.declared.Held.{Held}
use Rattle.desk.specs.declared.Sent.{Sent}
use Rattle.desk.specs.declared.Finding.{Finding}
use Rattle.desk.specs.declared.Checked.{Checked}

-- ---- the key enclosed

-- field 19, deciphered under the transport key of the reply's generation; missing where the desk has no such key
unfoldable pub deciphering : Option ℕ → (sealed : ℕ) → Option ℕ
deciphering None sealed = None
deciphering (Some transport) sealed = Some (deciphered transport sealed)

unfoldable pub enclosed_in : Held → List ℕ → Option ℕ
enclosed_in h r = deciphering (key_named h.transport (transport_generation_of r)) (hex (field_text (field 19) r))

unfoldable pub is_not_odd : Option ℕ → Bool
is_not_odd None = true
is_not_odd (Some key) = fails (odd_parity key)

-- ---- the checks that both lists share

-- receiver 3021: the customer itself, identity and qualifier
unfoldable pub receiver_checks : Held → List ℕ → List Check
receiver_checks h r = check 3021 (fails (same h.own (receiver_of r))) ∷ []

-- key generations equal to those sent 3011; checksum 3020, also where the desk holds no working key of that generation; parity of an
-- enclosed key 3030
unfoldable pub reply_key_checks : Held → Sent → List ℕ → List Check
reply_key_checks h s r =
    check_field 3011 (field 10) (fails (same (s.transport ∷ []) (field_text (field 10) r))) ∷
    check_field 3011 (field 11) (fails (same (s.working ∷ []) (field_text (field 11) r))) ∷
    check 3020 (checksum_differs (key_named h.working (working_generation_of r)) r) ∷
    check 3030 (both (encloses r) (is_not_odd (enclosed_in h r))) ∷ []

-- ---- a bank's ESI: form, receiver, stamp equal to the one sent 3022, keys

unfoldable pub stamp_sent_checks : Sent → List ℕ → List Check
stamp_sent_checks s r = check 3022 (fails (same s.stamp (stamp_text_of r))) ∷ []

unfoldable pub desk_esi_checks : Held → Sent → List ℕ → List Check
desk_esi_checks h s r = reply_checks Esi r ++ receiver_checks h r ++ stamp_sent_checks s r ++ reply_key_checks h s r

-- ---- a PTE

abbrev pub unlike : (field : ℕ) (sent came : List ℕ) → Check
unlike n sent came = check_field 3027 n (fails (same sent came))

-- 3027 for the first unequal of receiver, sender (the two parties exchanged), stamp, field 13 and one-time key; 3028 for the digest
unfoldable pub batch_sent_checks : Sent → List ℕ → List Check
batch_sent_checks s r =
    unlike (field 8) s.sender (receiver_of r) ∷
    unlike (field 9) s.receiver (sender_of r) ∷
    unlike (field 12) s.stamp (stamp_text_of r) ∷
    unlike (field 13) (s.area ∷ []) (field_text (field 13) r) ∷
    unlike (field 15) s.once (field_text (field 15) r) ∷
    check 3028 (fails (same s.digest (field_text (field 16) r))) ∷ []

-- a PTE that never came is 3029
unfoldable pub came_checks : List ℕ → List Check
came_checks r = check 3029 (ltb (length r) 1) ∷ []

unfoldable pub desk_pte_checks : Held → Sent → List ℕ → List Check
desk_pte_checks h s r = came_checks r ++ reply_checks Pte r ++ receiver_checks h r ++ batch_sent_checks s r ++ reply_key_checks h s r

-- ---- what the desk keeps

-- an enclosed key is the current working key of the generation after the one used; the key used stays beside it, and if it was the one
-- before, that one stays
unfoldable pub with_enclosed : Keys → (used key : ℕ) → Keys
with_enclosed w used key =
    record {
      generation = next_generation used;
      key = key;
      before = pick (eqb w.generation used) (Some (record { generation = w.generation; key = w.key })) w.before;
    }

unfoldable pub kept_from : Held → List ℕ → Held
kept_from h r =
    record {
      own = h.own;
      bank = h.bank;
      transport = h.transport;
      working = with_enclosed h.working (working_generation_of r) (key_or0 (enclosed_in h r));
    }

-- kept exactly if all pass
unfoldable pub held_after : Held → List ℕ → Result Unit Fault → Held
held_after h r f = pick (both (is_sound f) (encloses r)) (kept_from h r) h

-- ---- what is told: the finding, and the bank's own word, also where the desk refuses

abbrev pub finding_at : (code field : ℕ) → Result Unit Finding
finding_at code field = Err (record { code = code; field = field })

unfoldable pub finding_of : Result Unit Fault → Result Unit Finding
finding_of (Ok _) = Ok tt
finding_of (Err fault) = finding_at fault.code fault.field

-- K or E, and the code; 0 where they can't be read
unfoldable pub letter_in : List ℕ → ℕ
letter_in r =
    pick (one_of (letters "K" ∷ letters "E" ∷ []) (field_text (field 4) r)) (get_or r (offset_in (field 4) fields) 0) 0

unfoldable pub code_in : List ℕ → ℕ
code_in r =
    pick (both (eqb (length (field_text (field 5) r)) 4) (all digit (field_text (field 5) r))) (decimal (field_text (field 5) r)) 0

unfoldable pub checked_by : Held → List ℕ → Result Unit Fault → Checked
checked_by h r f = record { finding = finding_of f; held = held_after h r f; letter = letter_in r; code = code_in r }

unfoldable pub esi_checked : Held → Sent → List ℕ → Checked
esi_checked h s r = checked_by h r (first_failing (desk_esi_checks h s r))

unfoldable pub pte_checked : Held → Sent → List ℕ → Checked
pte_checked h s r = checked_by h r (first_failing (desk_pte_checks h s r))
