-- What every reply keeps: its length, its checksum, and what stands in its fields.
-- Assumes nothing.
use Rattle.std.specs.Prelude.{None, Option, Some}
use mathlib.Core.Path.{◌≡◌, refl, sym, ap, ◌∙◌}
use mathlib.Core.Bool.{Bool, true, false}
use mathlib.Core.List.{List, [], ◌∷◌, ◌++◌, append_assoc}
use Prim.Native.Nat.{ℕ, ◌+◌, ◌≤◌}
use native.Mathlib.Omega.{arith}
use borrow.Author.Tests.{leb-true, le-leb}
use lib.Dec.{leb}
use lib.ListN.{length, take, drop, replicate, length-append}
use lib.Seq.{take_at, drop_at, take_all}
use Rattle.ground.specs.Choice.{pick}
use Rattle.ground.specs.Lists.{part, overlay}
use Rattle.ground.proofs.Choices.{picks, skips}
use Rattle.ground.proofs.Lists.{pick-length}
use Rattle.ground.proofs.Bools.{picked}
use Rattle.ground.proofs.Parts.{part_between, part_length}
use Rattle.text.specs.Characters.{blank}
use Rattle.text.specs.Letters.{letters}
use Rattle.text.specs.Numbers.{decimal_digits, hex_digits}
use Rattle.digest.specs.Mac.{checksum_of}
use Rattle.message.specs.Layout.{field_text, offset_in, width_in}
use Rattle.message.specs.Fields.{receiver_of, sender_of, stamp_text_of}
use Rattle.notice.specs.Codes.{code_in, codes}
use Rattle.reply.specs.Reply.{notice_of, hex_or, summed, checksum_key, enclosed_key, sealed_flag, Said, said, joined, opening_fields}
use Rattle.reply.specs.Reply.{full_fields, bare_fields, body_fields, head, closing_fields, reply_of, reply_length, replied, written_length}
use Rattle.reply.specs.declared.Answering.{Answering}
use Rattle.reply.proofs.Keys.{hex_or-length, flag_length}
use Rattle.reply.proofs.Widths.{spread, tag_length, opening-length, bare_length, full_groups, full_length}
use Rattle.reply.proofs.Widths.{notice_length}

-- ---- the reply in parts

pub head_split : (a : Answering) → head a ≡ joined (opening_fields a) ++ joined (body_fields a)
unfolding head
head_split a = spread (opening_fields a) (body_fields a)

receipt_joined : (pte : Bool) → joined (pick pte (said 210 (replicate 80 blank) ∷ []) []) ≡ pick pte (replicate 80 blank) []
unfolding joined pick
receipt_joined true = refl
receipt_joined false = refl

-- what comes after the checksum
abbrev pub rest : Answering → List ℕ
rest a = sealed_flag (enclosed_key a) ++ (hex_or (enclosed_key a) ++ (notice_of a ++ pick a.pte (replicate 80 blank) []))

closing_joined : (a : Answering) → joined (closing_fields a) ≡ hex_or (checksum_key a (head a)) ++ rest a
unfolding joined
closing_joined a =
    ap (λ (r : List ℕ). hex_or (checksum_key a (head a)) ++ (sealed_flag (enclosed_key a) ++ (hex_or (enclosed_key a) ++ (notice_of a ++ r))))
    (receipt_joined a.pte)

pub reply_split : (a : Answering) → reply_of a ≡ head a ++ (hex_or (checksum_key a (head a)) ++ rest a)
unfolding reply_of head
reply_split a =
    spread (opening_fields a ++ body_fields a) (closing_fields a) ∙ ap (λ (r : List ℕ). head a ++ r) (closing_joined a)

-- as it is written, part after part
pub reply_joined : (a : Answering) → head a ++ hex_or (checksum_key a (head a)) ++ sealed_flag (enclosed_key a) ++ hex_or (enclosed_key a)
    ++ notice_of a ++ pick a.pte (replicate 80 blank) [] ≡ reply_of a
reply_joined a = sym (reply_split a ∙ simp append_assoc)

-- ---- lengths

-- what comes after the notice makes up the length
pub receipt_length : (pte : Bool) → 237 + length (pick pte (replicate 80 blank) []) ≡ pick pte 317 237
unfolding pick
receipt_length true = refl
receipt_length false = refl

pub least_length : (a : Answering) → 237 ≤ reply_length a
unfolding reply_length
least_length a = omega (arith, receipt_length a.pte)

module _ (a : Answering) (bank : length a.bank ≡ 25) (software : length a.software ≡ 16) (message : length a.message ≡ 161)
    (closing : length a.closing ≡ 161) where
  body_length : length (joined (body_fields a)) ≡ 109
  body_length =
      picked (λ (x : List Said). length (joined x) ≡ 109) a.bare (bare_fields a) (full_fields a)
      (λ e. bare_length a bank)
      (λ e. full_length a message closing)

  pub head-length : length (head a) ≡ 144
  head-length =
      ap length (head_split a)
      ∙ length-append (joined (opening_fields a)) (joined (body_fields a))
      ∙ omega (arith, opening-length a software, body_length)

  pub reply_length_lem : length (reply_of a) ≡ reply_length a
  unfolding reply_length
  reply_length_lem =
      ap length (reply_split a)
      ∙ simp length-append
      (omega (
        arith,
        head-length,
        hex_or-length (checksum_key a (head a)),
        flag_length (enclosed_key a),
        hex_or-length (enclosed_key a),
        notice_length a,
        receipt_length a.pte,
      ))

-- ---- what stands in the fields

-- the opening's first three fields take eleven characters, and field 4 follows
abbrev tag : Answering → List ℕ
tag a = pick a.pte (letters ">>PTE") (letters ">>ESI") ++ pick a.pte (letters "317") (letters "237") ++ letters "120"

-- K or E
abbrev pub success : Answering → List ℕ
success a = pick (code_in a.code codes).accepted (letters "K") (letters "E")

pub success-length : (a : Answering) → length (success a) ≡ 1
unfolding letters
success-length a = pick-length (code_in a.code codes).accepted (letters "K") (letters "E") 1 refl refl

-- what comes after field 4
abbrev after_success : Answering → List Said
after_success a =
    said 50 (decimal_digits 4 a.code) ∷ said 60 a.software ∷ said 70 (letters "SMH") ∷ (body_fields a ++ closing_fields a)

opened : (a : Answering) → reply_of a ≡ tag a ++ (success a ++ joined (after_success a))
unfolding reply_of joined
opened a = simp append_assoc

pub success_is : (a : Answering) → part 11 1 (reply_of a) ≡ success a
success_is a = part_between (tag a) (success a) _ (reply_of a) 11 1 (opened a) (tag_length a.pte) (success-length a)

only_k : (t : Bool) → pick t (letters "K") (letters "E") ≡ letters "K" → t ≡ true
unfolding pick letters
only_k true e = refl
only_k false e = let z : ◌≡◌ {A = ℕ} 69 75 = cc in absurd (omega arith)

-- a reply says K exactly if its code is accepted
pub reply_success : (a : Answering) → (part 11 1 (reply_of a) ≡ letters "K" → (code_in a.code codes).accepted ≡ true)
    × ((code_in a.code codes).accepted ≡ true → part 11 1 (reply_of a) ≡ letters "K")
reply_success a =
    (λ e. only_k (code_in a.code codes).accepted (sym (success_is a) ∙ e), λ e. success_is a ∙ picks _ _ _ e)

-- the message's fields that a full reply repeats, by their places
sender_part : (m : List ℕ) → sender_of m ≡ part 60 25 m
unfolding sender_of offset_in pick
sender_part m = refl

stamp_part : (m : List ℕ) → stamp_text_of m ≡ part 87 15 m
unfolding stamp_text_of offset_in pick
stamp_part m = refl

before_stamp : (m : List ℕ) → sender_of m ++ receiver_of m ++ field_text 100 m ++ field_text 110 m
    ≡ part 60 25 m ++ part 35 25 m ++ part 85 1 m ++ part 86 1 m
unfolding sender_of receiver_of field_text offset_in width_in pick
before_stamp m = refl

before_stamp_length : (m : List ℕ) → length m ≡ 161 → length (sender_of m ++ receiver_of m ++ field_text 100 m ++ field_text 110 m) ≡ 52
before_stamp_length m h =
    ap length (before_stamp m)
    ∙ simp length-append
    (omega (
      arith,
      part_length m 60 25 (omega arith),
      part_length m 35 25 (omega arith),
      part_length m 85 1 (omega arith),
      part_length m 86 1 (omega arith),
    ))

module _ (a : Answering) (full : a.bare ≡ false) where
  -- what comes after the stamp
  abbrev after_stamp : List ℕ
  after_stamp =
      field_text 130 a.message
      ++ (replicate 9 blank
      ++ (field_text 150 a.message ++ (field_text 160 a.closing ++ (hex_or (checksum_key a (head a)) ++ rest a))))

  full_body : joined (body_fields a) ≡ joined (full_fields a)
  full_body = ap joined (skips a.bare (bare_fields a) (full_fields a) full)

  full_split : reply_of a ≡ joined (opening_fields a) ++ (sender_of a.message ++ (receiver_of a.message ++ (field_text 100 a.message
      ++ (field_text 110 a.message ++ (stamp_text_of a.message ++ after_stamp)))))
  full_split =
      reply_split a
      ∙ ap (λ (x : List ℕ). x ++ (hex_or (checksum_key a (head a)) ++ rest a))
      (head_split a ∙ ap (λ (x : List ℕ). joined (opening_fields a) ++ x) (full_body ∙ full_groups a))
      ∙ simp append_assoc

  module _ (software : length a.software ≡ 16) (message : length a.message ≡ 161) where
    -- field 8 repeats the message's sender
    pub reply_sender : part 35 25 (reply_of a) ≡ sender_of a.message
    reply_sender =
        part_between (joined (opening_fields a)) (sender_of a.message) _ (reply_of a) 35 25 full_split (opening-length a software)
        (ap length (sender_part a.message) ∙ part_length a.message 60 25 (omega arith))

    -- field 12 repeats the message's stamp
    pub reply_stamp : part 87 15 (reply_of a) ≡ stamp_text_of a.message
    reply_stamp =
        let m = a.message in
        let x : List ℕ = sender_of m ++ receiver_of m ++ field_text 100 m ++ field_text 110 m in
        part_between (joined (opening_fields a) ++ x) (stamp_text_of m) after_stamp (reply_of a) 87 15 (full_split ∙ simp append_assoc)
        (length-append (joined (opening_fields a)) x ∙ omega (arith, opening-length a software, before_stamp_length m message))
        (ap length (stamp_part m) ∙ part_length m 87 15 (omega arith))

  module _ (bank : length a.bank ≡ 25) (software : length a.software ≡ 16) (message : length a.message ≡ 161)
      (closing : length a.closing ≡ 161) (k : ℕ) (key : a.working ≡ Some k) where
    summed_is : checksum_key a (head a) ≡ Some (checksum_of k (head a))
    unfolding checksum_key summed
    summed_is =
        skips a.bare None (summed a.working (head a)) full ∙ ap (λ (w : Option ℕ). summed w (head a)) key

    -- field 17 is the checksum, under the working key, of the characters before it
    pub reply_sum : part 144 16 (reply_of a) ≡ hex_digits 16 (checksum_of k (take 144 (reply_of a)))
    unfolding hex_or
    reply_sum =
        let n : length (head a) ≡ 144 = head-length a bank software message closing in
        let h : take 144 (reply_of a) ≡ head a = ap (take 144) (reply_split a) ∙ take_at (head a) _ 144 n in
        part_between (head a) (hex_or (checksum_key a (head a))) (rest a) (reply_of a) 144 16 (reply_split a) n
        (hex_or-length (checksum_key a (head a)))
        ∙ ap hex_or summed_is
        ∙ ap (λ (x : List ℕ). hex_digits 16 (checksum_of k x)) (sym h)

-- ---- the room

-- the bytes past the reply stay
pub rest_stays : (a : Answering) → length a.bank ≡ 25 → length a.software ≡ 16 → length a.message ≡ 161
    → length a.closing ≡ 161 → (room : List ℕ) → drop (reply_length a) (replied a room) ≡ drop (reply_length a) room
unfolding replied overlay
rest_stays a bank software message closing room =
    picked (λ (x : List ℕ). drop (reply_length a) x ≡ drop (reply_length a) room) (leb (reply_length a) (length room)) _ _
    (λ e. fits (leb-true _ _ e))
    (λ e. refl)
  where
    n : length (reply_of a) ≡ reply_length a
    n = reply_length_lem a bank software message closing

    fits : reply_length a ≤ length room → drop (reply_length a) (take (length room) (reply_of a) ++ drop (length (reply_of a)) room)
        ≡ drop (reply_length a) room
    fits h =
        ap (λ (x : List ℕ). drop (reply_length a) (x ++ drop (length (reply_of a)) room))
        (take_all (length room) (reply_of a) (omega (arith, n)))
        ∙ drop_at (reply_of a) (drop (length (reply_of a)) room) (reply_length a) n
        ∙ ap (λ (k : ℕ). drop k room) n

-- ---- in room for the longest it stands whole

module _ (a : Answering) (long : length (reply_of a) ≡ reply_length a) (room : List ℕ) (h : 317 ≤ length room) where
  holds : reply_length a ≤ length room
  unfolding reply_length
  holds = picked (λ (k : ℕ). k ≤ length room) a.pte 317 237 (λ e. h) (λ e. omega arith)

  pub written_whole : written_length a room ≡ reply_length a
  unfolding written_length
  written_whole = picks _ _ _ (le-leb _ _ holds)

  pub stands_whole : take (reply_length a) (replied a room) ≡ reply_of a
  unfolding replied overlay
  stands_whole =
      ap (take (reply_length a)) (picks _ _ _ (le-leb _ _ holds))
      ∙ ap (λ (l : List ℕ). take (reply_length a) (l ++ drop (length (reply_of a)) room))
      (take_all (length room) (reply_of a) (omega (arith, long, holds)))
      ∙ take_at (reply_of a) _ (reply_length a) long
