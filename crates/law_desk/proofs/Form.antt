-- A full reply to a well-formed message is of good form: each of its texts is the bank's name, the message's own, or one that we write.
-- Assumes nothing.
use Rattle.std.specs.Prelude.{None, Option, Some}
use Prim.Native.Nat.{ℕ, zero, suc, ◌+◌, ◌/◌, ◌%◌, ◌≤◌, ◌<◌}
use mathlib.Core.Path.{◌≡◌, refl, sym, ap, ◌∙◌}
use mathlib.Core.Bool.{Bool, true, false}
use mathlib.Core.List.{List, [], ◌∷◌, ◌++◌}
use native.Mathlib.Omega.{arith}
use borrow.Author.Tests.{le-ltb}
use lib.Dec.{eqb, leb, ltb}
use lib.ListN.{length, drop, replicate}
use lib.ListN.{drop_of_length-le}
use Rattle.ground.specs.Choice.{both, either, fails, pick, between}
use Rattle.ground.specs.Lists.{all, member, same}
use Rattle.ground.proofs.Choices.{left, right, join, fails_left, fails_right, either_right, eq-same, skips}
use Rattle.ground.proofs.Bools.{either_none, neither, not_failed, clash, picked}
use Rattle.ground.proofs.Lists.{member_front, all_snoc}
use Rattle.ground.proofs.Table.{each}
use Rattle.text.specs.Characters.{blank, digit, field_character, hex_digit, all_blank}
use Rattle.text.specs.Numbers.{decimal, decimal_from, digit_value, hex_character, decimal_digits, hex_digits}
use Rattle.text.specs.Letters.{letters}
use Rattle.calendar.specs.Dates.{real_date, real_time}
use Rattle.digest.specs.Mac.{checksum_of}
use Rattle.customer.specs.Settings.{sound_name}
use Rattle.message.specs.Layout.{field, whole_number, total, fields, field_text, pte}
use Rattle.message.specs.declared.Check.{Check}
use Rattle.message.specs.Rules.{only, one_of, format_holds, obeys, each_field}
use Rattle.message.specs.declared.About.TheVariants.{Answered}
use Rattle.message.proofs.Order.{NoneFails}
use Rattle.message.proofs.Tests.{obeys-append}
use Rattle.notice.specs.Codes.{code_in, codes}
use Rattle.reply.specs.Reply.{hex_or, summed, checksum_key, enclosed_key, sealed_flag, head, reply_of, reply_length}
use Rattle.reply.specs.declared.Answering.{Answering}
use Rattle.reply.proofs.Fields.{full_reply, said_in, full_fields_lem}
use Rattle.reply.proofs.Laws.{reply_length_lem}
use Rattle.desk_form.specs.Replies.{reply_layout, reply_size, awaited, encloses, reply_hexes, both_rules, each_rules, reply_form}
use Rattle.desk_form.specs.Replies.{reply_format_fails, reply_value_fails, reply_checks}
use Rattle.desk_form.specs.declared.Reply.{Reply}
use Rattle.desk_form.specs.declared.Reply.TheVariants.{Esi, Pte}

-- ---- characters that we write

digit_good : (d : ℕ) → d < 10 → both (digit (0x30 + d)) (field_character (0x30 + d)) ≡ true
unfolding field_character both either between member
digit_good d h = each (λ k. both (digit (0x30 + k)) (field_character (0x30 + k))) 10 tt d h

digits_good : (n x : ℕ) → (all field_character (decimal_digits n x) ≡ true) × (all digit (decimal_digits n x) ≡ true)
unfolding decimal_digits all
digits_good zero x = (refl, refl)
digits_good (suc n) x =
    let g = digits_good n (x / 10) in
    let h : x % 10 < 10 = omega arith in
    let c = digit_good (x % 10) h in
    (all_snoc field_character (decimal_digits n (x / 10)) _ g.0 (right _ _ c), all_snoc digit (decimal_digits n (x / 10)) _ g.1 (left _ _ c))

hex_good : (d : ℕ) → d < 16 → hex_digit (hex_character d) ≡ true
unfolding hex_digit hex_character both either pick between
hex_good d h = each (λ k. hex_digit (hex_character k)) 16 tt d h

hexes_good : (n x : ℕ) → all hex_digit (hex_digits n x) ≡ true
unfolding hex_digits all
hexes_good zero x = refl
hexes_good (suc n) x =
    let h : x % 16 < 16 = omega arith in
    all_snoc hex_digit (hex_digits n (x / 16)) _ (hexes_good n (x / 16)) (hex_good (x % 16) h)

-- ---- a test that is made only where it is asked

only_if : (a b : Bool) → (a ≡ true → b ≡ true) → only a b ≡ true
unfolding either fails
only_if true b f = f refl
only_if false b f = refl

-- where nothing is asked
unasked : (t b : Bool) → t ≡ false → t ≡ true → b ≡ true
unasked t b f e = absurd (clash t e f)

-- ---- the two kinds of reply

-- a PTE answers a batch
abbrev pub is_pte : Reply → Bool
is_pte Esi = false
is_pte Pte = true

-- field 13 S or A, in an ESI blank; 15 and 16 hex digits, in an ESI blank
abbrev pub area_holds : Reply → List ℕ → Bool
area_holds Esi text = all_blank text
area_holds Pte text = one_of (letters "S" ∷ letters "A" ∷ []) text

abbrev pub block_holds : Reply → List ℕ → Bool
block_holds Esi text = all_blank text
block_holds Pte text = all hex_digit text

-- ---- format

abbrev digit_numbers : List ℕ
digit_numbers = 2 ∷ 3 ∷ 5 ∷ 10 ∷ 11 ∷ 12 ∷ []

-- the fields that are hex digits in some reply
abbrev hex_numbers : List ℕ
hex_numbers = 150 ∷ 160 ∷ 170 ∷ 190 ∷ []

hex_among : (k : Reply) (enclosed : Bool) (n : ℕ) → member n (reply_hexes k enclosed) ≡ true → member n hex_numbers ≡ true
unfolding member reply_hexes pick
hex_among Esi true n e = either_right _ _ (either_right _ _ e)
hex_among Esi false n e = either_right _ _ (either_right _ _ (member_front n (170 ∷ []) (190 ∷ []) e))
hex_among Pte true n e = e
hex_among Pte false n e = member_front n (150 ∷ 160 ∷ 170 ∷ []) (190 ∷ []) e

module _ (k : Reply) (enclosed : Bool) (n : ℕ) (text : List ℕ)
    (c : leb (whole_number n) 16 ≡ true → all field_character text ≡ true)
    (d : member (whole_number n) digit_numbers ≡ true → all digit text ≡ true) where
  hexed : (member n (reply_hexes k enclosed) ≡ true → all hex_digit text ≡ true) → format_holds (reply_form k enclosed) true n text ≡ true
  unfolding format_holds
  hexed h = join _ _ (only_if _ _ c) (join _ _ (only_if _ _ d) (join _ _ (only_if _ _ h) (only_if _ _ (λ e. refl))))

  plain : member n hex_numbers ≡ false → format_holds (reply_form k enclosed) true n text ≡ true
  plain t = hexed (λ e. absurd (clash _ (hex_among k enclosed n e) t))

-- only a PTE has hex digits in fields 15 and 16
block_hex : (k : Reply) (enclosed : Bool) (n : ℕ) (text : List ℕ) → member n (170 ∷ 190 ∷ []) ≡ false → block_holds k text ≡ true
    → member n (reply_hexes k enclosed) ≡ true → all hex_digit text ≡ true
unfolding member reply_hexes pick
block_hex Esi true n text t h e = absurd (clash _ e t)
block_hex Esi false n text t h e = absurd (clash _ (member_front n (170 ∷ []) (190 ∷ []) e) t)
block_hex Pte enclosed n text t h e = h

-- ---- values

-- the fields with a rule of one kind of reply alone
each_free : (k : Reply) (n : ℕ) (m : List ℕ) → member n (130 ∷ 150 ∷ 160 ∷ []) ≡ false → obeys (each_rules k) n m ≡ true
unfolding member each_rules obeys
each_free Esi n m t =
    let p = neither _ _ t in
    let q = neither _ _ p.1 in
    join _ _ (only_if _ _ (unasked _ _ p.0))
    (join _ _ (only_if _ _ (unasked _ _ q.0)) (join _ _ (only_if _ _ (unasked _ _ (neither _ _ q.1).0)) refl))
each_free Pte n m t = join _ _ (only_if _ _ (unasked _ _ (neither _ _ t).0)) refl

area_rule : (k : Reply) (m : List ℕ) → area_holds k (field_text 130 m) ≡ true → obeys (each_rules k) 130 m ≡ true
unfolding each_rules obeys both either fails
area_rule Esi m h = join _ _ h refl
area_rule Pte m h = join _ _ h refl

once_rule : (k : Reply) (m : List ℕ) → block_holds k (field_text 150 m) ≡ true → obeys (each_rules k) 150 m ≡ true
unfolding each_rules obeys both either fails
once_rule Esi m h = join _ _ h refl
once_rule Pte m h = refl

digest_rule : (k : Reply) (m : List ℕ) → block_holds k (field_text 160 m) ≡ true → obeys (each_rules k) 160 m ≡ true
unfolding each_rules obeys both either fails
digest_rule Esi m h = join _ _ h refl
digest_rule Pte m h = refl

-- ---- what is known of a full reply
-- a text of field characters, and digits besides
abbrev Digits : List ℕ → Type 0
Digits text = (all field_character text ≡ true) × (all digit text ≡ true)

-- of the message that it answers: the same whichever kind it is of
pub record Common (m : List ℕ) : Type 0 where
  pub receiver : all field_character (field_text 81 m) ≡ true
  pub receiver_more : all field_character (field_text 82 m) ≡ true
  pub sender : all field_character (field_text 91 m) ≡ true
  pub sender_more : all field_character (field_text 92 m) ≡ true
  pub transport : Digits (field_text 100 m)
  pub working : Digits (field_text 110 m)
  pub date : Digits (field_text 121 m)
  pub time : Digits (field_text 122 m)
  pub count : Digits (field_text 123 m)
  pub real_date_fact : real_date (decimal (field_text 121 m)) ≡ true
  pub real_time_fact : real_time (decimal (field_text 122 m)) ≡ true
  pub area : all field_character (field_text 130 m) ≡ true
  pub once : all field_character (field_text 150 m) ≡ true

-- of its maker: lengths, the bank's name, the working key
pub record Made (a : Answering) (pte : Bool) : Type 0 where
  pub full : a.bare ≡ false
  pub kind : a.pte ≡ pte
  pub bank : length a.bank ≡ 25
  pub software : length a.software ≡ 16
  pub message : length a.message ≡ 161
  pub closing : length a.closing ≡ 161
  pub name : sound_name a.software ≡ true
  pub key : ℕ
  pub held : a.working ≡ Some key

pub record Facts (k : Reply) (a : Answering) : Type 0 where
  pub made : Made a (is_pte k)
  pub common : Common a.message
  pub area_holds_fact : area_holds k (field_text 130 a.message) ≡ true
  pub once_holds : block_holds k (field_text 150 a.message) ≡ true
  pub digest : all field_character (field_text 160 a.closing) ≡ true
  pub digest_holds : block_holds k (field_text 160 a.closing) ≡ true

module _ (k : Reply) (a : Answering) (f : Facts k a) where
  abbrev text : ℕ → List ℕ
  text n = field_text n (reply_of a)

  says : (n : ℕ) → text n ≡ said_in n (full_reply a)
  says n = full_fields_lem a f.made.bank f.made.software f.made.message f.made.closing f.made.full n

  -- ---- the fields of a full reply

  pub says_10 : text 10 ≡ pick a.pte (letters ">>PTE") (letters ">>ESI")
  unfolding said_in pick
  says_10 = says 10

  pub says_20 : text 20 ≡ pick a.pte (letters "317") (letters "237")
  unfolding said_in pick
  says_20 = says 20

  pub says_30 : text 30 ≡ letters "120"
  unfolding said_in pick
  says_30 = says 30

  pub says_40 : text 40 ≡ pick (code_in a.code codes).accepted (letters "K") (letters "E")
  unfolding said_in pick
  says_40 = says 40

  pub says_50 : text 50 ≡ decimal_digits 4 a.code
  unfolding said_in pick
  says_50 = says 50

  pub says_60 : text 60 ≡ a.software
  unfolding said_in pick
  says_60 = says 60

  pub says_70 : text 70 ≡ letters "SMH"
  unfolding said_in pick
  says_70 = says 70

  pub says_81 : text 81 ≡ field_text 91 a.message
  unfolding said_in pick
  says_81 = says 81

  pub says_82 : text 82 ≡ field_text 92 a.message
  unfolding said_in pick
  says_82 = says 82

  pub says_91 : text 91 ≡ field_text 81 a.message
  unfolding said_in pick
  says_91 = says 91

  pub says_92 : text 92 ≡ field_text 82 a.message
  unfolding said_in pick
  says_92 = says 92

  pub says_100 : text 100 ≡ field_text 100 a.message
  unfolding said_in pick
  says_100 = says 100

  pub says_110 : text 110 ≡ field_text 110 a.message
  unfolding said_in pick
  says_110 = says 110

  pub says_121 : text 121 ≡ field_text 121 a.message
  unfolding said_in pick
  says_121 = says 121

  pub says_122 : text 122 ≡ field_text 122 a.message
  unfolding said_in pick
  says_122 = says 122

  pub says_123 : text 123 ≡ field_text 123 a.message
  unfolding said_in pick
  says_123 = says 123

  pub says_130 : text 130 ≡ field_text 130 a.message
  unfolding said_in pick
  says_130 = says 130

  pub says_140 : text 140 ≡ replicate 9 blank
  unfolding said_in pick
  says_140 = says 140

  pub says_150 : text 150 ≡ field_text 150 a.message
  unfolding said_in pick
  says_150 = says 150

  pub says_160 : text 160 ≡ field_text 160 a.closing
  unfolding said_in pick
  says_160 = says 160

  pub says_170 : text 170 ≡ hex_or (checksum_key a (head a))
  unfolding said_in pick
  says_170 = says 170

  pub says_180 : text 180 ≡ sealed_flag (enclosed_key a)
  unfolding said_in pick
  says_180 = says 180

  pub says_190 : text 190 ≡ hex_or (enclosed_key a)
  unfolding said_in pick
  says_190 = says 190

  -- ---- what the kind of reply decides

  tag_of : (j : Reply) → pick (is_pte j) (letters ">>PTE") (letters ">>ESI") ≡ awaited j
  unfolding pick awaited
  tag_of Esi = refl
  tag_of Pte = refl

  tag_is : text 10 ≡ awaited k
  tag_is = says_10 ∙ ap (λ (t : Bool). pick t (letters ">>PTE") (letters ">>ESI")) f.made.kind ∙ tag_of k

  tag_good : (j : Reply) → all field_character (awaited j) ≡ true
  unfolding awaited letters field_character all both either between member
  tag_good Esi = refl
  tag_good Pte = refl

  -- the length in three digits
  abbrev length_text : Reply → List ℕ
  length_text j = pick (is_pte j) (letters "317") (letters "237")

  length_is : text 20 ≡ length_text k
  length_is = says_20 ∙ ap (λ (t : Bool). pick t (letters "317") (letters "237")) f.made.kind

  length_good : (j : Reply) → Digits (length_text j)
  unfolding pick letters field_character all both either between member
  length_good Esi = (refl, refl)
  length_good Pte = (refl, refl)

  length_counts : (j : Reply) → eqb (decimal (length_text j)) (reply_size j) ≡ true
  unfolding pick letters decimal_from digit_value both between reply_size reply_layout total
  length_counts Esi = refl
  length_counts Pte = refl

  size_of : (j : Reply) → pick (is_pte j) 317 237 ≡ reply_size j
  unfolding pick reply_size reply_layout total
  size_of Esi = refl
  size_of Pte = refl

  pub reply_size_fact : length (reply_of a) ≡ reply_size k
  unfolding reply_length
  reply_size_fact =
      reply_length_lem a f.made.bank f.made.software f.made.message f.made.closing
      ∙ ap (λ (t : Bool). pick t 317 237) f.made.kind ∙ size_of k

  none_over : all_blank (drop (reply_size k) (reply_of a)) ≡ true
  unfolding all
  none_over = ap all_blank (drop_of_length-le (reply_of a) {i = reply_size k} (omega (arith, reply_size_fact)))

  -- ---- the key enclosed, and the field that says so

  flag_one : (e : Option ℕ) (x : ℕ) → e ≡ Some x → sealed_flag e ≡ letters "1"
  unfolding sealed_flag
  flag_one e x p = ap sealed_flag p

  flag_none : (e : Option ℕ) → e ≡ None → sealed_flag e ≡ letters "0"
  unfolding sealed_flag
  flag_none e p = ap sealed_flag p

  pub encloses_is : (x : ℕ) → enclosed_key a ≡ Some x → encloses (reply_of a) ≡ true
  unfolding encloses letters same both
  encloses_is x p = ap (same (letters "1")) (says_180 ∙ flag_one _ x p)

  pub encloses_none : enclosed_key a ≡ None → encloses (reply_of a) ≡ false
  unfolding encloses letters same both
  encloses_none p = ap (same (letters "1")) (says_180 ∙ flag_none _ p)

  -- ---- format

  no_key : (j : Reply) → member 190 (reply_hexes j false) ≡ false
  unfolding member either reply_hexes pick
  no_key Esi = refl
  no_key Pte = refl

  formed : (n : ℕ) (v : List ℕ) → text n ≡ v → eqb n 10 ≡ false → format_holds (reply_form k (encloses (reply_of a))) true n v ≡ true
      → reply_format_fails k (reply_of a) n ≡ false
  unfolding reply_format_fails
  formed n v e t h =
      either_none _ _ (fails_left _ _ t)
      (not_failed _ (ap (λ (b : Bool). format_holds (reply_form k (encloses (reply_of a))) b n (text n)) none_over
      ∙ ap (format_holds (reply_form k (encloses (reply_of a))) true n) e ∙ h))

  letters_in : (n : ℕ) (v : List ℕ) → text n ≡ v → eqb n 10 ≡ false → member n hex_numbers ≡ false
      → member (whole_number n) digit_numbers ≡ false → all field_character v ≡ true → reply_format_fails k (reply_of a) n ≡ false
  letters_in n v e t h d c = formed n v e t (plain k _ n v (λ z. c) (unasked _ _ d) h)

  digits_in : (n : ℕ) (v : List ℕ) → text n ≡ v → eqb n 10 ≡ false → member n hex_numbers ≡ false → Digits v
      → reply_format_fails k (reply_of a) n ≡ false
  digits_in n v e t h g = formed n v e t (plain k _ n v (λ z. g.0) (λ z. g.1) h)

  -- past field 16 any character may stand, but for the hex digits
  any_in : (n : ℕ) → eqb n 10 ≡ false → member n hex_numbers ≡ false → leb (whole_number n) 16 ≡ false
      → member (whole_number n) digit_numbers ≡ false → reply_format_fails k (reply_of a) n ≡ false
  any_in n t h c d = formed n (text n) refl t (plain k _ n (text n) (unasked _ _ c) (unasked _ _ d) h)

  tag_formed : reply_format_fails k (reply_of a) 10 ≡ false
  unfolding reply_format_fails member either
  tag_formed =
      either_none _ _ (fails_right _ _ (not_failed _ (eq-same (awaited k) (text 10) (sym tag_is))))
      (not_failed _ (ap (λ (b : Bool). format_holds (reply_form k (encloses (reply_of a))) b 10 (text 10)) none_over
      ∙ ap (format_holds (reply_form k (encloses (reply_of a))) true 10) tag_is
      ∙ plain k _ 10 (awaited k) (λ z. tag_good k) (unasked _ _ refl) refl))

  version_good : Digits (letters "120")
  unfolding letters field_character all both either between member
  version_good = (refl, refl)

  abbrev success : List ℕ
  success = pick (code_in a.code codes).accepted (letters "K") (letters "E")

  success_good : all field_character success ≡ true
  unfolding letters field_character all both either between member
  success_good = picked (λ (l : List ℕ). all field_character l ≡ true) _ _ _ (λ e. refl) (λ e. refl)

  method_good : all field_character (letters "SMH") ≡ true
  unfolding letters field_character all both either between member
  method_good = refl

  blanks_good : all field_character (replicate 9 blank) ≡ true
  unfolding field_character all both either between member
  blanks_good = refl

  -- the checksum under the key that the maker had
  pub sum_is : checksum_key a (head a) ≡ Some (checksum_of f.made.key (head a))
  unfolding checksum_key summed
  sum_is =
      skips a.bare None (summed a.working (head a)) f.made.full
      ∙ ap (λ (w : Option ℕ). summed w (head a)) f.made.held

  pub sum_text : text 170 ≡ hex_digits 16 (checksum_of f.made.key (head a))
  unfolding hex_or
  sum_text = says_170 ∙ ap hex_or sum_is

  name_good : all field_character a.software ≡ true
  unfolding sound_name
  name_good = left _ _ f.made.name

  key_formed : (e : Option ℕ) → enclosed_key a ≡ e → reply_format_fails k (reply_of a) 190 ≡ false
  unfolding member either hex_or
  key_formed None p =
      formed 190 (text 190) refl refl
      (hexed k _ 190 (text 190) (unasked _ _ refl) (unasked _ _ refl)
      (λ z. absurd (clash _ z (ap (λ (b : Bool). member 190 (reply_hexes k b)) (encloses_none p) ∙ no_key k))))
  key_formed (Some x) p =
      formed 190 (hex_digits 16 x) (says_190 ∙ ap hex_or p) refl
      (hexed k _ 190 (hex_digits 16 x) (unasked _ _ refl) (unasked _ _ refl) (λ z. hexes_good 16 x))

  -- fields 1 to 20 in their order
  abbrev Formed : ℕ → Type 0
  Formed n = reply_format_fails k (reply_of a) n ≡ false

  parties_formed : Formed 81 × Formed 82 × Formed 91 × Formed 92
  unfolding member either
  parties_formed = (
    letters_in 81 _ says_81 refl refl refl f.common.sender,
    letters_in 82 _ says_82 refl refl refl f.common.sender_more,
    letters_in 91 _ says_91 refl refl refl f.common.receiver,
    letters_in 92 _ says_92 refl refl refl f.common.receiver_more,
  )

  numbers_formed : Formed 100 × Formed 110 × Formed 121 × Formed 122 × Formed 123
  unfolding member either
  numbers_formed = (
    digits_in 100 _ says_100 refl refl f.common.transport,
    digits_in 110 _ says_110 refl refl f.common.working,
    digits_in 121 _ says_121 refl refl f.common.date,
    digits_in 122 _ says_122 refl refl f.common.time,
    digits_in 123 _ says_123 refl refl f.common.count,
  )

  blocks_formed : Formed 150 × Formed 160 × Formed 170
  unfolding member either
  blocks_formed = (
    formed 150 _ says_150 refl (hexed k _ 150 _ (λ z. f.common.once) (unasked _ _ refl) (block_hex k _ 150 _ refl f.once_holds)),
    formed 160 _ says_160 refl (hexed k _ 160 _ (λ z. f.digest) (unasked _ _ refl) (block_hex k _ 160 _ refl f.digest_holds)),
    formed 170 _ sum_text refl (hexed k _ 170 _ (unasked _ _ refl) (unasked _ _ refl) (λ z. hexes_good 16 _)),
  )

  opening_formed : Formed 10 × Formed 20 × Formed 30 × Formed 40 × Formed 50 × Formed 60 × Formed 70
  unfolding member either
  opening_formed = (
    tag_formed,
    digits_in 20 _ length_is refl refl (length_good k),
    digits_in 30 _ says_30 refl refl version_good,
    letters_in 40 _ says_40 refl refl refl success_good,
    digits_in 50 _ says_50 refl refl (digits_good 4 a.code),
    letters_in 60 _ says_60 refl refl refl name_good,
    letters_in 70 _ says_70 refl refl refl method_good,
  )

  body_formed : Formed 130 × Formed 140 × Formed 180 × Formed 190 × Formed 200 × Formed 210
  unfolding member either
  body_formed = (
    letters_in 130 _ says_130 refl refl refl f.common.area,
    letters_in 140 _ says_140 refl refl refl blanks_good,
    any_in 180 refl refl refl refl,
    key_formed _ refl,
    any_in 200 refl refl refl refl,
    any_in 210 refl refl refl refl,
  )

  -- ---- values

  abbrev Valued : ℕ → Type 0
  Valued n = reply_value_fails k (reply_of a) n ≡ false

  valued : (n : ℕ) → obeys (both_rules k) n (reply_of a) ≡ true → obeys (each_rules k) n (reply_of a) ≡ true → Valued n
  unfolding reply_value_fails
  valued n b e = not_failed _ (obeys-append (both_rules k) (each_rules k) n (reply_of a) ∙ join _ _ b e)

  success_values : one_of (letters "K" ∷ letters "E" ∷ []) (text 40) ≡ true
  unfolding one_of letters same both either
  success_values =
      ap (one_of (letters "K" ∷ letters "E" ∷ [])) says_40
      ∙ picked (λ (l : List ℕ). one_of (letters "K" ∷ letters "E" ∷ []) l ≡ true) _ _ _ (λ e. refl) (λ e. refl)

  version_values : one_of (letters "110" ∷ letters "120" ∷ []) (text 30) ≡ true
  unfolding one_of letters same both either
  version_values = ap (one_of (letters "110" ∷ letters "120" ∷ [])) says_30

  name_values : fails (all_blank (text 60)) ≡ true
  unfolding sound_name
  name_values = ap (λ (l : List ℕ). fails (all_blank l)) says_60 ∙ right _ _ f.made.name

  flag_values : (e : Option ℕ) → one_of (letters "0" ∷ letters "1" ∷ []) (sealed_flag e) ≡ true
  unfolding one_of letters same both either sealed_flag
  flag_values None = refl
  flag_values (Some x) = refl

  sixteen_blank : all_blank (replicate 16 blank) ≡ true
  unfolding all both
  sixteen_blank = refl

  blank_key : (e : Option ℕ) → enclosed_key a ≡ e → only (fails (encloses (reply_of a))) (all_blank (text 190)) ≡ true
  unfolding hex_or
  blank_key None p = only_if _ _ (λ z. ap all_blank (says_190 ∙ ap hex_or p) ∙ sixteen_blank)
  blank_key (Some x) p = only_if _ _ (unasked _ _ (not_failed _ (encloses_is x p)))

  opening_valued : Valued 10 × Valued 20 × Valued 30 × Valued 40 × Valued 50 × Valued 60 × Valued 70
  unfolding member both_rules obeys both either fails
  opening_valued = (
    valued 10 refl (each_free k 10 _ refl),
    valued 20 (join _ _ (ap (λ (l : List ℕ). eqb (decimal l) (reply_size k)) length_is ∙ length_counts k) refl) (each_free k 20 _ refl),
    valued 30 (join _ _ version_values refl) (each_free k 30 _ refl),
    valued 40 (join _ _ success_values refl) (each_free k 40 _ refl),
    valued 50 refl (each_free k 50 _ refl),
    valued 60 (join _ _ name_values refl) (each_free k 60 _ refl),
    valued 70 (join _ _ (eq-same (letters "SMH") (text 70) (sym says_70)) refl) (each_free k 70 _ refl),
  )

  parties_valued : Valued 81 × Valued 82 × Valued 91 × Valued 92
  unfolding member both_rules obeys both either fails
  parties_valued = (
    valued 81 refl (each_free k 81 _ refl),
    valued 82 refl (each_free k 82 _ refl),
    valued 91 refl (each_free k 91 _ refl),
    valued 92 refl (each_free k 92 _ refl),
  )

  numbers_valued : Valued 100 × Valued 110 × Valued 121 × Valued 122 × Valued 123
  unfolding member both_rules obeys both either fails
  numbers_valued = (
    valued 100 refl (each_free k 100 _ refl),
    valued 110 refl (each_free k 110 _ refl),
    valued 121 (join _ _ (ap (λ (l : List ℕ). real_date (decimal l)) says_121 ∙ f.common.real_date_fact) refl) (each_free k 121 _ refl),
    valued 122 (join _ _ (ap (λ (l : List ℕ). real_time (decimal l)) says_122 ∙ f.common.real_time_fact) refl) (each_free k 122 _ refl),
    valued 123 refl (each_free k 123 _ refl),
  )

  blocks_valued : Valued 150 × Valued 160 × Valued 170
  unfolding member both_rules obeys both either fails
  blocks_valued = (
    valued 150 refl (once_rule k _ (ap (block_holds k) says_150 ∙ f.once_holds)),
    valued 160 refl (digest_rule k _ (ap (block_holds k) says_160 ∙ f.digest_holds)),
    valued 170 refl (each_free k 170 _ refl),
  )

  body_valued : Valued 130 × Valued 140 × Valued 180 × Valued 190 × Valued 200 × Valued 210
  unfolding member both_rules obeys both either fails all
  body_valued = (
    valued 130 refl (area_rule k _ (ap (area_holds k) says_130 ∙ f.area_holds_fact)),
    valued 140 (join _ _ (ap all_blank says_140) refl) (each_free k 140 _ refl),
    valued 180 (join _ _ (ap (one_of (letters "0" ∷ letters "1" ∷ [])) says_180 ∙ flag_values (enclosed_key a)) refl) (each_free k 180 _ refl),
    valued 190 (join _ _ (blank_key _ refl) refl) (each_free k 190 _ refl),
    valued 200 refl (each_free k 200 _ refl),
    valued 210 refl (each_free k 210 _ refl),
  )

-- ---- no check of form fails

-- lists one after the other, of which none fails
pub none_join : (a b : List Check) → NoneFails a → NoneFails b → NoneFails (a ++ b)
none_join [] b n m = m
none_join (c ∷ a) b n m = (n.0, none_join a b n.1 m)

-- the fields in their order, where none of them is broken
none_of : (code : ℕ) (broken : ℕ → Bool)
    → (broken 10 ≡ false) × (broken 20 ≡ false) × (broken 30 ≡ false) × (broken 40 ≡ false) × (broken 50 ≡ false) × (broken 60 ≡ false)
    × (broken 70 ≡ false)
    → (broken 81 ≡ false) × (broken 82 ≡ false) × (broken 91 ≡ false) × (broken 92 ≡ false)
    → (broken 100 ≡ false) × (broken 110 ≡ false) × (broken 121 ≡ false) × (broken 122 ≡ false) × (broken 123 ≡ false)
    → (broken 150 ≡ false) × (broken 160 ≡ false) × (broken 170 ≡ false)
    → (broken 130 ≡ false) × (broken 140 ≡ false) × (broken 180 ≡ false) × (broken 190 ≡ false) × (broken 200 ≡ false) × (broken 210 ≡ false)
    → (j : Reply) → NoneFails (each_field code Answered broken (reply_layout j))
unfolding each_field reply_layout
none_of code broken o p n b r Esi = (o.0, (o.1, (o.2, (o.3, (o.4, (o.5, (o.6, (p.0, (p.1, (p.2, (p.3, (n.0, (n.1, (n.2, (n.3, (n.4, (r.0, (r.1, (b.0, (b.1, (b.2, (r.2, (r.3, (r.4, tt))))))))))))))))))))))))
none_of code broken o p n b r Pte = (o.0, (o.1, (o.2, (o.3, (o.4, (o.5, (o.6, (p.0, (p.1, (p.2, (p.3, (n.0, (n.1, (n.2, (n.3, (n.4, (r.0, (r.1, (b.0, (b.1, (b.2, (r.2, (r.3, (r.4, (r.5, tt)))))))))))))))))))))))))

pub form_passes : (k : Reply) (a : Answering) → Facts k a → NoneFails (reply_checks k (reply_of a))
unfolding reply_checks
form_passes k a f =
    let long : reply_size k ≤ length (reply_of a) = omega (arith, reply_size_fact k a f) in
    let short : List Check =
    record { code = 3032; field = 0; about = Answered; failed = ltb (length (reply_of a)) (reply_size k) } ∷ [] in
    let format : List Check = each_field 3010 Answered (reply_format_fails k (reply_of a)) (reply_layout k) in
    let values : List Check = each_field 3011 Answered (reply_value_fails k (reply_of a)) (reply_layout k) in
    none_join (short ++ format) values
    (none_join short format (le-ltb (length (reply_of a)) (reply_size k) long, tt)
    (none_of 3010 (reply_format_fails k (reply_of a)) (opening_formed k a f) (parties_formed k a f) (numbers_formed k a f)
    (blocks_formed k a f) (body_formed k a f) k))
    (none_of 3011 (reply_value_fails k (reply_of a)) (opening_valued k a f) (parties_valued k a f) (numbers_valued k a f)
    (blocks_valued k a f) (body_valued k a f) k)
