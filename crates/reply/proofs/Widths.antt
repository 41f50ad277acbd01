-- The parts that are written are the fields joined, and how long each is: fields of fixed width, of a message of 161 characters, a bank
-- of 25 and a name of 16.
-- Assumes nothing.
use mathlib.Core.Path.{◌≡◌, refl, sym, ap, ◌∙◌}
use mathlib.Core.Bool.{Bool, true, false}
use mathlib.Core.List.{List, [], ◌∷◌, ◌++◌, append_assoc, append-nil}
use Prim.Native.Nat.{ℕ, ◌+◌}
use native.Mathlib.Omega.{arith}
use lib.ListN.{length, take, drop, replicate, length-append, take-append-drop}
use Rattle.ground.specs.Choice.{pick}
use Rattle.ground.specs.Lists.{part}
use Rattle.ground.proofs.Lists.{pick-length}
use Rattle.ground.proofs.Parts.{part_length, part_join}
use Rattle.text.specs.Characters.{blank, padded}
use Rattle.text.specs.Numbers.{decimal_digits}
use Rattle.text.specs.Letters.{letters}
use Rattle.text.proofs.Laws.{decimal_digits-length, padded-length}
use Rattle.message.specs.Layout.{field_text, offset_in, width_in}
use Rattle.message.specs.Contents.{held_in}
use Rattle.message.specs.Fields.{receiver_of, sender_of, stamp_text_of}
use Rattle.notice.specs.Codes.{codes, code_in, text_of}
use Rattle.notice.proofs.Padding.{after}
use Rattle.reply.specs.Reply.{clock_text, notice_of, Said, joined, opening_fields, full_fields, bare_fields}
use Rattle.reply.specs.declared.Answering.{Answering}

-- ---- fields joined

pub spread : (xs ys : List Said) → joined (xs ++ ys) ≡ joined xs ++ joined ys
unfolding joined
spread [] ys = refl
spread (f ∷ xs) ys = ap (λ (r : List ℕ). f.text ++ r) (spread xs ys) ∙ sym (append_assoc f.text (joined xs) (joined ys))

-- ---- fields 1 to 7

-- fields 1 and 2
first_two : (t : Bool) → pick t (letters ">>PTE317") (letters ">>ESI237")
    ≡ pick t (letters ">>PTE") (letters ">>ESI") ++ pick t (letters "317") (letters "237")
unfolding pick letters
first_two true = refl
first_two false = refl

-- fields 1 to 3
pub tag_length : (pte : Bool) → length (pick pte (letters ">>PTE") (letters ">>ESI") ++ pick pte (letters "317") (letters "237")
    ++ letters "120") ≡ 11
unfolding pick letters
tag_length true = refl
tag_length false = refl

-- fields 1 to 5
abbrev pub marks : Bool → ℕ → List ℕ
marks pte code =
    pick pte (letters ">>PTE317") (letters ">>ESI237") ++
    letters "120" ++
    pick (code_in code codes).accepted (letters "K") (letters "E") ++
    decimal_digits 4 code

pub marks-length : (pte : Bool) (code : ℕ) → length (marks pte code) ≡ 16
unfolding letters
marks-length pte code =
    simp length-append
    (omega (
      arith,
      pick-length pte (letters ">>PTE317") (letters ">>ESI237") 8 refl refl,
      pick-length (code_in code codes).accepted
          (letters "K") (letters "E") 1 refl refl,
      decimal_digits-length 4 code,
    ))

-- the first five written together
pub opening-joined : (a : Answering) → marks a.pte a.code ++ a.software ++ letters "SMH" ≡ joined (opening_fields a)
unfolding joined
opening-joined a = rw (first_two a.pte) (simp (append_assoc, append-nil))

pub opening-length : (a : Answering) → length a.software ≡ 16 → length (joined (opening_fields a)) ≡ 35
unfolding letters
opening-length a h =
    let v : List ℕ = marks a.pte a.code in
    let e : length (v ++ a.software) ≡ 32 = length-append v a.software ∙ omega (arith, marks-length a.pte a.code) in
    ap length (sym (opening-joined a)) ∙ length-append (v ++ a.software) (letters "SMH") ∙ ap (λ (n : ℕ). n + 3) e

-- ---- fields 8 to 16, bare

-- fields 10 to 12 written together, and 13 to 16
pub bare_joined : (a : Answering) → replicate 25 blank ++ a.bank ++ letters "00000000000000000" ++ replicate 42 blank
    ≡ joined (bare_fields a)
unfolding joined letters
bare_joined a =
    let z : List ℕ = letters "00000000000000000" in
    sym
    (ap (λ (r : List ℕ). replicate 25 blank ++ r)
    (sym (append_assoc (take 17 a.bank) (drop 17 a.bank) (z ++ replicate 42 blank))
    ∙ ap (λ (r : List ℕ). r ++ (z ++ replicate 42 blank)) (take-append-drop 17 a.bank)
    ∙ sym (append_assoc a.bank z (replicate 42 blank))))

pub bare_length : (a : Answering) → length a.bank ≡ 25 → length (joined (bare_fields a)) ≡ 109
unfolding letters
bare_length a h = ap length (sym (bare_joined a)) ∙ simp length-append (omega arith)

-- ---- fields 8 to 16, full

sender_two : (m : List ℕ) → field_text 91 m ++ field_text 92 m ≡ sender_of m
unfolding field_text sender_of offset_in width_in pick
sender_two m = part_join [] 60 17 8 m

receiver_two : (m : List ℕ) → field_text 81 m ++ field_text 82 m ≡ receiver_of m
unfolding field_text receiver_of offset_in width_in pick
receiver_two m = part_join [] 35 17 8 m

stamp_three : (m : List ℕ) → field_text 121 m ++ field_text 122 m ++ field_text 123 m ≡ stamp_text_of m
unfolding field_text stamp_text_of offset_in width_in pick
stamp_three m = ap (λ (r : List ℕ). r ++ part 99 3 m) (part_join [] 87 6 6 m) ∙ part_join [] 87 12 3 m

-- 8, 9 and 12 as wholes
pub full_groups : (a : Answering) → joined (full_fields a) ≡
    sender_of a.message ++ receiver_of a.message ++ field_text 100 a.message ++ field_text 110 a.message
    ++ stamp_text_of a.message ++ field_text 130 a.message ++ replicate 9 blank ++ field_text 150 a.message
    ++ field_text 160 a.closing
unfolding joined
full_groups a =
    rw (← sender_two a.message, ← receiver_two a.message, ← stamp_three a.message) (simp (append_assoc, append-nil))

-- the same by their places
full_places : (a : Answering) → joined (full_fields a) ≡
    part 60 25 a.message ++ part 35 25 a.message ++ part 85 1 a.message ++ part 86 1 a.message ++ part 87 15 a.message
    ++ part 102 1 a.message ++ replicate 9 blank ++ part 112 16 a.message ++ part 128 16 a.closing
unfolding sender_of receiver_of stamp_text_of field_text offset_in width_in pick
full_places a = full_groups a

-- the same in six parts, since the fields 10 to 13 adjoin
pub full_joined : (a : Answering) → part 60 25 a.message ++ part 35 25 a.message ++ part 85 18 a.message ++ replicate 9 blank
    ++ part 112 16 a.message ++ part 128 16 a.closing ≡ joined (full_fields a)
full_joined a =
    let m = a.message in
    let x : List ℕ = part 60 25 m ++ part 35 25 m in
    sym
    (full_places a
    ∙ ap (λ (r : List ℕ). r ++ replicate 9 blank ++ part 112 16 m ++ part 128 16 a.closing)
    (ap (λ (r : List ℕ). r ++ part 87 15 m ++ part 102 1 m) (part_join x 85 1 1 m)
    ∙ ap (λ (r : List ℕ). r ++ part 102 1 m) (part_join x 85 2 15 m)
    ∙ part_join x 85 17 1 m))

pub full_length : (a : Answering) → length a.message ≡ 161 → length a.closing ≡ 161 → length (joined (full_fields a)) ≡ 109
full_length a h k =
    let m = a.message in
    ap length (sym (full_joined a))
    ∙ simp length-append
    (omega (
      arith,
      part_length m 60 25 (omega arith),
      part_length m 35 25 (omega arith),
      part_length m 85 18 (omega arith),
      part_length m 112 16 (omega arith),
      part_length a.closing 128 16 (omega arith),
    ))

-- ---- the notice

clock_length : (t : ℕ) → length (clock_text t) ≡ 8
unfolding clock_text decimal_digits letters
clock_length t = refl

pub notice_length : (a : Answering) → length (notice_of a) ≡ 60
unfolding notice_of
notice_length a = padded-length 60 _

-- the clock with a blank, and the text filled with blanks
pub notice_filled : (a : Answering) (clock text : List ℕ) → clock ≡ clock_text a.time ++ letters " "
    → text ≡ padded 51 (text_of a.code a.field (held_in a.contents)) → clock ++ text ≡ notice_of a
unfolding notice_of letters
notice_filled a clock text e f =
    let h : length clock ≡ 9 = ap length e ∙ length-append (clock_text a.time) (letters " ")
    ∙ ap (λ (x : ℕ). x + 1) (clock_length a.time) in
    let t : List ℕ = text_of a.code a.field (held_in a.contents) in
    ap (λ (x : List ℕ). clock ++ x) f ∙ sym (after 9 51 clock t h) ∙ ap (λ (x : List ℕ). padded 60 (x ++ t)) e
