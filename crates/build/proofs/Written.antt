-- Fields written one after the other are the fields joined, since each starts where the one before it ends: a run of writes is a layout of
-- texts, whose law is codec's.
-- Assumes nothing.
use Prim.Native.Nat.{ℕ, ◌+◌, ◌≤◌}
use mathlib.Core.Path.{◌≡◌, refl, sym, ap, ap₂, ◌∙◌}
use mathlib.Core.List.{List, [], ◌∷◌, ◌++◌, append_assoc, append-nil}
use native.Mathlib.Omega.{arith}
use lib.ListN.{length, take, drop, replicate, length-append, take-append-drop}
use lib.Seq.{drop-drop, take_at}
use Rattle.ground.specs.Choice.{pick}
use Rattle.ground.specs.Lists.{part}
use Rattle.ground.proofs.Parts.{part-add, part_length, part-zero}
use Rattle.text.specs.Characters.{blank}
use Rattle.text.specs.Numbers.{decimal_digits, hex_digits}
use Rattle.text.specs.Letters.{letters}
use Rattle.text.proofs.Laws.{hex_digits-length}
use Rattle.splices.specs.Bytes.{splice}
use Rattle.splices.proofs.Splice.{splice-zero, splice-splice}
use Rattle.codec.specs.Layout.{Shape, text, ◌⊗◌, Value, Sized, laid, enc, width}
use Rattle.codec.proofs.Laws.{laid_is, splice_all, wide}
use Rattle.digest.specs.Mac.{checksum_of}
use Rattle.message.specs.Layout.{field, field_text, offset_in, width_in}
use Rattle.message.specs.declared.Kind.{Kind}
use Rattle.message.specs.declared.Kind.TheVariants.{Esi, Suo, Var}
use Rattle.reply.specs.Reply.{Said, said, joined}
use Rattle.reply.proofs.Keys.{sum_first}
use Rattle.reply.proofs.Widths.{spread}
use Rattle.desk.specs.declared.Held.{Held}
use Rattle.build.specs.Messages.{tag_of, size_of, opening_fields, middle_fields, closing_fields, front_fields, var_front}

-- ---- fields 1 to 7

tag_length : (k : Kind) → length (tag_of k ++ size_of k) ≡ 8
unfolding tag_of size_of letters
tag_length Esi = refl
tag_length Suo = refl
tag_length Var = refl

abbrev opening_shape : Shape
opening_shape = text 8 ⊗ text 8 ⊗ text 16 ⊗ text 3

module _ (k : Kind) (software method : List ℕ) (s : length software ≡ 16) (m : length method ≡ 3) where
  abbrev opening : Value opening_shape
  opening = (tag_of k ++ size_of k, (letters "120 0000", (software, method)))

  opening_sized : Sized opening_shape opening
  unfolding letters
  opening_sized = (tag_length k, (refl, (s, m)))

  opening-joined : enc opening_shape opening ≡ joined (opening_fields k software method)
  unfolding enc joined letters
  opening-joined = simp (append_assoc, append-nil)

  opening-length : length (joined (opening_fields k software method)) ≡ 35
  unfolding width
  opening-length = ap length (sym opening-joined) ∙ wide opening_shape opening opening_sized

  pub opening_written : (l : List ℕ) {tag a b c d : List ℕ} → 35 ≤ length l → tag ≡ tag_of k ++ size_of k → a ≡ splice 0 tag l
      → b ≡ splice 8 (letters "120 0000") a → c ≡ splice 16 software b → d ≡ splice 32 method c
      → d ≡ splice 0 (joined (opening_fields k software method)) l
  unfolding laid width
  opening_written l h t p q r e =
      e
      ∙ ap (splice 32 method) (r
      ∙ ap (splice 16 software) (q ∙ ap (splice 8 (letters "120 0000")) (p ∙ ap (λ (x : List ℕ). splice 0 x l) t)))
      ∙ laid_is opening_shape opening opening_sized 0 l h
      ∙ ap (λ (x : List ℕ). splice 0 x l) opening-joined

-- ---- fields 8 to 14

-- a text that is cut in two
cut : (n : ℕ) (x rest : List ℕ) → take n x ++ (drop n x ++ rest) ≡ x ++ rest
cut n x rest = sym (append_assoc (take n x) (drop n x) rest) ∙ ap (λ (y : List ℕ). y ++ rest) (take-append-drop n x)

-- a stamp in its three parts
cut_stamp : (x rest : List ℕ) → take 6 x ++ (take 6 (drop 6 x) ++ (drop 12 x ++ rest)) ≡ x ++ rest
cut_stamp x rest =
    ap (λ (y : List ℕ). take 6 x ++ (take 6 (drop 6 x) ++ (y ++ rest))) (sym (drop-drop 6 6 x))
    ∙ ap (λ (y : List ℕ). take 6 x ++ y) (cut 6 (drop 6 x) rest)
    ∙ cut 6 x rest

abbrev middle_shape : Shape
middle_shape = text 25 ⊗ text 25 ⊗ text 2 ⊗ text 15 ⊗ text 1 ⊗ text 9

module _ (h : Held) (stamp : List ℕ) (area : ℕ) (p : length h.bank ≡ 25) (q : length h.own ≡ 25) (r : length stamp ≡ 15) where
  -- the two generations
  abbrev transport : List ℕ
  transport = decimal_digits 1 h.transport.generation

  abbrev working : List ℕ
  working = decimal_digits 1 h.working.generation

  abbrev middle : Value middle_shape
  middle = (h.bank, (h.own, (transport ++ working, (stamp, (area ∷ [], replicate 9 blank)))))

  middle_sized : Sized middle_shape middle
  unfolding decimal_digits
  middle_sized = (p, (q, (refl, (r, (refl, refl)))))

  middle-joined : enc middle_shape middle ≡ joined (middle_fields h stamp area)
  unfolding enc joined
  middle-joined =
      sym
      (cut 17 h.bank _
      ∙ ap (λ (x : List ℕ). h.bank ++ x)
      (cut 17 h.own _
      ∙ ap (λ (x : List ℕ). h.own ++ x)
      (sym (append_assoc transport working _)
      ∙ ap (λ (x : List ℕ). transport ++ working ++ x) (cut_stamp stamp (area ∷ replicate 9 blank)))))

  middle-length : length (joined (middle_fields h stamp area)) ≡ 77
  unfolding width
  middle-length = ap length (sym middle-joined) ∙ wide middle_shape middle middle_sized

  pub middle_written : (l : List ℕ) {marks a b c d e f : List ℕ} → 112 ≤ length l → marks ≡ transport ++ working
      → a ≡ splice 35 h.bank l → b ≡ splice 60 h.own a → c ≡ splice 85 marks b → d ≡ splice 87 stamp c
      → e ≡ splice 102 (area ∷ []) d → f ≡ splice 103 (replicate 9 blank) e → f ≡ splice 35 (joined (middle_fields h stamp area)) l
  unfolding laid width
  middle_written l k t u v w x y z =
      z
      ∙ ap (splice 103 (replicate 9 blank)) (y
      ∙ ap (splice 102 (area ∷ [])) (x
      ∙ ap (splice 87 stamp) (w ∙ ap₂ (splice 85) t (v ∙ ap (splice 60 h.own) u))))
      ∙ laid_is middle_shape middle middle_sized 35 l k
      ∙ ap (λ (x : List ℕ). splice 35 x l) middle-joined

-- ---- the fields from 15 on after those before them

module _ (k : Kind) (h : Held) (software method stamp : List ℕ) (area : ℕ) (s : length software ≡ 16) (m : length method ≡ 3)
    (p : length h.bank ≡ 25) (q : length h.own ≡ 25) (r : length stamp ≡ 15) (rest : List Said) (n : ℕ)
    (e : length (joined rest) ≡ n) where
  abbrev front_shape : Shape
  front_shape = text 35 ⊗ text 77 ⊗ text n

  abbrev front : Value front_shape
  front = (joined (opening_fields k software method), (joined (middle_fields h stamp area), joined rest))

  front_sized : Sized front_shape front
  front_sized = (opening-length k software method s m, (middle-length h stamp area p q r, e))

  front-joined : enc front_shape front ≡ joined (front_fields k h software method stamp area ++ rest)
  unfolding enc
  front-joined =
      let opening = opening_fields k software method in
      let middle = middle_fields h stamp area in
      sym
      (spread (opening ++ middle) rest
      ∙ ap (λ (x : List ℕ). x ++ joined rest) (spread opening middle)
      ∙ append_assoc (joined opening) (joined middle) (joined rest))

  pub front_length : length (joined (front_fields k h software method stamp area ++ rest)) ≡ 35 + (77 + n)
  unfolding width
  front_length = ap length (sym front-joined) ∙ wide front_shape front front_sized

  pub front_written : (l : List ℕ) {a b c : List ℕ} → 35 + (77 + n) ≤ length l → a ≡ splice 0 (joined (opening_fields k software method)) l
      → b ≡ splice 35 (joined (middle_fields h stamp area)) a → c ≡ splice 112 (joined rest) b
      → c ≡ splice 0 (joined (front_fields k h software method stamp area ++ rest)) l
  unfolding laid width
  front_written l g u v w =
      w
      ∙ ap (splice 112 (joined rest)) (v ∙ ap (splice 35 (joined (middle_fields h stamp area))) u)
      ∙ laid_is front_shape front front_sized 0 l (omega arith)
      ∙ ap (λ (x : List ℕ). splice 0 x l) front-joined

-- a SUO's last field
module _ (h : Held) (software method stamp : List ℕ) (area sealed : ℕ) (s : length software ≡ 16) (m : length method ≡ 3)
    (p : length h.bank ≡ 25) (q : length h.own ≡ 25) (r : length stamp ≡ 15) where
  abbrev last : List Said
  last = said (field 15) (hex_digits 16 sealed) ∷ []

  last_is : hex_digits 16 sealed ≡ joined last
  unfolding joined
  last_is = sym (append-nil (hex_digits 16 sealed))

  last-length : length (joined last) ≡ 16
  last-length = ap length (sym last_is) ∙ hex_digits-length 16 sealed

  pub suo_length : length (joined (front_fields Suo h software method stamp area ++ last)) ≡ 128
  suo_length = front_length Suo h software method stamp area s m p q r last 16 last-length

  pub suo_written : (l : List ℕ) {x : ℕ} {digits a b c : List ℕ} → length l ≡ 128 → x ≡ sealed → digits ≡ hex_digits 16 x
      → a ≡ splice 0 (joined (opening_fields Suo software method)) l → b ≡ splice 35 (joined (middle_fields h stamp area)) a
      → c ≡ splice 112 digits b → c ≡ joined (front_fields Suo h software method stamp area ++ last)
  unfolding enc width
  suo_written l {x} {digits} {a} {b} g e f u v w =
      let whole = joined (front_fields Suo h software method stamp area ++ last) in
      let d : digits ≡ joined last = f ∙ ap (hex_digits 16) e ∙ last_is in
      front_written Suo h software method stamp area s m p q r last 16 last-length l (omega arith) u v (w ∙ ap (λ (y : List ℕ). splice 112 y b) d)
      ∙ splice_all (text 128) whole suo_length l g

-- ---- a VAR's fields 1 to 16

-- parts that adjoin, one after the other, and then the rest
unfoldable parts : (at : ℕ) (widths l rest : List ℕ) → List ℕ
parts at [] l rest = rest
parts at (w ∷ ws) l rest = part at w l ++ parts (at + w) ws l rest

unfoldable sum : List ℕ → ℕ
sum [] = 0
sum (w ∷ ws) = w + sum ws

adjoining : (at : ℕ) (ws l rest : List ℕ) → parts at ws l rest ≡ part at (sum ws) l ++ rest
unfolding parts sum
adjoining at [] l rest = ap (λ (x : List ℕ). x ++ rest) (sym (part-zero l at))
adjoining at (w ∷ ws) l rest =
    ap (λ (x : List ℕ). part at w l ++ x) (adjoining (at + w) ws l rest)
    ∙ sym (append_assoc (part at w l) (part (at + w) (sum ws) l) rest)
    ∙ ap (λ (x : List ℕ). x ++ rest) (sym (part-add l at w (sum ws)))

abbrev var_shape : Shape
var_shape = text 8 ⊗ text 24 ⊗ text 3 ⊗ text 93 ⊗ text 16

module _ (suo : List ℕ) (digest : ℕ) (n : length suo ≡ 128) where
  abbrev var : Value var_shape
  var = (tag_of Var ++ size_of Var, (part 8 24 suo, (letters "SMH", (part 35 93 suo, hex_digits 16 digest))))

  var_sized : Sized var_shape var
  unfolding letters
  var_sized = (
    tag_length Var,
    (part_length suo 8 24 (omega arith), (refl, (part_length suo 35 93 (omega arith), hex_digits-length 16 digest))),
  )

  -- fields 3 to 6 of the SUO are one run of it, and 8 to 15 another
  var-joined : enc var_shape var ≡ joined (var_front suo digest)
  unfolding enc joined parts sum field_text offset_in width_in pick
  var-joined =
      let digits = hex_digits 16 digest in
      sym
      (ap (λ (x : List ℕ). tag_of Var ++ (size_of Var ++ x))
      (adjoining 8 (3 ∷ 1 ∷ 4 ∷ 16 ∷ []) suo _
      ∙ ap (λ (x : List ℕ). part 8 24 suo ++ (letters "SMH" ++ x))
      (adjoining 35 (17 ∷ 8 ∷ 17 ∷ 8 ∷ 1 ∷ 1 ∷ 6 ∷ 6 ∷ 3 ∷ 1 ∷ 9 ∷ 16 ∷ []) suo (digits ++ [])
      ∙ ap (λ (x : List ℕ). part 35 93 suo ++ x) (append-nil digits)))
      ∙ sym (append_assoc (tag_of Var) (size_of Var) _))

  pub var-length : length (joined (var_front suo digest)) ≡ 144
  unfolding width
  var-length = ap length (sym var-joined) ∙ wide var_shape var var_sized

  pub var_written : (l : List ℕ) {tag digits a b c d e : List ℕ} → 144 ≤ length l → tag ≡ tag_of Var ++ size_of Var
      → digits ≡ hex_digits 16 digest → a ≡ splice 0 tag l → b ≡ splice 8 (part 8 24 suo) a → c ≡ splice 32 (letters "SMH") b
      → d ≡ splice 35 (part 35 93 suo) c → e ≡ splice 128 digits d → e ≡ splice 0 (joined (var_front suo digest)) l
  unfolding laid width
  var_written l h t f u v w x y =
      y
      ∙ ap₂ (splice 128) f (x
      ∙ ap (splice 35 (part 35 93 suo)) (w
      ∙ ap (splice 32 (letters "SMH")) (v ∙ ap (splice 8 (part 8 24 suo)) (u ∙ ap (λ (z : List ℕ). splice 0 z l) t))))
      ∙ laid_is var_shape var var_sized 0 l h
      ∙ ap (λ (z : List ℕ). splice 0 z l) var-joined

-- ---- fields 17 and 18

-- the checksum of what stands before them, and the request
abbrev closing : (key request : ℕ) (before : List ℕ) → List ℕ
closing key request before = hex_digits 16 (checksum_of key before) ++ (request ∷ [])

pub closing_written : (key request : ℕ) (l : List ℕ) {sum : ℕ} {digits a b : List ℕ} → 161 ≤ length l → sum ≡ checksum_of key l
    → digits ≡ hex_digits 16 sum → a ≡ splice 144 digits l → b ≡ splice 160 (request ∷ []) a → b ≡ splice 144 (closing key request l) l
closing_written key request l {sum} {digits} h e f u v =
    let n : length digits ≡ 16 = ap length f ∙ hex_digits-length 16 sum in
    v
    ∙ ap (splice 160 (request ∷ [])) u
    ∙ splice-splice 144 digits (request ∷ []) l 160 (omega arith) h
    ∙ ap (λ (x : List ℕ). splice 144 (x ++ (request ∷ [])) l) (f ∙ ap (hex_digits 16) e)

abbrev closed_shape : Shape
closed_shape = text 144 ⊗ text 17

module _ (key request : ℕ) (fields : List Said) (l : List ℕ) (f : length (joined fields) ≡ 144) (e : length l ≡ 161) where
  -- the first characters of what stands there are the fields, and the checksum is over these
  summed : checksum_of key (splice 0 (joined fields) l) ≡ checksum_of key (joined fields)
  summed =
      sum_first key (splice 0 (joined fields) l)
      ∙ ap (λ (x : List ℕ). checksum_of key (take 144 x)) (splice-zero (joined fields) l)
      ∙ ap (checksum_of key) (take_at (joined fields) _ 144 f)

  abbrev closed : Value closed_shape
  closed = (joined fields, closing key request (joined fields))

  closed_sized : Sized closed_shape closed
  closed_sized =
      let sum = checksum_of key (joined fields) in
      (f, length-append (hex_digits 16 sum) (request ∷ []) ∙ ap (λ (n : ℕ). n + 1) (hex_digits-length 16 sum))

  pub message_closed : {a b : List ℕ} → a ≡ splice 0 (joined fields) l → b ≡ splice 144 (closing key request a) a
      → b ≡ joined (fields ++ closing_fields key fields request)
  unfolding laid enc width joined
  message_closed u v =
      v
      ∙ ap (λ (x : List ℕ). splice 144 (closing key request x) x) u
      ∙ ap (λ (x : ℕ). splice 144 (hex_digits 16 x ++ (request ∷ [])) (splice 0 (joined fields) l)) summed
      ∙ laid_is closed_shape closed closed_sized 0 l (omega arith)
      ∙ splice_all closed_shape closed closed_sized l e
      ∙ sym (spread fields (closing_fields key fields request))
