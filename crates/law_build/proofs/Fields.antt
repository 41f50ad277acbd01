-- Each field of a built message says what it was built of, since each is as long as its field in the layout.
-- Assumes nothing.
use mathlib.Core.Path.{◌≡◌, refl, sym, ap, ap₂, ◌∙◌, subst}
use mathlib.Core.Bool.{true, false≢true}
use mathlib.Core.Logic.{⊎_elim}
use mathlib.Core.List.{List, [], ◌∷◌, ◌++◌}
use Prim.Native.Nat.{ℕ, ◌+◌}
use native.Mathlib.Omega.{arith}
use borrow.Author.Tests.{eqb-true, leb-true}
use lib.Dec.{eqb, leb}
use lib.ListN.{length, length-append, take, drop, length-drop, take-append-drop}
use lib.Seq.{length-take-le, drop-drop}
use Rattle.ground.specs.Choice.{both, either, pick}
use Rattle.ground.specs.Lists.{Each, all, member, part}
use Rattle.ground.proofs.Choices.{either_cases}
use Rattle.ground.proofs.Lists.{all-member}
use Rattle.ground.proofs.Parts.{part-add, part_length}
use Rattle.text.specs.Characters.{blank}
use Rattle.text.specs.Letters.{letters}
use Rattle.text.specs.Numbers.{decimal_digits, hex_digits}
use Rattle.text.proofs.Laws.{decimal_digits-length, hex_digits-length}
use Rattle.des.specs.Des.{enciphered}
use Rattle.digest.specs.Mac.{checksum_of}
use Rattle.message.specs.Layout.{Field, fields, total, field_text, offset_in, width_in, layout, layout_length}
use Rattle.message.specs.Fields.{receiver_of, sender_of, stamp_text_of}
use Rattle.message.specs.declared.Kind.{Kind}
use Rattle.message.specs.declared.Kind.TheVariants.{Esi, Suo, Var}
use Rattle.whole_file.specs.Messages.{known_text}
use Rattle.law_desk.proofs.Passes.{sender_two, receiver_two}
use Rattle.reply.specs.Reply.{Said, said, joined}
use Rattle.reply.proofs.Fields.{said_in, Laid, ends, lays, laid_out}
use Rattle.desk.specs.declared.Held.{Held}
use Rattle.build.proofs.Known.{known_part}
use Rattle.build.specs.Messages.{tag_of, size_of, front_fields, closing_fields, esi_front, esi_built, suo_built, var_front, var_built}

-- ---- fields laid out

-- what a field of such a message says
pub laid_says : {es : List Said} → Laid fields es → (n : ℕ) → field_text n (joined es) ≡ said_in n es
unfolding field_text
laid_says l n = laid_out l n

pub laid_length : {fs : List Field} {es : List Said} → Laid fs es → length (joined es) ≡ total (take (length es) fs)
unfolding joined total
laid_length ends = refl
laid_length (lays {f} {e} {fs} {es} p h l) = length-append e.text (joined es) ∙ ap₂ ◌+◌ h (laid_length l)

-- a field of a message of k characters that has it whole
pub field_length : (n k : ℕ) (m : List ℕ) → length m ≡ k → leb (offset_in n fields + width_in n fields) k ≡ true
    → length (field_text n m) ≡ width_in n fields
unfolding field_text
field_length n k m h t = part_length m (offset_in n fields) (width_in n fields) (omega (arith, leb-true (offset_in n fields + width_in n fields) k t))

-- ---- fields that adjoin

stamp_three : (m : List ℕ) → stamp_text_of m ≡ field_text 121 m ++ (field_text 122 m ++ field_text 123 m)
unfolding stamp_text_of field_text offset_in width_in pick
stamp_three m = part-add m 87 6 9 ∙ ap (λ (x : List ℕ). part 87 6 m ++ x) (part-add m 93 6 3)

-- a stamp in its three parts
cut_stamp : (x : List ℕ) → take 6 x ++ (take 6 (drop 6 x) ++ drop 12 x) ≡ x
cut_stamp x =
    ap (λ (y : List ℕ). take 6 x ++ (take 6 (drop 6 x) ++ y)) (sym (drop-drop 6 6 x))
    ∙ ap (λ (y : List ℕ). take 6 x ++ y) (take-append-drop 6 (drop 6 x))
    ∙ take-append-drop 6 x

-- ---- what is built has the layout's lengths

tag_length : (k : Kind) → length (tag_of k) ≡ 5
unfolding tag_of letters
tag_length Esi = refl
tag_length Suo = refl
tag_length Var = refl

size_length : (k : Kind) → length (size_of k) ≡ 3
unfolding size_of letters
size_length Esi = refl
size_length Suo = refl
size_length Var = refl

past_length : (n w : ℕ) (x : List ℕ) → length x ≡ n + w → length (drop n x) ≡ w
past_length n w x e = simp length-drop (omega arith)

-- what a message is built of beside its kind: texts of the layout's lengths
pub record Sized (h : Held) (s m x : List ℕ) : Type 0 where
  pub software : length s ≡ 16
  pub method : length m ≡ 3
  pub bank : length h.bank ≡ 25
  pub own : length h.own ≡ 25
  pub stamp : length x ≡ 15

module _ (k : Kind) (h : Held) (software method stamp : List ℕ) (area : ℕ) (z : Sized h software method stamp) where
  pub front_laid : {fs : List Field} {es : List Said} → Laid fs es
      → Laid (take 18 fields ++ fs) (front_fields k h software method stamp area ++ es)
  unfolding letters
  front_laid l =
      let b = z.bank in
      let o = z.own in
      let s = z.stamp in
      let r = past_length 6 9 stamp s in
      lays refl (tag_length k)
      (lays refl (size_length k)
      (lays refl refl
      (lays refl refl
      (lays refl refl
      (lays refl z.software
      (lays refl z.method
      (lays refl (length-take-le 17 h.bank (omega arith))
      (lays refl (past_length 17 8 h.bank b)
      (lays refl (length-take-le 17 h.own (omega arith))
      (lays refl (past_length 17 8 h.own o)
      (lays refl (decimal_digits-length 1 h.transport.generation)
      (lays refl (decimal_digits-length 1 h.working.generation)
      (lays refl (length-take-le 6 stamp (omega arith))
      (lays refl (length-take-le 6 (drop 6 stamp) (omega arith))
      (lays refl (past_length 12 3 stamp s) (lays refl refl (lays refl refl l)))))))))))))))))

-- ---- what a message is, by its first two fields and its length

pub record States (k : Kind) (m : List ℕ) : Type 0 where
  pub tag : field_text 10 m ≡ tag_of k
  pub size : field_text 20 m ≡ size_of k
  pub long : length m ≡ layout_length k

-- ---- what its fields up to 12 say

pub record Says (h : Held) (x m : List ℕ) : Type 0 where
  pub version : field_text 30 m ≡ letters "120"
  pub receiver : receiver_of m ≡ h.bank
  pub sender : sender_of m ≡ h.own
  pub transport : field_text 100 m ≡ decimal_digits 1 h.transport.generation
  pub working : field_text 110 m ≡ decimal_digits 1 h.working.generation
  pub date : field_text 121 m ≡ take 6 x
  pub stamp : stamp_text_of m ≡ x

module _ (k : Kind) (h : Held) (software method stamp : List ℕ) (area : ℕ) (es : List Said)
    (l : Laid fields (front_fields k h software method stamp area ++ es)) where
  pub front_says : Says h stamp (joined (front_fields k h software method stamp area ++ es))
  unfolding said_in pick
  front_says =
      let m = joined (front_fields k h software method stamp area ++ es) in
      record {
        version = laid_says l 30;
        receiver = sym (receiver_two m) ∙ ap₂ ◌++◌ (laid_says l 81) (laid_says l 82) ∙ take-append-drop 17 h.bank;
        sender = sym (sender_two m) ∙ ap₂ ◌++◌ (laid_says l 91) (laid_says l 92) ∙ take-append-drop 17 h.own;
        transport = laid_says l 100;
        working = laid_says l 110;
        date = laid_says l 121;
        stamp =
            stamp_three m
            ∙ ap₂ ◌++◌ (laid_says l 121) (ap₂ ◌++◌ (laid_says l 122) (laid_says l 123))
            ∙ cut_stamp stamp;
      }

-- ---- the fields that a VAR repeats of its SUO and that are compared

abbrev pub repeated : List ℕ
repeated = 30 ∷ 81 ∷ 82 ∷ 91 ∷ 92 ∷ 100 ∷ 110 ∷ 121 ∷ 122 ∷ 123 ∷ 130 ∷ 150 ∷ []

abbrev pub Repeats : (a b : List ℕ) → Type 0
Repeats a b = (i : ℕ) → member i repeated ≡ true → field_text i a ≡ field_text i b

module _ (a b : List ℕ) (same : Repeats a b) where
  pub receiver_same : receiver_of a ≡ receiver_of b
  unfolding member either
  receiver_same = sym (receiver_two a) ∙ ap₂ ◌++◌ (same 81 refl) (same 82 refl) ∙ receiver_two b

  pub sender_same : sender_of a ≡ sender_of b
  unfolding member either
  sender_same = sym (sender_two a) ∙ ap₂ ◌++◌ (same 91 refl) (same 92 refl) ∙ sender_two b

  pub stamp_same : stamp_text_of a ≡ stamp_text_of b
  unfolding member either
  stamp_same = stamp_three a ∙ ap₂ ◌++◌ (same 121 refl) (ap₂ ◌++◌ (same 122 refl) (same 123 refl)) ∙ sym (stamp_three b)

  pub says_same : (h : Held) (x : List ℕ) → Says h x b → Says h x a
  unfolding member either
  says_same h x s =
      record {
        version = same 30 refl ∙ s.version;
        receiver = receiver_same ∙ s.receiver;
        sender = sender_same ∙ s.sender;
        transport = same 100 refl ∙ s.transport;
        working = same 110 refl ∙ s.working;
        date = same 121 refl ∙ s.date;
        stamp = stamp_same ∙ s.stamp;
      }

-- what holds of each holds of one of them
each_member : (P : ℕ → Type 0) (l : List ℕ) → Each P l → (i : ℕ) → member i l ≡ true → P i
unfolding member
each_member P [] n i e = absurd (false≢true e)
each_member P (x ∷ l) n i e =
    ⊎_elim (λ (a : eqb x i ≡ true). subst P (eqb-true x i a) n.0) (λ (b : member i l ≡ true). each_member P l n.1 i b)
    (either_cases _ _ e)

-- ---- fields 17 and 18 after the fields before them

pub closing_laid : (key request : ℕ) (front : List Said) → Laid (drop 20 fields) (closing_fields key front request)
closing_laid key request front = lays refl (hex_digits-length 16 (checksum_of key (joined front))) (lays refl refl ends)

-- ---- an ESI

module _ (h : Held) (software stamp : List ℕ) (request : ℕ) (z : Sized h software (letters "SMH") stamp) where
  esi_laid : {es : List Said} → Laid (drop 20 fields) es → Laid fields (esi_front h software stamp ++ es)
  esi_laid l = front_laid Esi h software (letters "SMH") stamp blank z (lays refl refl (lays refl refl l))

  abbrev esi_all : Laid fields (esi_front h software stamp ++ closing_fields h.working.key (esi_front h software stamp) request)
  esi_all = esi_laid (closing_laid h.working.key request (esi_front h software stamp))

  pub esi_states : States Esi (esi_built h software stamp request)
  unfolding esi_built said_in pick layout_length layout total
  esi_states = record { tag = laid_says esi_all 10; size = laid_says esi_all 20; long = laid_length esi_all }

  pub esi_front-length : length (joined (esi_front h software stamp)) ≡ 144
  unfolding total
  esi_front-length = laid_length (esi_laid ends)

  pub esi_says_lem : Says h stamp (esi_built h software stamp request)
  unfolding esi_built
  esi_says_lem = front_says Esi h software (letters "SMH") stamp blank _ esi_all

  pub esi_sum : field_text 170 (esi_built h software stamp request)
      ≡ hex_digits 16 (checksum_of h.working.key (joined (esi_front h software stamp)))
  unfolding esi_built said_in pick
  esi_sum = laid_says esi_all 170

-- ---- a SUO

module _ (h : Held) (software method stamp : List ℕ) (area once : ℕ) (z : Sized h software method stamp) where
  abbrev suo_all : Laid fields
      (front_fields Suo h software method stamp area ++ (said 150 (hex_digits 16 (enciphered h.transport.key once)) ∷ []))
  suo_all = front_laid Suo h software method stamp area z (lays refl (hex_digits-length 16 (enciphered h.transport.key once)) ends)

  pub suo_states : States Suo (suo_built h software method stamp area once)
  unfolding suo_built said_in pick layout_length layout total
  suo_states = record { tag = laid_says suo_all 10; size = laid_says suo_all 20; long = laid_length suo_all }

  pub suo_long_fact : length (suo_built h software method stamp area once) ≡ 128
  unfolding layout_length layout total
  suo_long_fact = suo_states.long

  pub suo_says_lem : Says h stamp (suo_built h software method stamp area once)
  unfolding suo_built
  suo_says_lem = front_says Suo h software method stamp area _ suo_all

  pub suo_once : field_text 150 (suo_built h software method stamp area once) ≡ hex_digits 16 (enciphered h.transport.key once)
  unfolding suo_built said_in pick
  suo_once = laid_says suo_all 150

-- ---- a VAR

module _ (suo : List ℕ) (key digest request : ℕ) (n : length suo ≡ 128) where
  fit : (i : ℕ) → leb (offset_in i fields + width_in i fields) 128 ≡ true → length (field_text i suo) ≡ width_in i fields
  fit i t = field_length i 128 suo n t

  var_laid : {es : List Said} → Laid (drop 20 fields) es → Laid fields (var_front suo digest ++ es)
  unfolding tag_of size_of letters offset_in width_in pick
  var_laid l =
      lays refl refl
      (lays refl refl
      (lays refl (fit 30 refl)
      (lays refl (fit 40 refl)
      (lays refl (fit 50 refl)
      (lays refl (fit 60 refl)
      (lays refl refl
      (lays refl (fit 81 refl)
      (lays refl (fit 82 refl)
      (lays refl (fit 91 refl)
      (lays refl (fit 92 refl)
      (lays refl (fit 100 refl)
      (lays refl (fit 110 refl)
      (lays refl (fit 121 refl)
      (lays refl (fit 122 refl)
      (lays refl (fit 123 refl)
      (lays refl (fit 130 refl)
      (lays refl (fit 140 refl) (lays refl (fit 150 refl) (lays refl (hex_digits-length 16 digest) l)))))))))))))))))))

  abbrev var_all : Laid fields (var_front suo digest ++ closing_fields key (var_front suo digest) request)
  var_all = var_laid (closing_laid key request (var_front suo digest))

  pub var_states : States Var (var_built suo key digest request)
  unfolding var_built said_in pick layout_length layout total
  var_states = record { tag = laid_says var_all 10; size = laid_says var_all 20; long = laid_length var_all }

  pub var_front-length : length (joined (var_front suo digest)) ≡ 144
  unfolding total
  var_front-length = laid_length (var_laid ends)

  pub var_digest : field_text 160 (var_built suo key digest request) ≡ hex_digits 16 digest
  unfolding var_built said_in pick
  var_digest = laid_says var_all 160

  pub var_sum : field_text 170 (var_built suo key digest request) ≡ hex_digits 16 (checksum_of key (joined (var_front suo digest)))
  unfolding var_built said_in pick
  var_sum = laid_says var_all 170

  pub var_repeats : Repeats suo (var_built suo key digest request)
  unfolding var_built said_in pick
  var_repeats i e =
      sym
      (laid_says var_all i
      ∙ each_member (λ (j : ℕ). said_in j (var_front suo digest ++ closing_fields key (var_front suo digest) request) ≡ field_text j suo) repeated
      (refl, (refl, (refl, (refl, (refl, (refl, (refl, (refl, (refl, (refl, (refl, (refl, tt)))))))))))) i e)

-- ---- a SUO's fields stand in its known characters

module _ (suo : List ℕ) (n : length suo ≡ 128) where
  within : all (λ (i : ℕ). leb (offset_in i fields + width_in i fields) 128) repeated ≡ true
  unfolding all both offset_in width_in pick
  within = refl

  pub known_repeats : Repeats (known_text Suo suo) suo
  unfolding field_text
  known_repeats i e =
      let at = offset_in i fields in
      let w = width_in i fields in
      known_part suo n at w (leb-true (at + w) 128 (all-member (λ (j : ℕ). leb (offset_in j fields + width_in j fields) 128) repeated i within e))
