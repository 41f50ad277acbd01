-- Each field of a reply stands at its layout's place, since each is as long as the layout says.
-- Assumes nothing.
use mathlib.Core.Path.{◌≡◌, refl, sym, ap, ◌∙◌}
use mathlib.Core.Bool.{Bool, true, false}
use mathlib.Core.List.{List, [], ◌∷◌, ◌++◌}
use Prim.Native.Nat.{ℕ, ◌+◌}
use native.Mathlib.Omega.{arith}
use borrow.Author.Tests.{leb-true}
use lib.Dec.{leb, eqb}
use lib.ListN.{length, take, drop, replicate, length-drop}
use lib.Seq.{length-take-le, take_at, take-nil, drop-nil, drop-append-add}
use Rattle.ground.specs.Choice.{pick}
use Rattle.ground.specs.Lists.{part}
use Rattle.ground.proofs.Choices.{picks, skips}
use Rattle.ground.proofs.Lists.{pick-length}
use Rattle.ground.proofs.Bools.{picked}
use Rattle.ground.proofs.Parts.{part_length}
use Rattle.text.specs.Characters.{blank}
use Rattle.text.specs.Letters.{letters}
use Rattle.text.proofs.Laws.{decimal_digits-length}
use Rattle.message.specs.Layout.{Field, fields, field_text, offset_in, width_in}
use Rattle.reply.specs.Reply.{Said, said, joined, opening_fields, full_fields, bare_fields, head, closing_fields, reply_fields, reply_of}
use Rattle.reply.specs.Reply.{checksum_key, enclosed_key}
use Rattle.reply.specs.declared.Answering.{Answering}
use Rattle.reply.proofs.Keys.{hex_or-length, flag_length}
use Rattle.reply.proofs.Widths.{notice_length}
use Rattle.reply.proofs.Laws.{success-length}

-- ---- the fields of a reply and their characters

-- a full reply's, and a bare one's
abbrev pub full_reply : Answering → List Said
full_reply a = opening_fields a ++ (full_fields a ++ closing_fields a)

abbrev pub bare_reply : Answering → List Said
bare_reply a = opening_fields a ++ (bare_fields a ++ closing_fields a)

-- the characters of the field with that number
unfoldable pub said_in : ℕ → List Said → List ℕ
said_in n [] = []
said_in n (e ∷ es) = pick (eqb e.number n) e.text (said_in n es)

-- ---- any fields laid out

-- each as long as its field, up to where they end
pub data Laid : List Field → List Said → Type 0 where
  ends : {fs : List Field} → Laid fs []
  lays : {f : Field} {e : Said} {fs : List Field} {es : List Said} → e.number ≡ f.number → length e.text ≡ f.length
      → Laid fs es → Laid (f ∷ fs) (e ∷ es)

next_part : (t : Bool) (w o k : ℕ) (v rest u : List ℕ) → length v ≡ w → part o k rest ≡ u
    → part (pick t 0 (w + o)) (pick t w k) (v ++ rest) ≡ pick t v u
unfolding part pick
next_part true w o k v rest u e p = take_at v rest w e
next_part false w o k v rest u e p =
    ap (λ (j : ℕ). take k (drop (j + o) (v ++ rest))) (sym e) ∙ ap (take k) (drop-append-add v rest o) ∙ p

pub laid_out : {fs : List Field} {es : List Said} → Laid fs es → (n : ℕ) → part (offset_in n fs) (width_in n fs) (joined es) ≡ said_in n es
unfolding offset_in width_in said_in joined part
laid_out (ends {fs}) n = ap (take (width_in n fs)) (drop-nil (offset_in n fs)) ∙ take-nil (width_in n fs)
laid_out (lays {f} {e} {fs} {es} p h l) n =
    next_part (eqb f.number n) f.length _ _ e.text (joined es) (said_in n es) h (laid_out l n)
    ∙ ap (λ (k : ℕ). pick (eqb k n) e.text (said_in n es)) (sym p)

-- ---- each as long as its field

fit : (n : ℕ) (m : List ℕ) → length m ≡ 161 → leb (offset_in n fields + width_in n fields) 161 ≡ true → length (field_text n m)
    ≡ width_in n fields
unfolding field_text
fit n m h t = part_length m (offset_in n fields) (width_in n fields) (omega (arith, leb-true (offset_in n fields + width_in n fields) 161 t))

receipt_laid : (pte : Bool) → Laid (drop 24 fields) (pick pte (said 210 (replicate 80 blank) ∷ []) [])
unfolding pick
receipt_laid true = lays refl refl ends
receipt_laid false = ends

module _ (a : Answering) (bank : length a.bank ≡ 25) (software : length a.software ≡ 16) (message : length a.message ≡ 161)
    (closing : length a.closing ≡ 161) where
  opening_laid : {fs : List Field} {es : List Said} → Laid fs es → Laid (take 7 fields ++ fs) (opening_fields a ++ es)
  unfolding letters
  opening_laid l =
      lays refl (pick-length a.pte (letters ">>PTE") (letters ">>ESI") 5 refl refl)
      (lays refl (pick-length a.pte (letters "317") (letters "237") 3 refl refl)
      (lays refl refl
      (lays refl (success-length a)
      (lays refl (decimal_digits-length 4 a.code) (lays refl software (lays refl refl l))))))

  closing_laid : Laid (drop 20 fields) (closing_fields a)
  closing_laid =
      lays refl (hex_or-length (checksum_key a (head a)))
      (lays refl (flag_length (enclosed_key a))
      (lays refl (hex_or-length (enclosed_key a)) (lays refl (notice_length a) (receipt_laid a.pte))))

  full_laid : Laid fields (full_reply a)
  unfolding offset_in width_in pick
  full_laid =
      let m = a.message in
      opening_laid
      (lays refl (fit 91 m message refl)
      (lays refl (fit 92 m message refl)
      (lays refl (fit 81 m message refl)
      (lays refl (fit 82 m message refl)
      (lays refl (fit 100 m message refl)
      (lays refl (fit 110 m message refl)
      (lays refl (fit 121 m message refl)
      (lays refl (fit 122 m message refl)
      (lays refl (fit 123 m message refl)
      (lays refl (fit 130 m message refl)
      (lays refl refl
      (lays refl (fit 150 m message refl) (lays refl (fit 160 a.closing closing refl) closing_laid)))))))))))))

  bare_laid : Laid fields (bare_reply a)
  unfolding letters
  bare_laid =
      opening_laid
      (lays refl refl
      (lays refl refl
      (lays refl (length-take-le 17 a.bank (omega arith))
      (lays refl (simp length-drop (omega arith))
      (lays refl refl
      (lays refl refl
      (lays refl refl
      (lays refl refl
      (lays refl refl
      (lays refl refl (lays refl refl (lays refl refl (lays refl refl closing_laid)))))))))))))

  -- ---- what a reply says in each field

  reply_laid : Laid fields (reply_fields a)
  reply_laid =
      picked (λ (x : List Said). Laid fields (opening_fields a ++ x ++ closing_fields a)) a.bare (bare_fields a) (full_fields a)
      (λ e. bare_laid)
      (λ e. full_laid)

  pub reply_fields_lem : (n : ℕ) → field_text n (reply_of a) ≡ said_in n (reply_fields a)
  unfolding field_text reply_of
  reply_fields_lem n = laid_out reply_laid n

  -- a full reply
  pub full_fields_lem : a.bare ≡ false → (n : ℕ) → field_text n (reply_of a) ≡ said_in n (full_reply a)
  full_fields_lem full n =
      reply_fields_lem n
      ∙ ap (λ (x : List Said). said_in n (opening_fields a ++ (x ++ closing_fields a))) (skips a.bare (bare_fields a) (full_fields a) full)

  -- a bare one
  pub bare_fields_lem : a.bare ≡ true → (n : ℕ) → field_text n (reply_of a) ≡ said_in n (bare_reply a)
  bare_fields_lem bare n =
      reply_fields_lem n
      ∙ ap (λ (x : List Said). said_in n (opening_fields a ++ (x ++ closing_fields a))) (picks a.bare (bare_fields a) (full_fields a) bare)

  -- as the receiver, field 8.1, the sender of the message is named
  pub full_receiver : a.bare ≡ false → field_text 81 (reply_of a) ≡ field_text 91 a.message
  unfolding said_in pick
  full_receiver full = full_fields_lem full 81

  -- as the sender, field 9.1, this bank
  pub bare_sender : a.bare ≡ true → field_text 91 (reply_of a) ≡ take 17 a.bank
  unfolding said_in pick
  bare_sender bare = bare_fields_lem bare 91
