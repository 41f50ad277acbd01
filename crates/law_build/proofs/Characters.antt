-- A message whose checks of form all pass has neither LF nor CR, and only bytes: what each of its fields may hold is characters from the blank
-- to 255.
-- Assumes nothing.
use Rattle.std.specs.Prelude.{Ok}
use Prim.Native.Nat.{ℕ, ◌+◌, ◌≤◌, ◌<◌}
use mathlib.Core.Path.{◌≡◌, refl, sym, ap, ◌∙◌, subst}
use mathlib.Core.Bool.{Bool, true, false, false≢true}
use mathlib.Core.List.{List, [], ◌∷◌, ◌++◌, map}
use mathlib.Core.Logic.{⊎_elim}
use native.Mathlib.Omega.{arith}
use borrow.Author.Tests.{eqb-true, eq-eqb, ne_eqb}
use lib.Dec.{eqb, leb}
use lib.ListN.{length, take, replicate}
use lib.Seq.{take_all, take_at, take-take}
use Rattle.ground.specs.Choice.{both, either, fails, pick, between}
use Rattle.ground.specs.Lists.{all, member, part, Each}
use Rattle.ground.proofs.Choices.{left, right, join, skips, between-true, between_in, either_left, either_right, either_cases, same-eq}
use Rattle.ground.proofs.Bools.{either_none}
use Rattle.ground.proofs.Lists.{all_append, all-member, each_below}
use Rattle.ground.proofs.Parts.{part-add, part-zero, part_start}
use Rattle.splices.proofs.Splice.{AllBytes}
use Rattle.text.specs.Characters.{blank, marks, field_character, hex_digit}
use Rattle.text.specs.Letters.{letters}
use Rattle.message.specs.Layout.{Field, field, whole_number, layout, layout_length, total, offset_in, width_in, field_text}
use Rattle.message.specs.Order.{first_failing}
use Rattle.message.specs.Rules.{one_of, form_of, hex_fields, length_rules, common_rules, own_rules, format_holds, obeys, form_checks}
use Rattle.message.specs.declared.Kind.{Kind}
use Rattle.message.specs.declared.Kind.TheVariants.{Esi, Suo, Var}
use Rattle.message.specs.declared.About.{About}
use Rattle.message.specs.declared.About.TheVariants.{Answered}
use Rattle.message.specs.declared.Collected.{Collected}
use Rattle.message.proofs.Laws.{numbers_of, sound_field}
use Rattle.message.proofs.Places.{layout_within}
use Rattle.message.proofs.Tests.{obeys-append}
use Rattle.whole_file.specs.Records.{lf, cr, without_cr}
use Rattle.whole_file.specs.Messages.{known_text}
use Rattle.law_desk.proofs.Messages.{asked_of}
use Rattle.law_build.proofs.Lines.{Plain}
use Rattle.law_build.proofs.Taken.{whole}

-- ---- characters from the blank on

abbrev character : ℕ → Bool
character = between 32 255

abbrev Printed : List ℕ → Type 0
Printed l = all character l ≡ true

all_as : (f g : ℕ → Bool) → ((x : ℕ) → f x ≡ true → g x ≡ true) → (l : List ℕ) → all f l ≡ true → all g l ≡ true
unfolding all
all_as f g k [] h = refl
all_as f g k (x ∷ l) h = join _ _ (k x (left _ _ h)) (all_as f g k l (right _ _ h))

ranged : (a b x : ℕ) → 32 ≤ a → b ≤ 255 → between a b x ≡ true → character x ≡ true
ranged a b x h g e =
    let k = between-true a b x e in between_in 32 255 x (omega (arith, k.0)) (omega (arith, k.1))

field_from : (x : ℕ) → field_character x ≡ true → character x ≡ true
unfolding field_character all both between
field_from x e =
    ⊎_elim (ranged 0x41 0x5A x (omega arith) (omega arith))
    (λ p. ⊎_elim (ranged 0x30 0x39 x (omega arith) (omega arith))
    (λ q. ⊎_elim (λ r. ap character (eqb-true x blank r)) (λ r. all-member character marks x refl r) (either_cases _ _ q))
    (either_cases _ _ p))
    (either_cases _ _ e)

hex_from : (x : ℕ) → hex_digit x ≡ true → character x ≡ true
unfolding hex_digit
hex_from x e = ⊎_elim (ranged 0x30 0x39 x (omega arith) (omega arith)) (ranged 0x41 0x46 x (omega arith) (omega arith)) (either_cases _ _ e)

one_from : (l : List (List ℕ)) (text : List ℕ) → Each Printed l → one_of l text ≡ true → Printed text
unfolding one_of
one_from [] text p e = absurd (false≢true e)
one_from (x ∷ l) text p e =
    ⊎_elim (λ q. subst Printed (same-eq x text q) p.0) (λ q. one_from l text p.1 q) (either_cases _ _ e)

-- ---- such a record is a line

other : (n x : ℕ) → n < 32 → character x ≡ true → eqb x n ≡ false
other n x h e = ne_eqb x n (λ q. omega (arith, (between-true 32 255 x e).0))

no_lf : (l : List ℕ) → Printed l → member lf l ≡ false
unfolding all member
no_lf [] p = refl
no_lf (x ∷ l) p = either_none _ _ (other lf x (omega arith) (left _ _ p)) (no_lf l (right _ _ p))

no_cr : (l : List ℕ) → Printed l → without_cr l ≡ l
unfolding all without_cr
no_cr [] p = refl
no_cr (x ∷ []) p = skips _ _ _ (other cr x (omega arith) (left _ _ p))
no_cr (x ∷ y ∷ l) p = ap (λ (k : List ℕ). x ∷ k) (no_cr (y ∷ l) (right _ _ p))

-- ---- the fields of a message without fault

-- parts of those widths, one after the other
abbrev PartsPrinted : (at : ℕ) (widths l : List ℕ) → Type 0
PartsPrinted at [] l = Unit {0}
PartsPrinted at (w ∷ ws) l = Printed (part at w l) × PartsPrinted (at + w) ws l

unfoldable sum : List ℕ → ℕ
sum [] = 0
sum (w ∷ ws) = w + sum ws

parts_printed : (at : ℕ) (ws l : List ℕ) → PartsPrinted at ws l → Printed (part at (sum ws) l)
unfolding sum all
parts_printed at [] l p = ap (all character) (part-zero l at)
parts_printed at (w ∷ ws) l p =
    ap (all character) (part-add l at w (sum ws))
    ∙ all_append character (part at w l) (part (at + w) (sum ws) l)
    ∙ join _ _ p.0 (parts_printed (at + w) ws l p.1)

-- every field has the field characters, or is hex digits, or is the request
abbrev sorts : Kind → ℕ → Bool
sorts k n = either (leb (whole_number n) 16) (either (member n (hex_fields k)) (eqb n (field 18)))

sorted : (k : Kind) → all (sorts k) (numbers_of (layout k)) ≡ true
unfolding all both either member layout hex_fields
sorted Esi = refl
sorted Suo = refl
sorted Var = refl

request_printed : (k : Kind) (m : List ℕ) → member (field 18) (numbers_of (layout k)) ≡ true → obeys (own_rules k) (field 18) m ≡ true
    → Printed (field_text (field 18) m)
unfolding all both either fails between member layout letters own_rules obeys
request_printed Esi m t e = one_from _ _ (refl, (refl, (refl, tt))) (left _ _ e)
request_printed Suo m t e = absurd (false≢true t)
request_printed Var m t e = one_from _ _ (refl, (refl, (refl, tt))) (left _ _ e)

each_field : (P : ℕ → Type 0) (fs : List Field) → ((n : ℕ) → member n (numbers_of fs) ≡ true → P n)
    → Each (λ (f : Field). P f.number) fs
unfolding member
each_field P [] k = tt
each_field P (f ∷ fs) k =
    let n = f.number in
    (k n (either_left (eqb n n) (member n (numbers_of fs)) (eq-eqb n n refl)), each_field P fs (λ i t. k i (either_right _ _ t)))

fields_adjoin : (k : Kind) (m : List ℕ) → Each (λ (f : Field). Printed (field_text f.number m)) (layout k)
    → Printed (part 0 (layout_length k) m)
unfolding sum field_text offset_in width_in pick layout_length layout total
fields_adjoin Esi m p = parts_printed 0 (map (λ f. f.length) (layout Esi)) m p
fields_adjoin Suo m p = parts_printed 0 (map (λ f. f.length) (layout Suo)) m p
fields_adjoin Var m p = parts_printed 0 (map (λ f. f.length) (layout Var)) m p

module _ (k : Kind) (about : About) (m : Collected) (sound : first_failing (form_checks (form_of k) about m) ≡ Ok tt) where
  abbrev IsField : ℕ → Type 0
  IsField n = member n (numbers_of (layout k)) ≡ true

  field_printed : (n : ℕ) → IsField n → Printed (field_text n m.text)
  unfolding format_holds
  field_printed n t =
      let f = sound_field k about m sound n t in
      let v = sym (obeys-append (length_rules k) (common_rules k ++ own_rules k) n m.text) ∙ f.1 in
      let own : obeys (own_rules k) n m.text ≡ true = right _ _ (sym (obeys-append (common_rules k) (own_rules k) n m.text) ∙ right _ _ v) in
      ⊎_elim (λ p. all_as field_character character field_from _ (asked_of _ _ (left _ _ f.0) p))
      (λ p. ⊎_elim (λ q. all_as hex_digit character hex_from _ (asked_of _ _ (left _ _ (right _ _ (right _ _ f.0))) q))
      (λ q. let e = eqb-true n (field 18) q in
      subst (λ (i : ℕ). Printed (field_text i m.text)) (sym e)
      (request_printed k m.text (subst IsField e t) (subst (λ (i : ℕ). obeys (own_rules k) i m.text ≡ true) e own)))
      (either_cases _ _ p))
      (either_cases _ _ (all-member (sorts k) (numbers_of (layout k)) n (sorted k) t))

  fields_printed : Printed (part 0 (layout_length k) m.text)
  fields_printed = fields_adjoin k m.text (each_field (λ n. Printed (field_text n m.text)) (layout k) field_printed)

-- ---- a message without fault that is as long as its layout

module _ (k : Kind) (m : List ℕ) (long : length m ≡ layout_length k) (sound : first_failing (form_checks (form_of k) Answered (whole k m)) ≡ Ok tt) where
  known_first : part 0 (layout_length k) (known_text k m) ≡ m
  unfolding known_text
  known_first =
      part_start _ (layout_length k)
      ∙ take-take (layout_length k) 161 _ (layout_within k)
      ∙ ap (λ (x : List ℕ). take (layout_length k) (x ++ replicate 161 0)) (take_all (layout_length k) m (omega arith))
      ∙ take_at m (replicate 161 0) (layout_length k) long

  printed : Printed m
  printed = ap (all character) (sym known_first) ∙ fields_printed k Answered (whole k m) sound

  pub message_plain : Plain m
  message_plain = record { no_lf = no_lf m printed; no_closing_cr = no_cr m printed }

  pub message_bytes : AllBytes m
  message_bytes = each_below character 256 (λ x e. omega (arith, (between-true 32 255 x e).1)) (omega arith) m printed
