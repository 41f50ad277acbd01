-- The tests of a reply's fields: a rule asks only of the field that it names, and the first field that is broken decides.
-- Assumes nothing.
use Rattle.std.specs.Prelude.{Ok, Result}
use mathlib.Core.Path.{◌≡◌, refl, sym, ap, ap₂, ◌∙◌}
use mathlib.Core.Bool.{Bool, true, false}
use mathlib.Core.List.{List, [], ◌∷◌, ◌++◌, map}
use mathlib.Core.Logic.{◌⊎◌, ⊎_elim}
use Prim.Native.Nat.{ℕ, ◌+◌, ◌≤◌, ◌<◌}
use native.Mathlib.Numerals.{add-one}
use native.Mathlib.Omega.{arith}
use borrow.Author.Tests.{eqb-true, lt-ltb, le-ltb}
use lib.Dec.{eqb, ltb, lit≤}
use lib.ListN.{length, get_or, drop, drop_of_length-le}
use lib.Seq.{drop-cons, get_or-take}
use Rattle.ground.specs.Choice.{both, either, fails, pick}
use Rattle.ground.specs.Lists.{member, same}
use Rattle.ground.specs.First.{first_that}
use Rattle.ground.proofs.Choices.{picks, skips}
use Rattle.ground.proofs.Bools.{outcome}
use Rattle.text.specs.Characters.{all_blank}
use Rattle.message.specs.Layout.{Field, laid, no_field, fields, field_text}
use Rattle.message.specs.declared.Check.{Check}
use Rattle.message.specs.Order.{first_failing, fault_at}
use Rattle.message.specs.Rules.{Rule, only, format_holds, obeys, each_field}
use Rattle.message.specs.declared.Kind.TheVariants.{Esi as AnyKind}
use Rattle.message.specs.declared.About.{About}
use Rattle.message.specs.declared.About.TheVariants.{Answered}
use Rattle.message.specs.declared.Fault.{Fault}
use Rattle.message.proofs.Tests.{Apart, made, not_made, asked, unasked}
use Rattle.desk_form.specs.Replies.{reply_layout, reply_size, awaited, encloses, reply_hexes, reply_form, reply_format_fails}
use Rattle.desk_form.specs.Replies.{reply_value_fails, reply_checks}
use Rattle.desk_form.specs.declared.Reply.{Reply}
use Rattle.desk_form.specs.declared.Reply.TheVariants.{Esi, Pte}

-- ---- the fields that are hex digits

-- a test that is asked of a field, by its number
asked_by : (l : List ℕ) (n v : ℕ) (wanted t : Bool) → n ≡ v → member v l ≡ wanted → only wanted t ≡ only (member n l) t
asked_by l n v wanted t p q = ap (λ (x : Bool). only x t) (sym q ∙ ap (λ (y : ℕ). member y l) (sym p))

checksum_among : (k : Reply) (enclosed : Bool) → member 170 (reply_hexes k enclosed) ≡ true
unfolding reply_hexes member either
checksum_among Esi enclosed = refl
checksum_among Pte enclosed = refl

key_among : (k : Reply) (enclosed : Bool) → member 190 (reply_hexes k enclosed) ≡ enclosed
unfolding reply_hexes member either pick
key_among Esi true = refl
key_among Esi false = refl
key_among Pte true = refl
key_among Pte false = refl

not_in_esi : (enclosed : Bool) → (member 150 (reply_hexes Esi enclosed) ≡ false) × (member 160 (reply_hexes Esi enclosed) ≡ false)
unfolding reply_hexes member either pick
not_in_esi true = (refl, refl)
not_in_esi false = (refl, refl)

module _ (n : ℕ) (t : Bool) where
  -- the checksum is in both replies
  pub checksum_hex : (k : Reply) (enclosed : Bool) → n ≡ 170 → t ≡ only (member n (reply_hexes k enclosed)) t
  checksum_hex k enclosed p = made _ (reply_hexes k enclosed) refl n t 170 (checksum_among k enclosed) p

  -- the new key where one is enclosed
  pub key_hex : (k : Reply) (enclosed : Bool) → n ≡ 190 → only enclosed t ≡ only (member n (reply_hexes k enclosed)) t
  key_hex k enclosed p = asked_by (reply_hexes k enclosed) n 190 enclosed t p (key_among k enclosed)

  -- 15 and 16 in a PTE, and not in an ESI
  in_pte : (enclosed : Bool) → (n ≡ 150) ⊎ (n ≡ 160) → t ≡ only (member n (reply_hexes Pte enclosed)) t
  unfolding reply_hexes member either
  in_pte enclosed w =
      ⊎_elim (made _ (reply_hexes Pte enclosed) refl n t 150 refl) (made _ (reply_hexes Pte enclosed) refl n t 160 refl) w

  in_esi : (enclosed : Bool) → (n ≡ 150) ⊎ (n ≡ 160) → true ≡ only (member n (reply_hexes Esi enclosed)) t
  unfolding either fails
  in_esi enclosed w =
      ⊎_elim (λ p. asked_by (reply_hexes Esi enclosed) n 150 false t p (not_in_esi enclosed).0)
      (λ p. asked_by (reply_hexes Esi enclosed) n 160 false t p (not_in_esi enclosed).1) w

  pub pte_hex : (k : Reply) (enclosed : Bool) → k ≡ Pte → (n ≡ 150) ⊎ (n ≡ 160) → t ≡ only (member n (reply_hexes k enclosed)) t
  pte_hex k enclosed e w =
      in_pte enclosed w ∙ ap (λ (j : Reply). only (member n (reply_hexes j enclosed)) t) (sym e)

  pub esi_hex : (k : Reply) (enclosed : Bool) → k ≡ Esi → (n ≡ 150) ⊎ (n ≡ 160) → true ≡ only (member n (reply_hexes k enclosed)) t
  esi_hex k enclosed e w =
      in_esi enclosed w ∙ ap (λ (j : Reply). only (member n (reply_hexes j enclosed)) t) (sym e)

  -- and no other field
  pub no_hex : (k : Reply) (enclosed : Bool) → Apart (150 ∷ 160 ∷ 170 ∷ 190 ∷ []) n
      → true ≡ only (member n (reply_hexes k enclosed)) t
  unfolding reply_hexes pick
  no_hex Esi true h = not_made _ _ refl n t (h.1.1.0, (h.1.1.1.0, tt))
  no_hex Esi false h = not_made _ _ refl n t (h.1.1.0, tt)
  no_hex Pte true h = not_made _ _ refl n t h
  no_hex Pte false h = not_made _ _ refl n t (h.0, (h.1.0, (h.1.1.0, tt)))

-- ---- rules, of whatever has some

module _ {K : Type 0} (rules : K → List Rule) (k j : K) (n : ℕ) (m : List ℕ) where
  -- what the rule of a field asks of its characters, where one rule names it
  pub asked_in : (text : List ℕ) → field_text n m ≡ text → k ≡ j → (v : ℕ) (f : List ℕ → Bool) → n ≡ v
      → obeys (rules j) v m ≡ both (f (field_text v m)) true → f text ≡ obeys (rules k) n m
  asked_in text q e v f p a =
      asked (λ x. rules j) AnyKind AnyKind n m text q refl v f p a ∙ ap (λ (x : K). obeys (rules x) n m) (sym e)

  -- no rule names the field
  pub unasked_in : k ≡ j → Apart (map (λ r. r.number) (rules j)) n → true ≡ obeys (rules k) n m
  unasked_in e h = unasked (λ x. rules j) AnyKind AnyKind n m refl h ∙ ap (λ (x : K). obeys (rules x) n m) (sym e)

-- ---- the format: the awaited identifier, and what every form asks

-- a test of the field that is named v, made with its own number
own_number : (n v : ℕ) (f : ℕ → Bool) → only (eqb n v) (f v) ≡ only (eqb n v) (f n)
unfolding either fails
own_number n v f =
    ⊎_elim (λ e. ap (λ (x : ℕ). only (eqb n v) (f x)) (sym (eqb-true n v e))) (λ e. rw e) (outcome (eqb n v))

turned_round : (named is formed : Bool) → either (both named (fails is)) (fails formed) ≡ fails (both (only named is) formed)
unfolding either both fails
turned_round false is formed = refl
turned_round true false formed = refl
turned_round true true formed = refl

pub format-fails : (k : Reply) (r : List ℕ) (n : ℕ) (text : List ℕ) (enclosed over : Bool) → field_text n r ≡ text
    → encloses r ≡ enclosed → all_blank (drop (reply_size k) r) ≡ over
    → reply_format_fails k r n
    ≡ fails (both (only (eqb n 10) (same (awaited k) text)) (format_holds (reply_form k enclosed) over n text))
unfolding reply_format_fails
format-fails k r n text enclosed over q x y =
    turned_round _ _ _
    ∙ ap₂ (λ (a b : Bool). fails (both a b))
    (own_number n 10 (λ v. same (awaited k) (field_text v r)) ∙ ap (λ (l : List ℕ). only (eqb n 10) (same (awaited k) l)) q)
    (ap (λ (z : Bool). format_holds (reply_form k z) (all_blank (drop (reply_size k) r)) n (field_text n r)) x
    ∙ ap (λ (z : Bool). format_holds (reply_form k enclosed) z n (field_text n r)) y
    ∙ ap (format_holds (reply_form k enclosed) over n) q)

-- ---- the first of some fields that is broken

abbrev pub lowest : (ℕ → Bool) → ℕ → About → List Field → Result Unit Fault
lowest broken code about fs = first_failing (each_field code about broken fs)

-- the number of the field at a place of a list
abbrev pub nth : List Field → ℕ → ℕ
nth fs i = (get_or fs i (laid no_field "" 0)).number

module _ (broken : ℕ → Bool) (code : ℕ) (about : About) (fs : List Field) where
  first : (f : Field) (l : List Field) → lowest broken code about (f ∷ l)
      ≡ pick (broken f.number) (fault_at code f.number about) (lowest broken code about l)
  unfolding each_field first_failing first_that
  first f l = refl

  next : (i : ℕ) → i < length fs → lowest broken code about (drop i fs)
      ≡ pick (broken (nth fs i)) (fault_at code (nth fs i) about) (lowest broken code about (drop (i + 1) fs))
  next i h = rw (add-one i, drop-cons fs i (laid no_field "" 0) h) (first (get_or fs i (laid no_field "" 0)) _)

  -- the loop over the fields: the first i of them are not broken
  module _ (i count : ℕ) (e : count ≡ length fs)
      (rest : lowest broken code about fs ≡ lowest broken code about (drop i fs)) where
    -- n and r are the number and the test of the field at i
    module _ (h : i < count) (n : ℕ) (r : Bool) (p : n ≡ nth fs i) (t : r ≡ broken n) where
      test : broken (nth fs i) ≡ r
      test = ap broken (sym p) ∙ sym t

      inside : i < length fs
      inside = rw e at h

      pub stops : r ≡ true → fault_at code n about ≡ lowest broken code about fs
      stops d = ap (λ (x : ℕ). fault_at code x about) p ∙ sym (rest ∙ next i inside ∙ picks _ _ _ (test ∙ d))

      pub goes_on : r ≡ false → lowest broken code about fs ≡ lowest broken code about (drop (i + 1) fs)
      goes_on d = rest ∙ next i inside ∙ skips _ _ _ (test ∙ d)

    pub ends : count ≤ i → (Ok tt) ≡ lowest broken code about fs
    unfolding each_field first_failing first_that
    ends h = sym (rest ∙ ap (λ (l : List Field). lowest broken code about l) (drop_of_length-le fs (rw e at h)))

-- ---- the fields of a reply

few : (k : Reply) → length (reply_layout k) ≤ 25
unfolding reply_layout
few Esi = lit≤ tt
few Pte = lit≤ tt

same_number : (k : Reply) (i : ℕ) → i < length (reply_layout k) → nth fields i ≡ nth (reply_layout k) i
unfolding reply_layout
same_number Esi i h = ap (λ (f : Field). f.number) (sym (get_or-take 24 fields i (laid no_field "" 0) h))
same_number Pte i h = refl

-- a place of the order that is a place of the reply
module _ (k : Reply) (i count : ℕ) (e : count ≡ length (reply_layout k)) (h : i < count) where
  pub within : i < 25
  within = omega (arith, few k)

  pub numbered : (n : ℕ) → n ≡ nth fields i → n ≡ nth (reply_layout k) i
  numbered n p = p ∙ same_number k i (rw e at h)

-- ---- a reply's checks

module _ (k : Reply) (r : List ℕ) (size : ℕ) (e : size ≡ reply_size k) where
  abbrev format : List Check
  format = each_field 3010 Answered (reply_format_fails k r) (reply_layout k)

  abbrev values : List Check
  values = each_field 3011 Answered (reply_value_fails k r) (reply_layout k)

  -- shorter than the layout
  pub too_short : length r < size → fault_at 3032 0 Answered ≡ first_failing (reply_checks k r)
  unfolding reply_checks first_failing first_that
  too_short h = sym (picks _ _ _ (ap (ltb (length r)) (sym e) ∙ lt-ltb (length r) size h))

  module _ (h : size ≤ length r) where
    -- else the format decides, and then the values
    pub not_short : first_failing (reply_checks k r) ≡ first_failing (format ++ values)
    unfolding reply_checks first_failing first_that
    not_short = skips _ _ _ (ap (ltb (length r)) (sym e) ∙ le-ltb (length r) size h)
