-- What a message keeps, and what it says where it has no fault: the places are computed, and of a sound message every field passes.
-- Assumes nothing.
use Rattle.std.specs.Prelude.{Ok}
use mathlib.Core.Path.{◌≡◌, refl, sym, ap, ◌∙◌, subst}
use mathlib.Core.Bool.{Bool, true, false, false≢true}
use mathlib.Core.List.{List, [], ◌∷◌, ◌++◌, map}
use mathlib.Core.Logic.{◌⊎◌, inl, inr, ⊎_elim}
use Prim.Native.Nat.{ℕ, ◌/◌, ◌%◌, ◌^◌, ◌≤◌, ◌<◌}
use native.Mathlib.Nat.{le_trans, lt_of_lt_of_le, pow-le-pow_right}
use native.Mathlib.Omega.{arith}
use borrow.Author.Tests.{eqb-true}
use lib.Dec.{eqb, lit<, lit≤}
use lib.ListN.{length, take}
use Rattle.ground.specs.Choice.{both, either, fails, pick, between}
use Rattle.ground.specs.Lists.{member, same}
use Rattle.ground.proofs.Choices.{fails-false, left, right, either_cases, same-eq}
use Rattle.ground.proofs.Lists.{member_front}
use Rattle.text.specs.Letters.{letters}
use Rattle.text.specs.Numbers.{digit_value, decimal, decimal_from, hex}
use Rattle.text.proofs.Laws.{decimal-lt, hex-lt}
use Rattle.calendar.specs.Dates.{real_date, real_time, is_real}
use Rattle.message.specs.Layout.{Field, fields, total, offset_in, width_in, field_text, layout, bank_esi, pte}
use Rattle.message.specs.declared.Check.{Check}
use Rattle.message.specs.Order.{first_failing}
use Rattle.message.specs.Rules.{form_of, format_holds, one_of, methods, length_rules, common_rules, own_rules, obeys, value_holds, is_short}
use Rattle.message.specs.Rules.{format_fails, value_fails, each_field, form_checks}
use Rattle.message.specs.Fields.{stamp_of, date_of_stamp, transport_generation_of, working_generation_of, once_field_of}
use Rattle.message.specs.Fields.{request_of}
use Rattle.message.specs.declared.Kind.{Kind}
use Rattle.message.specs.declared.Kind.TheVariants.{Esi, Suo, Var}
use Rattle.message.specs.declared.Extent.{Extent}
use Rattle.message.specs.declared.Extent.TheVariants.{Whole, TooShort, LengthNotDigits, OtherLength, CutShort}
use Rattle.message.specs.declared.About.{About}
use Rattle.message.specs.declared.Collected.{Collected}
use Rattle.message.proofs.Order.{NoneFails, accepted, none_left, none_right}
use Rattle.message.proofs.Places.{narrow}
use Rattle.message.proofs.Tests.{obeys-append}
use Rattle.message.proofs.Stamps.{stamp_lt, stamp_date, stamp_time}

-- ---- the layout

pub totals : (total (layout Esi) ≡ 161) × (total (layout Suo) ≡ 128) × (total (layout Var) ≡ 161) × (total bank_esi ≡ 237)
    × (total pte ≡ 317)
unfolding total layout
totals = (refl, refl, refl, refl, refl)

pub offsets : map (λ f. offset_in f.number fields) fields
    ≡ 0 ∷ 5 ∷ 8 ∷ 11 ∷ 12 ∷ 16 ∷ 32 ∷ 35 ∷ 52 ∷ 60 ∷ 77 ∷ 85 ∷ 86 ∷ 87 ∷ 93 ∷ 99 ∷ 102 ∷ 103 ∷ 112 ∷ 128 ∷ 144 ∷ 160 ∷ 161 ∷ 177 ∷ 237 ∷ []
unfolding offset_in pick
offsets = refl

-- ---- numbers in fields, whatever they hold

below : (n w : ℕ) (m : List ℕ) → width_in n fields ≤ w → decimal (field_text n m) < 10 ^ w
below n w m h =
    lt_of_lt_of_le (decimal-lt (field_text n m)) (pow-le-pow_right (lit< tt) (le_trans (narrow n m) h))

hex_below : (n : ℕ) (m : List ℕ) → width_in n fields ≤ 16 → hex (field_text n m) < 2 ^ 64
hex_below n m h =
    lt_of_lt_of_le (hex-lt (field_text n m)) (le_trans (pow-le-pow_right (lit< tt) (le_trans (narrow n m) h)) (lit≤ tt))

pub once_lt : (m : List ℕ) → once_field_of m < 2 ^ 64
unfolding once_field_of width_in pick
once_lt m = hex_below 150 m (lit≤ tt)

pub sound_generations : (m : List ℕ) → (transport_generation_of m < 10) × (working_generation_of m < 10)
unfolding transport_generation_of working_generation_of width_in pick
sound_generations m = (below 100 1 m (lit≤ tt), below 110 1 m (lit≤ tt))

-- ---- the fields that every kind has

-- the numbers of some fields
abbrev pub numbers_of : List Field → List ℕ
numbers_of fs = map (λ f. f.number) fs

pub in_each : (k : Kind) (n : ℕ) → member n (numbers_of (take 19 fields)) ≡ true → member n (numbers_of (layout k)) ≡ true
unfolding layout
in_each Esi n h = member_front n (numbers_of (take 19 fields)) (160 ∷ 170 ∷ 180 ∷ []) h
in_each Suo n h = h
in_each Var n h = member_front n (numbers_of (take 19 fields)) (160 ∷ 170 ∷ 180 ∷ []) h

-- ---- a message without fault

-- where no check of some fields fails, none of them is broken
none_broken : (code : ℕ) (about : About) (broken : ℕ → Bool) (fs : List Field) → NoneFails (each_field code about broken fs)
    → (n : ℕ) → member n (numbers_of fs) ≡ true → broken n ≡ false
unfolding each_field member
none_broken code about broken [] e n h = cc
none_broken code about broken (f ∷ fs) e n h =
    ⊎_elim (λ q. ap broken (sym (eqb-true f.number n q)) ∙ e.0) (λ q. none_broken code about broken fs e.1 n q)
    (either_cases (eqb f.number n) (member n (numbers_of fs)) h)

module _ (k : Kind) (about : About) (m : Collected) (sound : first_failing (form_checks (form_of k) about m) ≡ Ok tt) where
  -- the three parts of the checks of form
  abbrev short : List Check
  short = record { code = 1032; field = 0; about = about; failed = is_short m.extent } ∷ []

  abbrev format : List Check
  format = each_field 1010 about (format_fails (form_of k) m.extent m.blank m.text) (layout k)

  abbrev values : List Check
  values = each_field 1011 about (value_fails (form_of k) m.extent m.text) (layout k)

  passed : NoneFails ((short ++ format) ++ values)
  unfolding form_checks
  passed = accepted (form_checks (form_of k) about m) sound

  -- no rule on format or values is broken in a message of that extent
  record Unbroken (x : Extent) : Type 0 where
    not_short : is_short x ≡ false
    formed : (n : ℕ) → member n (numbers_of (layout k)) ≡ true → format_fails (form_of k) x m.blank m.text n ≡ false
    valued : (n : ℕ) → member n (numbers_of (layout k)) ≡ true → value_fails (form_of k) x m.text n ≡ false

  unbroken : Unbroken m.extent
  unbroken =
      let a = none_left (short ++ format) values passed in
      record {
        not_short = (none_left short format a).0;
        formed = none_broken 1010 about _ (layout k) (none_right short format a);
        valued = none_broken 1011 about _ (layout k) (none_right (short ++ format) values passed);
      }

  has_length : member 20 (numbers_of (layout k)) ≡ true
  unfolding member either
  has_length = in_each k 20 refl

  -- so it was collected whole
  is_whole : (x : Extent) → Unbroken x → x ≡ Whole
  unfolding is_short format_fails value_fails
  is_whole Whole u = refl
  is_whole TooShort u = absurd (false≢true (sym u.not_short))
  is_whole LengthNotDigits u = absurd (false≢true (sym (u.formed 20 has_length)))
  is_whole OtherLength u = absurd (false≢true (sym (u.valued 20 has_length)))
  is_whole CutShort u = absurd (false≢true (sym u.not_short))

  pub whole : m.extent ≡ Whole
  whole = is_whole m.extent unbroken

  -- and each of its fields passes
  pub sound_field : (n : ℕ) → member n (numbers_of (layout k)) ≡ true
      → (format_holds (form_of k) m.blank n (field_text n m.text) ≡ true) × (value_holds (form_of k) n m.text ≡ true)
  unfolding format_fails value_fails
  sound_field n h =
      let u : Unbroken Whole = subst Unbroken whole unbroken in
      (fails-false _ (u.formed n h), fails-false _ (u.valued n h))

-- what the values say of a field, by its rule

value_of : (k : Kind) (n : ℕ) (m : List ℕ) → value_holds (form_of k) n m ≡ true → (obeys (common_rules k) n m ≡ true)
    × (obeys (own_rules k) n m ≡ true)
value_of k n m e =
    let a = right _ _ (sym (obeys-append (length_rules k) (common_rules k ++ own_rules k) n m) ∙ e) in
    let b = sym (obeys-append (common_rules k) (own_rules k) n m) ∙ a in
    (left _ _ b, right _ _ b)

date_real : (k : Kind) (m : List ℕ) → obeys (common_rules k) 121 m ≡ true → real_date (decimal (field_text 121 m)) ≡ true
unfolding common_rules obeys both either fails
date_real k m e = left _ _ e

time_real : (k : Kind) (m : List ℕ) → obeys (common_rules k) 122 m ≡ true → real_time (decimal (field_text 122 m)) ≡ true
unfolding common_rules obeys both either fails
time_real k m e = left _ _ e

one_of_two : (a b text : List ℕ) → one_of (a ∷ b ∷ []) text ≡ true → (text ≡ a) ⊎ (text ≡ b)
unfolding one_of
one_of_two a b text e =
    ⊎_elim (λ p. inl (sym (same-eq a text p)))
    (λ p. ⊎_elim (λ q. inr (sym (same-eq b text q))) (λ q. inl cc) (either_cases (same b text) false p))
    (either_cases (same a text) _ e)

pub sound_method : (about : About) (m : Collected) → first_failing (form_checks (form_of Suo) about m) ≡ Ok tt
    → (field_text 70 m.text ≡ letters "SKH") ⊎ (field_text 70 m.text ≡ letters "SKE")
unfolding member either layout methods common_rules obeys both fails
sound_method about m e =
    one_of_two (letters "SKH") (letters "SKE") (field_text 70 m.text)
    (left _ _ (value_of Suo 70 m.text (sound_field Suo about m e 70 refl).1).0)

request_small : (text : List ℕ) → one_of (letters "0" ∷ letters "1" ∷ letters "2" ∷ []) text ≡ true → decimal text ≤ 2
unfolding one_of letters decimal_from digit_value both pick between
request_small text e =
    ⊎_elim (λ p. rw (sym (same-eq (letters "0") text p)) (lit≤ tt))
    (λ p. ⊎_elim (λ q. rw q (lit≤ tt)) (λ q. rw q (lit≤ tt)) (one_of_two _ _ text p))
    (either_cases (same (letters "0") text) _ e)

pub sound_request : (k : Kind) (about : About) (m : Collected) → first_failing (form_checks (form_of k) about m) ≡ Ok tt
    → (k ≡ Esi) ⊎ (k ≡ Var) → request_of m.text ≤ 2
unfolding member either layout own_rules obeys both fails request_of
sound_request Esi about m e w =
    request_small (field_text 180 m.text) (left _ _ (value_of Esi 180 m.text (sound_field Esi about m e 180 refl).1).1)
sound_request Suo about m e w =
    absurd (⊎_elim (λ p. let z : ◌≡◌ {A = ℕ} 0 1 = cc in omega arith) (λ p. let z : ◌≡◌ {A = ℕ} 0 1 = cc in omega arith) w)
sound_request Var about m e w =
    request_small (field_text 180 m.text) (left _ _ (value_of Var 180 m.text (sound_field Var about m e 180 refl).1).1)

pub sound_stamp : (k : Kind) (about : About) (m : Collected) → first_failing (form_checks (form_of k) about m) ≡ Ok tt
    → length m.text ≡ 161
    → (stamp_of m.text < 10 ^ 15) × (real_date (stamp_of m.text / 1000000000) ≡ true)
    × (real_time (stamp_of m.text / 1000 % 1000000) ≡ true)
unfolding member either date_of_stamp
sound_stamp k about m e l =
    let text = m.text in (
      stamp_lt text l,
      ap is_real (sym (stamp_date text l))
          ∙ date_real k text (value_of k 121 text (sound_field k about m e 121 (in_each k 121 refl)).1).0,
      ap real_time (sym (stamp_time text l))
          ∙ time_real k text (value_of k 122 text (sound_field k about m e 122 (in_each k 122 refl)).1).0,
    )
