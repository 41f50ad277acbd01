-- The tests of fields: a rule asks only of the field that it names, and the first field that does not pass decides.
-- Assumes nothing.
use Rattle.std.specs.Prelude.{Ok, Result}
use mathlib.Core.Path.{◌≡◌, refl, sym, ap, ◌∙◌}
use mathlib.Core.Bool.{Bool, true, false}
use mathlib.Core.List.{List, [], ◌∷◌, ◌++◌, map}
use Prim.Native.Nat.{ℕ, ◌+◌, ◌-◌, ◌≤◌, ◌<◌}
use native.Mathlib.Numerals.{add-one}
use borrow.Author.Tests.{ne_eqb}
use lib.Dec.{eqb, lit≤}
use lib.ListN.{length, get_or, take, drop, drop_of_length-le}
use lib.Seq.{drop-cons, get_or-take}
use Rattle.ground.specs.Choice.{both, either, fails, pick}
use Rattle.ground.specs.Lists.{member, part}
use Rattle.ground.proofs.Choices.{join, either_left, either_decides, picks, skips, decides}
use Rattle.ground.proofs.Bools.{both_assoc, both_true}
use Rattle.ground.specs.First.{first_that}
use Rattle.message.specs.Layout.{Field, laid, no_field, fields, total, field_text, layout}
use Rattle.message.specs.Order.{first_failing, fault_at}
use Rattle.message.specs.Rules.{Rule, only, form_of, obeys, is_short, format_fails, value_fails, each_field, form_checks}
use Rattle.message.specs.Passing.{passes_in, lowest_broken}
use Rattle.message.specs.declared.Kind.{Kind}
use Rattle.message.specs.declared.Kind.TheVariants.{Esi, Suo, Var}
use Rattle.message.specs.declared.Extent.{Extent}
use Rattle.message.specs.declared.Extent.TheVariants.{Whole, TooShort, LengthNotDigits, OtherLength, CutShort}
use Rattle.message.specs.declared.About.{About}
use Rattle.message.specs.declared.Fault.{Fault}
use Rattle.message.proofs.Places.{number_at, placed}
use Rattle.message.proofs.Order.{first_sound, first_found}

-- a test that was made of some fields, by what held
pub tested : (asked holds : Bool) {r h : Bool} → r ≡ only asked h → h ≡ holds → only asked holds ≡ r
tested asked holds e q = rw (e, q)

-- ---- the fields of a list

-- a number that is none of a list
abbrev pub Apart : List ℕ → ℕ → Type 0
Apart [] n = Unit
Apart (x ∷ l) n = (n ≡ x → ⊥) × Apart l n

apart : (l : List ℕ) (n : ℕ) → Apart l n → member n l ≡ false
unfolding member
apart [] n h = refl
apart (x ∷ l) n h = either_decides _ _ (ne_eqb x n (λ p. h.0 (sym p))) ∙ apart l n h.1

module _ (l j : List ℕ) (e : l ≡ j) (n : ℕ) (t : Bool) where
  -- the test is made of a field of the list
  pub made : (v : ℕ) → member v j ≡ true → n ≡ v → t ≡ only (member n l) t
  unfolding either fails
  made v q p = rw (e, p, q)

  -- and of no other
  pub not_made : Apart j n → true ≡ only (member n l) t
  unfolding either fails
  not_made h = rw (e, apart j n h)

-- ---- rules

module _ (rules : Kind → List Rule) (k j : Kind) (n : ℕ) (m text : List ℕ) (q : field_text n m ≡ text) (e : k ≡ j) where
  -- what the rule of a field asks of its characters, where one rule names it
  pub asked : (v : ℕ) (f : List ℕ → Bool) → n ≡ v → obeys (rules j) v m ≡ both (f (field_text v m)) true → f text ≡ obeys (rules k) n m
  asked v f p a =
      sym
      (ap (λ (x : Kind). obeys (rules x) n m) e
      ∙ ap (λ (x : ℕ). obeys (rules j) x m) p
      ∙ a
      ∙ both_true (f (field_text v m))
      ∙ ap (λ (x : ℕ). f (field_text x m)) (sym p)
      ∙ ap f q)

unasked_of : (rs : List Rule) (n : ℕ) (m : List ℕ) → Apart (map (λ r. r.number) rs) n → obeys rs n m ≡ true
unfolding obeys fails
unasked_of [] n m h = refl
unasked_of (r ∷ rs) n m h =
    join _ _ (either_left _ _ (ap fails (ne_eqb r.number n (λ p. h.0 (sym p))))) (unasked_of rs n m h.1)

-- no rule names the field
pub unasked : (rules : Kind → List Rule) (k j : Kind) (n : ℕ) (m : List ℕ) → k ≡ j → Apart (map (λ r. r.number) (rules j)) n → true
    ≡ obeys (rules k) n m
unasked rules k j n m e h =
    sym (ap (λ (x : Kind). obeys (rules x) n m) e ∙ unasked_of (rules j) n m h)

-- the rules of two lists
pub obeys-append : (a b : List Rule) (n : ℕ) (m : List ℕ) → obeys (a ++ b) n m ≡ both (obeys a n m) (obeys b n m)
unfolding obeys
obeys-append [] b n m = sym (decides true (obeys b n m) refl)
obeys-append (r ∷ a) b n m =
    let x : Bool = only (eqb r.number n) (r.holds m) in
    ap (both x) (obeys-append a b n m) ∙ sym (both_assoc x (obeys a n m) (obeys b n m))

-- ---- the first field that does not pass

pub few : (k : Kind) → length (layout k) ≤ 22
unfolding layout
few Esi = lit≤ tt
few Suo = lit≤ tt
few Var = lit≤ tt

same_field : (k : Kind) (i : ℕ) → i < length (layout k) → get_or (layout k) i (laid no_field "" 0) ≡ get_or fields i (laid no_field "" 0)
unfolding layout
same_field Esi i h = get_or-take 22 fields i (laid no_field "" 0) h
same_field Suo i h = get_or-take 19 fields i (laid no_field "" 0) h
same_field Var i h = get_or-take 22 fields i (laid no_field "" 0) h

module _ (passes : ℕ → Bool) (code : ℕ) (about : About) where
  broken_cons : (f : Field) (fs : List Field) → lowest_broken code about passes (f ∷ fs)
      ≡ pick (fails (passes f.number)) (fault_at code f.number about) (lowest_broken code about passes fs)
  unfolding each_field first_failing first_that
  broken_cons f fs = refl

  next : (k : Kind) (i : ℕ) → i < length (layout k) → lowest_broken code about passes (drop i (layout k))
      ≡ pick (fails (passes (number_at i))) (fault_at code (number_at i) about) (lowest_broken code about passes (drop (i + 1) (layout k)))
  next k i h =
      rw (add-one i, drop-cons (layout k) i (laid no_field "" 0) h, same_field k i h)
      (broken_cons (get_or fields i (laid no_field "" 0)) _)

  -- the loop over the fields: the first i of them pass
  module _ (k : Kind) (i count : ℕ) (e : count ≡ length (layout k))
      (rest : lowest_broken code about passes (layout k) ≡ lowest_broken code about passes (drop i (layout k))) where
    -- n and r are the number and the test of the field at i
    module _ (h : i < count) (n : ℕ) (r : Bool) (p : n ≡ number_at i) (t : r ≡ passes n) where
      test : (b : Bool) → r ≡ b → fails (passes (number_at i)) ≡ fails b
      test b d = ap (λ (x : ℕ). fails (passes x)) (sym p) ∙ ap fails (sym t ∙ d)

      within_layout : i < length (layout k)
      within_layout = rw e at h

      pub stops : r ≡ false → fault_at code n about ≡ lowest_broken code about passes (layout k)
      unfolding fails
      stops d =
          ap (λ (x : ℕ). fault_at code x about) p ∙ sym (rest ∙ next k i within_layout ∙ picks _ _ _ (test false d))

      pub goes_on : r ≡ true → lowest_broken code about passes (layout k) ≡ lowest_broken code about passes (drop (i + 1) (layout k))
      unfolding fails
      goes_on d = rest ∙ next k i within_layout ∙ skips _ _ _ (test true d)

    pub ends : count ≤ i → (Ok tt) ≡ lowest_broken code about passes (layout k)
    unfolding each_field first_failing first_that
    ends h =
        sym (rest ∙ ap (λ (l : List Field). lowest_broken code about passes l) (drop_of_length-le (layout k) (rw e at h)))

-- the characters of the field at a place are those that a span lends
pub lent_field : (i : ℕ) (n : ℕ) (s m : List ℕ) → i < 22 → n ≡ number_at i
    → s ≡ part (total (take i fields)) (total (take (i + 1) fields) - total (take i fields)) m → field_text n m ≡ s
lent_field i n s m h p q = ap (λ (x : ℕ). field_text x m) p ∙ sym (q ∙ placed i m h)

-- ---- a message that is collected whole

module _ (k : Kind) (about : About) (over : Bool) (m : List ℕ) where
  format_checks : lowest_broken 1010 about (passes_in false (form_of k) over m) (layout k)
      ≡ first_failing (each_field 1010 about (format_fails (form_of k) Whole over m) (layout k))
  unfolding passes_in format_fails pick
  format_checks = refl

  value_checks : lowest_broken 1011 about (passes_in true (form_of k) over m) (layout k)
      ≡ first_failing (each_field 1011 about (value_fails (form_of k) Whole m) (layout k))
  unfolding passes_in value_fails pick
  value_checks = refl

  whole : first_failing (form_checks (form_of k) about (record { extent = Whole; blank = over; text = m }))
      ≡ first_failing
      (each_field 1010 about (format_fails (form_of k) Whole over m) (layout k)
      ++ each_field 1011 about (value_fails (form_of k) Whole m) (layout k))
  unfolding form_checks is_short first_failing first_that pick
  whole = refl

  module _ (first : Result Unit Fault) (e : first ≡ lowest_broken 1010 about (passes_in false (form_of k) over m) (layout k)) where
    -- a fault of the format comes first
    pub by_format : (code field : ℕ) (of : About) → first ≡ fault_at code field of
        → fault_at code field of ≡ first_failing (form_checks (form_of k) about (record { extent = Whole; blank = over; text = m }))
    by_format code field of d =
        sym (whole ∙ first_found _ _ code field of (sym format_checks ∙ sym e ∙ d))

    -- where there is none, the values decide
    pub by_values : (second : Result Unit Fault) → first ≡ Ok tt
        → second ≡ lowest_broken 1011 about (passes_in true (form_of k) over m) (layout k)
        → second ≡ first_failing (form_checks (form_of k) about (record { extent = Whole; blank = over; text = m }))
    by_values second d q =
        q ∙ value_checks ∙ sym (whole ∙ first_sound _ _ (sym format_checks ∙ sym e ∙ d))

-- ---- a message of one record alone, or cut short

module _ (about : About) (over : Bool) (m : List ℕ) where
  abbrev formed : Kind → Extent → Result Unit Fault
  formed k extent = first_failing (form_checks (form_of k) about (record { extent = extent; blank = over; text = m }))

  pub too_short : (k : Kind) → fault_at 1032 0 about ≡ formed k TooShort
  unfolding form_checks is_short first_failing first_that pick
  too_short k = refl

  pub cut_short : (k : Kind) → fault_at 1032 0 about ≡ formed k CutShort
  unfolding form_checks is_short first_failing first_that pick
  cut_short k = refl

  pub not_digits : (k : Kind) → fault_at 1010 20 about ≡ formed k LengthNotDigits
  unfolding form_checks is_short format_fails each_field layout first_failing first_that pick
  not_digits Esi = refl
  not_digits Suo = refl
  not_digits Var = refl

  pub other_length : (k : Kind) → fault_at 1011 20 about ≡ formed k OtherLength
  unfolding form_checks is_short format_fails value_fails each_field layout first_failing first_that pick
  other_length Esi = refl
  other_length Suo = refl
  other_length Var = refl
