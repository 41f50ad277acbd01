-- Blanks in the rest leave the number of characters, those up to the layout's length and those past the stated one; these tell a message.
-- Assumes nothing.
use Prim.Native.Nat.{ℕ, zero, suc, ◌+◌, ◌-◌, ◌≤◌, min}
use Prim.Native.String.{String}
use mathlib.Core.Path.{◌≡◌, refl, sym, ap, ap₂, ◌∙◌}
use mathlib.Core.Bool.{Bool, true, false, false≢true}
use mathlib.Core.List.{List, [], ◌∷◌, ◌++◌}
use native.Mathlib.Omega.{arith}
use borrow.Author.Tests.{ltb-false, le-ltb}
use lib.Dec.{ltb}
use lib.ListN.{length, take, drop, replicate, length-append, take-append-drop}
use lib.Seq.{take-nil, take-take, take-append-le}
use Rattle.ground.specs.Choice.{pick, fails, between}
use Rattle.ground.specs.Lists.{all, part, same}
use Rattle.ground.proofs.Choices.{fails-false, between-true}
use Rattle.ground.proofs.Parts.{part-take}
use Rattle.text.specs.Characters.{blank, digit, all_blank}
use Rattle.text.specs.Numbers.{decimal}
use Rattle.text.specs.Letters.{letters}
use Rattle.message.specs.Layout.{layout, layout_length, total}
use Rattle.message.specs.declared.Extent.{Extent}
use Rattle.message.specs.declared.Extent.TheVariants.{Whole, TooShort, LengthNotDigits, OtherLength}
use Rattle.message.specs.declared.Kind.{Kind}
use Rattle.message.specs.declared.Kind.TheVariants.{Esi, Suo, Var}
use Rattle.message.proofs.Places.{length-field}
use Rattle.whole_file.specs.Messages.{begins, head_length, most_length, stated_length, extent_of, is_whole, wanted_length, wants_more, known_text}
use Rattle.whole_file.specs.Messages.{text_room, collected_as}
use Rattle.law_demands.specs.Rest.{rest_blanked, on_blanked}

-- ---- m blanks after the first n characters, as far as those go

over : (n m : ℕ) → List ℕ → List ℕ
over zero zero l = l
over zero (suc m) [] = []
over zero (suc m) (x ∷ l) = blank ∷ over zero m l
over (suc n) m [] = []
over (suc n) m (x ∷ l) = x ∷ over n m l

over_is : (n m k : ℕ) (l : List ℕ) → k ≡ n + m → take n l ++ (replicate (length (take m (drop n l))) blank ++ drop k l) ≡ over n m l
unfolding over
over_is zero zero k l e = let z : k ≡ 0 = omega arith in ap (λ (i : ℕ). drop i l) z
over_is zero (suc m) zero l e = absurd (omega arith)
over_is zero (suc m) (suc k) [] e = refl
over_is zero (suc m) (suc k) (x ∷ l) e = ap (λ (r : List ℕ). blank ∷ r) (over_is zero m k l (omega arith))
over_is (suc n) m zero l e = absurd (omega arith)
over_is (suc n) m (suc k) [] e = rw (take-nil {A = ℕ} m)
over_is (suc n) m (suc k) (x ∷ l) e = ap (λ (r : List ℕ). x ∷ r) (over_is n m k l (omega arith))

over_length : (n m : ℕ) (l : List ℕ) → length (over n m l) ≡ length l
unfolding over
over_length zero zero l = refl
over_length zero (suc m) [] = refl
over_length zero (suc m) (x ∷ l) = ap suc (over_length zero m l)
over_length (suc n) m [] = refl
over_length (suc n) m (x ∷ l) = ap suc (over_length n m l)

over_first : (n m : ℕ) (l : List ℕ) → take n (over n m l) ≡ take n l
unfolding over
over_first zero m l = refl
over_first (suc n) m [] = refl
over_first (suc n) m (x ∷ l) = ap (λ (r : List ℕ). x ∷ r) (over_first n m l)

over_past : (n m k : ℕ) (l : List ℕ) → k ≡ n + m → drop k (over n m l) ≡ drop k l
unfolding over
over_past zero zero k l e = refl
over_past zero (suc m) zero l e = absurd (omega arith)
over_past zero (suc m) (suc k) [] e = refl
over_past zero (suc m) (suc k) (x ∷ l) e = over_past zero m k l (omega arith)
over_past (suc n) m zero l e = absurd (omega arith)
over_past (suc n) m (suc k) [] e = refl
over_past (suc n) m (suc k) (x ∷ l) e = over_past n m k l (omega arith)

-- what follows changes nothing of what came
over_front : (n m : ℕ) (l k : List ℕ) → take (length l) (over n m (l ++ k)) ≡ over n m l
unfolding over
over_front zero zero [] k = refl
over_front zero zero (x ∷ l) k = ap (λ (r : List ℕ). x ∷ r) (over_front zero zero l k)
over_front zero (suc m) [] k = refl
over_front zero (suc m) (x ∷ l) k = ap (λ (r : List ℕ). blank ∷ r) (over_front zero m l k)
over_front (suc n) m [] k = refl
over_front (suc n) m (x ∷ l) k = ap (λ (r : List ℕ). x ∷ r) (over_front n m l k)

-- ---- what the first 11 characters tell

module _ (x y : List ℕ) (e : take head_length x ≡ take head_length y) where
  begins_as : (s : String) → begins s x ≡ begins s y
  unfolding begins
  begins_as s =
      ap (λ (l : List ℕ). same l (letters s))
      (sym (take-take 5 head_length x (omega arith)) ∙ ap (take 5) e ∙ take-take 5 head_length y (omega arith))

  stated_as : stated_length x ≡ stated_length y
  stated_as =
      length-field x
      ∙ sym (part-take x 5 3 head_length (omega arith))
      ∙ ap (part 5 3) e
      ∙ part-take y 5 3 head_length (omega arith)
      ∙ sym (length-field y)

  wanted_as : wanted_length x ≡ wanted_length y
  unfolding wanted_length
  wanted_as = ap (λ (p : List ℕ). min (decimal p) most_length) stated_as

  extent_as : (kind : Kind) → ltb (length x) head_length ≡ ltb (length y) head_length → extent_of kind x ≡ extent_of kind y
  unfolding extent_of
  extent_as kind h = ap₂ (told kind) h stated_as
    where
      told : Kind → Bool → List ℕ → Extent
      told kind short p =
          pick short TooShort
          (pick (fails (all digit p)) LengthNotDigits
          (pick (fails (between (layout_length kind) most_length (decimal p))) OtherLength Whole))

head_within : (kind : Kind) → head_length ≤ layout_length kind
unfolding layout_length layout total
head_within Esi = omega arith
head_within Suo = omega arith
head_within Var = omega arith

whole_only : (a b c : Bool) → is_whole (pick a TooShort (pick b LengthNotDigits (pick c OtherLength Whole))) ≡ true
    → (a ≡ false) × (c ≡ false)
unfolding is_whole pick
whole_only true b c e = absurd (false≢true e)
whole_only false true c e = absurd (false≢true e)
whole_only false false true e = absurd (false≢true e)
whole_only false false false e = (refl, refl)

-- ---- a message that is collected whole

module _ (kind : Kind) (chars : List ℕ) (w : is_whole (extent_of kind chars) ≡ true) where
  has_head : head_length ≤ length chars
  unfolding extent_of
  has_head = ltb-false _ _ (whole_only _ _ _ w).0

  has_wanted : layout_length kind ≤ wanted_length chars
  unfolding extent_of wanted_length
  has_wanted =
      let b = between-true (layout_length kind) most_length (decimal (stated_length chars)) (fails-false _ (whole_only _ _ _ w).1) in
      omega (arith, b.0, b.1)

  abbrev rest : ℕ
  rest = wanted_length chars - layout_length kind

  is_over : rest_blanked kind chars ≡ over (layout_length kind) rest chars
  unfolding rest_blanked part
  is_over = over_is (layout_length kind) rest (wanted_length chars) chars (omega (arith, has_wanted))

  blanked_length : length (rest_blanked kind chars) ≡ length chars
  blanked_length = ap length is_over ∙ over_length (layout_length kind) rest chars

  blanked_known : take (layout_length kind) (rest_blanked kind chars) ≡ take (layout_length kind) chars
  blanked_known = ap (take (layout_length kind)) is_over ∙ over_first (layout_length kind) rest chars

  blanked_past : drop (wanted_length chars) (rest_blanked kind chars) ≡ drop (wanted_length chars) chars
  blanked_past =
      ap (drop (wanted_length chars)) is_over
      ∙ over_past (layout_length kind) rest (wanted_length chars) chars (omega (arith, has_wanted))

  blanked_head : take head_length (rest_blanked kind chars) ≡ take head_length chars
  blanked_head =
      sym (take-take head_length (layout_length kind) (rest_blanked kind chars) (head_within kind))
      ∙ ap (take head_length) blanked_known
      ∙ take-take head_length (layout_length kind) chars (head_within kind)

  blanked_wanted : wanted_length (rest_blanked kind chars) ≡ wanted_length chars
  blanked_wanted = wanted_as (rest_blanked kind chars) chars blanked_head

  pub blanked_begins : (s : String) → begins s (rest_blanked kind chars) ≡ begins s chars
  blanked_begins = begins_as (rest_blanked kind chars) chars blanked_head

  pub blanked_extent : (other : Kind) → extent_of other (rest_blanked kind chars) ≡ extent_of other chars
  blanked_extent other =
      extent_as (rest_blanked kind chars) chars blanked_head other (ap (λ (n : ℕ). ltb n head_length) blanked_length)

  pub blanked_wants : wants_more (rest_blanked kind chars) ≡ wants_more chars
  unfolding wants_more
  blanked_wants = ap₂ ltb blanked_length blanked_wanted

  pub blanked_collected : (e : Extent) → collected_as kind e (rest_blanked kind chars) ≡ collected_as kind e chars
  unfolding collected_as known_text
  blanked_collected e =
      ap₂ (λ (b : List ℕ) (t : List ℕ).
      record { extent = e; blank = all_blank b; text = take text_room (t ++ replicate text_room 0) })
      (ap (λ (n : ℕ). drop n (rest_blanked kind chars)) blanked_wanted ∙ blanked_past)
      blanked_known

  -- ---- and what goes on with it

  head_on : (more : List ℕ) → take head_length (chars ++ more) ≡ take head_length chars
  head_on more = take-append-le head_length chars more has_head

  pub whole_on : (more : List ℕ) → is_whole (extent_of kind (chars ++ more)) ≡ true
  whole_on more =
      let n : head_length ≤ length (chars ++ more) = simp length-append (omega (arith, has_head)) in
      ap is_whole (extent_as (chars ++ more) chars (head_on more) kind (le-ltb _ _ n ∙ sym (le-ltb _ _ has_head))) ∙ w

module _ (kind : Kind) (sofar chars : List ℕ) (w : is_whole (extent_of kind sofar) ≡ true) where
  front : take (length sofar) (rest_blanked kind (sofar ++ chars)) ≡ rest_blanked kind sofar
  front =
      ap (take (length sofar)) (is_over kind (sofar ++ chars) (whole_on kind sofar w chars))
      ∙ over_front (layout_length kind) _ sofar chars
      ∙ ap (λ (n : ℕ). over (layout_length kind) (n - layout_length kind) sofar)
      (wanted_as (sofar ++ chars) sofar (head_on kind sofar w chars))
      ∙ sym (is_over kind sofar w)

  pub blanked_on : rest_blanked kind sofar ++ on_blanked kind sofar chars ≡ rest_blanked kind (sofar ++ chars)
  unfolding on_blanked
  blanked_on =
      ap (λ (l : List ℕ). l ++ drop (length sofar) (rest_blanked kind (sofar ++ chars))) (sym front)
      ∙ take-append-drop (length sofar) (rest_blanked kind (sofar ++ chars))
