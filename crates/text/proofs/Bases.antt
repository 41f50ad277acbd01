-- Digits in any base to sixteen, and what they are in base ten and base sixteen.
-- Assumes nothing.
use mathlib.Core.Path.{◌≡◌, refl, sym, ap, ap₂, ◌∙◌}
use mathlib.Core.Bool.{Bool, true, false}
use mathlib.Core.List.{List, [], ◌∷◌, ◌++◌}
use Prim.Native.Nat.{ℕ, zero, suc, ◌+◌, ◌-◌, ◌*◌, ◌/◌, ◌%◌, ◌^◌, ◌≤◌, ◌<◌, min}
use native.Mathlib.Nat.{mod-lt, pow-le-pow_right}
use native.Mathlib.Omega.{arith}
use borrow.Author.Tests.{lt-ltb, le-ltb, ltb-true}
use lib.Dec.{ltb}
use lib.ListN.{length, take, length-take}
use Rattle.ground.proofs.Parts.{take_kept}
use Rattle.ground.specs.Choice.{both, pick}
use Rattle.ground.proofs.Choices.{left, right, picks, skips, pick_same}
use Rattle.ground.proofs.Bools.{picked}
use Rattle.text.specs.Characters.{digit, hex_digit}
use Rattle.text.specs.Numbers.{digit_value, hex_value, decimal_from, hex_from, hex_character, hex_digits, decimal_digits}
use Rattle.text.specs.Numbers.{value_in, number_from, digits_in}
use Rattle.text.proofs.Base as base
use Rattle.text.proofs.Laws.{hex_digit-lt, hex_digit_back, hex_digit_there, digit_byte, letter_byte}

module _ (b : ℕ) (p : 0 < b) (q : b ≤ 16) where
  pub value_lt : (c : ℕ) → value_in b c < b
  unfolding value_in
  value_lt c = picked (λ n. n < b) (ltb (hex_value c) b) _ _ (λ e. ltb-true _ _ e) (λ e. p)

  pub value_back : (d : ℕ) → d < b → value_in b (hex_character d) ≡ d
  unfolding value_in
  value_back d h =
      let e : hex_value (hex_character d) ≡ d = hex_digit_back d (omega arith) in
      rw e (picks _ _ _ (lt-ltb d b h))

  pub value_there : (c : ℕ) → both (hex_digit c) (ltb (hex_value c) b) ≡ true → hex_character (value_in b c) ≡ c
  unfolding value_in
  value_there c e =
      ap hex_character (picks _ _ _ (right (hex_digit c) (ltb (hex_value c) b) e))
      ∙ hex_digit_there c (left (hex_digit c) (ltb (hex_value c) b) e)

  pub number_nil : (a : ℕ) → number_from b a [] ≡ a
  unfolding number_from
  number_nil a = refl

  pub number_cons : (a c : ℕ) (l : List ℕ) → number_from b a (c ∷ l) ≡ number_from b (a * b + value_in b c) l
  unfolding number_from
  number_cons a c l = refl

  pub digits_zero : (x : ℕ) → digits_in b 0 x ≡ []
  unfolding digits_in
  digits_zero x = refl

  pub digits_suc : (n x : ℕ) → digits_in b (suc n) x ≡ digits_in b n (x / b) ++ ((hex_character (x % b)) ∷ [])
  unfolding digits_in
  digits_suc n x = refl

  abbrev pub digits : base.Base
  digits =
      record {
        base = b;
        value = value_in b;
        character = hex_character;
        good = λ c. both (hex_digit c) (ltb (hex_value c) b);
        number = number_from b;
        digits = digits_in b;
        number_nil = number_nil;
        number_cons = number_cons;
        digits_zero = digits_zero;
        digits_suc = digits_suc;
        value_lt = value_lt;
        value_back = value_back;
        value_there = value_there;
      }

-- ---- base ten and base sixteen

value_hex : (c : ℕ) → value_in 16 c ≡ hex_value c
unfolding value_in
value_hex c = picks _ _ _ (lt-ltb (hex_value c) 16 (hex_digit-lt c))

pub hex_is : (a : ℕ) (l : List ℕ) → number_from 16 a l ≡ hex_from a l
unfolding number_from hex_from
hex_is a [] = refl
hex_is a (c ∷ l) = ap (λ (v : ℕ). number_from 16 (a * 16 + v) l) (value_hex c) ∙ hex_is (a * 16 + hex_value c) l

pub hex_digits_is : (n x : ℕ) → digits_in 16 n x ≡ hex_digits n x
unfolding digits_in hex_digits
hex_digits_is zero x = refl
hex_digits_is (suc n) x = ap (λ (l : List ℕ). l ++ (hex_character (x % 16) ∷ [])) (hex_digits_is n (x / 16))

-- a digit, a letter, any other character
value_decimal : (c : ℕ) → value_in 10 c ≡ digit_value c
unfolding value_in hex_value digit_value
value_decimal c = go (digit c) (hex_digit c) refl refl
  where
    if_it_counts : (v : ℕ) → hex_value c ≡ v → value_in 10 c ≡ pick (ltb v 10) v 0
    if_it_counts v e = ap (λ (n : ℕ). pick (ltb n 10) n 0) e

    go : (t u : Bool) → digit c ≡ t → hex_digit c ≡ u → value_in 10 c ≡ digit_value c
    go true u d h =
        if_it_counts (c - 0x30) (picks _ _ _ d)
        ∙ picks _ _ _ (lt-ltb _ _ (omega (arith, digit_byte c d)))
        ∙ sym (picks _ _ _ d)
    go false true d h =
        if_it_counts (c - 0x37) (skips _ _ _ d ∙ picks _ _ _ h)
        ∙ skips _ _ _ (le-ltb _ _ (omega (arith, letter_byte c d h)))
        ∙ sym (skips _ _ _ d)
    go false false d h = if_it_counts 0 (skips _ _ _ d ∙ skips _ _ _ h) ∙ pick_same _ 0 ∙ sym (skips _ _ _ d)

character_decimal : (x : ℕ) → hex_character (x % 10) ≡ 0x30 + x % 10
unfolding hex_character
character_decimal x = picks _ _ _ (lt-ltb (x % 10) 10 (mod-lt x (omega arith)))

pub decimal_is : (a : ℕ) (l : List ℕ) → number_from 10 a l ≡ decimal_from a l
unfolding number_from decimal_from
decimal_is a [] = refl
decimal_is a (c ∷ l) = ap (λ (v : ℕ). number_from 10 (a * 10 + v) l) (value_decimal c) ∙ decimal_is (a * 10 + digit_value c) l

pub decimal_digits_is : (n x : ℕ) → digits_in 10 n x ≡ decimal_digits n x
unfolding digits_in decimal_digits
decimal_digits_is zero x = refl
decimal_digits_is (suc n) x =
    ap₂ (λ (l : List ℕ) (c : ℕ). l ++ (c ∷ [])) (decimal_digits_is n (x / 10)) (character_decimal x)

-- of the first n characters
first : (n m : ℕ) (l : List ℕ) → m ≡ min (length l) n → take m l ≡ take n l
first n m l e =
    let f : m ≡ length (take n l) = omega (arith, length-take n l) in
    ap (λ (k : ℕ). take k l) f ∙ take_kept n l

pub hex_read : (n m : ℕ) (l : List ℕ) → m ≡ min (length l) n → number_from 16 0 (take m l) ≡ hex_from 0 (take n l)
hex_read n m l e = hex_is 0 (take m l) ∙ ap (hex_from 0) (first n m l e)

pub decimal_read : (n m : ℕ) (l : List ℕ) → m ≡ min (length l) n → number_from 10 0 (take m l) ≡ decimal_from 0 (take n l)
decimal_read n m l e = decimal_is 0 (take m l) ∙ ap (decimal_from 0) (first n m l e)

pub hex_fits : (m : ℕ) (l : List ℕ) → m ≡ min (length l) 16 → 16 ^ length (take m l) ≤ 18446744073709551616
hex_fits m l e =
    omega (arith, pow-le-pow_right {n = 16} (omega arith) {i = length (take m l)} {j = 16} (omega (arith, length-take m l)))
