-- What the characters and the numbers written in them keep: by cases on the tests, and by the laws of every base.
-- Assumes nothing.
use mathlib.Core.Path.{◌≡◌, refl, sym, ◌∙◌}
use mathlib.Core.Bool.{Bool, true, false, ◌&&◌, ◌||◌}
use mathlib.Core.List.{List, [], ◌∷◌, ◌++◌}
use Prim.Native.Nat.{ℕ, suc, ◌+◌, ◌-◌, ◌*◌, ◌/◌, ◌%◌, ◌^◌, ◌≤◌, ◌<◌}
use mathlib.Core.Logic.{⊎_elim}
use native.Mathlib.Omega.{arith}
use borrow.Author.Tests.{eqb-true}
use lib.Dec.{eqb, leb}
use lib.ListN.{length, length-append, length-take, length-replicate}
use Rattle.ground.specs.Choice.{both, either, fails, pick, between}
use Rattle.ground.specs.Lists.{all, member}
use Rattle.ground.proofs.Choices.{join, either_left, either_decides, either_cases, picks, skips, between-true, between_in}
use Rattle.ground.proofs.Lists.{member-lt}
use Rattle.ground.proofs.Choices.{fails-true}
use Rattle.ground.proofs.Bools.{agreed, picked, refuted}
use Rattle.ground.proofs.Table.{each}
use Rattle.text.specs.Characters.{blank, digit, small, marks, field_character, internal, hex_digit, padded}
use Rattle.text.specs.Numbers.{digit_value, hex_value, decimal, decimal_from, hex, hex_from, hex_character, hex_digits, decimal_digits}
use Rattle.text.proofs.Base as base

-- ---- the field characters

-- each is a byte
pub field_lt : (x : ℕ) → field_character x ≡ true → x < 256
unfolding field_character all both
field_lt x f =
    ⊎_elim (λ e. omega (arith, between-true 0x41 0x5A x e))
    (λ f. ⊎_elim (λ e. omega (arith, between-true 0x30 0x39 x e))
    (λ f. ⊎_elim (λ e. omega (arith, eqb-true x blank e)) (λ e. member-lt 256 x marks refl e) (either_cases _ _ f))
    (either_cases _ _ f))
    (either_cases _ _ f)

-- ---- the internal code

-- of a byte: two ranges, the blank and the first mark
abbrev pub ranges : ℕ → Bool
ranges x = (leb 0x41 x && leb x 0x5A) || (leb 0x28 x && leb x 0x3E) || eqb x 0x20 || eqb x 0x25

pub field_is : (x : ℕ) → x < 256 → field_character x ≡ ranges x
unfolding field_character both either fails pick between member
field_is x h =
    agreed (field_character x) (ranges x)
    (each (λ k. pick (field_character k) (ranges k) (fails (ranges k))) 256 tt x h)

raised : (x : ℕ) → (0x61 ≤ x) × (x ≤ 0x7A) → field_character (x - 0x20) ≡ true
unfolding field_character
raised x h = either_left (between 0x41 0x5A (x - 0x20)) _ (between_in 0x41 0x5A (x - 0x20) (omega arith) (omega arith))

pub blank_field : field_character 0x20 ≡ true
unfolding field_character both either between
blank_field = refl

pub internal_field : (x : ℕ) → field_character (internal x) ≡ true
unfolding internal
internal_field x =
    picked (λ n. field_character n ≡ true) (small x) _ _ (λ e. raised x (between-true 0x61 0x7A x e))
    (λ e. picked (λ n. field_character n ≡ true) (field_character x) _ _ (λ f. f) (λ f. blank_field))

-- no small letter is a field character
small_not : (x : ℕ) → x < 0x7B → both (field_character x) (small x) ≡ false
unfolding field_character both either fails between member
small_not x h = fails-true (both (field_character x) (small x)) (each (λ k. fails (both (field_character k) (small k))) 0x7B tt x h)

pub field_internal : (x : ℕ) → field_character x ≡ true → internal x ≡ x
unfolding internal
field_internal x e = skips (small x) _ _ (refuted (small x) clash) ∙ picks (field_character x) _ _ e
  where
    clash : small x ≡ true → ⊥
    clash s =
        let p : both (field_character x) (small x) ≡ false = small_not x (omega (arith, between-true 0x61 0x7A x s)) in
        let q : both (field_character x) (small x) ≡ true = join (field_character x) (small x) e s in
        let z : ◌≡◌ {A = ℕ} 0 1 = cc in
        omega arith

pub internal_twice : (x : ℕ) → internal (internal x) ≡ internal x
internal_twice x = field_internal (internal x) (internal_field x)

-- ---- digits

pub digit_byte : (c : ℕ) → digit c ≡ true → (0x30 ≤ c) × (c ≤ 0x39)
digit_byte c = between-true 0x30 0x39 c

-- a hex digit that is no digit is a letter
pub letter_byte : (c : ℕ) → digit c ≡ false → hex_digit c ≡ true → (0x41 ≤ c) × (c ≤ 0x46)
unfolding hex_digit
letter_byte c d h =
    between-true 0x41 0x46 c (sym (either_decides (digit c) (between 0x41 0x46 c) d) ∙ h)

pub digit_lt : (c : ℕ) → digit_value c < 10
unfolding digit_value
digit_lt c = picked (λ n. n < 10) (digit c) _ _ (λ e. omega (arith, digit_byte c e)) (λ e. omega arith)

pub hex_digit-lt : (c : ℕ) → hex_value c < 16
unfolding hex_value
hex_digit-lt c =
    picked (λ n. n < 16) (digit c) _ _ (λ e. omega (arith, digit_byte c e))
    (λ d. picked (λ n. n < 16) (hex_digit c) _ _ (λ e. omega (arith, letter_byte c d e)) (λ e. omega arith))

hex_digit_byte : (c : ℕ) → hex_digit c ≡ true → c < 0x47
unfolding hex_digit
hex_digit_byte c e =
    ⊎_elim (λ p. omega (arith, digit_byte c p)) (λ p. omega (arith, between-true 0x41 0x46 c p))
    (either_cases (digit c) (between 0x41 0x46 c) e)

-- each test below holds at every digit
pub digit_back : (d : ℕ) → d < 10 → digit_value (0x30 + d) ≡ d
unfolding digit_value both pick between
digit_back d h = eqb-true (digit_value (0x30 + d)) d (each (λ k. eqb (digit_value (0x30 + k)) k) 10 tt d h)

pub digit_there : (c : ℕ) → digit c ≡ true → 0x30 + digit_value c ≡ c
unfolding digit_value
digit_there c e = rw (picks (digit c) (c - 0x30) 0 e) (omega (arith, digit_byte c e))

pub hex_digit_back : (d : ℕ) → d < 16 → hex_value (hex_character d) ≡ d
unfolding hex_value hex_character hex_digit both either pick between
hex_digit_back d h = eqb-true (hex_value (hex_character d)) d (each (λ k. eqb (hex_value (hex_character k)) k) 16 tt d h)

pub hex_digit_there : (c : ℕ) → hex_digit c ≡ true → hex_character (hex_value c) ≡ c
unfolding hex_value hex_character hex_digit both either pick between
hex_digit_there c e =
    eqb-true (hex_character (hex_value c)) c
    (sym (picks (hex_digit c) (eqb (hex_character (hex_value c)) c) true e)
    ∙ each (λ k. pick (hex_digit k) (eqb (hex_character (hex_value k)) k) true) 0x47 tt c (hex_digit_byte c e))

-- ---- numbers in digits

pub decimal-nil : (a : ℕ) → decimal_from a [] ≡ a
unfolding decimal_from
decimal-nil a = refl

pub decimal-cons : (a c : ℕ) (l : List ℕ) → decimal_from a (c ∷ l) ≡ decimal_from (a * 10 + digit_value c) l
unfolding decimal_from
decimal-cons a c l = refl

pub decimal_digits-zero : (x : ℕ) → decimal_digits 0 x ≡ []
unfolding decimal_digits
decimal_digits-zero x = refl

pub decimal_digits-suc : (n x : ℕ) → decimal_digits (suc n) x ≡ decimal_digits n (x / 10) ++ ((0x30 + (x % 10)) ∷ [])
unfolding decimal_digits
decimal_digits-suc n x = refl

abbrev pub decimals : base.Base
decimals =
    record {
      base = 10;
      value = digit_value;
      character = λ d. 0x30 + d;
      good = digit;
      number = decimal_from;
      digits = decimal_digits;
      number_nil = decimal-nil;
      number_cons = decimal-cons;
      digits_zero = decimal_digits-zero;
      digits_suc = decimal_digits-suc;
      value_lt = digit_lt;
      value_back = digit_back;
      value_there = digit_there;
    }

pub hex-nil : (a : ℕ) → hex_from a [] ≡ a
unfolding hex_from
hex-nil a = refl

pub hex-cons : (a c : ℕ) (l : List ℕ) → hex_from a (c ∷ l) ≡ hex_from (a * 16 + hex_value c) l
unfolding hex_from
hex-cons a c l = refl

pub hex_digits-zero : (x : ℕ) → hex_digits 0 x ≡ []
unfolding hex_digits
hex_digits-zero x = refl

pub hex_digits-suc : (n x : ℕ) → hex_digits (suc n) x ≡ hex_digits n (x / 16) ++ ((hex_character (x % 16)) ∷ [])
unfolding hex_digits
hex_digits-suc n x = refl

abbrev pub hexes : base.Base
hexes =
    record {
      base = 16;
      value = hex_value;
      character = hex_character;
      good = hex_digit;
      number = hex_from;
      digits = hex_digits;
      number_nil = hex-nil;
      number_cons = hex-cons;
      digits_zero = hex_digits-zero;
      digits_suc = hex_digits-suc;
      value_lt = hex_digit-lt;
      value_back = hex_digit_back;
      value_there = hex_digit_there;
    }

pub decimal-lt : (l : List ℕ) → decimal l < 10 ^ length l
decimal-lt = base.number_lt decimals

pub hex-lt : (l : List ℕ) → hex l < 16 ^ length l
hex-lt = base.number_lt hexes

pub decimal_digits-length : (n x : ℕ) → length (decimal_digits n x) ≡ n
decimal_digits-length = base.digits_length decimals

pub hex_digits-length : (n x : ℕ) → length (hex_digits n x) ≡ n
hex_digits-length = base.digits_length hexes

pub decimal_back : (n x : ℕ) → x < 10 ^ n → decimal (decimal_digits n x) ≡ x
decimal_back = base.back decimals

pub hex_back : (n x : ℕ) → x < 16 ^ n → hex (hex_digits n x) ≡ x
hex_back = base.back hexes

pub decimal_there : (l : List ℕ) → all digit l ≡ true → decimal_digits (length l) (decimal l) ≡ l
decimal_there = base.there decimals

pub hex_there : (l : List ℕ) → all hex_digit l ≡ true → hex_digits (length l) (hex l) ≡ l
hex_there = base.there hexes

-- ---- lengths of a copy and of a field

pub padded-length : (n : ℕ) (l : List ℕ) → length (padded n l) ≡ n
unfolding padded
padded-length n l = rw (length-take, length-append, length-replicate) (omega arith)
