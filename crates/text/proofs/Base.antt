-- Numbers written in digits, for any base: what the digits write is read back, since a digit more is the base times more.
-- Assumes nothing.
use mathlib.Core.Path.{◌≡◌, refl, sym, ap, ◌∙◌}
use mathlib.Core.Bool.{Bool, true}
use mathlib.Core.List.{List, [], ◌∷◌, ◌++◌}
use Prim.Native.Nat.{ℕ, zero, suc, ◌+◌, ◌-◌, ◌*◌, ◌/◌, ◌%◌, ◌^◌, ◌≤◌, ◌<◌}
use native.Mathlib.Nat.{div-add-mod', div-lt_iff_lt-mul, div-eq_of_lt, mod-eq_of_lt, mod-lt, mul-add-div_right, mul-add-mod_self_right}
use native.Mathlib.Nat.{mul-le-mul_right, mul_assoc, mul_comm, mul-one, one-mul, add-mul, pow-zero, pow-suc, lt_of_lt_of_le, le_of_lt}
use native.Mathlib.Nat.{pow-le-pow_right, add-zero, le_refl}
use native.Mathlib.Numerals.{add-one, sub-one}
use native.Mathlib.Omega.{arith}
use lib.ListN.{length, get_or, take, drop, set, length-append, length-take}
use lib.Seq.{take-suc, take-length, length-take-le, set_split, drop_at, append_snoc}
use Rattle.ground.specs.Lists.{all}
use Rattle.ground.proofs.Lists.{all_at}

-- a base with the value of each character, the character of each value, the number that a list writes and the lowest digits of a number
pub record Base : Type 0 where
  pub base : ℕ
  pub value : ℕ → ℕ
  pub character : ℕ → ℕ
  pub good : ℕ → Bool
  pub number : ℕ → List ℕ → ℕ
  pub digits : ℕ → ℕ → List ℕ
  pub number_nil : (a : ℕ) → number a [] ≡ a
  pub number_cons : (a c : ℕ) (l : List ℕ) → number a (c ∷ l) ≡ number (a * base + value c) l
  pub digits_zero : (x : ℕ) → digits 0 x ≡ []
  pub digits_suc : (n x : ℕ) → digits (suc n) x ≡ digits n (x / base) ++ (character (x % base) ∷ [])
  pub value_lt : (c : ℕ) → value c < base
  pub value_back : (d : ℕ) → d < base → value (character d) ≡ d
  pub value_there : (c : ℕ) → good c ≡ true → character (value c) ≡ c

module _ (B : Base) where
  positive : 0 < B.base
  positive = omega (arith, B.value_lt 0)

  -- one character more
  snoc : (a : ℕ) (l : List ℕ) (c : ℕ) → B.number a (l ++ (c ∷ [])) ≡ B.number a l * B.base + B.value c
  snoc a [] c =
      B.number_cons a c [] ∙ B.number_nil _ ∙ ap (λ (n : ℕ). n * B.base + B.value c) (sym (B.number_nil a))
  snoc a (x ∷ l) c =
      B.number_cons a x (l ++ (c ∷ []))
      ∙ snoc (a * B.base + B.value x) l c
      ∙ ap (λ (n : ℕ). n * B.base + B.value c) (sym (B.number_cons a x l))

  pub digits_length : (n x : ℕ) → length (B.digits n x) ≡ n
  digits_length zero x = ap length (B.digits_zero x)
  digits_length (suc n) x =
      ap length (B.digits_suc n x)
      ∙ length-append (B.digits n (x / B.base)) (B.character (x % B.base) ∷ [])
      ∙ ap (λ (m : ℕ). m + 1) (digits_length n (x / B.base))
      ∙ add-one n

  below : (a : ℕ) (l : List ℕ) → B.number a l < (a + 1) * B.base ^ length l
  below a [] = rw (B.number_nil a, pow-zero B.base, mul-one) (omega arith)
  below a (c ∷ l) =
      let n : ℕ = B.base ^ length l in
      let step : a * B.base + B.value c + 1 ≤ (a + 1) * B.base = fact B.base a (B.value c) (B.value_lt c) in
      let e : (a + 1) * B.base * n ≡ (a + 1) * B.base ^ suc (length l) =
      mul_assoc (a + 1) B.base n
      ∙ ap (λ (m : ℕ). (a + 1) * m) (mul_comm B.base n ∙ sym (pow-suc B.base (length l))) in
      rw (B.number_cons a c l, ← e) (lt_of_lt_of_le (below (a * B.base + B.value c) l) (mul-le-mul_right n step))
    where
      fact : (b a v : ℕ) → v < b → a * b + v + 1 ≤ (a + 1) * b
      fact b a v h = rw (add-mul a 1 b, one-mul) (omega arith)

  pub number_lt : (l : List ℕ) → B.number 0 l < B.base ^ length l
  number_lt l = rw one-mul at (below 0 l)

  pub back : (n x : ℕ) → x < B.base ^ n → B.number 0 (B.digits n x) ≡ x
  back zero x h = rw (B.digits_zero x, B.number_nil 0) (omega (arith, pow-zero B.base))
  back (suc n) x h =
      let less : x / B.base < B.base ^ n = (div-lt_iff_lt-mul positive).1 (rw (pow-suc B.base n) at h) in
      ap (B.number 0) (B.digits_suc n x)
      ∙ snoc 0 (B.digits n (x / B.base)) (B.character (x % B.base))
      ∙ ap (λ (m : ℕ). m * B.base + B.value (B.character (x % B.base))) (back n (x / B.base) less)
      ∙ ap (λ (m : ℕ). x / B.base * B.base + m) (B.value_back (x % B.base) (mod-lt x positive))
      ∙ div-add-mod' x B.base

  -- the lowest digit of a number that ends in a character
  last : (m c : ℕ) → B.good c ≡ true → B.character ((m * B.base + B.value c) % B.base) ≡ c
  last m c g =
      ap B.character (mul-add-mod_self_right m B.base (B.value c) ∙ mod-eq_of_lt (B.value_lt c))
      ∙ B.value_there c g

  -- and the others
  rest : (m c : ℕ) → (m * B.base + B.value c) / B.base ≡ m
  rest m c =
      mul-add-div_right positive m (B.value c) ∙ ap (λ (k : ℕ). m + k) (div-eq_of_lt (B.value_lt c)) ∙ add-zero m

  upto : (l : List ℕ) → all B.good l ≡ true → (n : ℕ) → n ≤ length l → B.digits n (B.number 0 (take n l)) ≡ take n l
  upto l g zero h = B.digits_zero _
  upto l g (suc n) h =
      let c : ℕ = get_or l n 0 in
      let m : ℕ = B.number 0 (take n l) in
      let e : B.number 0 (take (suc n) l) ≡ m * B.base + B.value c =
      ap (B.number 0) (take-suc l n 0 h) ∙ snoc 0 (take n l) c in
      ap (B.digits (suc n)) e
      ∙ B.digits_suc n (m * B.base + B.value c)
      ∙ ap (λ (k : ℕ). B.digits n k ++ (B.character ((m * B.base + B.value c) % B.base) ∷ [])) (rest m c)
      ∙ ap (λ (k : ℕ). B.digits n m ++ (k ∷ [])) (last m c (all_at B.good l n g h))
      ∙ ap (λ (k : List ℕ). k ++ (c ∷ [])) (upto l g n (le_of_lt h))
      ∙ sym (take-suc l n 0 h)

  pub there : (l : List ℕ) → all B.good l ≡ true → B.digits (length l) (B.number 0 l) ≡ l
  there l g =
      ap (λ (k : List ℕ). B.digits (length l) (B.number 0 k)) (sym (take-length l))
      ∙ upto l g (length l) (le_refl (length l))
      ∙ take-length l

  -- ---- the loop that reads: n is what the first i characters write

  module _ (l : List ℕ) (i n : ℕ) (e : n ≡ B.number 0 (take i l)) (h : i < length l) where
    pub read_more : (r : ℕ) → r ≡ B.value (get_or l i 0) → n * B.base + r ≡ B.number 0 (take (i + 1) l)
    read_more r v =
        ap (λ (k : ℕ). k * B.base + r) e
        ∙ ap (λ (k : ℕ). B.number 0 (take i l) * B.base + k) v
        ∙ sym (ap (λ (k : ℕ). B.number 0 (take k l)) (add-one i) ∙ ap (B.number 0) (take-suc l i 0 h) ∙ snoc 0 (take i l) (get_or l i 0))

    -- the next number has at most k digits
    pub read_fits : (k : ℕ) → i < k → n * B.base + B.value (get_or l i 0) < B.base ^ k
    read_fits k m =
        let s : length (take (i + 1) l) ≤ k = omega (arith, length-take (i + 1) l) in
        rw (read_more (B.value (get_or l i 0)) refl)
        (lt_of_lt_of_le (number_lt (take (i + 1) l)) (pow-le-pow_right positive s))

  -- ---- the loop that writes, from the last digit to the first: i digits of x are still to be written

  pub write_more : (i x c : ℕ) (out whole : List ℕ) → c ≡ B.character (x % B.base) → 0 < i → i ≤ length out
      → B.digits i x ++ drop i out ≡ whole → B.digits (i - 1) (x / B.base) ++ drop (i - 1) (set out (i - 1) c) ≡ whole
  write_more zero x c out whole v p h w = absurd (omega arith)
  write_more (suc i) x c out whole v p h w =
      let e : drop i (set out i c) ≡ c ∷ drop (suc i) out =
      ap (drop i) (set_split out i c h) ∙ drop_at (take i out) (c ∷ drop (suc i) out) i (length-take-le i out (le_of_lt h)) in
      rw sub-one
      (ap (λ (k : List ℕ). B.digits i (x / B.base) ++ k) e
      ∙ sym (append_snoc (B.digits i (x / B.base)) c (drop (suc i) out))
      ∙ ap (λ (k : ℕ). B.digits i (x / B.base) ++ (k ∷ []) ++ drop (suc i) out) v
      ∙ ap (λ (k : List ℕ). k ++ drop (suc i) out) (sym (B.digits_suc i x))
      ∙ w)

  pub write_end : (i x : ℕ) (out whole : List ℕ) → i ≤ 0 → B.digits i x ++ drop i out ≡ whole → out ≡ whole
  write_end zero x out whole h w = ap (λ (k : List ℕ). k ++ out) (sym (B.digits_zero x)) ∙ w
  write_end (suc i) x out whole h w = absurd (omega arith)
