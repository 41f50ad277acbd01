-- Functions that keep exclusive or. Two of them that agree at the powers of two agree everywhere, so a network of shifts, masks and
-- exclusive ors is shown to be a permutation by one test that antt computes.
-- Assumes nothing.
use mathlib.Core.Path.{◌≡◌, refl, sym, ap, ap₂, ◌∙◌, subst}
use mathlib.Core.Bool.{Bool, true}
use mathlib.Core.List.{List, [], ◌∷◌}
use Prim.Native.Nat.{ℕ, zero, suc, ◌+◌, ◌-◌, ◌*◌, ◌/◌, ◌%◌, ◌^◌, ◌<◌}
use native.Mathlib.Nat.{mod-lt, mul_comm, add-zero, one-mul, zero-mul}
use native.Mathlib.Omega.{arith}
use lib.Arith.{bin_ind, lt-one}
use lib.Bits.{bit_xor, bit_and, xor_shr, xor_mod, and_shr, and_mod, xor_self, xor_comm, xor_block, xor_shifted}
use lib.Dec.{T, eqb, eqb→eq, lit<}
use native.Mathlib.Numerals.{one-add}
use lib.Pow.{pow_pos, split, shr_lt}
use Rattle.des.specs.Des.{bit, select, permute}
use Rattle.ground.specs.Choice.{both}
use Rattle.ground.proofs.Table.{both_left, both_right}

half_xor : (a b : ℕ) → bit_xor a b / 2 ≡ bit_xor (a / 2) (b / 2)
half_xor a b = xor_shr a b 1

odd_xor : (a b : ℕ) → bit_xor a b % 2 ≡ bit_xor (a % 2) (b % 2)
odd_xor a b = xor_mod a b 1

half_and : (a b : ℕ) → bit_and a b / 2 ≡ bit_and (a / 2) (b / 2)
half_and a b = and_shr a b 1

odd_and : (a b : ℕ) → bit_and a b % 2 ≡ bit_and (a % 2) (b % 2)
odd_and a b = and_mod a b 1

by_halves : (u v : ℕ) → u / 2 ≡ v / 2 → u % 2 ≡ v % 2 → u ≡ v
by_halves u v p q = omega arith

-- a law of three digits
data Digit : ℕ → Type 0 where
  d0 : Digit 0
  d1 : Digit 1

digit : (n : ℕ) → n < 2 → Digit n
digit zero h = d0
digit (suc zero) h = d1
digit (suc (suc n)) h = absurd (never n h)
  where
    never : (n : ℕ) → suc (suc n) < 2 → ⊥
    never n h = omega arith

odd : (n : ℕ) → Digit (n % 2)
odd n = digit (n % 2) (omega arith)

assoc_digits : {x y z : ℕ} → Digit x → Digit y → Digit z → bit_xor (bit_xor x y) z ≡ bit_xor x (bit_xor y z)
assoc_digits d0 y z = refl
assoc_digits d1 d0 d0 = refl
assoc_digits d1 d0 d1 = refl
assoc_digits d1 d1 d0 = refl
assoc_digits d1 d1 d1 = refl

pub xor_assoc : (a b c : ℕ) → bit_xor (bit_xor a b) c ≡ bit_xor a (bit_xor b c)
xor_assoc a =
    bin_ind (λ (n : ℕ). (b c : ℕ) → bit_xor (bit_xor n b) c ≡ bit_xor n (bit_xor b c)) (λ b c. refl)
    (λ n ih b c. by_halves _ _ (simp half_xor (ih (b / 2) (c / 2))) (simp odd_xor (assoc_digits (odd n) (odd b) (odd c)))) a

and_digits : {x y z : ℕ} → Digit x → Digit y → Digit z → bit_and (bit_xor x y) z ≡ bit_xor (bit_and x z) (bit_and y z)
and_digits d0 d0 d0 = refl
and_digits d0 d0 d1 = refl
and_digits d0 d1 d0 = refl
and_digits d0 d1 d1 = refl
and_digits d1 d0 d0 = refl
and_digits d1 d0 d1 = refl
and_digits d1 d1 d0 = refl
and_digits d1 d1 d1 = refl

pub and_xor : (a b m : ℕ) → bit_and (bit_xor a b) m ≡ bit_xor (bit_and a m) (bit_and b m)
and_xor a =
    bin_ind (λ (n : ℕ). (b m : ℕ) → bit_and (bit_xor n b) m ≡ bit_xor (bit_and n m) (bit_and b m)) (λ b m. refl)
    (λ n ih b m. by_halves _ _ (simp (half_xor, half_and) (ih (b / 2) (m / 2)))
    (simp (odd_xor, odd_and) (and_digits (odd n) (odd b) (odd m)))) a

pub xor_shl : (a b k : ℕ) → bit_xor (a * 2 ^ k) (b * 2 ^ k) ≡ bit_xor a b * 2 ^ k
xor_shl a b k =
    ap₂ bit_xor (sym (add-zero (a * 2 ^ k))) (sym (add-zero (b * 2 ^ k))) ∙ xor_block k a b 0 0 (pow_pos k) (pow_pos k)
    ∙ add-zero (bit_xor a b * 2 ^ k)

-- ---- what keeps exclusive or

abbrev pub Linear : (ℕ → ℕ) → Type 0
Linear f = (x y : ℕ) → f (bit_xor x y) ≡ bit_xor (f x) (f y)

pub exchange : (a b c d : ℕ) → bit_xor (bit_xor a b) (bit_xor c d) ≡ bit_xor (bit_xor a c) (bit_xor b d)
exchange a b c d =
    xor_assoc a b (bit_xor c d) ∙ ap (bit_xor a) (sym (xor_assoc b c d) ∙ ap (λ (n : ℕ). bit_xor n d) (xor_comm b c) ∙ xor_assoc c b d)
    ∙ sym (xor_assoc a c (bit_xor b d))

pub lin_id : Linear (λ x. x)
lin_id x y = refl

module _ (f : ℕ → ℕ) (lf : Linear f) where
  pub lin_shr : (k : ℕ) → Linear (λ x. f x / 2 ^ k)
  lin_shr k x y = ap (λ (n : ℕ). n / 2 ^ k) (lf x y) ∙ xor_shr (f x) (f y) k

  pub lin_mod : (k : ℕ) → Linear (λ x. f x % 2 ^ k)
  lin_mod k x y = ap (λ (n : ℕ). n % 2 ^ k) (lf x y) ∙ xor_mod (f x) (f y) k

  pub lin_shl : (k : ℕ) → Linear (λ x. f x * 2 ^ k)
  lin_shl k x y = ap (λ (n : ℕ). n * 2 ^ k) (lf x y) ∙ sym (xor_shl (f x) (f y) k)

  pub lin_and : (m : ℕ) → Linear (λ x. bit_and (f x) m)
  lin_and m x y = ap (λ (n : ℕ). bit_and n m) (lf x y) ∙ and_xor (f x) (f y) m

  pub lin_xor : (g : ℕ → ℕ) → Linear g → Linear (λ x. bit_xor (f x) (g x))
  lin_xor g lg x y = ap₂ bit_xor (lf x y) (lg x y) ∙ exchange (f x) (f y) (g x) (g y)

  pub lin_after : (g : ℕ → ℕ) → Linear g → Linear (λ x. g (f x))
  lin_after g lg x y = ap g (lf x y) ∙ lg (f x) (f y)

  pub lin_zero : f 0 ≡ 0
  lin_zero = lf 0 0 ∙ xor_self (f 0)

select_xor : (w x y a b : ℕ) (ts : List ℕ) → select w (bit_xor x y) (bit_xor a b) ts ≡ bit_xor (select w x a ts) (select w y b ts)
unfolding select
select_xor w x y a b [] = refl
select_xor w x y a b (t ∷ ts) =
    let e : bit (bit_xor x y) (w - t) ≡ bit_xor (bit x (w - t)) (bit y (w - t)) =
    ap (λ (n : ℕ). n % 2) (xor_shr x y (w - t)) ∙ xor_mod (x / 2 ^ (w - t)) (y / 2 ^ (w - t)) 1 in
    let s : 2 * bit_xor a b + bit (bit_xor x y) (w - t) ≡ bit_xor (2 * a + bit x (w - t)) (2 * b + bit y (w - t)) =
    rw (e, mul_comm 2 a, mul_comm 2 b, mul_comm 2 (bit_xor a b))
    (sym (xor_block 1 a b (bit x (w - t)) (bit y (w - t)) (mod-lt (x / 2 ^ (w - t)) (lit< tt)) (mod-lt (y / 2 ^ (w - t)) (lit< tt)))) in
    ap (λ (n : ℕ). select w (bit_xor x y) n ts) s ∙ select_xor w x y (2 * a + bit x (w - t)) (2 * b + bit y (w - t)) ts

pub lin_permute : (ts : List ℕ) (w : ℕ) → Linear (permute ts w)
lin_permute ts w x y = select_xor w x y 0 0 ts

-- ---- two that agree at the powers of two

-- the test, at the n lowest
abbrev pub same : (ℕ → ℕ) → (ℕ → ℕ) → ℕ → Bool
same f g zero = true
same f g (suc n) = both (eqb (f (2 ^ n)) (g (2 ^ n))) (same f g n)

module _ (f g : ℕ → ℕ) (lf : Linear f) (lg : Linear g) where
  at_digit : (q n : ℕ) → q < 2 → f (2 ^ n) ≡ g (2 ^ n) → f (q * 2 ^ n) ≡ g (q * 2 ^ n)
  at_digit zero n h e = rw (zero-mul (2 ^ n)) (lin_zero f lf ∙ sym (lin_zero g lg))
  at_digit (suc zero) n h e = rw (one-mul (2 ^ n)) e
  at_digit (suc (suc q)) n h e = absurd (never q h)
    where
      never : (q : ℕ) → suc (suc q) < 2 → ⊥
      never q h = omega arith

  pub agree : (n : ℕ) → T (same f g n) → (x : ℕ) → x < 2 ^ n → f x ≡ g x
  agree zero t x h = ap f (lt-one h) ∙ lin_zero f lf ∙ sym (lin_zero g lg) ∙ sym (ap g (lt-one h))
  agree (suc n) t x h =
      let q : ℕ = x / 2 ^ n in
      let r : ℕ = x % 2 ^ n in
      let e : x ≡ bit_xor (q * 2 ^ n) r = sym (xor_shifted q n r (mod-lt x (pow_pos n)) ∙ split x n) in
      ap f e ∙ lf (q * 2 ^ n) r
      ∙ ap₂ bit_xor
      (at_digit q n (shr_lt 1 n (subst (λ (m : ℕ). x < 2 ^ m) (sym (one-add n)) h))
      (eqb→eq (f (2 ^ n)) (g (2 ^ n)) (both_left (eqb (f (2 ^ n)) (g (2 ^ n))) (same f g n) t)))
      (agree n (both_right (eqb (f (2 ^ n)) (g (2 ^ n))) (same f g n) t) r (mod-lt x (pow_pos n)))
      ∙ sym (lg (q * 2 ^ n) r) ∙ sym (ap g e)
