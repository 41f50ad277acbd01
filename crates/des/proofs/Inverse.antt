-- Deciphering undoes enciphering: the two permutations by a test of their tables, the rounds one by one.
-- Assumes nothing.
use mathlib.Core.Path.{◌≡◌, refl, sym, ap, ap₂, ◌∙◌, subst}
use mathlib.Core.Bool.{true}
use mathlib.Core.List.{List, [], ◌∷◌, map, reverse, reverse_aux, reverse-reverse}
use Prim.Native.Nat.{ℕ, zero, suc, ◌+◌, ◌-◌, ◌*◌, ◌/◌, ◌%◌, ◌^◌, ◌≤◌, ◌<◌}
use native.Mathlib.Nat.{le_of_suc-le-suc, not-suc-le-zero, pow-suc, add_comm, mul_assoc, add-mul-div_right, div-add-mod'}
use native.Mathlib.Numerals.{add-one}
use native.Mathlib.Omega.{arith}
use lib.Arith.{bin_ind}
use lib.Bits.{bit_xor, differ, xor_step, xor_lt, xor_self, xor_shr, xor_mod}
use lib.ListN.{length, get_or}
use lib.Pow.{pow_pos, pow-add, high, low, split, shr-shr}
use Rattle.des.specs.Tables.{initial, final, boxes}
use Rattle.des.specs.Des.{bit, select, permute, named, mixed, feistel, cipher_by, cipher, schedule_of, enciphered, deciphered}
use Rattle.ground.specs.Choice.{both}
use Rattle.des.proofs.Laws.{named_at, named_tail, permute-lt, mixed-lt}

-- ---- the bits of a permuted number

select-split : (w x acc : ℕ) (ts : List ℕ) → select w x acc ts ≡ acc * 2 ^ length ts + select w x 0 ts
unfolding select
select-split w x acc [] = omega arith
select-split w x acc (t ∷ ts) =
    rw (select-split w x (2 * acc + bit x (w - t)) ts, select-split w x (2 * 0 + bit x (w - t)) ts, pow-suc 2 (length ts)) (omega arith)

-- a digit above n others, and those below it
digit_top : (b n p : ℕ) → p < 2 ^ n → b < 2 → bit (b * 2 ^ n + p) n ≡ b
digit_top b n p h g = rw (high b n h) (omega arith)

digit_below : (b n p j : ℕ) → j < n → bit (b * 2 ^ n + p) j ≡ bit p j
digit_below b n p j h =
    let m : ℕ = n - suc j in
    let e : 2 ^ n ≡ 2 ^ m * 2 * 2 ^ j = ap (λ (k : ℕ). 2 ^ k) (apart n j h) ∙ pow-add 2 (m + 1) j
    ∙ ap (λ (k : ℕ). k * 2 ^ j) (pow-add 2 m 1) in
    let f : b * 2 ^ n + p ≡ p + b * (2 ^ m * 2) * 2 ^ j = ap (λ (k : ℕ). b * k + p) e ∙ add_comm (b * (2 ^ m * 2 * 2 ^ j)) p
    ∙ ap (λ (k : ℕ). p + k) (sym (mul_assoc b (2 ^ m * 2) (2 ^ j))) in
    let g : (b * 2 ^ n + p) / 2 ^ j ≡ p / 2 ^ j + b * (2 ^ m * 2) = ap (λ (k : ℕ). k / 2 ^ j) f
    ∙ add-mul-div_right p (b * (2 ^ m * 2)) (pow_pos j) in
    rw g (omega arith)
  where
    apart : (n j : ℕ) → j < n → n ≡ n - suc j + 1 + j
    apart n j h = omega arith

-- bit number i + 1 of the result, counted from 1 at the left, is the bit that the table names there
pub permuted_bit : (w x : ℕ) (ts : List ℕ) (i : ℕ) → i < length ts
    → bit (select w x 0 ts) (length ts - suc i) ≡ bit x (w - get_or ts i 0)
unfolding select
permuted_bit w x [] i h = absurd (not-suc-le-zero h)
permuted_bit w x (t ∷ ts) zero h =
    let e : suc (length ts) - 1 ≡ length ts = omega arith in
    rw (e, select-split w x (0 + bit x (w - t)) ts)
    (digit_top (0 + bit x (w - t)) (length ts) (select w x 0 ts) (permute-lt ts w x) (omega arith) ∙ omega arith)
permuted_bit w x (t ∷ ts) (suc i) h =
    let e : suc (length ts) - suc (suc i) ≡ length ts - suc i = omega arith in
    rw (e, select-split w x (0 + bit x (w - t)) ts)
    (digit_below (0 + bit x (w - t)) (length ts) (select w x 0 ts) (length ts - suc i) (omega arith)
    ∙ permuted_bit w x ts i (le_of_suc-le-suc h))

-- one table after another is the table of the entries that it names
pub through : List ℕ → List ℕ → List ℕ
through us ts = map (λ t. get_or us (t - 1) 0) ts

permute-select : (w x acc : ℕ) (us ts : List ℕ) → named (length us) ts ≡ true
    → select (length us) (permute us w x) acc ts ≡ select w x acc (through us ts)
unfolding select through
permute-select w x acc us [] e = refl
permute-select w x acc us (t ∷ ts) e =
    let h = named_at (length us) (t ∷ ts) e 0 (omega arith) in
    let i : length us - t ≡ length us - suc (t - 1) = omega arith in
    rw (i, permuted_bit w x us (t - 1) (omega arith)) (permute-select w x (2 * acc + bit x (w - get_or us (t - 1) 0)) us ts (named_tail (length us) t ts e))

-- the table 1, 2, .. of w bits leaves a number as it is; here from the last n bits on
ups : ℕ → ℕ → List ℕ
ups i zero = []
ups i (suc n) = i ∷ ups (suc i) n

select_ups : (w x n : ℕ) → n ≤ w → select w x (x / 2 ^ n) (ups (suc (w - n)) n) ≡ x
unfolding select ups
select_ups w x zero h = omega arith
select_ups w x (suc n) h =
    let d : w - suc (w - suc n) ≡ n = omega arith in
    let k : suc (suc (w - suc n)) ≡ suc (w - n) = omega arith in
    let q : x / 2 ^ suc n ≡ x / 2 ^ n / 2 = ap (λ (m : ℕ). x / 2 ^ m) (sym (add-one n)) ∙ sym (shr-shr x n 1) in
    let j : 2 * (x / 2 ^ suc n) + bit x (w - suc (w - suc n)) ≡ x / 2 ^ n = rw (d, q) (omega arith) in
    ap₂ (select w x) j (ap (λ (i : ℕ). ups i n) k) ∙ select_ups w x n (omega arith)

module _ (us ts : List ℕ) (x : ℕ) (hx : x < 2 ^ 64) where
  undone : length us ≡ 64 → named 64 ts ≡ true → through us ts ≡ ups 1 64 → permute ts 64 (permute us 64 x) ≡ x
  undone l n e =
      let z : x / 2 ^ 64 ≡ 0 = omega arith in
      subst (λ (m : ℕ). select m (permute us 64 x) 0 ts ≡ x) l
      (permute-select 64 x 0 us ts (rw l n) ∙ rw e (rw z at (select_ups 64 x 64 (omega arith))))

pub final-initial : (x : ℕ) → x < 2 ^ 64 → permute final 64 (permute initial 64 x) ≡ x
unfolding through ups named both
final-initial x h = undone initial final x h refl refl refl

pub initial-final : (x : ℕ) → x < 2 ^ 64 → permute initial 64 (permute final 64 x) ≡ x
unfolding through ups named both
initial-final x h = undone final initial x h refl refl refl

-- ---- the rounds

digit_cancel : (x y : ℕ) → x < 2 → y < 2 → differ (differ x y) y ≡ x
digit_cancel zero zero hx hy = refl
digit_cancel zero (suc zero) hx hy = refl
digit_cancel (suc zero) zero hx hy = refl
digit_cancel (suc zero) (suc zero) hx hy = refl
digit_cancel (suc (suc x)) y hx hy = omega arith
digit_cancel zero (suc (suc y)) hx hy = omega arith
digit_cancel (suc zero) (suc (suc y)) hx hy = omega arith

xor_digit : (x y : ℕ) → x < 2 → y < 2 → bit_xor x y ≡ differ x y
xor_digit zero y hx hy = refl
xor_digit (suc zero) zero hx hy = refl
xor_digit (suc zero) (suc zero) hx hy = refl
xor_digit (suc zero) (suc (suc y)) hx hy = omega arith
xor_digit (suc (suc x)) y hx hy = omega arith

pub xor_cancel : (a b : ℕ) → bit_xor (bit_xor a b) b ≡ a
xor_cancel a =
    bin_ind (λ (n : ℕ). (b : ℕ) → bit_xor (bit_xor n b) b ≡ n) xor_self
    (λ n ih b. step n b (ih (b / 2))) a
  where
    step : (n b : ℕ) → bit_xor (bit_xor (n / 2) (b / 2)) (b / 2) ≡ n / 2 → bit_xor (bit_xor n b) b ≡ n
    step n b ih =
        xor_step (bit_xor n b) b
        ∙ ap₂ (λ (p q : ℕ). p * 2 + q)
        (ap (λ (m : ℕ). bit_xor m (b / 2)) (xor_shr n b 1) ∙ ih)
        (ap (λ (m : ℕ). differ m (b % 2)) (xor_mod n b 1 ∙ xor_digit (n % 2) (b % 2) (omega arith) (omega arith))
        ∙ digit_cancel (n % 2) (b % 2) (omega arith) (omega arith))
        ∙ div-add-mod' n 2

module _ (s : List ℕ) where
  pub feistel-lt : (ks : List ℕ) (l r : ℕ) → l < 2 ^ 32 → r < 2 ^ 32 → feistel s ks l r < 2 ^ 64
  unfolding feistel
  feistel-lt [] l r hl hr = omega arith
  feistel-lt (k ∷ ks) l r hl hr = feistel-lt ks r (bit_xor l (mixed s r k)) hr (xor_lt 32 l (mixed s r k) hl (mixed-lt s r k))

  -- the rounds with the keys turned round lead back
  back : (ks us : List ℕ) (l r : ℕ) → l < 2 ^ 32 → r < 2 ^ 32
      → feistel s (reverse_aux ks us) (feistel s ks l r / 2 ^ 32) (feistel s ks l r % 2 ^ 32) ≡ feistel s us r l
  unfolding feistel
  back [] us l r hl hr = rw (high r 32 hl, low r 32 hl)
  back (k ∷ ks) us l r hl hr =
      back ks (k ∷ us) r (bit_xor l (mixed s r k)) hr (xor_lt 32 l (mixed s r k) hl (mixed-lt s r k)) ∙ rw (xor_cancel l (mixed s r k))

  pub cipher_back : (ks : List ℕ) (x : ℕ) → x < 2 ^ 64 → cipher_by s (reverse ks) (cipher_by s ks x) ≡ x
  unfolding cipher_by feistel
  cipher_back ks x hx =
      let p : ℕ = permute initial 64 x in
      let b : p < 2 ^ 64 = permute-lt initial 64 x in
      let hl : p / 2 ^ 32 < 2 ^ 32 = omega arith in
      let hr : p % 2 ^ 32 < 2 ^ 32 = omega arith in
      rw (
        initial-final (feistel s ks (p / 2 ^ 32) (p % 2 ^ 32)) (feistel-lt ks (p / 2 ^ 32) (p % 2 ^ 32) hl hr),
        back ks []
            (p / 2 ^ 32) (p % 2 ^ 32) hl hr,
        split p 32,
      )
      (final-initial x hx)

  -- a block comes out of a block
  pub cipher-lt : (ks : List ℕ) (x : ℕ) → cipher_by s ks x < 2 ^ 64
  unfolding cipher_by
  cipher-lt ks x = permute-lt final 64 _

pub enciphered-lt : (key x : ℕ) → enciphered key x < 2 ^ 64
enciphered-lt key x = cipher-lt boxes _ x

pub deciphered-lt : (key x : ℕ) → deciphered key x < 2 ^ 64
deciphered-lt key x = cipher-lt boxes _ x

pub deciphered-enciphered : (key x : ℕ) → x < 2 ^ 64 → deciphered key (enciphered key x) ≡ x
deciphered-enciphered key x h = cipher_back boxes (schedule_of key) x h

pub enciphered-deciphered : (key x : ℕ) → x < 2 ^ 64 → enciphered key (deciphered key x) ≡ x
enciphered-deciphered key x h =
    subst (λ (ks : List ℕ). cipher ks (deciphered key x) ≡ x) (reverse-reverse (schedule_of key))
    (cipher_back boxes (reverse (schedule_of key)) x h)
