-- Folded by 4, 2 and 1, a bit is the exclusive or of the eight from it upwards; at the lowest bit of a byte those are the byte's own, so all
-- bytes are set at once.
-- Assumes nothing.
use Rattle.std.proofs.Common.{◌≡◌, ℕ, zero, suc, ◌+◌, ◌*◌, ◌/◌, ◌%◌, ◌^◌, ◌<◌, Bool, eqb, sym, ap, ◌∙◌, ap₂, add_comm, pow-suc, arith, shr-shr, eqb-true}
use lib.Bits.{bit_xor, bit_and, xor_shr, xor_mod, and_shr, and_mod, and_mask}
use lib.Pow.{field, mod-mod-pow}
use Rattle.ground.specs.Choice.{both}
use Rattle.ground.proofs.Table.{each}
use Rattle.keys.specs.Parity.{ones, parity_byte, parity_bytes, with_parity}

-- ---- a fold: each bit takes up the one k above it

unfoldable pub fold : ℕ → ℕ → ℕ
fold k x = bit_xor x (x / 2 ^ k)

-- the bytes above the lowest fold by themselves
fold_above : (k x : ℕ) → fold k x / 256 ≡ fold k (x / 256)
unfolding fold
fold_above k x =
    let e : x / 2 ^ k / 256 ≡ x / 256 / 2 ^ k = shr-shr x k 8 ∙ ap (λ (j : ℕ). x / 2 ^ j) (add_comm k 8) ∙ sym (shr-shr x 8 k) in
    xor_shr x (x / 2 ^ k) 8 ∙ ap (bit_xor (x / 256)) e

-- the j lowest bits come from the j + k lowest
fold_alike : (j k x y : ℕ) → x % 2 ^ (j + k) ≡ y % 2 ^ (j + k) → fold k x % 2 ^ j ≡ fold k y % 2 ^ j
unfolding fold
fold_alike j k x y e =
    let g : x % 2 ^ (k + j) ≡ y % 2 ^ (k + j) = rw (add_comm k j) e in
    xor_mod x (x / 2 ^ k) j
    ∙ ap₂ bit_xor (sym (mod-mod-pow x k j) ∙ ap (λ (n : ℕ). n % 2 ^ j) g ∙ mod-mod-pow y k j)
    (sym (field x j k) ∙ ap (λ (n : ℕ). n / 2 ^ k) e ∙ field y j k)
    ∙ sym (xor_mod y (y / 2 ^ k) j)

-- ---- three folds

unfoldable pub folded : ℕ → ℕ
folded x = fold 1 (fold 2 (fold 4 x))

folded_above : (x : ℕ) → folded x / 256 ≡ folded (x / 256)
unfolding folded
folded_above x =
    fold_above 1 (fold 2 (fold 4 x)) ∙ ap (fold 1) (fold_above 2 (fold 4 x)) ∙ ap (λ (n : ℕ). fold 1 (fold 2 n)) (fold_above 4 x)

-- the lowest bit comes from the lowest byte
folded-lowest : (x : ℕ) → folded x % 2 ≡ folded (x % 256) % 2
unfolding folded
folded-lowest x =
    let e : x % 256 ≡ x % 256 % 256 = omega arith in
    fold_alike 1 1 (fold 2 (fold 4 x)) (fold 2 (fold 4 (x % 256))) (fold_alike 2 2 (fold 4 x) (fold 4 (x % 256)) (fold_alike 4 4 x (x % 256) e))

-- a byte, by one test of all 256
test : ℕ → Bool
test b = eqb (bit_xor (bit_xor b (folded b % 2)) 1) (parity_byte b)

a_byte : (b : ℕ) → b < 256 → bit_xor (bit_xor b (folded b % 2)) 1 ≡ parity_byte b
unfolding test both fold folded parity_byte ones
a_byte b h = eqb-true _ _ (each test 256 tt b h)

-- ---- all bytes at once: the lowest byte is set, and those above it by themselves

-- the lowest bit of each of n bytes
unfoldable lowest : ℕ → ℕ
lowest zero = 0
lowest (suc n) = lowest n * 256 + 1

-- each of them turned where the fold is 0 there
unfoldable turned : ℕ → ℕ → ℕ
turned n x = bit_xor (bit_xor x (bit_and (folded x) (lowest n))) (lowest n)

turned_above : (n x : ℕ) → turned (suc n) x / 256 ≡ turned n (x / 256)
unfolding turned lowest
turned_above n x =
    let m : (lowest n * 256 + 1) / 256 ≡ lowest n = omega arith in
    rw (
      xor_shr (bit_xor x (bit_and (folded x) (lowest n * 256 + 1))) (lowest n * 256 + 1) 8,
      xor_shr x (bit_and (folded x) (lowest n * 256 + 1)) 8,
      and_shr (folded x) (lowest n * 256 + 1) 8,
      folded_above x,
      m,
    )

turned-lowest : (n x : ℕ) → turned (suc n) x % 256 ≡ parity_byte (x % 256)
unfolding turned lowest
turned-lowest n x =
    let m : (lowest n * 256 + 1) % 256 ≡ 1 = omega arith in
    let e : folded x % 256 % 2 ≡ folded (x % 256) % 2 = mod-mod-pow (folded x) 7 1 ∙ folded-lowest x in
    rw (
      xor_mod (bit_xor x (bit_and (folded x) (lowest n * 256 + 1))) (lowest n * 256 + 1) 8,
      xor_mod x (bit_and (folded x) (lowest n * 256 + 1)) 8,
      and_mod (folded x) (lowest n * 256 + 1) 8,
      m,
      and_mask (folded x % 256) 1,
      e,
    )
    (a_byte (x % 256) (omega arith))

turned_none : (x : ℕ) → x ≡ 0 → turned 0 x ≡ 0
unfolding turned lowest folded fold
turned_none x e = rw e

turned_all : (n x : ℕ) → x < 256 ^ n → turned n x ≡ parity_bytes n x
unfolding parity_bytes
turned_all zero x h = turned_none x (omega arith)
turned_all (suc n) x h =
    let g : x < 256 ^ n * 256 = rw (pow-suc 256 n) at h in
    let p : turned (suc n) x / 256 ≡ parity_bytes n (x / 256) = turned_above n x ∙ turned_all n (x / 256) (omega arith) in
    let q : turned (suc n) x % 256 ≡ parity_byte (x % 256) = turned-lowest n x in
    omega arith

pub parity_turned : (x : ℕ) → x < 2 ^ 64
    → bit_xor (bit_xor x (bit_and (folded x) 0x0101010101010101)) 0x0101010101010101 ≡ with_parity x
unfolding turned lowest
parity_turned x h = turned_all 8 x h
