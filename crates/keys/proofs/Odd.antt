-- Odd parity: the lowest bit makes up for the other seven, and the bytes of a key are taken one by one.
-- Assumes nothing.
use Rattle.std.proofs.Common.{◌≡◌, ℕ, zero, suc, ◌+◌, ◌*◌, ◌/◌, ◌%◌, ◌^◌, ◌<◌, Bool, true, false, eqb, sym, refl, ap, ◌∙◌, pow-suc, arith, eq-eqb, ne_eqb, eqb-true}
use Rattle.ground.proofs.Choices.{left, right, join}
use Rattle.keys.specs.Parity.{ones, parity_byte, parity_bytes, with_parity, odd_bytes, odd_parity}

-- ---- a byte

pub byte_lt : (b : ℕ) → parity_byte (b % 256) < 256
unfolding parity_byte
byte_lt b = omega arith

-- eight bits are the lowest and the other seven
ones_split : (b : ℕ) → ones 8 b ≡ b % 2 + ones 7 (b / 2)
unfolding ones
ones_split b = refl

-- the other seven stay, and the lowest makes the count odd
seven : (b : ℕ) → parity_byte b / 2 ≡ b / 2
unfolding parity_byte
seven b = omega arith

lowest : (b : ℕ) → (parity_byte b % 2 + ones 7 (b / 2)) % 2 ≡ 1
unfolding parity_byte
lowest b = omega arith

pub byte_odd : (b : ℕ) → ones 8 (parity_byte b) % 2 ≡ 1
byte_odd b = rw (ones_split (parity_byte b), seven b) (lowest b)

pub byte_stays : (b : ℕ) → ones 8 b % 2 ≡ 1 → parity_byte b ≡ b
byte_stays b e =
    let odd : (b % 2 + ones 7 (b / 2)) % 2 ≡ 1 = rw (ones_split b) at e in
    omega (arith, seven b, lowest b)

-- ---- the bytes of a key

pub bytes_lt : (n x : ℕ) → parity_bytes n x < 256 ^ n
unfolding parity_bytes
bytes_lt zero x = omega arith
bytes_lt (suc n) x = rw (pow-suc 256 n) (omega (arith, bytes_lt n (x / 256), byte_lt x))

bytes_odd : (n x : ℕ) → odd_bytes n (parity_bytes n x) ≡ true
unfolding parity_bytes odd_bytes
bytes_odd zero x = refl
bytes_odd (suc n) x =
    let b : parity_byte (x % 256) < 256 = byte_lt x in
    let p : (parity_bytes n (x / 256) * 256 + parity_byte (x % 256)) % 256 ≡ parity_byte (x % 256) = omega arith in
    let q : (parity_bytes n (x / 256) * 256 + parity_byte (x % 256)) / 256 ≡ parity_bytes n (x / 256) = omega arith in
    rw (p, q) (join _ _ (eq-eqb _ _ (byte_odd (x % 256))) (bytes_odd n (x / 256)))

bytes_stay : (n x : ℕ) → x < 256 ^ n → odd_bytes n x ≡ true → parity_bytes n x ≡ x
unfolding parity_bytes odd_bytes
bytes_stay zero x h e = omega arith
bytes_stay (suc n) x h e =
    let g : x < 256 ^ n * 256 = rw (pow-suc 256 n) at h in
    let b : ones 8 (x % 256) % 2 ≡ 1 = eqb-true _ _ (left _ _ e) in
    rw (bytes_stay n (x / 256) (omega arith) (right _ _ e), byte_stays (x % 256) b) (omega arith)

-- ---- a key

pub parity_odd : (x : ℕ) → odd_parity (with_parity x) ≡ true
parity_odd x = bytes_odd 8 x

pub parity_lt : (x : ℕ) → with_parity x < 2 ^ 64
parity_lt x = omega (arith, bytes_lt 8 x)

pub parity_stays : (x : ℕ) → x < 2 ^ 64 → odd_parity x ≡ true → with_parity x ≡ x
parity_stays x h e = bytes_stay 8 x h e

pub parity_twice : (x : ℕ) → with_parity (with_parity x) ≡ with_parity x
parity_twice x = parity_stays (with_parity x) (parity_lt x) (parity_odd x)

-- a key has odd parity where setting its parity leaves it as it is
pub odd_test : (x : ℕ) → x < 2 ^ 64 → eqb x (with_parity x) ≡ odd_parity x
odd_test x h = by (odd_parity x) refl
  where
    by : (t : Bool) → odd_parity x ≡ t → eqb x (with_parity x) ≡ t
    by true e = eq-eqb x (with_parity x) (sym (parity_stays x h e))
    by false e = ne_eqb x (with_parity x) (λ p. let z : true ≡ false = sym (parity_odd x) ∙ ap odd_parity (sym p)
        ∙ e in let w : ◌≡◌ {A = ℕ} 0 1 = cc in omega arith)
