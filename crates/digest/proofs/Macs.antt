-- The state that takes bytes one after the other ends at the MAC of all of them: its block holds the bytes since the last full block.
-- Assumes nothing.
use Rattle.std.specs.Prelude.{Some}
use Rattle.std.proofs.Common.{◌≡◌, ℕ, zero, suc, ◌+◌, ◌-◌, ◌*◌, ◌%◌, ◌^◌, ◌<◌, ◌≤◌, eqb, List, [], ◌∷◌, ◌++◌, map, length, take, replicate, sym, refl, ap, ◌∙◌, ⊎_elim, append_assoc, append-nil, lt_of_lt_of_le, add-zero, mul-le-mul_right, mod-eq_of_lt, mul_assoc, mul-lt-mul_of_pos_right, arith, length-append, take_at, drop_at, pow-add, eq-eqb, ne_eqb, eqb-true}
use native.Mathlib.Nat.{one-le-pow, pow-succ', pow-le-pow_right}
use borrow.Author.Tests.{eqb-false}
use lib.Bits.{bit_xor}
use lib.Seq.{take-append-add, append_snoc}
use Rattle.ground.proofs.Choices.{picks, skips, between-true}
use Rattle.ground.proofs.Bools.{outcome, picked}
use Rattle.ground.proofs.Parts.{take_zeros}
use Rattle.text.specs.Characters.{small, field_character, internal}
use Rattle.text.proofs.Laws.{field_lt}
use Rattle.des.proofs.Laws.{Each, none, more}
use Rattle.digest.specs.Mac.{bytes_from, block_of, blocks_from, block_count, blocks, chained, mac}
use Rattle.digest.specs.Kept.{answer_of}
use Rattle.digest.specs.Running.{begun, pushed, fed_bytes, closed, answered}
use Rattle.digest.specs.declared.State.{State}
use Rattle.digest.proofs.Folds.{fed_eighth, fed_other, fed_count, closed_full, closed_short}

-- ---- the internal code gives bytes, whatever it is asked of

pub internal_byte : (x : ℕ) → internal x < 256
unfolding internal
internal_byte x =
    picked (λ n. n < 256) (small x) _ _ (λ e. omega (arith, between-true 0x61 0x7A x e))
    (λ e. picked (λ n. n < 256) (field_character x) _ _ (field_lt x) (λ f. omega arith))

pub internal_bytes : (l : List ℕ) → Each 256 (map internal l)
internal_bytes [] = none
internal_bytes (x ∷ l) = more (internal_byte x) (internal_bytes l)

-- ---- bytes as a number

bytes_append : (acc : ℕ) (a b : List ℕ) → bytes_from acc (a ++ b) ≡ bytes_from (bytes_from acc a) b
unfolding bytes_from
bytes_append acc [] b = refl
bytes_append acc (x ∷ a) b = bytes_append (acc * 256 + x) a b

bytes_zeros : (acc n : ℕ) → bytes_from acc (replicate n 0) ≡ acc * 256 ^ n
unfolding bytes_from
bytes_zeros acc zero = omega arith
bytes_zeros acc (suc n) = bytes_zeros (acc * 256 + 0) n ∙ rw (add-zero (acc * 256), pow-succ' 256 n) (mul_assoc acc 256 (256 ^ n))

bytes_lt : (acc : ℕ) (l : List ℕ) → Each 256 l → bytes_from acc l < (acc + 1) * 256 ^ length l
unfolding bytes_from
bytes_lt acc [] k = omega arith
bytes_lt acc (x ∷ l) (more h k) =
    lt_of_lt_of_le (bytes_lt (acc * 256 + x) l k)
    (rw (pow-succ' 256 (length l), sym (mul_assoc (acc + 1) 256 (256 ^ length l)))
    (mul-le-mul_right (256 ^ length l) (room acc x h)))
  where
    room : (a b : ℕ) → b < 256 → a * 256 + b + 1 ≤ (a + 1) * 256
    room a b h = omega arith

pub each_append : (a b : List ℕ) → Each 256 a → Each 256 b → Each 256 (a ++ b)
each_append [] b none k = k
each_append (x ∷ a) b (more h hs) k = more h (each_append a b hs k)

-- at most eight bytes stay below 2 ^ 64, and so do they with zero bytes behind them
fits : (p : List ℕ) → length p ≤ 8 → Each 256 p → bytes_from 0 p * 256 ^ (8 - length p) < 2 ^ 64
fits p h k =
    let m : bytes_from 0 p < 256 ^ length p = omega (arith, bytes_lt 0 p k) in
    let n : length p + (8 - length p) ≡ 8 = omega arith in
    rw (sym (pow-add 256 (length p) (8 - length p)) ∙ ap (λ (n : ℕ). 256 ^ n) n) at
    (mul-lt-mul_of_pos_right m (one-le-pow (8 - length p) 256 (omega arith)))

-- one byte more
pushes : (p : List ℕ) (b : ℕ) → length p < 8 → Each 256 p → b < 256 → bytes_from 0 (p ++ (b ∷ [])) ≡ pushed (bytes_from 0 p) b
unfolding bytes_from
pushes p b h k l =
    let m : bytes_from 0 p < 256 ^ length p = omega (arith, bytes_lt 0 p k) in
    let n : 256 ^ length p ≤ 256 ^ 7 = pow-le-pow_right {n = 256} (omega arith) {j = 7} (omega arith) in
    bytes_append 0 p (b ∷ []) ∙ omega arith

-- ---- blocks

-- a short block is filled on the right
block_short : (p : List ℕ) → length p ≤ 8 → block_of p ≡ bytes_from 0 p * 256 ^ (8 - length p)
unfolding block_of
block_short p h =
    let n : 8 ≡ length p + (8 - length p) = omega arith in
    ap (bytes_from 0)
    (ap (λ (n : ℕ). take n (p ++ replicate 8 0)) n
    ∙ take-append-add p (replicate 8 0) (8 - length p)
    ∙ ap (λ (l : List ℕ). p ++ l) (take_zeros (8 - length p) 8 (omega arith)))
    ∙ bytes_append 0 p (replicate (8 - length p) 0)
    ∙ bytes_zeros (bytes_from 0 p) (8 - length p)

block_full : (p l : List ℕ) → length p ≡ 8 → block_of (p ++ l) ≡ bytes_from 0 p
unfolding block_of
block_full p l h = ap (bytes_from 0) (rw (append_assoc p l (replicate 8 0)) (take_at p (l ++ replicate 8 0) 8 h))

blocks-cons : (p l : List ℕ) → length p ≡ 8 → blocks (p ++ l) ≡ bytes_from 0 p ∷ blocks l
unfolding blocks_from
blocks-cons p l h =
    let n : block_count (length (p ++ l)) ≡ suc (block_count (length l)) = omega (arith, length-append p l) in
    ap (λ (n : ℕ). blocks_from n (p ++ l)) n ∙ rw (block_full p l h, drop_at p l 8 h)

blocks_short : (x : ℕ) (p : List ℕ) → length p < 7 → blocks (x ∷ p) ≡ block_of (x ∷ p) ∷ []
unfolding blocks_from
blocks_short x p h =
    let n : block_count (suc (length p)) ≡ 1 = omega arith in
    ap (λ (n : ℕ). blocks_from n (x ∷ p)) n

-- ---- the running state

module _ (e : ℕ → ℕ) where
  -- the state after full blocks, with the bytes p since
  abbrev holding : ℕ → List ℕ → ℕ → State
  holding c p n = record { chain = c; block = bytes_from 0 p; n = n }

  stops : (c n : ℕ) (p : List ℕ) → length p ≡ n % 8 → Each 256 p → closed e (holding c p n) ≡ chained e c (blocks p)
  unfolding chained blocks_from
  stops c n [] h k = sym (closed_full e (holding c [] n) (sym h))
  stops c n (x ∷ p) h k =
      let l : length p < 7 = omega arith in
      sym (closed_short e (holding c (x ∷ p) n) (λ z. omega arith))
      ∙ ap (λ (b : ℕ). e (bit_xor c b)) (rw (sym h) (mod-eq_of_lt (fits (x ∷ p) (omega arith) k)) ∙ sym (block_short (x ∷ p) (omega arith)))
      ∙ ap (chained e c) (sym (blocks_short x p l))

  stands : (l p : List ℕ) (c n : ℕ) → length p ≡ n % 8 → Each 256 p → Each 256 l → n + length l < 2 ^ 64
      → closed e (fed_bytes e (holding c p n) l) ≡ chained e c (blocks (p ++ l))
  unfolding fed_bytes bytes_from chained
  stands [] p c n h k none m = rw (append-nil p) (stops c n p h k)
  stands (b ∷ l) p c n h k (more y ys) m =
      let q : List ℕ = p ++ (b ∷ []) in
      let d : length q ≡ length p + 1 = length-append p (b ∷ []) in
      let v : bytes_from 0 q ≡ pushed (bytes_from 0 p) b = pushes p b (omega arith) k y in
      let u : n + 1 ≡ (n + 1) % 2 ^ 64 = omega arith in
      ⊎_elim
      (λ w. let z : n % 8 ≡ 7 = eqb-true (n % 8) 7 w in
      ap (λ (s : State). closed e (fed_bytes e s l)) (sym (fed_eighth e (holding c p n) b z v refl u))
      ∙ stands l [] (e (bit_xor c (bytes_from 0 q))) (n + 1) (omega arith) none ys (omega arith)
      ∙ ap (chained e c) (sym (blocks-cons q l (omega arith))))
      (λ w. let z : n % 8 ≡ 7 → ⊥ = eqb-false (n % 8) 7 w in
      ap (λ (s : State). closed e (fed_bytes e s l)) (sym (fed_other e (holding c p n) b z v u))
      ∙ stands l q c (n + 1) (omega arith) (each_append p (b ∷ []) k (more y none)) ys (omega arith))
      (outcome (eqb (n % 8) 7))
      ∙ ap (λ (l : List ℕ). chained e c (blocks l)) (append_snoc p b l)

  pub closed-mac : (l : List ℕ) → Each 256 l → length l < 2 ^ 64 → closed e (fed_bytes e begun l) ≡ mac e l
  unfolding begun mac bytes_from
  closed-mac l k h = stands l [] 0 0 refl none k (omega arith)

  -- no characters left, or the MAC
  pub answered-mac : (l : List ℕ) → Each 256 l → length l < 2 ^ 64 → answered e (fed_bytes e begun l) ≡ answer_of e l
  unfolding answered answer_of
  answered-mac [] k h = picks _ _ _ (eq-eqb _ _ (fed_count e [] h))
  answered-mac (x ∷ l) k h =
      let n : (fed_bytes e begun (x ∷ l)).n ≡ suc (length l) = fed_count e (x ∷ l) h in
      skips _ _ _ (ne_eqb _ 0 (λ (z : (fed_bytes e begun (x ∷ l)).n ≡ 0). omega arith)) ∙ ap Some (closed-mac (x ∷ l) k h)
