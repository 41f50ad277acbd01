-- The laws of the definitions that the proofs cite.
-- Assumes nothing.
use mathlib.Core.Path.{◌≡◌, refl, ap}
use mathlib.Core.Bool.{true}
use mathlib.Core.List.{List, [], ◌∷◌}
use Prim.Native.Nat.{ℕ, zero, suc, ◌+◌, ◌-◌, ◌*◌, ◌^◌, ◌≤◌, ◌<◌}
use native.Mathlib.Nat.{le_of_suc-le-suc, not-suc-le-zero, lt_of_lt_of_le, mul-le-mul_right, pow-suc}
use native.Mathlib.Numerals.{add-one}
use native.Mathlib.Omega.{arith}
use borrow.Author.Tests.{ltb-true, leb-true}
use lib.Dec.{ltb, leb}
use lib.Bits.{bit_xor, xor_lt}
use lib.ListN.{length, get_or, drop, drop_of_length-le}
use lib.Seq.{drop-cons}
use Rattle.des.specs.Des.{bit, select, permute, named, mixed, rotated, keys_from, schedule_of}
use Rattle.des.specs.Joined.{joined_mixed, joined_rounds}
use Rattle.des.specs.Tables.{shifts, spread, choice2}
use Rattle.ground.specs.Choice.{both}
use Rattle.ground.proofs.Choices.{left, right}

pub named_tail : (w t : ℕ) (ts : List ℕ) → named w (t ∷ ts) ≡ true → named w ts ≡ true
unfolding named
named_tail w t ts e = right (both (ltb 0 t) (leb t w)) (named w ts) e

-- an entry of a table that passes the test numbers a bit
pub named_at : (w : ℕ) (ts : List ℕ) → named w ts ≡ true → (k : ℕ) → k < length ts → (0 < get_or ts k 0) × (get_or ts k 0 ≤ w)
unfolding named
named_at w [] e k h = absurd (not-suc-le-zero h)
named_at w (t ∷ ts) e zero h =
    let p : both (ltb 0 t) (leb t w) ≡ true = left (both (ltb 0 t) (leb t w)) (named w ts) e in
    (ltb-true 0 t (left (ltb 0 t) (leb t w) p), leb-true t w (right (ltb 0 t) (leb t w) p))
named_at w (t ∷ ts) e (suc k) h = named_at w ts (named_tail w t ts e) k (le_of_suc-le-suc h)

pub bit-lt : (x k : ℕ) → bit x k < 2
bit-lt x k = omega arith

pub select-lt : (w x acc : ℕ) (ts : List ℕ) → select w x acc ts < (acc + 1) * 2 ^ length ts
unfolding select
select-lt w x acc [] = omega arith
select-lt w x acc (t ∷ ts) =
    lt_of_lt_of_le (select-lt w x (2 * acc + bit x (w - t)) ts)
    (rw (pow-suc 2 (length ts)) (omega (arith, mul-le-mul_right (2 ^ length ts) (fact acc (bit x (w - t)) (bit-lt x (w - t))))))
  where
    fact : (a b : ℕ) → b < 2 → 2 * a + b + 1 ≤ (a + 1) * 2
    fact a b h = omega arith

pub permute-lt : (ts : List ℕ) (w x : ℕ) → permute ts w x < 2 ^ length ts
permute-lt ts w x = omega (arith, select-lt w x 0 ts)

pub mixed-lt : (s : List ℕ) (r k : ℕ) → mixed s r k < 2 ^ 32
unfolding mixed
mixed-lt s r k = permute-lt spread 32 _

-- one round
pub rounds_drop : (t ks : List ℕ) (i l r : ℕ) → i < length ks
    → joined_rounds t (drop i ks) l r ≡ joined_rounds t (drop (i + 1) ks) r (bit_xor l (joined_mixed t r (get_or ks i 0)))
unfolding joined_rounds
rounds_drop t ks i l r h = rw (add-one i, drop-cons ks i 0 h)

-- past the last
pub rounds_done : (t ks : List ℕ) (i l r : ℕ) → length ks ≤ i → joined_rounds t (drop i ks) l r ≡ r * 2 ^ 32 + l
unfolding joined_rounds
rounds_done t ks i l r h = rw (drop_of_length-le ks {i = i} h)

pub half_lt : (l m : ℕ) → l < 2 ^ 32 → m < 2 ^ 32 → bit_xor l m < 2 ^ 32
half_lt l m p q = xor_lt 32 l m p q

pub ruleset rounds = (rounds_drop, rounds_done, half_lt)

pub rotated-lt : (s c : ℕ) → 0 < s → s ≤ 2 → c < 2 ^ 28 → rotated s c < 2 ^ 28
unfolding rotated
rotated-lt zero c p q h = omega arith
rotated-lt (suc zero) c p q h = omega arith
rotated-lt (suc (suc zero)) c p q h = omega arith
rotated-lt (suc (suc (suc s))) c p q h = omega arith

-- ---- the round keys

-- each is a number of 48 bits
pub data Each (n : ℕ) : List ℕ → Type 0 where
  none : Each n []
  more : {x : ℕ} {l : List ℕ} → x < n → Each n l → Each n (x ∷ l)

keys_lt : (ss : List ℕ) (c d : ℕ) → Each (2 ^ 48) (keys_from ss c d)
unfolding keys_from
keys_lt [] c d = none
keys_lt (s ∷ ss) c d = more (permute-lt choice2 56 _) (keys_lt ss (rotated s c) (rotated s d))

pub round_keys_lt : (key : ℕ) → Each (2 ^ 48) (schedule_of key)
unfolding schedule_of
round_keys_lt key = keys_lt shifts _ _

-- and there are sixteen
keys_length : (ss : List ℕ) (c d : ℕ) → length (keys_from ss c d) ≡ length ss
unfolding keys_from
keys_length [] c d = refl
keys_length (s ∷ ss) c d = ap suc (keys_length ss (rotated s c) (rotated s d))

pub schedule_length : (key : ℕ) → length (schedule_of key) ≡ 16
unfolding schedule_of
schedule_length key = keys_length shifts _ _
