-- The quick parts are what FIPS 46-3 says, by tests at the powers of two: the delta swaps IP and its inverse, the wrapped number's
-- groups those of E.
-- Assumes nothing.
use mathlib.Core.Path.{◌≡◌, sym, ap, ◌∙◌}
use mathlib.Core.List.{List, [], ◌∷◌}
use Prim.Native.Nat.{ℕ, zero, suc, ◌+◌, ◌-◌, ◌*◌, ◌/◌, ◌%◌, ◌^◌, ◌<◌, ◌≤◌}
use native.Mathlib.Numerals.{add-one}
use native.Mathlib.Omega.{arith}
use lib.Bits.{bit_xor, bit_and, xor_shr, xor_mod, xor_lt}
use lib.Dec.{T}
use lib.ListN.{get_or}
use mathlib.Core.Bool.{Bool}
use Rattle.ground.specs.Choice.{both}
use Rattle.ground.proofs.Table.{at}
use Rattle.des.specs.Tables.{initial, final, expansion}
use Rattle.des.specs.Des.{select, permute}
use Rattle.des.specs.Joined.{entries_from}
use Rattle.des.specs.Quick.{delta_swap, wrapped}
use Rattle.des.proofs.Linear.{Linear, lin_id, lin_shr, lin_shl, lin_mod, lin_and, lin_xor, lin_after, lin_permute, same, agree}

-- ---- IP and its inverse

module _ (d m : ℕ) where
  abbrev moved : ℕ → ℕ
  moved x = bit_and (bit_xor (x / 2 ^ d) x) m

  lin_moved : Linear moved
  lin_moved = lin_and (λ x. bit_xor (x / 2 ^ d) x) (lin_xor (λ x. x / 2 ^ d) (lin_shr (λ x. x) lin_id d) (λ x. x) lin_id) m

  lin_delta : Linear (delta_swap d m)
  lin_delta =
      lin_xor (λ x. bit_xor x (moved x)) (lin_xor (λ x. x) lin_id moved lin_moved) (λ x. moved x * 2 ^ d % 2 ^ 64)
      (lin_mod (λ x. moved x * 2 ^ d) (lin_shl moved lin_moved d) 64)

-- five delta swaps, one after the other
module _ (d₁ m₁ d₂ m₂ d₃ m₃ d₄ m₄ d₅ m₅ : ℕ) where
  abbrev pub five : ℕ → ℕ
  five x = delta_swap d₅ m₅ (delta_swap d₄ m₄ (delta_swap d₃ m₃ (delta_swap d₂ m₂ (delta_swap d₁ m₁ x))))

  lin_five : Linear five
  lin_five =
      lin_after (λ x. delta_swap d₄ m₄ (delta_swap d₃ m₃ (delta_swap d₂ m₂ (delta_swap d₁ m₁ x))))
      (lin_after (λ x. delta_swap d₃ m₃ (delta_swap d₂ m₂ (delta_swap d₁ m₁ x)))
      (lin_after (λ x. delta_swap d₂ m₂ (delta_swap d₁ m₁ x))
      (lin_after (delta_swap d₁ m₁) (lin_delta d₁ m₁) (delta_swap d₂ m₂) (lin_delta d₂ m₂))
      (delta_swap d₃ m₃) (lin_delta d₃ m₃))
      (delta_swap d₄ m₄) (lin_delta d₄ m₄))
      (delta_swap d₅ m₅) (lin_delta d₅ m₅)

  pub network : (ts : List ℕ) → T (same five (permute ts 64) 64) → (x : ℕ) → x < 2 ^ 64 → five x ≡ permute ts 64 x
  network ts t x h = agree five (permute ts 64) lin_five (lin_permute ts 64) 64 t x h

pub initial_net : (x : ℕ) → x < 2 ^ 64 → five 36 0x0f0f0f0f 48 0xffff 30 0xcccccccc 24 0xff00ff00 33 0x55555555 x ≡ permute initial 64 x
unfolding select both
initial_net x h = network 36 0x0f0f0f0f 48 0xffff 30 0xcccccccc 24 0xff00ff00 33 0x55555555 initial tt x h

pub final_net : (x : ℕ) → x < 2 ^ 64 → five 33 0x55555555 24 0xff00ff00 30 0xcccccccc 48 0xffff 36 0x0f0f0f0f x ≡ permute final 64 x
unfolding select both
final_net x h = network 33 0x55555555 24 0xff00ff00 30 0xcccccccc 48 0xffff 36 0x0f0f0f0f final tt x h

-- ---- E, by groups of six

lin_wrapped : Linear wrapped
lin_wrapped =
    lin_xor (λ r. bit_xor (r % 2 * 2 ^ 33 % 2 ^ 64) (r * 2 ^ 1 % 2 ^ 64))
    (lin_xor (λ r. r % 2 * 2 ^ 33 % 2 ^ 64)
    (lin_mod (λ r. r % 2 * 2 ^ 33) (lin_shl (λ r. r % 2) (lin_mod (λ r. r) lin_id 1) 33) 64)
    (λ r. r * 2 ^ 1 % 2 ^ 64) (lin_mod (λ r. r * 2 ^ 1) (lin_shl (λ r. r) lin_id 1) 64))
    (λ r. r / 2 ^ 31) (lin_shr (λ r. r) lin_id 31)

module _ (p q : ℕ) where
  abbrev quick : ℕ → ℕ
  quick r = wrapped r / 2 ^ p % 2 ^ 6

  abbrev plain : ℕ → ℕ
  plain r = permute expansion 32 r / 2 ^ q % 2 ^ 6

  -- six bits of the wrapped number and of the key are those of E and the key
  pub group : T (same quick plain 32) → (r k : ℕ) → r < 2 ^ 32
      → bit_xor (wrapped r / 2 ^ p) (k / 2 ^ q) % 64 ≡ bit_xor (permute expansion 32 r) k / 2 ^ q % 64
  group t r k h =
      xor_mod (wrapped r / 2 ^ p) (k / 2 ^ q) 6
      ∙ ap (λ (n : ℕ). bit_xor n (k / 2 ^ q % 64))
      (agree quick plain (lin_mod (λ r. wrapped r / 2 ^ p) (lin_shr wrapped lin_wrapped p) 6)
      (lin_mod (λ r. permute expansion 32 r / 2 ^ q) (lin_shr (permute expansion 32) (lin_permute expansion 32) q) 6) 32 t r h)
      ∙ sym (xor_mod (permute expansion 32 r / 2 ^ q) (k / 2 ^ q) 6)
      ∙ ap (λ (n : ℕ). n % 64) (sym (xor_shr (permute expansion 32 r) k q))

-- the test of the eight groups, and what it says of each
group_test : ℕ → ℕ → Bool
group_test i x = same (quick (28 - 4 * i) (42 - 6 * i)) (plain (28 - 4 * i) (42 - 6 * i)) 32

groups_pass : (i : ℕ) → i < 8 → T (group_test i (get_or (0 ∷ 0 ∷ 0 ∷ 0 ∷ 0 ∷ 0 ∷ 0 ∷ 0 ∷ []) i 0))
unfolding group_test select both
groups_pass i h = at group_test (0 ∷ 0 ∷ 0 ∷ 0 ∷ 0 ∷ 0 ∷ 0 ∷ 0 ∷ []) tt i h

pub group_at : (i : ℕ) → i < 8 → (r k : ℕ) → r < 2 ^ 32
    → bit_xor (wrapped r / 2 ^ (28 - 4 * i)) (k / 2 ^ (42 - 6 * i)) % 64 ≡ bit_xor (permute expansion 32 r) k / 2 ^ (42 - 6 * i) % 64
unfolding group_test
group_at i hi r k h = group (28 - 4 * i) (42 - 6 * i) (groups_pass i hi) r k h

-- one box more, by its quick group, and past the last
module _ (t : List ℕ) (r k acc i : ℕ) where
  pub box_next : i < 8 → r < 2 ^ 32
      → entries_from t (bit_xor (permute expansion 32 r) k)
      (bit_xor acc (get_or t (64 * i + bit_xor (wrapped r / 2 ^ (28 - 4 * i)) (k / 2 ^ (42 - 6 * i)) % 64) 0)) (i + 1) (8 - (i + 1))
      ≡ entries_from t (bit_xor (permute expansion 32 r) k) acc i (8 - i)
  unfolding entries_from
  box_next h p =
      let s : 8 - i ≡ suc (8 - (i + 1)) = omega arith in
      rw (s, group_at i h r k p, add-one i)

  pub box_last : 8 ≤ i → entries_from t (bit_xor (permute expansion 32 r) k) acc i (8 - i) ≡ acc
  unfolding entries_from
  box_last h = let s : 8 - i ≡ zero = omega arith in rw s

pub word_lt : (a b : ℕ) → a < 2 ^ 32 → b < 2 ^ 32 → bit_xor a b < 2 ^ 32
word_lt a b p q = xor_lt 32 a b p q

pub ruleset boxes_joined = (box_next, box_last, word_lt)
