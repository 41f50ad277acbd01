-- Laws of keys: what has its parity set is odd and below 2 ^ 64, and a block comes out of a block.
-- Assumes nothing.
use Rattle.std.proofs.Common.{◌≡◌, ℕ, ◌+◌, ◌^◌, ◌<◌, ◌≤◌, true, false, ltb, refl, arith, shr_lt, ltb-true}
use Rattle.ground.specs.Choice.{pick}
use Rattle.ground.proofs.Choices.{picks, skips}
use Rattle.des.proofs.Inverse.{enciphered-lt}
use Rattle.keys.specs.Parity.{odd_parity}
use Rattle.keys.specs.Keys.{combined, check_value, working_key0, next_generation}
use Rattle.keys.specs.Maker.{made_of}
use Rattle.keys.specs.declared.KeyMaker.{KeyMaker}
use Rattle.keys.proofs.Odd.{parity_odd, parity_lt}

-- ---- a transport key, its check value, working key 0

pub combined_odd : (a b : ℕ) → odd_parity (combined a b) ≡ true
unfolding combined
combined_odd a b = parity_odd _

pub combined-lt : (a b : ℕ) → combined a b < 2 ^ 64
unfolding combined
combined-lt a b = parity_lt _

pub check_value-lt : (k : ℕ) → check_value k < 2 ^ 24
unfolding check_value
check_value-lt k = shr_lt 24 40 (enciphered-lt k 0)

pub working_key_0_odd : (k : ℕ) → odd_parity (working_key0 k) ≡ true
unfolding working_key0
working_key_0_odd k = parity_odd _

pub working_key_0_lt : (k : ℕ) → working_key0 k < 2 ^ 64
unfolding working_key0
working_key_0_lt k = parity_lt _

-- ---- generations

pub next_generation-le : (g : ℕ) → next_generation g ≤ 9
unfolding next_generation
next_generation-le g = by (ltb g 9) refl
  where
    by : (t : _) → ltb g 9 ≡ t → pick (ltb g 9) (g + 1) 1 ≤ 9
    by true e = rw (picks (ltb g 9) (g + 1) 1 e) (omega (arith, ltb-true g 9 e))
    by false e = rw (skips (ltb g 9) (g + 1) 1 e) (omega arith)

pub one_after_zero : next_generation 0 ≡ 1
unfolding next_generation pick
one_after_zero = refl

pub one_after_nine : next_generation 9 ≡ 1
unfolding next_generation pick
one_after_nine = refl

-- ---- the key maker

module _ (m : KeyMaker) (dt : ℕ) where
  pub made_odd : odd_parity (made_of m dt).made ≡ true
  unfolding made_of
  made_odd = parity_odd _

  pub made_lt : (made_of m dt).made < 2 ^ 64
  unfolding made_of
  made_lt = parity_lt _

  -- the seed after a key
  pub seed_lt : (made_of m dt).maker.seed < 2 ^ 64
  unfolding made_of
  seed_lt = enciphered-lt m.key _

  -- the key K stays
  pub key_stays : (made_of m dt).maker.key ≡ m.key
  unfolding made_of
  key_stays = refl
