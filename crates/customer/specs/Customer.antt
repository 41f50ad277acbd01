-- What a customer's record may hold (document 01, 'Sizes', 'Keys', 'Order of checks'; our reading 72).
-- Assumes nothing.
use Rattle.std.specs.Prelude.{ℕ, zero, suc, ◌/◌, ◌%◌, ◌^◌, Bool, true, List, [], ◌∷◌, eqb, ltb, leb, None, Option, Some}
use Rattle.ground.specs.Choice.{both, either, fails, between}
use Rattle.calendar.specs.Dates.{real_date, real_time, is_real, is_before}
use Rattle.keys.specs.Parity.{odd_parity}
use Rattle.keys.specs.Keys.{next_generation}
use Rattle.customer.specs.Settings.{sound_who}
use Rattle.customer.specs.declared.KeyPair.{KeyPair}
use Rattle.customer.specs.declared.Customer.{Customer}
use Rattle.customer.specs.declared.Changeover.{Changeover}

-- the changeover of a previous key: the current generation follows it, its parity is odd, its days are real and in order
unfoldable pub sound_previous : ℕ → Option Changeover → Bool
sound_previous current None = true
sound_previous current (Some p) =
    both (leb p.generation 9)
    (both (eqb (next_generation p.generation) current)
    (both (odd_parity p.key)
    (both (is_real p.first) (both (is_real p.last) (fails (is_before p.last p.first))))))

-- the keys of one kind: generations 0 to 9, odd parity
unfoldable pub sound_keys : KeyPair → Bool
sound_keys k = both (leb k.generation 9) (both (odd_parity k.key) (sound_previous k.generation k.previous))

-- the fifteen digits yymmddhhmmssnnn: a real date, a real time, a number
unfoldable pub real_stamp : ℕ → Bool
real_stamp s = both (ltb s 1000000000000000) (both (real_date (s / 1000000000)) (real_time (s / 1000 % 1000000)))

-- a one-time key of odd parity for a batch, none for an ESI
unfoldable pub sound_once : ℕ → Bool
sound_once k = either (eqb k 0) (odd_parity k)

-- the first n stamps are real and their one-time keys sound; the room after them is zero
unfoldable pub sound_stamps : ℕ → List ℕ → List ℕ → Bool
sound_stamps n [] ks = true
sound_stamps n (s ∷ ss) [] = true
sound_stamps zero (s ∷ ss) (k ∷ ks) = both (both (eqb s 0) (eqb k 0)) (sound_stamps zero ss ks)
sound_stamps (suc n) (s ∷ ss) (k ∷ ks) = both (both (real_stamp s) (sound_once k)) (sound_stamps n ss ks)

-- data types out of 1 to 16 in any set, a changeover of 1 to 60 days, at most 64 stamps
unfoldable pub sound_customer : Customer → Bool
sound_customer c =
    both (sound_who c.who)
    (both (ltb c.types (2 ^ 16))
    (both (between 1 60 c.length.0)
    (both (sound_keys c.transport)
    (both (sound_keys c.working) (both (leb c.count 64) (sound_stamps c.count c.stamps c.once))))))
