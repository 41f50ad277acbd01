-- The three blocks that the maker enciphers by the lent table are the standard's.
-- Assumes nothing.
use Rattle.std.proofs.Common.{◌≡◌, ℕ, List}
use lib.Bits.{bit_xor}
use Rattle.des.specs.Des.{schedule_of}
use Rattle.des.specs.Joined.{joined, joined_by}
use Rattle.des.proofs.Joined.{joined-cipher}
use Rattle.keys.specs.Parity.{with_parity}
use Rattle.keys.specs.Maker.{made_of, random}
use Rattle.keys.specs.declared.KeyMaker.{KeyMaker}

module _ (m : KeyMaker) (clock : ℕ) {t ks : List ℕ} {i r made seed : ℕ} (et : t ≡ joined) (ek : ks ≡ schedule_of m.key) where
  pub made_by : i ≡ joined_by t ks clock → r ≡ joined_by t ks (bit_xor i m.seed) → made ≡ with_parity r
      → seed ≡ joined_by t ks (bit_xor m.seed r)
      → record { made = made; maker = record { key = m.key; seed = seed } } ≡ made_of m clock
  unfolding made_of random
  made_by ei er em es = rw (em, es, er, ei, et, ek, joined-cipher (schedule_of m.key))
