-- The key maker of document 001, section 5.3: it takes a clock value DT and hands out a key while its seed V moves on.
-- There `+` is exclusive or, and e(K)(x) is x enciphered under K.
-- Assumes nothing.
use Rattle.std.specs.Prelude.{ℕ, ◌+◌, ◌%◌, ◌^◌, bit_xor}
use Rattle.des.specs.Des.{enciphered}
use Rattle.keys.specs.Parity.{with_parity}
use Rattle.keys.specs.declared.KeyMaker.{KeyMaker}
use Rattle.keys.specs.declared.Made.{Made}

-- R = e(K)(I + V), where I = e(K)(DT)
unfoldable pub random : KeyMaker → ℕ → ℕ
random m dt = enciphered m.key (bit_xor (enciphered m.key dt) m.seed)

-- the key is R with its parity set; the new V is e(K)(V + R), of R before that
unfoldable pub made_of : KeyMaker → ℕ → Made
made_of m dt =
    record {
      made = with_parity (random m dt);
      maker = record { key = m.key; seed = enciphered m.key (bit_xor m.seed (random m dt)) };
    }

-- the key made of K, V and DT, and the seed after it
abbrev pub key_of : (key seed clock : ℕ) → ℕ
key_of k v dt = (made_of (record { key = k; seed = v }) dt).made

abbrev pub next_seed : (key seed clock : ℕ) → ℕ
next_seed k v dt = (made_of (record { key = k; seed = v }) dt).maker.seed

-- the clock value: the one given at opening plus the number of keys made in this file, carried round past 64 bits
unfoldable pub clock_value : ℕ → ℕ → ℕ
clock_value opening made = (opening + made) % 2 ^ 64
