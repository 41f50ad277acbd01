-- A block enciphered n times, and a key schedule made n times from its own last round key.
-- Assumes nothing.
use Rattle.std.specs.Prelude.{ℕ, zero, suc, List, get_or}
use Rattle.des.specs.Des.{cipher, schedule_of}

unfoldable pub again : List ℕ → ℕ → ℕ → ℕ
again ks x zero = x
again ks x (suc n) = again ks (cipher ks x) n

unfoldable pub scheduled : ℕ → ℕ → ℕ
scheduled key zero = key
scheduled key (suc n) = scheduled (get_or (schedule_of key) 15 0) n
