-- A checksum covers the first 144 characters, so that it is the same over these alone; a key's field is sixteen characters.
-- Assumes nothing.
use Rattle.std.specs.Prelude.{None, Option, Some}
use mathlib.Core.Path.{◌≡◌, refl, sym, ap}
use mathlib.Core.List.{List, map}
use Prim.Native.Nat.{ℕ}
use native.Mathlib.Nat.{le_refl}
use lib.ListN.{length, take}
use lib.Seq.{take-take}
use Rattle.text.specs.Characters.{internal}
use Rattle.text.proofs.Laws.{hex_digits-length}
use Rattle.des.specs.Des.{enciphered}
use Rattle.digest.specs.Mac.{checksum_of, mac}
use Rattle.text.specs.Letters.{letters}
use Rattle.reply.specs.Reply.{hex_or, sealed_flag}

pub sum_first : (key : ℕ) (l : List ℕ) → checksum_of key l ≡ checksum_of key (take 144 l)
unfolding checksum_of
sum_first key l = ap (λ (x : List ℕ). mac (enciphered key) (map internal x)) (sym (take-take 144 144 l (le_refl 144)))

pub hex_or-length : (k : Option ℕ) → length (hex_or k) ≡ 16
unfolding hex_or
hex_or-length None = refl
hex_or-length (Some x) = hex_digits-length 16 x

pub flag_length : (k : Option ℕ) → length (sealed_flag k) ≡ 1
unfolding sealed_flag letters
flag_length None = refl
flag_length (Some x) = refl
