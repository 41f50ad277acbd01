use mathlib.Core.Path.{◌≡◌}
use Prim.Native.Nat.{◌-◌, ◌<◌, ◌^◌}
use lib.Bits.{bit_xor}
use Rattle.des.specs.Tables.{expansion}
use Rattle.des.specs.Des.{permute}
use Rattle.des.specs.Joined.{entries_from, joined_mixed}
use Rattle.des.proofs.mix.Given as goal

abbrev pub invariant-loop-i : goal.invariant-loop-i
invariant-loop-i l =
    (l.joined < 2 ^ 32) × (entries_from l.t (bit_xor (permute expansion 32 l.r) l.k) l.joined l.i (8 - l.i) ≡ joined_mixed l.t l.r l.k)
