use mathlib.Core.Path.{◌≡◌}
use mathlib.Core.List.{◌++◌}
use Prim.Native.Nat.{◌-◌}
use lib.ListN.{take}
use Rattle.splices.specs.Bytes.{bytes_of}
use Rattle.codec.proofs.write_number.Given as goal

-- the bytes that are written, and what is left of the number
abbrev pub invariant-loop-byte : goal.invariant-loop-byte
invariant-loop-byte l = take l.byte-index l.byte-items ++ bytes_of (l.w - l.byte-index) l.rest ≡ bytes_of l.w l.n
