use mathlib.Core.Path.{◌≡◌}
use mathlib.Core.List.{◌++◌}
use Prim.Native.Nat.{◌<◌, ◌^◌}
use lib.ListN.{length, take, drop}
use Rattle.des.specs.Tables.{shifts}
use Rattle.des.specs.Quick.{turned_from}
use Rattle.des.proofs.turns.Given as goal

abbrev pub invariant-loop-i : goal.invariant-loop-i
invariant-loop-i l =
    (length l.halves ≡ 16) × (l.x < 2 ^ 56) × (take l.i l.halves ++ turned_from (drop l.i shifts) l.x ≡ turned_from shifts l.fn.x)
