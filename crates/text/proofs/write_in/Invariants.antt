use mathlib.Core.Path.{◌≡◌}
use mathlib.Core.List.{◌++◌}
use Prim.Native.Nat.{◌≤◌}
use lib.ListN.{length, drop}
use Rattle.text.specs.Numbers.{digits_in}
use Rattle.text.proofs.write_in.Given as goal

abbrev pub invariant-loop-i : goal.invariant-loop-i
invariant-loop-i g l =
    (l.i ≤ length l.initial.out)
    × (length l.out ≡ length l.initial.out)
    × (digits_in g.row.BASE l.i l.rest ++ drop l.i l.out ≡ digits_in g.row.BASE (length l.initial.out) l.x)
