use Prim.Native.Nat.{◌≤◌, ◌-◌}
use Rattle.message.proofs.Places.{Past}
use Rattle.message.proofs.field_contents.Given as goal

abbrev pub invariant-loop-i : goal.invariant-loop-i
invariant-loop-i l = (l.i ≤ 22) × Past l.number l.i

abbrev pub decreases-loop-i : goal.decreases-loop-i
decreases-loop-i l = 22 - l.i
