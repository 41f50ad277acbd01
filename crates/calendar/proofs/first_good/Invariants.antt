use mathlib.Core.Path.{◌≡◌}
use Prim.Native.Nat.{◌≤◌}
use Rattle.calendar.proofs.Old.{up_to}
use Rattle.calendar.proofs.first_good.Given as goal

abbrev pub invariant-loop-k : goal.invariant-loop-k
invariant-loop-k l = (l.k ≤ l.t) × (l.met.0 ≤ 5) × (l.met.0 ≡ up_to l.holidays l.t l.k)
