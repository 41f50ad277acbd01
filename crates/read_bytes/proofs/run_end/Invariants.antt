use Prim.Native.Nat.{◌-◌, ◌≤◌}
use mathlib.Core.Path.{◌≡◌}
use mathlib.Core.Bool.{true}
use lib.ListN.{length}
use Rattle.ground.specs.Lists.{all}
use Rattle.law_cutting.specs.Plain.{plain}
use Rattle.read_bytes.proofs.Plainly.{between}
use Rattle.read_bytes.proofs.run_end.Given as goal

abbrev pub invariant-loop-end : goal.invariant-loop-end
invariant-loop-end l =
    (l.from ≤ l.end) × (l.end ≤ length l.input) × (all plain (between l.input l.from l.end) ≡ true) × (l.end - l.from ≤ l.room)

abbrev pub decreases-loop-end : goal.decreases-loop-end
decreases-loop-end l = length l.input - l.end
