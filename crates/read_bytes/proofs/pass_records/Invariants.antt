use Prim.Native.Nat.{◌≤◌, ◌-◌}
use lib.ListN.{length}
use Rattle.des.specs.Joined.{joined_by}
use Rattle.read_bytes.specs.Passes.{Passes}
use Rattle.read_bytes.proofs.pass_records.Given as goal

abbrev pub invariant-loop-at : goal.invariant-loop-at
invariant-loop-at l =
    (l.at ≤ length l.input) × Passes (joined_by l.boxes l.keys) l.m l.input l.from l.initial.running l.first l.at l.running l.size

abbrev pub decreases-loop-at : goal.decreases-loop-at
decreases-loop-at l = length l.input - l.at
