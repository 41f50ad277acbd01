use Prim.Native.Nat.{◌+◌, ◌-◌, ◌<◌, ◌≤◌, ◌^◌}
use mathlib.Core.Path.{◌≡◌}
use lib.ListN.{length, drop}
use Rattle.law_protocol.specs.Ready.{Good}
use Rattle.receiving.specs.Steps.{saw_from, SoFar}
use Rattle.receiving.proofs.read_all.Given as goal

abbrev pub invariant-loop-at : goal.invariant-loop-at
invariant-loop-at l =
    Good l.session l.t × (l.at ≤ length l.file) × (length (saw_from 0 l.initial.session l.initial.t l.file).given + 1 < 2 ^ 64)
    × SoFar (saw_from 0 l.initial.session l.initial.t l.file) (saw_from l.at l.session l.t (drop l.at l.file)) l.initial.replies l.initial.places l.count l.replies l.places
    × (length l.t ≡ length l.initial.t) × (length l.replies ≡ length l.initial.replies) × (length l.places ≡ length l.initial.places)

abbrev pub decreases-loop-at : goal.decreases-loop-at
decreases-loop-at l = length l.file - l.at
