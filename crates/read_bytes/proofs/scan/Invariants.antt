use Prim.Native.Nat.{◌≤◌, ◌-◌}
use mathlib.Core.Path.{◌≡◌}
use lib.ListN.{length}
use Rattle.des.specs.Des.{schedule_of}
use Rattle.checks.specs.Checks.{key_or0}
use Rattle.session.specs.Machine.{scanned}
use Rattle.read_bytes.proofs.Scans.{left_at}
use Rattle.read_bytes.proofs.scan.Given as goal

abbrev pub invariant-loop-i : goal.invariant-loop-i
invariant-loop-i l =
    (l.i ≤ length l.input)
    × (length l.t ≡ length l.initial.t)
    × (l.key ≡ key_or0 l.at.batch.once)
    × (l.keys ≡ schedule_of l.key)
    × (left_at l.input l.i l.at l.t ≡ scanned l.initial.at l.initial.t l.input)

abbrev pub decreases-loop-i : goal.decreases-loop-i
decreases-loop-i l = length l.input - l.i
