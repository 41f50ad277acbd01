use Rattle.std.proofs.Common.{◌≡◌, length}
use Rattle.des.specs.Joined.{joined_by}
use Rattle.bureau_records.specs.Pieces.{heard_bytes}
use Rattle.bureau_records.specs.Sofar.{heard_of}
use Rattle.bureau_records.proofs.next.Given as goal

abbrev pub invariant-loop-left : goal.invariant-loop-left
invariant-loop-left l =
    (length l.room ≡ length l.initial.room)
    × (heard_bytes (joined_by l.table l.w.keys) l.w.method (heard_of l.now) l.left
    ≡ heard_bytes (joined_by l.table l.w.keys) l.w.method (heard_of l.initial.now) l.part)

abbrev pub decreases-loop-left : goal.decreases-loop-left
decreases-loop-left l = length l.left
