use mathlib.Core.Path.{◌≡◌}
use Prim.Native.Nat.{◌+◌}
use lib.ListN.{length, drop}
use Rattle.splices.specs.Bytes.{splice}
use Rattle.codec.specs.Rows.{total, fields}
use Rattle.codec.proofs.write_row.Given as goal

abbrev pub invariant-loop-w : goal.invariant-loop-w
invariant-loop-w l =
    (l.p + total (drop (length l.yielded) l.widths) ≡ l.at + total l.widths) × (length l.t ≡ length l.initial.t)
    × (splice l.p (fields (drop (length l.yielded) l.widths) (drop (length l.yielded) l.numbers)) l.t ≡ splice l.at (fields l.widths l.numbers) l.initial.t)
