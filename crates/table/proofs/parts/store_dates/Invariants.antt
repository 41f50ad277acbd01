use mathlib.Core.Path.{◌≡◌}
use lib.ListN.{length, take}
use Rattle.splices.specs.Bytes.{bytes_of_all, splice}
use Rattle.table.proofs.parts.store_dates.Given as goal

abbrev pub invariant-loop-i : goal.invariant-loop-i
invariant-loop-i l = (length l.t ≡ length l.initial.t) × (l.t ≡ splice l.at (bytes_of_all 4 (take l.i l.dates)) l.initial.t)
