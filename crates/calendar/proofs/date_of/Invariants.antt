use mathlib.Core.Path.{◌≡◌}
use Prim.Native.Nat.{◌-◌}
use Rattle.calendar.specs.Dates.{from_year, date_of}
use Rattle.calendar.proofs.date_of.Given as goal

abbrev pub invariant-loop-y : goal.invariant-loop-y
invariant-loop-y l = from_year l.y l.left (2080 - l.y) ≡ date_of l.k
