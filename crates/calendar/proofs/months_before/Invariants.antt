use mathlib.Core.Path.{◌≡◌}
use Rattle.calendar.specs.Dates.{months_before}
use Rattle.calendar.proofs.months_before.Given as goal

abbrev pub invariant-loop-i : goal.invariant-loop-i
invariant-loop-i l = l.days ≡ months_before l.y l.i
