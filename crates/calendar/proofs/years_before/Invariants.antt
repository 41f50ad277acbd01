use mathlib.Core.Path.{◌≡◌}
use Rattle.calendar.specs.Dates.{years_before}
use Rattle.calendar.proofs.years_before.Given as goal

abbrev pub invariant-loop-i : goal.invariant-loop-i
invariant-loop-i l = l.days ≡ years_before l.i
