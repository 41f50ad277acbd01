use mathlib.Core.Path.{◌≡◌}
use Prim.Native.Nat.{◌-◌}
use Rattle.calendar.specs.Dates.{in_year}
use Rattle.calendar.proofs.in_year.Given as goal

abbrev pub invariant-loop-m : goal.invariant-loop-m
invariant-loop-m l = in_year l.y l.m l.left (13 - l.m) ≡ in_year l.y 1 l.k 12
