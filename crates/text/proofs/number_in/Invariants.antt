use mathlib.Core.Path.{◌≡◌}
use lib.ListN.{take}
use Rattle.text.specs.Numbers.{number_from}
use Rattle.text.proofs.number_in.Given as goal

abbrev pub invariant-loop-b : goal.invariant-loop-b
invariant-loop-b g l = l.n ≡ number_from g.row.BASE 0 (take l.b-index l.s)
