use mathlib.Core.Path.{◌≡◌}
use Prim.Native.Nat.{◌≤◌, ◌-◌}
use lib.ListN.{drop}
use Rattle.message.specs.Layout.{layout}
use Rattle.message.specs.Rules.{form_of}
use Rattle.message.specs.Passing.{passes_in, lowest_broken}
use Rattle.message.proofs.first_broken.Given as goal

abbrev pub invariant-loop-i : goal.invariant-loop-i
invariant-loop-i l =
    (l.i ≤ l.count)
    × (lowest_broken l.code l.about (passes_in l.values (form_of l.k) l.blank_over l.m) (layout l.k)
    ≡ lowest_broken l.code l.about (passes_in l.values (form_of l.k) l.blank_over l.m) (drop l.i (layout l.k)))

abbrev pub decreases-loop-i : goal.decreases-loop-i
decreases-loop-i l = l.count - l.i
