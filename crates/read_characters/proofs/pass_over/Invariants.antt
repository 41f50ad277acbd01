use mathlib.Core.Path.{◌≡◌}
use Prim.Native.Nat.{◌≤◌}
use lib.ListN.{drop}
use Rattle.session.specs.Events.{gathered_all}
use Rattle.read_characters.proofs.pass_over.Given as goal

abbrev pub invariant-loop-b : goal.invariant-loop-b
invariant-loop-b l =
    (161 ≤ l.count)
    × (gathered_all (record { count = l.count; blank = l.blank; text = l.g.text }) (drop l.b-index l.bytes)
    ≡ gathered_all l.g l.bytes)
