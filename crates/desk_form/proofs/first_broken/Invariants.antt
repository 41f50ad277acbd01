use mathlib.Core.Path.{◌≡◌}
use Prim.Native.Nat.{◌≤◌}
use lib.ListN.{drop}
use Rattle.message.specs.declared.About.TheVariants.{Answered}
use Rattle.desk_form.specs.Replies.{reply_layout, fails_in}
use Rattle.desk_form.proofs.Tests.{lowest}
use Rattle.desk_form.proofs.first_broken.Given as goal

abbrev pub invariant-loop-i : goal.invariant-loop-i
invariant-loop-i l =
    (l.i ≤ l.count)
    × (lowest (fails_in l.test l.k l.r) l.code Answered (reply_layout l.k)
    ≡ lowest (fails_in l.test l.k l.r) l.code Answered (drop l.i (reply_layout l.k)))
