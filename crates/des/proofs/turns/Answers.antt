-- The halves made so far and those that the shifts left will make are all.
use mathlib.Core.Path.{sym, ◌∙◌}
use lib.ListN.{length-set}
use Rattle.std.proofs.Common.{rules}
use Rattle.des.proofs.Keys.{turns_next, turns_done}
use Rattle.des.proofs.turns.Goals as goal

pub loop-i-preserved : goal.loop-i-preserved
loop-i-preserved c =
    let i = c.loop-i.invariant in
    (simp length-set i.0, search rules, turns_next _ _ _ _ c.turn-x.ensures.0 c.loop-i-test.true i.0 ∙ i.2)

pub returns : goal.returns
returns c =
    let i = c.loop-i.invariant in sym (turns_done _ _ _ c.loop-i-test.false i.0) ∙ i.2
