-- The dates passed are in the array, and the room after them is zero.
use native.Mathlib.Omega.{arith}
use Rattle.table.proofs.Filled.{some_none, some_more, some_all}
use Rattle.table.proofs.parts.dates_at.Goals as goal

pub loop-i-init : goal.loop-i-init
loop-i-init c = some_none _ _ _

pub loop-i-preserved : goal.loop-i-preserved
loop-i-preserved c =
    let l = c.loop-i in
    some_more _ _ l.i _ l.out c.read4.result (omega arith) (omega arith) c.read4.ensures l.invariant

pub returns : goal.returns
returns c =
    let l = c.loop-i in
    some_all _ _ l.i _ l.out c.requires.0 (omega arith) l.invariant
