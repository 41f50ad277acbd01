-- The first five, or all where there are fewer.
use mathlib.Core.Path.{sym, refl}
use native.Mathlib.Omega.{arith}
use Prim.Native.Nat.{◌≤◌}
use lib.ListN.{length}
use lib.Seq.{take_all, length-take-le}
use Rattle.desk_edge.proofs.five_of.Goals as goal

pub returns-then-m-lt5 : goal.returns-then-m-lt5
returns-then-m-lt5 c = sym (take_all 5 _ (omega arith))

pub slice_bounds-result-end : goal.slice_bounds-result-end
slice_bounds-result-end c =
    let l = c.args.m.now in
    let h : 5 ≤ length l = omega arith in
    sym (length-take-le 5 l h)

pub returns : goal.returns
returns c = refl
