-- Where the room ends the characters are cut in two: those before the cut are kept, and those past it find no room.
use mathlib.Core.Path.{sym}
use Prim.Native.Nat.{◌-◌}
use native.Mathlib.Omega.{arith}
use lib.Seq.{length-take-le}
use Rattle.read_characters.proofs.Gathering.{gathered_cut, filled}
use Rattle.read_characters.proofs.gather.Goals as goal

pub slice_bounds-keep-end : goal.slice_bounds-keep-end
slice_bounds-keep-end c = sym (length-take-le _ c.args.bytes.now (omega arith))

pub keep-requires-2 : goal.keep-requires-2
keep-requires-2 c =
    let a = c.args in
    omega (arith, length-take-le (161 - a.g.count) a.bytes.now (omega arith))

pub pass_over-requires-2 : goal.pass_over-requires-2
pass_over-requires-2 c = filled _ _ c.keep-2.ensures (omega arith) (omega arith)

pub returns : goal.returns
returns c =
    let a = c.args in
    gathered_cut a.g a.bytes.now (161 - a.g.count) c.keep-2.ensures c.pass_over-2.ensures
