-- After i turns the first i numbers stand at the place.
use mathlib.Core.Path.{refl}
use native.Mathlib.Omega.{arith}
use lib.ListN.{get_or}
use Rattle.splices.specs.Bytes.{flat}
use Rattle.splices.proofs.Splice.{splice_none}
use Rattle.splices.proofs.Chunks.{bytes_of-length, put-nums_more}
use Rattle.codec.proofs.write_numbers.Goals as goal

pub loop-i-init : goal.loop-i-init
unfolding flat
loop-i-init c = (refl, splice_none _ _)

pub loop-i-preserved : goal.loop-i-preserved
loop-i-preserved c =
    let w = c.write8 in
    let l = c.loop-i in
    let k = bytes_of-length 8 (get_or c.args.s.now l.i 0) in (
      omega (arith, w.auto),
      put-nums_more 8 c.args.at l.i c.args.s.now l.t w.new.t c.args.t.now (omega arith) (omega (arith, c.requires))
          l.invariant.1
          w.ensures,
    )
