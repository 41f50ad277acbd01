-- The dates passed are written one after the other, and each turn writes the next past them.
use mathlib.Core.Path.{refl, ap, ◌∙◌}
use mathlib.Core.List.{List}
use native.Mathlib.Omega.{arith}
use lib.Seq.{take_all}
use Rattle.splices.specs.Bytes.{flat, bytes_of_all, splice}
use Rattle.splices.proofs.Splice.{splice_none}
use Rattle.splices.proofs.Chunks.{put-nums_more}
use Rattle.table.proofs.parts.store_dates.Goals as goal

pub loop-i-init : goal.loop-i-init
unfolding flat
loop-i-init c = (refl, splice_none _ _)

pub loop-i-preserved : goal.loop-i-preserved
loop-i-preserved c =
    let w = c.write4 in
    let l = c.loop-i in (
      omega (arith, w.auto),
      put-nums_more 4 c.args.at l.i c.args.dates.now l.t w.new.t c.args.t.now (omega arith) (omega (arith, c.requires))
          l.invariant.1 w.ensures,
    )

pub returns : goal.returns
returns c =
    let l = c.loop-i in
    l.invariant.1 ∙ ap (λ (x : List _). splice c.args.at (bytes_of_all 4 x) c.args.t.now)
    (take_all l.i c.args.dates.now (omega arith))
