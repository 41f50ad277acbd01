-- The two parts are written one after the other.
use mathlib.Core.Path.{◌∙◌}
use Prim.Native.Nat.{◌≤◌}
use native.Mathlib.Omega.{arith}
use lib.ListN.{length}
use Rattle.codec.specs.Layout.{Sized, laid, width}
use Rattle.codec.proofs.Laws.{laid_is, splice_all}
use Rattle.desk_bytes.specs.Layout.{sent_shape, sent_to}
use Rattle.desk_bytes.specs.Bytes.{sent_bytes}
use Rattle.desk_bytes.proofs.put_sent.Goals as goal

pub returns : goal.returns
unfolding sent_bytes laid width
returns c =
    let v = sent_to c.args.s in
    let t = c.args.b.now in
    let h : 100 ≤ length t = omega (arith, c.requires) in
    let z : Sized sent_shape v = (c.put_names.ensures.sizes, c.put_blocks.ensures.sizes) in
    rw (c.put_blocks.ensures.written, c.put_names.ensures.written)
    (laid_is sent_shape v z 0 t h ∙ splice_all sent_shape v z t c.requires)
