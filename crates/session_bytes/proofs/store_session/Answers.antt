-- The parts are written one after the other, over all bytes.
use mathlib.Core.Path.{◌∙◌}
use Prim.Native.Nat.{◌≤◌}
use native.Mathlib.Omega.{arith}
use lib.ListN.{length}
use Rattle.codec.specs.Layout.{Sized, laid, width}
use Rattle.codec.proofs.Laws.{laid_is, splice_all}
use Rattle.session_bytes.specs.Session.{session_shape, session_to, session_bytes}
use Rattle.session_bytes.proofs.store_session.Goals as goal

pub returns : goal.returns
unfolding session_bytes laid width
returns c =
    let v = session_to c.args.s in
    let t = c.args.b.now in
    let h : 472 ≤ length t = omega (arith, c.requires) in
    let z : Sized session_shape v = (
      c.store_front.ensures.sizes,
      (c.store_gathered.ensures.sizes, c.store_batch.ensures.sizes),
    ) in
    rw (c.store_batch.ensures.written, c.store_gathered.ensures.written, c.store_front.ensures.written)
    (laid_is session_shape v z 0 t h ∙ splice_all session_shape v z t c.requires)
