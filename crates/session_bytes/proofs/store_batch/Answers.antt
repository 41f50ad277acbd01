-- The parts are written one after the other.
use native.Mathlib.Omega.{arith}
use Rattle.codec.specs.Layout.{Sized, laid, width}
use Rattle.codec.proofs.Laws.{laid_is, sized}
use Rattle.session_bytes.specs.Session.{running_shape, running_to, batch_shape, batch_to}
use Rattle.session_bytes.proofs.Fields.{running_scalar}
use Rattle.session_bytes.proofs.store_batch.Goals as goal

pub returns : goal.returns
unfolding laid width
returns c =
    let x = c.args.a in
    let z : Sized batch_shape (batch_to x) = (c.store_suo.ensures.sizes, sized running_shape running_scalar (running_to x)) in
    record {
      written = rw (c.store_running.ensures, c.store_suo.ensures.written)
          (laid_is batch_shape (batch_to x) z 228 c.args.b.now (omega arith));
      sizes = z;
    }
