-- The fields are written one after the other.
use Rattle.std.proofs.Math.Nat.{add_assoc}
use native.Mathlib.Omega.{arith}
use Rattle.codec.specs.Layout.{laid, enc, width}
use Rattle.codec.proofs.Laws.{laid_is, sized}
use Rattle.customer_bytes.specs.Layout.{pair_shape, pair_to}
use Rattle.customer_bytes.proofs.Laws.{pair_scalar}
use Rattle.customer_bytes.proofs.store_pair.Goals as goal

pub returns : goal.returns
unfolding laid enc width
returns c =
    let v = pair_to c.args.k in
    rw (c.store_previous.ensures, c.write8.ensures, c.write1.ensures)
    (simp add_assoc at (laid_is pair_shape v (sized pair_shape pair_scalar v) c.args.at c.args.t.now (omega arith)))
