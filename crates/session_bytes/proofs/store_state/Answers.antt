-- The fields are written one after the other.
use Rattle.std.proofs.Math.Nat.{add_assoc}
use native.Mathlib.Omega.{arith}
use Rattle.codec.specs.Layout.{laid, enc, width}
use Rattle.codec.proofs.Laws.{laid_is}
use Rattle.session_bytes.specs.Session.{state_shape, state_to}
use Rattle.session_bytes.proofs.store_state.Goals as goal

pub returns : goal.returns
unfolding laid enc width
returns c =
    rw (c.write8-3.ensures, c.write8-2.ensures, c.write8.ensures)
    (simp add_assoc at (laid_is state_shape (state_to c.args.s) (tt, (tt, tt)) c.args.at c.args.b.now (omega arith)))
