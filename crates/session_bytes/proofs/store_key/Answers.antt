-- As many zeros, or a 1 and the key.
use native.Mathlib.Omega.{arith}
use Rattle.codec.specs.Layout.{number, ◌⊗◌, laid, enc, width}
use Rattle.codec.proofs.Laws.{laid_is}
use Rattle.session_bytes.specs.Session.{once_shape}
use Rattle.session_bytes.proofs.store_key.Goals as goal

pub returns-in-None : goal.returns-in-None
unfolding enc width
returns-in-None c = rw c.in-None.is c.write_bytes.ensures

pub returns-in-Some : goal.returns-in-Some
unfolding laid enc width
returns-in-Some c =
    rw (c.in-Some.is, c.write8.ensures, c.write1.ensures)
    (laid_is (number 1 ⊗ once_shape) (1, c.in-Some.key) (tt, tt) 391 c.args.b.now (omega arith))
