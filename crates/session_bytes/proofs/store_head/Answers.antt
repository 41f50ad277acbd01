-- The fields are written one after the other.
use native.Mathlib.Omega.{arith}
use Rattle.codec.specs.Layout.{laid, enc, width}
use Rattle.codec.proofs.Laws.{laid_is, sized}
use Rattle.session_bytes.specs.Session.{head_shape, head_to}
use Rattle.session_bytes.proofs.Fields.{head_scalar}
use Rattle.session_bytes.proofs.store_head.Goals as goal

pub returns : goal.returns
unfolding laid enc width
returns c =
    let v = head_to c.args.s in
    rw (
      c.write8-2.ensures,
      c.write8.ensures,
      c.write4-3.ensures,
      c.write4-2.ensures,
      c.write4.ensures,
      c.write1-4.ensures,
      c.place_number.ensures,
      c.write1-3.ensures,
      c.flag_number-3.ensures,
      c.write1-2.ensures,
      c.flag_number-2.ensures,
      c.write1.ensures,
      c.flag_number.ensures,
    )
    (laid_is head_shape v (sized head_shape head_scalar v) 0 c.args.b.now (omega arith))
