-- The fields are written one after the other.
use native.Mathlib.Omega.{arith}
use Rattle.codec.specs.Layout.{Value, laid, enc, width}
use Rattle.codec.proofs.Laws.{laid_is, sized}
use Rattle.session_bytes.specs.Session.{line_shape}
use Rattle.session_bytes.proofs.Fields.{line_scalar}
use Rattle.session_bytes.proofs.store_line.Goals as goal

pub returns : goal.returns
unfolding laid enc width
returns c =
    let v : Value line_shape = (c.args.line.size, c.args.line.cr) in
    rw (c.write1.ensures, c.flag_number.ensures, c.write4.ensures)
    (laid_is line_shape v (sized line_shape line_scalar v) 57 c.args.b.now (omega arith))
