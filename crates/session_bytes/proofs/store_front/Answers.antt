-- The fields are written one after the other.
use mathlib.Core.Path.{◌≡◌}
use native.Mathlib.Omega.{arith}
use lib.ListN.{length}
use borrow.Author.Rules.{rules}
use Rattle.codec.specs.Layout.{Sized, laid, width}
use Rattle.codec.proofs.Laws.{laid_is, sized}
use Rattle.session_bytes.specs.Session.{head_shape, head_to, line_shape, front_shape, front_to}
use Rattle.session_bytes.proofs.Fields.{head_scalar, line_scalar}
use Rattle.session_bytes.proofs.store_front.Goals as goal

pub returns : goal.returns
unfolding laid width
returns c =
    let s = c.args.s in
    let n : length s.sender ≡ 25 = search rules in
    let z : Sized front_shape (front_to s) =
    (sized head_shape head_scalar (head_to s), (n, sized line_shape line_scalar (s.line.size, s.line.cr))) in
    record {
      written = rw (c.store_line.ensures, c.write_bytes.ensures, c.store_head.ensures)
          (laid_is front_shape (front_to s) z 0 c.args.b.now (omega arith));
      sizes = z;
    }
