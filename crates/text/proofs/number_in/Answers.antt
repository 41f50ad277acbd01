-- The loop has the number that the characters passed write, and that many digits fit.
use mathlib.Core.Path.{sym}
use native.Mathlib.Omega.{arith}
use lib.ListN.{length}
use Rattle.text.proofs.Base.{read_more, read_fits}
use Rattle.text.proofs.Bases.{digits, number_nil}
use Rattle.text.proofs.number_in.Goals as goal

pub loop-b-init : goal.loop-b-init
loop-b-init g c = sym (number_nil g.row.BASE c.requires.base.0 c.requires.base.1 0)

pub overflow_mul-n : goal.overflow_mul-n
overflow_mul-n g c =
    let l = c.loop-b in
    let B = digits g.row.BASE c.requires.base.0 c.requires.base.1 in
    omega (arith, c.requires.fits, read_fits B _ l.b-index l.n l.invariant c.loop-b-test.true (length c.args.s.now) c.loop-b-test.true)

pub overflow_add-n : goal.overflow_add-n
overflow_add-n g c =
    let l = c.loop-b in
    let B = digits g.row.BASE c.requires.base.0 c.requires.base.1 in
    omega (arith, c.requires.fits, c.digit_value.ensures, read_fits B _ l.b-index l.n l.invariant c.loop-b-test.true (length c.args.s.now) c.loop-b-test.true)

pub loop-b-preserved : goal.loop-b-preserved
loop-b-preserved g c =
    let l = c.loop-b in
    let B = digits g.row.BASE c.requires.base.0 c.requires.base.1 in
    read_more B _ l.b-index l.n l.invariant c.loop-b-test.true _ c.digit_value.ensures
