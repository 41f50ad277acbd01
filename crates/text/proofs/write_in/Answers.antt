-- The digits still to be written, before those that are, are the digits of the number.
use native.Mathlib.Omega.{arith}
use lib.ListN.{length-set}
use Rattle.text.proofs.Base.{write_more, write_end}
use Rattle.text.proofs.Bases.{digits}
use Rattle.text.proofs.write_in.Goals as goal

pub loop-i-preserved : goal.loop-i-preserved
loop-i-preserved g c =
    let l = c.loop-i in (
      omega arith,
      simp length-set l.invariant.1,
      write_more (digits g.row.BASE c.requires.0 c.requires.1) l.i l.rest _ l.out _ c.character.ensures c.loop-i-test.true (omega arith) l.invariant.2,
    )

pub returns : goal.returns
returns g c =
    let l = c.loop-i in
    write_end (digits g.row.BASE c.requires.0 c.requires.1) l.i l.rest l.out _ c.loop-i-test.false l.invariant.2
