-- As many zeros, or the fields one after the other.
use Rattle.std.proofs.Math.Nat.{add_assoc}
use native.Mathlib.Omega.{arith}
use Rattle.codec.specs.Layout.{number, ◌⊗◌, laid, enc, width}
use Rattle.codec.proofs.Laws.{laid_is}
use Rattle.customer_bytes.specs.Layout.{previous_held}
use Rattle.customer_bytes.proofs.store_previous.Goals as goal

pub returns-in-None : goal.returns-in-None
unfolding enc width
returns-in-None c = rw c.in-None.is c.write_bytes.ensures

pub returns-in-Some : goal.returns-in-Some
unfolding laid enc width
returns-in-Some c =
    let h = c.in-Some.h in
    rw (
      c.in-Some.is,
      c.write4-in-Some.ensures,
      c.write4.ensures,
      c.write8.ensures,
      c.write1-in-Some.ensures,
      c.write1.ensures,
    )
    (simp add_assoc at (laid_is (number 1 ⊗ previous_held) (1, (h.generation, (h.key, (h.first.yymmdd, h.last.yymmdd))))
    (tt, (tt, (tt, (tt, tt)))) c.args.at c.args.t.now (omega arith)))
