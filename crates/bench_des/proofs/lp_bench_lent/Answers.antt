-- What is left to do from here gives the whole, and the lent table is the standard's own.
use mathlib.Core.Path.{◌≡◌, sym, ◌∙◌}
use Prim.Native.Nat.{◌-◌}
use native.Mathlib.Omega.{arith}
use Rattle.bench_des.proofs.Steps.{again_turn, again_done}
use Rattle.des.proofs.Joined.{joined-cipher}
use Rattle.bench_des.proofs.lp_bench_lent.Goals as goal

pub loop-init : goal.loop-init
loop-init c =
    let z : c.args.count - 0 ≡ c.args.count = omega arith in
    (c.joined_table-t.ensures, rw (c.schedule-ks.ensures, z))

pub loop-preserved : goal.loop-preserved
loop-preserved c = (
  c.loop.invariant.0,
  rw (c.rounds_by-x.ensures, c.loop.invariant.0, joined-cipher _)
      (sym (again_turn _ _ _ _ c.loop-test.true) ∙ c.loop.invariant.1),
)

pub returns : goal.returns
returns c = sym (again_done _ _ _ (omega arith)) ∙ c.loop.invariant.1
