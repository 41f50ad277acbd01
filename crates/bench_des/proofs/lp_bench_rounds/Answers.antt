-- What is left to do from here gives the whole.
use mathlib.Core.Path.{◌≡◌, sym, ◌∙◌}
use Prim.Native.Nat.{◌-◌}
use native.Mathlib.Omega.{arith}
use Rattle.bench_des.proofs.Steps.{again_turn, again_done}
use Rattle.bench_des.proofs.lp_bench_rounds.Goals as goal

pub loop-init : goal.loop-init
loop-init c =
    let z : c.args.count - 0 ≡ c.args.count = omega arith in
    rw (c.schedule-ks.ensures, z)

pub loop-preserved : goal.loop-preserved
loop-preserved c = rw c.rounds-x.ensures (sym (again_turn _ _ _ _ c.loop-test.true) ∙ c.loop.invariant)

pub returns : goal.returns
returns c = sym (again_done _ _ _ (omega arith)) ∙ c.loop.invariant
