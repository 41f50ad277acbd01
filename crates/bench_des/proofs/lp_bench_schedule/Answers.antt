-- What is left to do from here gives the whole.
use mathlib.Core.Path.{sym, ◌∙◌}
use native.Mathlib.Omega.{arith}
use Rattle.bench_des.proofs.Steps.{scheduled_turn, scheduled_done}
use Rattle.bench_des.proofs.lp_bench_schedule.Goals as goal

pub loop-preserved : goal.loop-preserved
loop-preserved c = rw c.schedule.ensures (sym (scheduled_turn _ _ _ c.loop-test.true) ∙ c.loop.invariant)

pub returns : goal.returns
returns c = sym (scheduled_done _ _ (omega arith)) ∙ c.loop.invariant
