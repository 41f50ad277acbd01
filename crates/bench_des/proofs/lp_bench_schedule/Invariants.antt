use Rattle.std.proofs.Common.{◌≡◌, ◌-◌}
use Rattle.bench_des.specs.Again.{scheduled}
use Rattle.bench_des.proofs.lp_bench_schedule.Given as goal

abbrev pub invariant-loop : goal.invariant-loop
invariant-loop l = scheduled l.x (l.count - l.counter) ≡ scheduled l.key l.count
