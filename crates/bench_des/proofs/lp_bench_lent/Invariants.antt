use Rattle.std.proofs.Common.{◌≡◌, ◌-◌}
use Rattle.bench_des.specs.Again.{again}
use Rattle.des.specs.Des.{schedule_of}
use Rattle.des.specs.Joined.{joined}
use Rattle.bench_des.proofs.lp_bench_lent.Given as goal

abbrev pub invariant-loop : goal.invariant-loop
invariant-loop l = (l.t ≡ joined) × (again l.ks l.x (l.count - l.counter) ≡ again (schedule_of l.key) l.block l.count)
