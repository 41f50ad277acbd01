use Rattle.std.proofs.Common.{◌≡◌, ◌≤◌}
use Rattle.table.specs.Decode.{is_table}
use Rattle.bench_table.specs.Counted.{counted}
use Rattle.bench_table.proofs.lp_bench_is_table.Given as goal

abbrev pub invariant-loop : goal.invariant-loop
invariant-loop l = (l.n ≤ l.counter) × (l.n ≡ counted (is_table l.t) l.counter)
