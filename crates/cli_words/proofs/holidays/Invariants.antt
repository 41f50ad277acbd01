use Rattle.std.proofs.Common.{◌≤◌}
use Rattle.cli_words.proofs.Days.{rest, Sofar}
use Rattle.cli_words.proofs.holidays.Given as goal

abbrev pub invariant-loop-count : goal.invariant-loop-count
invariant-loop-count l = (l.count ≤ 201) × Sofar (rest l.s 0) (rest l.left l.count) l.dates l.count
