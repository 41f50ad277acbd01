use Rattle.table.proofs.Filled.{Some}
use Rattle.table.proofs.parts.dates_at.Given as goal

abbrev pub invariant-loop-i : goal.invariant-loop-i
invariant-loop-i l = Some l.at l.n l.i l.t l.out
