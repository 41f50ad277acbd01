-- The remainder stays below the prime, so the next product and byte fit.
use Rattle.std.proofs.Common.{◌<◌}
use Rattle.vectors_calls.proofs.say.sum.Given as goal

abbrev pub invariant-loop-b : goal.invariant-loop-b
invariant-loop-b l = l.n < 1099511627689
