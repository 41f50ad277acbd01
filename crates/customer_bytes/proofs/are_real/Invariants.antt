use mathlib.Core.Path.{◌≡◌}
use mathlib.Core.Bool.{true}
use Rattle.customer_bytes.specs.Tests.{starts_day, real_at}
use Rattle.customer_bytes.proofs.Stamps.{Decide}
use Rattle.customer_bytes.proofs.are_real.Given as goal

abbrev pub invariant-loop-i : goal.invariant-loop-i
invariant-loop-i l = record { day : starts_day l.day ≡ true; decide : Decide (real_at l.t) l.n l.at l.i }
