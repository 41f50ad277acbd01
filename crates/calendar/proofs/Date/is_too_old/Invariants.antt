use mathlib.Core.Path.{◌≡◌}
use Prim.Native.Nat.{ℕ, ◌+◌, ◌≤◌}
use Rattle.calendar.specs.Dates.{day_number}
use Rattle.calendar.proofs.Old.{up_to}
use Rattle.calendar.proofs.Date.is_too_old.Given as goal

abbrev pub invariant-loop-k : goal.invariant-loop-k
invariant-loop-k l =
    let t : ℕ = day_number l.fn.today.yymmdd in
    (l.met.0 ≤ 5) × (l.met.0 + up_to l.holidays t l.k ≡ up_to l.holidays t (day_number l.fn.self.yymmdd))
