-- One answer more.
-- Assumes nothing.
use mathlib.Core.Path.{◌≡◌}
use mathlib.Core.Bool.{Bool, true, false}
use Prim.Native.Nat.{ℕ, ◌+◌}
use native.Mathlib.Omega.{arith}
use Rattle.ground.specs.Choice.{one}
use Rattle.bench_table.specs.Counted.{counted}

pub none : (t : Bool) → 0 ≡ counted t 0
unfolding counted
none t = omega arith

pub held : (t : Bool) (n i : ℕ) → t ≡ true → n ≡ counted t i → n + 1 ≡ counted t (i + 1)
unfolding counted one
held true n i h e = omega arith
held false n i h e = cc

pub failed : (t : Bool) (n i : ℕ) → t ≡ false → n ≡ counted t i → n ≡ counted t (i + 1)
unfolding counted one
failed true n i h e = cc
failed false n i h e = omega arith
