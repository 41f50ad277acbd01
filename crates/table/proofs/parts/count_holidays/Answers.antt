-- The count stands in the header.
use mathlib.Core.Path.{ap, ◌∙◌}
use Prim.Native.Nat.{min}
use native.Mathlib.Omega.{arith}
use Rattle.std.proofs.Math.Nat.{min_comm}
use Rattle.codec.specs.Layout.{width, dec}
use Rattle.table.proofs.parts.count_holidays.Goals as goal

pub returns : goal.returns
unfolding dec width
returns c = (c.min.ensures ∙ min_comm _ 200 ∙ ap (min 200) c.read4.ensures, omega (arith, c.min.ensures))
