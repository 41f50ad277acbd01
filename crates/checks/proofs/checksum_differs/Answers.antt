-- Without a key it differs, and else the checksums decide.
use mathlib.Core.Path.{ap₂}
use lib.Dec.{eqb}
use Rattle.checks.specs.Checks.{checksum_differs}
use Rattle.ground.proofs.Bools.{turned}
use Rattle.checks.proofs.checksum_differs.Goals as goal

pub returns-in-None : goal.returns-in-None
unfolding checksum_differs
returns-in-None c = rw c.in-None.is

pub returns-in-Some : goal.returns-in-Some
unfolding checksum_differs
returns-in-Some c =
    rw c.in-Some.is (turned (ap₂ eqb c.checksum.ensures c.checksum_field.ensures))
