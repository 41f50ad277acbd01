-- No characters always differ, and else the digests decide.
use mathlib.Core.Path.{refl}
use Rattle.checks.specs.Checks.{digest_differs}
use Rattle.ground.proofs.Bools.{turned}
use Rattle.checks.proofs.digest_differs.Goals as goal

pub returns-in-None : goal.returns-in-None
unfolding digest_differs
returns-in-None c = rw c.in-None.is

pub returns-in-Some : goal.returns-in-Some
unfolding digest_differs
returns-in-Some c = rw c.in-Some.is (turned refl)
