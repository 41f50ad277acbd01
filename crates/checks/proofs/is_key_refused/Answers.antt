-- Where no key was held the first test holds, and else the second decides.
use Rattle.ground.specs.Choice.{either}
use Rattle.ground.proofs.Bools.{turned}
use Rattle.checks.specs.Checks.{is_missing}
use Rattle.checks.proofs.is_key_refused.Goals as goal

pub returns-in-None : goal.returns-in-None
unfolding is_missing either
returns-in-None c = rw c.in-None.is

pub returns-in-Some : goal.returns-in-Some
unfolding is_missing either
returns-in-Some c = rw c.in-Some.is (turned c.is_good_for.ensures)
