-- The two parts are compared.
use Rattle.ground.specs.Lists.{part}
use Rattle.ground.proofs.Bools.{turned}
use Rattle.checks.proofs.differs.Goals as goal

pub returns : goal.returns
unfolding part
returns c = turned c.same_bytes.ensures
