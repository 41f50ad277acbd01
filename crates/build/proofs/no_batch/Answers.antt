-- Each field is as defined.
use Rattle.build.specs.Building.{no_batch}
use Rattle.build.proofs.no_batch.Goals as goal

pub returns : goal.returns
unfolding no_batch
returns c = rw c.start.ensures
