-- The characters are written over zeros.
use Rattle.desk_edge.specs.Calls.{known}
use Rattle.desk_edge.proofs.known_of.Goals as goal

pub returns : goal.returns
unfolding known
returns c = c.copy.ensures
