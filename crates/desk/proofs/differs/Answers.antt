-- The characters that came there are compared.
use mathlib.Core.Path.{ap, ◌∙◌}
use Rattle.ground.specs.Lists.{same}
use Rattle.ground.proofs.Bools.{turned}
use Rattle.desk.proofs.differs.Goals as goal

pub returns : goal.returns
returns c = turned (c.same_bytes.ensures ∙ ap (same _) c.between.ensures)
