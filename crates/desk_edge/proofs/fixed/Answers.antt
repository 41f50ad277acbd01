-- A slice of the length asked is copied whole, any other leaves the zeros.
use mathlib.Core.Path.{◌∙◌}
use lib.ListN.{length-replicate}
use Rattle.edge.proofs.Made.{fixed_copied, fixed_none}
use Rattle.desk_edge.proofs.fixed.Goals as goal

pub returns-then-bytes : goal.returns-then-bytes
returns-then-bytes g c = c.copy.ensures ∙ fixed_copied _ _ _ c.if-bytes.true (length-replicate _ _)

pub returns-else-bytes : goal.returns-else-bytes
returns-else-bytes g c = fixed_none _ _ c.if-bytes.false
