-- The first fault decides.
use mathlib.Core.Path.{ap, ◌∙◌}
use Rattle.desk.specs.Desk.{checked_by, esi_checked}
use Rattle.desk.proofs.check_esi.Goals as goal

pub returns : goal.returns
unfolding esi_checked
returns c = c.checked_by.ensures ∙ ap (checked_by _ _) c.esi_faults.ensures
