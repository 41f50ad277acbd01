-- The first fault decides.
use mathlib.Core.Path.{ap, ◌∙◌}
use Rattle.desk.specs.Desk.{checked_by, pte_checked}
use Rattle.desk.proofs.check_pte.Goals as goal

pub returns : goal.returns
unfolding pte_checked
returns c = c.checked_by.ensures ∙ ap (checked_by _ _) c.pte_faults.ensures
