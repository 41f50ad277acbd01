-- The one check of whether anything came.
use mathlib.Core.Path.{refl, ap, ◌∙◌}
use Rattle.message.specs.Order.{first_failing}
use Rattle.checks.proofs.Order.{made, more}
use Rattle.desk.specs.Desk.{came_checks}
use Rattle.desk.proofs.came_faults.Goals as goal

pub returns : goal.returns
unfolding came_checks
returns c = c.first_failing.ensures ∙ ap first_failing (more c.new.ensures refl)
