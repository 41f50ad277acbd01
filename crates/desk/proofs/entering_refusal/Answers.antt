-- The conditions are those of the list, in their order.
use mathlib.Core.Path.{refl, ap, ◌∙◌}
use Rattle.refusals.specs.Refusals.{lowest}
use Rattle.refusals.specs.Numbers.{number_of}
use Rattle.refusals.proofs.Found.{held, more}
use Rattle.desk.specs.Held.{entering_refusals}
use Rattle.desk.proofs.entering_refusal.Goals as goal

pub returns : goal.returns
unfolding number_of entering_refusals
returns c =
    c.first_of.ensures
    ∙ ap lowest
    (more (held _ c.is_even_part.ensures) (more (held _ c.is_other_check.ensures) (more (held _ c.is_not_next.ensures) refl)))
