-- The conditions are those of the list, in their order.
use mathlib.Core.Path.{refl, ap, ◌∙◌}
use Rattle.refusals.specs.Refusals.{lowest}
use Rattle.refusals.specs.Numbers.{number_of}
use Rattle.refusals.proofs.Found.{held, more}
use Rattle.build.proofs.building_refusal.Goals as goal

pub returns : goal.returns
unfolding number_of
returns c =
    c.first_of.ensures ∙ ap lowest (more (held _ c.other_generation.ensures) refl)
