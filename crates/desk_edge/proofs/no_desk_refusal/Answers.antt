-- The conditions are those of the list, in their order.
use mathlib.Core.Path.{refl, ap, ◌∙◌}
use Rattle.refusals.specs.Refusals.{lowest}
use Rattle.refusals.specs.Numbers.{number_of}
use Rattle.refusals.proofs.Found.{held, more}
use Rattle.desk_edge.specs.Calls.{no_desk_refusal}
use Rattle.desk_edge.proofs.no_desk_refusal.Goals as goal

pub returns : goal.returns
unfolding number_of no_desk_refusal
returns c =
    c.code.ensures
    ∙ c.first_of.ensures
    ∙ ap lowest (more (held _ c.is_even_part.ensures) (more (held _ c.is_other_check.ensures) refl))
