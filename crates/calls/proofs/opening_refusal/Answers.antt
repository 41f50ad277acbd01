-- The conditions are those of the list, in their order.
use mathlib.Core.Path.{refl, ap, ◌∙◌}
use Rattle.ground.proofs.Bools.{turned}
use Rattle.refusals.specs.Refusals.{lowest, no_table}
use Rattle.refusals.specs.Numbers.{number_of}
use Rattle.refusals.proofs.Found.{held, more}
use Rattle.calls.specs.Reading.{opening_refusals, opening_answer}
use Rattle.calls.proofs.opening_refusal.Goals as goal

pub returns : goal.returns
unfolding opening_refusals opening_answer number_of no_table
returns c =
    c.first_of.ensures
    ∙ ap lowest
    (more (held _ (turned c.is_table.ensures))
    (more (held _ c.is_moment_bad.ensures) (more (held _ c.is_kind_out.ensures) refl)))
