-- The conditions are those of the list, in their order.
use mathlib.Core.Path.{refl, ap, ◌∙◌}
use Rattle.ground.proofs.Bools.{turned}
use Rattle.refusals.specs.Refusals.{lowest, no_table}
use Rattle.refusals.specs.Numbers.{number_of}
use Rattle.refusals.proofs.Found.{held, more}
use Rattle.table_calls.specs.Calls.{setting_up_refusals, setting_up_answer}
use Rattle.table_calls.proofs.setting_up_refusal.Goals as goal

pub returns : goal.returns
unfolding setting_up_refusals setting_up_answer number_of no_table
returns c =
    c.first_of.ensures
    ∙ ap lowest
    (more (held _ (turned c.are_real.ensures)) (more (held _ c.is_setting_out.ensures) refl))
