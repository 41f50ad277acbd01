-- The table is looked at first; the conditions after it are those of the list, in their order.
use mathlib.Core.Path.{refl, sym, ap, ◌∙◌}
use Rattle.ground.specs.Choice.{fails}
use Rattle.ground.proofs.Bools.{passed, refused}
use Rattle.refusals.specs.Refusals.{lowest, no_table}
use Rattle.refusals.specs.Numbers.{number_of, code_of}
use Rattle.refusals.proofs.Refused.{lowest_first, lowest_next}
use Rattle.refusals.proofs.Found.{held, more}
use Rattle.table_calls.specs.Calls.{adding_refusals, adding_answer}
use Rattle.table_calls.proofs.adding_refusal.Goals as goal

pub returns-then-not-is_table : goal.returns-then-not-is_table
unfolding adding_refusals adding_answer number_of code_of no_table fails
returns-then-not-is_table c = sym (lowest_first _ _ (ap fails (refused c.is_table.ensures c.if-not-is_table.true-raw)))

pub returns : goal.returns
unfolding adding_refusals adding_answer number_of no_table fails
returns c =
    c.first_of.ensures
    ∙ ap lowest
    (more (held _ c.is_bad_day.ensures)
    (more (held _ c.is_full.ensures)
    (more (held _ c.is_there.ensures)
    (more (held _ c.is_even_part.ensures)
    (more (held _ c.is_other_check.ensures) (more (held _ c.is_adding_out.ensures) refl))))))
    ∙ sym (lowest_next _ _ (ap fails (passed c.is_table.ensures c.if-not-is_table.false-raw)))
