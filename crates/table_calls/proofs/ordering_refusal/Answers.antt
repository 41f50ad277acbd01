-- The table is looked at first; the conditions after it are those of the list, in their order.
use mathlib.Core.Path.{refl, sym, ap, ◌∙◌}
use Rattle.ground.specs.Choice.{fails}
use Rattle.ground.proofs.Bools.{passed, refused}
use Rattle.changeover.specs.Held.{changing}
use Rattle.customer.specs.declared.Customer.{Customer}
use Rattle.refusals.specs.Refusals.{already_there, no_such_customer}
use Rattle.refusals.specs.Refusals.{lowest, no_table}
use Rattle.refusals.specs.Numbers.{number_of, code_of}
use Rattle.refusals.proofs.Refused.{lowest_first, lowest_next}
use Rattle.refusals.proofs.Found.{held, more, turned_back}
use Rattle.table_calls.specs.Calls.{ordering_refusals, ordering_answer}
use Rattle.table_calls.proofs.ordering_refusal.Goals as goal

pub returns-then-not-is_table : goal.returns-then-not-is_table
unfolding ordering_refusals ordering_answer number_of code_of no_table fails
returns-then-not-is_table c = sym (lowest_first _ _ (ap fails (refused c.is_table.ensures c.if-not-is_table.true-raw)))

pub returns : goal.returns
unfolding ordering_refusals ordering_answer number_of no_table already_there no_such_customer fails
returns c =
    let n = c.named.ensures in
    c.first_of.ensures
    ∙ ap lowest
    (more (held _ c.is_bad_day.ensures)
    (more (held _ (turned_back _ _ c.is_there.ensures))
    (more (held _ (c.is_changing.ensures ∙ ap (λ (d : Customer). changing d.working.previous c.args.o.today) n)) refl)))
    ∙ sym (lowest_next _ _ (ap fails (passed c.is_table.ensures c.if-not-is_table.false-raw)))
