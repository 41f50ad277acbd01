-- The count of the header is the number of records that are read.
use mathlib.Core.Path.{sym, ap, ◌∙◌}
use lib.ListN.{length}
use Rattle.table.specs.Table.{Table}
use Rattle.table.proofs.Decode.{table_sized, table_other}
use Rattle.table.proofs.Turns.{customers_length}
use Rattle.table.proofs.customer_count.Goals as goal

pub returns-then-t-ne-SIZE : goal.returns-then-t-ne-SIZE
returns-then-t-ne-SIZE c = sym (ap (λ (t : Table). length t.customers) (table_other _ c.if-t-ne-SIZE.true))

pub returns : goal.returns
returns c =
    c.count_customers.ensures.0
    ∙ sym (ap (λ (t : Table). length t.customers) (table_sized _ c.if-t-ne-SIZE.false) ∙ customers_length _ _ _)
