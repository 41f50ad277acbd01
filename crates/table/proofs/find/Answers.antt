-- The records that are searched are those of the table.
use mathlib.Core.Path.{sym, ap, ap₂, ◌∙◌}
use Prim.Native.Nat.{ℕ}
use Rattle.table.specs.Table.{Table, place_from, place_of}
use Rattle.table.specs.Tests.{customers_at}
use Rattle.table.proofs.Decode.{table_sized, table_other}
use Rattle.table.proofs.find.Goals as goal

pub returns-then-t-ne-SIZE : goal.returns-then-t-ne-SIZE
unfolding place_of place_from
returns-then-t-ne-SIZE c = sym (ap (λ (t : Table). place_of t c.args.who) (table_other _ c.if-t-ne-SIZE.true))

pub returns : goal.returns
unfolding place_of
returns c =
    let a = c.args in
    c.find_from.ensures
    ∙ ap₂ (λ (p n : ℕ). place_from 0 a.who (customers_at p n a.t.now)) c.customers_start.ensures.0
    c.count_customers.ensures.0
    ∙ sym (ap (λ (t : Table). place_of t a.who) (table_sized _ c.if-t-ne-SIZE.false))
