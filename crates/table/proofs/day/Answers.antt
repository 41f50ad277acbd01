-- The day stands in the header of bytes of the right length, and others say day 0.
use mathlib.Core.Path.{sym, ap, ◌∙◌}
use Rattle.table.specs.Table.{Table}
use Rattle.table.proofs.Decode.{table_sized, table_other}
use Rattle.table.proofs.day.Goals as goal

pub returns-then-t-ne-SIZE : goal.returns-then-t-ne-SIZE
returns-then-t-ne-SIZE c = sym (ap (λ (t : Table). t.day) (table_other _ c.if-t-ne-SIZE.true))

pub returns : goal.returns
returns c = c.date_in.ensures ∙ sym (ap (λ (t : Table). t.day) (table_sized _ c.if-t-ne-SIZE.false))
