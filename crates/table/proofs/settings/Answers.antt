-- The settings stand after the header of bytes of the right length, and others say what zeros say.
use mathlib.Core.Path.{sym, ap, ◌∙◌}
use Rattle.table.specs.Table.{Table}
use Rattle.table.proofs.Decode.{table_sized}
use Rattle.table.proofs.Loaded.{settings_past}
use native.Mathlib.Omega.{arith}
use Rattle.customer_bytes.proofs.Laws.{settings_at_lem}
use Rattle.table.proofs.settings.Goals as goal

pub returns-then-t-ne-SIZE : goal.returns-then-t-ne-SIZE
returns-then-t-ne-SIZE c = c.settings_at.ensures ∙ settings_past _ c.if-t-ne-SIZE.true

pub returns : goal.returns
returns c = c.settings_at-2.ensures ∙ settings_at_lem 24 _ (omega (arith, c.if-t-ne-SIZE.false))
    ∙ sym (ap (λ (t : Table). t.settings) (table_sized _ c.if-t-ne-SIZE.false))
