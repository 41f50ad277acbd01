-- Where there is no room zero bytes are read, else those at the place.
use mathlib.Core.Path.{sym, ◌∙◌}
use Rattle.std.proofs.Common.{rules, tests}
use Rattle.customer_bytes.specs.Layout.{settings_of}
use Rattle.customer_bytes.proofs.Laws.{settings_at_lem, settings_past}
use Rattle.customer_bytes.proofs.settings_at.Goals as goal

pub returns-then-not-fits : goal.returns-then-not-fits
unfolding settings_of
returns-then-not-fits c =
    c.settings_in.ensures ∙ sym (settings_past _ _ (search (rules, tests)))

pub returns : goal.returns
returns c =
    c.settings_in-2.ensures ∙ sym (settings_at_lem _ _ (search (rules, tests)))
