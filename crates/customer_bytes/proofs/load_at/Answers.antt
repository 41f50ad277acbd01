-- Where there is no room zero bytes are read, else those at the place.
use mathlib.Core.Path.{sym, ◌∙◌}
use Rattle.std.proofs.Common.{rules, tests}
use Rattle.customer_bytes.specs.Layout.{customer_of}
use Rattle.customer_bytes.proofs.Laws.{customer_at_lem, customer_past}
use Rattle.customer_bytes.proofs.load_at.Goals as goal

pub returns-then-not-fits : goal.returns-then-not-fits
unfolding customer_of
returns-then-not-fits c =
    c.customer_in.ensures ∙ sym (customer_past _ _ (search (rules, tests)))

pub returns : goal.returns
returns c =
    c.customer_in-2.ensures ∙ sym (customer_at_lem _ _ (search (rules, tests)))
