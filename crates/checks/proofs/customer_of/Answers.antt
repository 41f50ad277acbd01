-- The sender names the customer.
use mathlib.Core.Path.{ap, ◌∙◌}
use Rattle.table.specs.Named.{named}
use Rattle.checks.proofs.customer_of.Goals as goal

pub returns : goal.returns
returns c = c.named.ensures ∙ ap (named _) c.sender.ensures
