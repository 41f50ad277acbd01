-- What the search finds is the first check that fails.
use mathlib.Core.Path.{sym, ◌∙◌}
use Rattle.message.proofs.Order.{found_none, found_some}
use Rattle.message.proofs.first_failing.Goals as goal

pub returns-in-None : goal.returns-in-None
returns-in-None c = found_none _ (sym c.first_of.ensures ∙ c.in-None.is)

pub returns-in-Some : goal.returns-in-Some
returns-in-Some c = found_some _ _ (sym c.first_of.ensures ∙ c.in-Some.is)
