-- What the search finds is the first condition that holds.
use mathlib.Core.Path.{sym, ◌∙◌}
use Rattle.refusals.proofs.Found.{found_none, found_some}
use Rattle.refusals.specs.Numbers.{code_of}
use Rattle.refusals.proofs.first_of.Goals as goal

pub returns-in-None : goal.returns-in-None
unfolding code_of
returns-in-None c = found_none _ (sym c.first_held.ensures ∙ c.in-None.is)

pub returns-in-Some : goal.returns-in-Some
unfolding code_of
returns-in-Some c = found_some _ _ (sym c.first_held.ensures ∙ c.in-Some.is)
