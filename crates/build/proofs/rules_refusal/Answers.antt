-- The condition is that of the list.
use Rattle.refusals.specs.Numbers.{number_of}
use Rattle.build.proofs.rules_refusal.Goals as goal

pub returns : goal.returns
unfolding number_of
returns c = c.first_of.ensures
