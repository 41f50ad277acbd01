-- The flag picks the test.
use mathlib.Core.Path.{sym, ap, ◌∙◌}
use Rattle.ground.specs.Choice.{pick}
use Rattle.message.specs.Rules.{format_holds}
use Rattle.message.specs.Passing.{passes_in}
use Rattle.message.proofs.passes.Goals as goal

pub returns-then-values : goal.returns-then-values
unfolding passes_in pick
returns-then-values c m q x = rw c.if-values.true (c.value_holds.ensures m q x)

pub returns : goal.returns
unfolding passes_in pick
returns c m q x = rw c.if-values.false (c.format_holds.ensures ∙ ap (format_holds _ _ _) (sym q))
