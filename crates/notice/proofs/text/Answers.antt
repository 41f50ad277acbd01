-- A copy over blanks is the text with blanks after it.
use mathlib.Core.Path.{ap, ◌∙◌}
use Rattle.text.specs.Characters.{padded}
use Rattle.text.proofs.Lists.{overlay-padded}
use Rattle.notice.proofs.text.Goals as goal

pub returns : goal.returns
returns c = c.copy.ensures ∙ overlay-padded 51 _ ∙ ap (padded 51) (c.deref.ensures.0 ∙ c.said.ensures)
