-- The name is written over blanks.
use mathlib.Core.Path.{ap, ◌∙◌}
use Rattle.ground.specs.Lists.{overlay}
use Rattle.text.proofs.Lists.{overlay-padded}
use Rattle.text.proofs.pad.Goals as goal

pub returns : goal.returns
returns c =
    c.copy.ensures
    ∙ ap (overlay _) c.fill_blank.ensures
    ∙ overlay-padded _ _
