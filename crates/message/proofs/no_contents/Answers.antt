-- Nothing written over the zeros.
use mathlib.Core.Path.{refl}
use Rattle.ground.specs.Lists.{overlay}
use Rattle.message.specs.Contents.{contents_as}
use Rattle.message.proofs.no_contents.Goals as goal

pub returns : goal.returns
unfolding contents_as overlay
returns c = refl
